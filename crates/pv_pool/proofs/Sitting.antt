-- From the seats to the accounts and benches, and back.
use Rattle.std.proofs.Common.{◌≡◌, ℕ, zero, suc, ◌+◌, ◌-◌, ◌*◌, ◌^◌, ◌<◌, ◌≤◌, List, [], ◌∷◌, ◌++◌, length, map, reverse, get_or, cond, nat_eq, All, refl, sym, ap, ap₂, ◌∙◌, subst, sum_by, arith}
use Rattle.std.proofs.lemmas.List.{get_or-reverse, length-reverse, length-map}
use Rattle.std.proofs.lemmas.List.Sums.{sum_by-cons}
use lib.ListN.{get_or-map}
use Rattle.crossbeam_deque.specs.Handles.{worker_deque, stealer_deque}
use Rattle.pv_pool.specs.declared.deque.Hand.{Hand}
use Rattle.pv_pool.specs.declared.deque.Thief.{Thief}
use Rattle.pv_pool.specs.declared.bench.Bench.{Bench}
use Rattle.pv_pool.specs.declared.seat.Seat.{Seat}
use Rattle.pv_pool.specs.Hands.{parts_of}
use Rattle.pv_pool.specs.Counting.{Numbers, AreBelow, Ended}
use Rattle.pv_pool.specs.Benches.{own, reach, stolen_by, drawn, put, MayWork, SameThief, SameBench}
use Rattle.pv_pool.specs.Links.{from, bench_from, all_from, total, IsWay, Links, IsFresh, AreReady}
use Rattle.pv_pool.specs.Seats.{told_of, bench_of}
use Rattle.pv_pool.specs.Pools.{IsSeated, HasRun, HaveWorked}
use Rattle.pv_pool.proofs.Rows.{sum_same}
use Rattle.pv_pool.proofs.Linking.{any_default}

sum_zero : {X : Type 0} (f : X → ℕ) (xs : List X) → ((i : ℕ) (d : X) → i < length xs → f (get_or xs i d) ≡ 0) → sum_by f xs ≡ 0
sum_zero f [] z = refl
sum_zero f (x ∷ xs) z =
    let h = z 0 x (omega arith) in
    let t = sum_zero f xs (λ i d there. z (suc i) d (omega arith)) in
    omega (arith, sum_by-cons f x xs)

pub pick : {X : Type 0} (l : List X) → 0 < length l → X
pick [] h = absurd (omega arith)
pick (x ∷ xs) h = x

ended_moved : (a b a' b' : Numbers) (x y p q x' y' p' q' : ℕ) → a ≡ a' → b ≡ b' → x ≡ x' → y ≡ y' → p ≡ p' → q ≡ q' → Ended a b x y p q → Ended a' b' x' y' p' q'
ended_moved a b a' b' x y p q x' y' p' q' ea eb ex ey ep eq e =
    subst (λ (z : Numbers × Numbers × ℕ × ℕ × ℕ × ℕ). Ended z.0 z.1 z.2 z.3 z.4 z.5) (λ i. (ea i, eb i, ex i, ey i, ep i, eq i)) e

-- what stands at a place of the list that was turned round
at : {X Y : Type 0} (f : X → Y) (s : List X) (j : ℕ) (d : X) → j < length s → get_or (reverse (map f s)) j (f d) ≡ f (get_or s (length s - 1 - j) d)
at f s j d there =
    let l : length (map f s) ≡ length s = length-map s f in
    let h : j < length (map f s) = omega arith in
    get_or-reverse (map f s) j (f d) h ∙ (ap (λ n. get_or (map f s) (n - 1 - j) (f d)) l ∙ get_or-map f s (length s - 1 - j) d)

turned : {X Y : Type 0} (f : X → Y) (s : List X) → length (reverse (map f s)) ≡ length s
turned f s = length-reverse (map f s) ∙ length-map s f

module _ {J T : Type 0} (numbers : T → Numbers) where
  may_work : (n : ℕ) (bs : List (Bench J)) (i : ℕ) (d : Bench J) → AreReady n bs → i < length bs → MayWork (get_or bs i d)
  may_work n bs i d ready there = record {
    part = ready.links.part i d there;
    steal = λ j e k. (ready.links.ways i d there j e k).part;
    none = (ready.fresh i d there).none;
  }

  pub seated : (s : List (Seat J T)) (told : List T) (benches : List (Bench J)) → reverse (map told_of s) ≡ told → reverse (map bench_of s) ≡ benches → AreReady (length told) benches
      → ((i : ℕ) (t : T) → i < length told → AreBelow (2 ^ 90) (numbers (get_or told i t)))
      → (i : ℕ) (d : Seat J T) → i < length s → IsSeated numbers (get_or s i d)
  seated s told benches told_is benches_is ready below i d there =
      let j : ℕ = length s - 1 - i in
      let back : length s - 1 - j ≡ i = omega arith in
      let inside : j < length s = omega arith in
      let n : length told ≡ length s = ap length (sym told_is) ∙ turned told_of s in
      let b : get_or benches j d.bench ≡ (get_or s i d).bench = ap (λ (l : List (Bench J)). get_or l j d.bench) (sym benches_is) ∙ (at bench_of s j d inside ∙ ap (λ k. (get_or s k d).bench) back) in
      let t : get_or told j d.told ≡ (get_or s i d).told = ap (λ (l : List T). get_or l j d.told) (sym told_is) ∙ (at told_of s j d inside ∙ ap (λ k. (get_or s k d).told) back) in
      record {
        work = subst MayWork b (may_work (length told) benches j d.bench ready (subst (λ k. j < k) (sym (ready.count_is ∙ n)) inside));
        room = subst (λ (x : T). AreBelow (2 ^ 90) (numbers x)) t (below j d.told (subst (λ k. j < k) (sym n) inside));
      }

  same_way : (xs ys : List (Bench J)) (t u : Thief J) → length ys ≡ length xs → ((i : ℕ) (d : Bench J) → i < length xs → SameBench (get_or xs i d) (get_or ys i d)) → SameThief t u → IsWay xs t → IsWay ys u
  same_way xs ys t u long same s w = record {
    there = subst (λ n. u.deque < n) (sym long) (subst (λ n. n < length xs) (sym s.number) w.there);
    deque = λ d. s.deque ∙ (w.deque d ∙ (sym (same t.deque d w.there).deque ∙ ap (λ n. worker_deque (get_or ys n d).owner.worker) (sym s.number)));
    part = subst (λ n. 0 < n) (sym s.parts) w.part;
    pushed = s.pushed ∙ w.pushed;
  }

  same_from : (k : ℕ) (xs ys : List (Bench J)) → length ys ≡ length xs → ((i : ℕ) (d : Bench J) → i < length xs → SameBench (get_or xs i d) (get_or ys i d)) → all_from k parts_of ys ≡ all_from k parts_of xs
  same_from k xs ys long same = sum_same (bench_from k parts_of) xs ys long
      (λ i d there. let b = same i d there in
      sum_same (from k parts_of) (get_or xs i d).thieves.items (get_or ys i d).thieves.items b.thieves.count
      (λ j e inside. let t = b.thieves.each j e inside in ap₂ (λ m p. cond (nat_eq m k) p 0) t.number t.parts))

  pub same_links : (xs ys : List (Bench J)) → length ys ≡ length xs → ((i : ℕ) (d : Bench J) → i < length xs → SameBench (get_or xs i d) (get_or ys i d)) → Links xs [] → Links ys []
  same_links xs ys long same links = record {
    parts = λ k d there.
        let inside : k < length xs = subst (λ n. k < n) long there in
        let p = (same k d inside).parts in
        let a = same_from k xs ys long same in
        let w = links.parts k d inside in
        omega arith;
    part = λ k d there. let inside : k < length xs = subst (λ n. k < n) long there in subst (λ n. 0 < n) (sym (same k d inside).parts) (links.part k d inside);
    ways = λ i d there. let inside : i < length xs = subst (λ n. i < n) long there in let b = same i d inside in
        λ j e k. let k' : j < length (get_or xs i d).thieves.items = subst (λ n. j < n) b.thieves.count k in
        same_way xs ys (get_or (get_or xs i d).thieves.items j e) (get_or (get_or ys i d).thieves.items j e) long same (b.thieves.each j e k') (links.ways i d inside j e k');
    row_ways = λ j e h. absurd (omega arith);
  }

  fresh_drawn : (b : Bench J) → IsFresh b → drawn b ≡ 0
  fresh_drawn b f =
      let t : length (own b.owner).taken ≡ 0 = ap length f.taken in
      let s = sum_zero stolen_by b.thieves.items (λ i d there. ap length (f.stolen i d there)) in
      omega arith

  pub worked : (s r : List (Seat J T)) (told : List T) (benches : List (Bench J)) → reverse (map told_of s) ≡ told → reverse (map bench_of s) ≡ benches → AreReady (length told) benches
      → ((i : ℕ) (t : T) → i < length told → AreBelow (2 ^ 90) (numbers (get_or told i t)))
      → length r ≡ length s → ((i : ℕ) (d : Seat J T) → i < length s → HasRun numbers (get_or s i d) (get_or r i d))
      → HaveWorked numbers told (reverse (map told_of r)) (reverse (map bench_of r))
  worked s r told benches told_is benches_is ready below long run =
      let n : length told ≡ length s = ap length (sym told_is) ∙ turned told_of s in
      let m : length benches ≡ length s = ready.count_is ∙ n in
      let ran : (j : ℕ) (d : Seat J T) → j < length s → HasRun numbers (get_or s (length s - 1 - j) d) (get_or r (length s - 1 - j) d) = λ j d there. run (length s - 1 - j) d (omega arith) in
      let told_at : (j : ℕ) (d : Seat J T) → j < length s → get_or told j d.told ≡ (get_or s (length s - 1 - j) d).told = λ j d there. ap (λ (l : List T). get_or l j d.told) (sym told_is) ∙ at told_of s j d there in
      let bench_at : (j : ℕ) (d : Seat J T) → j < length s → get_or benches j d.bench ≡ (get_or s (length s - 1 - j) d).bench = λ j d there. ap (λ (l : List (Bench J)). get_or l j d.bench) (sym benches_is) ∙ at bench_of s j d there in
      let told_now : (j : ℕ) (d : Seat J T) → j < length s → get_or (reverse (map told_of r)) j d.told ≡ (get_or r (length s - 1 - j) d).told =
      λ j d there. at told_of r j d (subst (λ k. j < k) (sym long) there) ∙ ap (λ k. (get_or r (k - 1 - j) d).told) long in
      let bench_now : (j : ℕ) (d : Seat J T) → j < length s → get_or (reverse (map bench_of r)) j d.bench ≡ (get_or r (length s - 1 - j) d).bench =
      λ j d there. at bench_of r j d (subst (λ k. j < k) (sym long) there) ∙ ap (λ k. (get_or r (k - 1 - j) d).bench) long in
      record {
        count = turned told_of r ∙ (long ∙ sym n);
        benches_count = turned bench_of r ∙ (long ∙ sym n);
        links = same_links benches (reverse (map bench_of r)) (turned bench_of r ∙ (long ∙ sym m))
            (λ j d there.
            let inside : j < length s = subst (λ k. j < k) m there in
            let w : Seat J T = pick s (omega arith) in
            let b0 : get_or benches j d ≡ (get_or s (length s - 1 - j) w).bench = any_default benches j d w.bench there ∙ bench_at j w inside in
            let b1 : get_or (reverse (map bench_of r)) j d ≡ (get_or r (length s - 1 - j) w).bench =
            any_default (reverse (map bench_of r)) j d w.bench (subst (λ k. j < k) (sym (turned bench_of r ∙ long)) inside) ∙ bench_now j w inside in
            subst (λ (x : Bench J). SameBench x (get_or (reverse (map bench_of r)) j d)) (sym b0) (subst (λ (x : Bench J). SameBench (get_or s (length s - 1 - j) w).bench x) (sym b1) (ran j w inside).same))
            ready.links;
        each = λ j t d there.
            let w : Seat J T = record { told = t; bench = d } in
            let inside : j < length s = subst (λ k. j < k) n there in
            let b0 : (get_or s (length s - 1 - j) w).bench ≡ get_or benches j d = sym (bench_at j w inside) in
            let b1 : (get_or r (length s - 1 - j) w).bench ≡ get_or (reverse (map bench_of r)) j d = sym (bench_now j w inside) in
            let f = ready.fresh j d (subst (λ k. j < k) (sym m) inside) in
            ended_moved (numbers (get_or s (length s - 1 - j) w).told) (numbers (get_or r (length s - 1 - j) w).told) (numbers (get_or told j t)) (numbers (get_or (reverse (map told_of r)) j t))
            (drawn (get_or s (length s - 1 - j) w).bench) (drawn (get_or r (length s - 1 - j) w).bench) (put (get_or s (length s - 1 - j) w).bench) (put (get_or r (length s - 1 - j) w).bench)
            0 (drawn (get_or (reverse (map bench_of r)) j d)) 0 (put (get_or (reverse (map bench_of r)) j d))
            (ap numbers (sym (told_at j w inside))) (ap numbers (sym (told_now j w inside)))
            (ap drawn b0 ∙ fresh_drawn (get_or benches j d) f) (ap drawn b1) (ap put b0 ∙ ap length f.pushed) (ap put b1)
            (ran j w inside).ended;
        few = λ j d there.
            let inside : j < length s = subst (λ k. j < k) (turned bench_of r ∙ long) there in
            let w : Seat J T = pick s (omega arith) in
            let b0 : (get_or s (length s - 1 - j) w).bench ≡ get_or benches j w.bench = sym (bench_at j w inside) in
            let b1 : get_or (reverse (map bench_of r)) j d ≡ (get_or r (length s - 1 - j) w).bench = any_default (reverse (map bench_of r)) j d w.bench there ∙ bench_now j w inside in
            let f = ready.fresh j w.bench (subst (λ k. j < k) (sym m) inside) in
            let none : put (get_or s (length s - 1 - j) w).bench ≡ 0 = ap put b0 ∙ ap length f.pushed in
            let p : put (get_or (reverse (map bench_of r)) j d) ≡ put (get_or r (length s - 1 - j) w).bench = ap put b1 in
            let e = (ran j w inside).ended.few_pushed in
            omega arith;
        room = λ j t there.
            let inside : j < length s = subst (λ k. j < k) (turned told_of r ∙ long) there in
            let w : Seat J T = pick s (omega arith) in
            let t0 : numbers (get_or s (length s - 1 - j) w).told ≡ numbers (get_or told j w.told) = ap numbers (sym (told_at j w inside)) in
            let t1 : numbers (get_or r (length s - 1 - j) w).told ≡ numbers (get_or (reverse (map told_of r)) j t) = ap numbers (sym (any_default (reverse (map told_of r)) j t w.told there ∙ told_now j w inside)) in
            let e = (ran j w inside).ended in
            let old : AreBelow (2 ^ 90) (numbers (get_or s (length s - 1 - j) w).told) = subst (AreBelow (2 ^ 90)) (sym t0) (below j w.told (subst (λ k. j < k) (sym n) inside)) in
            subst (AreBelow (2 ^ 99)) t1
            (let o = old.0 in let q = e.few_given in omega arith, let o = old.1 in let q = e.few_back in omega arith, let o = old.2 in let q = e.few_looks in omega arith);
      }
