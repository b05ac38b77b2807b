-- The passes go back to the owners, and the jobs that are left are given back.
use Rattle.std.proofs.Common.{◌≡◌, ℕ, zero, suc, ◌+◌, ◌^◌, ◌<◌, ◌≤◌, ◌≢◌, List, [], ◌∷◌, ◌++◌, length, get_or, set, All, refl, sym, ap, ◌∙◌, subst, sum_by, length-set, get_or-set_same, get_or-set_other, append_assoc, append-nil, length-append, arith}
use Rattle.std.proofs.lemmas.List.Sums.{sum_by-append}
use mathlib.Core.Logic.{dite}
use native.Mathlib.Decide.{ℕ_discrete}
use Rattle.crossbeam_deque.specs.Handles.{worker_deque, stealer_deque}
use Rattle.pv_pool.specs.declared.deque.Hand.{Hand}
use Rattle.pv_pool.specs.declared.deque.Thief.{Thief}
use Rattle.pv_pool.specs.declared.bench.Bench.{Bench}
use Rattle.pv_pool.specs.Hands.{SameBag, hand, parts_of, taken_of}
use Rattle.pv_pool.specs.Counting.{Numbers, AreBelow, after_return, after_returns}
use Rattle.pv_pool.specs.Benches.{own, reach}
use Rattle.pv_pool.specs.Links.{row_from, all_from, total, IsWay, Links}
use Rattle.pv_pool.specs.Ends.{Absorbed, Cleared, Gathered, IsDrained, IsDraining, IsClosed}
use Rattle.pv_pool.proofs.Linking.{any_default, last_way, absorb_links, absorb_total, take_links, take_total, none_from}

abbrev with_back : ℕ → Numbers → Numbers
with_back b n = record { given = n.given; back = b; looks = n.looks; ends = n.ends; parts = n.parts }

returns_none : (n : Numbers) → n ≡ after_returns 0 n
returns_none n = let e : n.back ≡ n.back + 0 = omega arith in ap (λ b. with_back b n) e

returns_more : {J : Type 0} (n : Numbers) (l : List J) (x : J) → after_return (after_returns (length l) n) ≡ after_returns (length (l ++ x ∷ [])) n
returns_more n l x = let e : n.back + length l + 1 ≡ n.back + length (l ++ x ∷ []) = omega (arith, length-append l (x ∷ [])) in ap (λ b. with_back b n) e

module _ {J : Type 0} where
  pub absorbed_none : (bs : List (Bench J)) (row : List (Thief J)) → Links bs row → Absorbed bs row bs row
  absorbed_none bs row links = record { links = links; count = refl; totals = λ h k d. refl; pushed = λ k d. refl; ways = λ k d. refl }

  -- a fact of the benches that reads alike where one was changed
  alike : {X : Type 0} (f : Bench J → X) (bs : List (Bench J)) (i : ℕ) (b x : Bench J) → i < length bs → f b ≡ f (get_or bs i x) → (k : ℕ) (d : Bench J) → f (get_or (set bs i b) k d) ≡ f (get_or bs k d)
  alike f bs i b x within same k d = dite (ℕ_discrete k i)
      (λ (e : k ≡ i). ap (λ n. f (get_or (set bs i b) n d)) e ∙ (ap f (get_or-set_same bs i b d within) ∙ (same ∙ (ap f (any_default bs i x d within) ∙ ap (λ n. f (get_or bs n d)) (sym e)))))
      (λ (n : k ≢ i). ap f (get_or-set_other bs i k b d n))

  -- one more pass goes to its owner
  pub absorbed_more : (olds : List (Bench J)) (all : List (Thief J)) (bs : List (Bench J)) (row : List (Thief J)) (b x : Bench J) (t : Thief J)
      → Absorbed olds all bs (row ++ t ∷ []) → worker_deque b.owner.worker ≡ worker_deque (get_or bs t.deque x).owner.worker
      → b.thieves.items ≡ (get_or bs t.deque x).thieves.items
      → own b.owner ≡ hand ((own (get_or bs t.deque x).owner).parts + (reach t).parts) ((own (get_or bs t.deque x).owner).pushed ++ (reach t).pushed) ((own (get_or bs t.deque x).owner).taken ++ (reach t).taken)
      → Absorbed olds all (set bs t.deque b) row
  absorbed_more olds all bs row b x t a deque same both =
      let way = last_way bs row t a.links in
      record {
        links = absorb_links bs row t.deque b x t way.there a.links deque same refl (ap (λ (h : Hand J). h.parts) both);
        count = length-set bs t.deque b ∙ a.count;
        totals = λ h k d. absorb_total (taken_of h) bs row t.deque b x t way.there same refl
            (ap (taken_of h) both ∙ sum_by-append h (own (get_or bs t.deque x).owner).taken (reach t).taken) k d ∙ a.totals h k d;
        pushed = λ k d. alike (λ (y : Bench J). (own y.owner).pushed) bs t.deque b x way.there
            (ap (λ (h : Hand J). h.pushed) both ∙ (ap (λ (l : List J). (own (get_or bs t.deque x).owner).pushed ++ l) way.pushed ∙ append-nil (own (get_or bs t.deque x).owner).pushed)) k d ∙ a.pushed k d;
        ways = λ k d. alike (λ (y : Bench J). y.thieves.items) bs t.deque b x way.there same k d ∙ a.ways k d;
      }

  pub cleared_none : (bs : List (Bench J)) → Links bs [] → Cleared 0 bs bs
  cleared_none bs links = record { links = links; count = refl; totals = λ h k d. refl; pushed = λ k d. refl; none = λ k d there. absurd (omega arith) }

  -- the thieves of one bench more went to the owners
  pub cleared_more : (olds bs : List (Bench J)) (i : ℕ) (b x : Bench J) (row : List (Thief J)) (news : List (Bench J)) → Cleared i olds bs → i < length bs
      → own b.owner ≡ own (get_or bs i x).owner → b.thieves.items ≡ [] → row ≡ (get_or bs i x).thieves.items
      → Absorbed (set bs i b) row news [] → Cleared (i + 1) olds news
  cleared_more olds bs i b x row news c within same none is a = record {
    links = a.links;
    count = a.count ∙ (length-set bs i b ∙ c.count);
    totals = λ h k d. a.totals h k d ∙ (take_total (taken_of h) bs i b x row within same none is k d ∙ c.totals h k d);
    pushed = λ k d. a.pushed k d ∙ (alike (λ (y : Bench J). (own y.owner).pushed) bs i b x within (ap (λ (h : Hand J). h.pushed) same) k d ∙ c.pushed k d);
    none = λ k d there. a.ways k d ∙ dite (ℕ_discrete k i)
        (λ (e : k ≡ i). ap (λ n. (get_or (set bs i b) n d).thieves.items) e ∙ (ap (λ (y : Bench J). y.thieves.items) (get_or-set_same bs i b d within) ∙ none))
        (λ (n : k ≢ i). ap (λ (y : Bench J). y.thieves.items) (get_or-set_other bs i k b d n) ∙ c.none k d (omega arith));
  }

  pub cleared_all : (olds bs : List (Bench J)) (n : ℕ) → Cleared n olds bs → n ≡ length bs → Gathered olds bs
  cleared_all olds bs n c all =
      let none : (i : ℕ) (d : Bench J) → i < length bs → (get_or bs i d).thieves.items ≡ [] = λ i d there. c.none i d (subst (λ m. i < m) (sym all) there) in
      record {
        count = c.count;
        whole = λ k d there.
            let p = c.links.parts k d (subst (λ m. k < m) (sym c.count) there) in
            let a = none_from k parts_of bs none in
            let z : row_from {J = J} k parts_of [] ≡ 0 = refl in
            omega arith;
        taken = λ h k d there.
            let t = c.totals h k d in
            let a = none_from k (taken_of h) bs none in
            let z : row_from {J = J} k (taken_of h) [] ≡ 0 = refl in
            omega arith;
        pushed = c.pushed;
      }

  pub draining_none : (n : Numbers) (o : Hand J) → IsDraining n n o o
  draining_none n o = record { left = []; parts = refl; pushed = refl; taken = sym (append-nil o.taken); numbers = returns_none n }

  pub draining_more : (old now new : Numbers) (o p q : Hand J) (x : J) → IsDraining old now o p → q ≡ hand p.parts p.pushed (p.taken ++ x ∷ []) → new ≡ after_return now → IsDraining old new o q
  draining_more old now new o p q x d is told = record {
    left = d.left ++ x ∷ [];
    parts = ap (λ (h : Hand J). h.parts) is ∙ d.parts;
    pushed = ap (λ (h : Hand J). h.pushed) is ∙ d.pushed;
    taken = ap (λ (h : Hand J). h.taken) is ∙ (ap (λ (l : List J). l ++ x ∷ []) d.taken ∙ append_assoc o.taken d.left (x ∷ []));
    numbers = told ∙ (ap after_return d.numbers ∙ returns_more old d.left x);
  }

  pub drained : (old new : Numbers) (o p : Hand J) → IsDraining old new o p → SameBag p.pushed p.taken → IsDrained old new o
  drained old new o p d bag = record {
    left = d.left;
    bag = λ h. ap (sum_by h) (sym d.pushed) ∙ (bag h ∙ ap (sum_by h) d.taken);
    numbers = d.numbers;
  }

  -- there is room for one more
  pub draining_room : (old now : Numbers) (o p : Hand J) → IsDraining old now o p → length p.taken ≤ length o.taken + length p.pushed → length o.pushed < 2 ^ 98 → AreBelow (2 ^ 99) old → AreBelow (2 ^ 100) now
  draining_room old now o p d within few room =
      let g : now.given ≡ old.given = ap (λ (n : Numbers). n.given) d.numbers in
      let b : now.back ≡ old.back + length d.left = ap (λ (n : Numbers). n.back) d.numbers in
      let l : now.looks ≡ old.looks = ap (λ (n : Numbers). n.looks) d.numbers in
      let t : length p.taken ≡ length o.taken + length d.left = ap length d.taken ∙ length-append o.taken d.left in
      let q : length p.pushed ≡ length o.pushed = ap length d.pushed in
      let r0 = room.0 in let r1 = room.1 in let r2 = room.2 in
      (omega arith, omega arith, omega arith)

  pub closed : (bs cs : List (Bench J)) (k : ℕ) (d : Bench J) (old new : Numbers) → Gathered bs cs → k < length bs → IsDrained old new (own (get_or cs k d).owner) → IsClosed k bs d old new
  closed bs cs k d old new g there e = record {
    left = e.left;
    bag = λ h.
        let p = ap (sum_by h) (g.pushed k d) in
        let t = g.taken h k d there in
        let b = e.bag h in
        omega (arith, sum_by-append h (own (get_or cs k d).owner).taken e.left);
    numbers = e.numbers;
  }
