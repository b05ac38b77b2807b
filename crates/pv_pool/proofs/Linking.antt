-- How passes go from bench to bench.
use Rattle.std.proofs.Common.{◌≡◌, ℕ, zero, suc, ◌+◌, ◌-◌, ◌<◌, ◌≢◌, true, false, List, [], ◌∷◌, ◌++◌, length, get_or, set, cond, nat_eq, All, refl, sym, ap, ◌∙◌, subst, inl, inr, sum_by, length-set, get_or-set_same, get_or-set_other, eq-eqb, ne_eqb, length-append, arith}
use Rattle.std.proofs.lemmas.List.Sums.{sum_by-set, sum_by-cons, sum_by-append}
use Rattle.std.proofs.lemmas.List.Elements.{All-append, All-take, All-drop, All-get_or}
use lib.Seq.{take-append_seam, drop-append_seam}
use mathlib.Core.Logic.{dite}
use native.Mathlib.Decide.{ℕ_discrete}
use Rattle.crossbeam_deque.specs.Handles.{worker_deque, stealer_deque}
use Rattle.pv_pool.specs.declared.deque.Hand.{Hand}
use Rattle.pv_pool.specs.declared.deque.Thief.{Thief}
use Rattle.pv_pool.specs.declared.bench.Bench.{Bench}
use Rattle.pv_pool.specs.Hands.{hand, parts_of}
use Rattle.pv_pool.specs.Benches.{own, reach}
use Rattle.pv_pool.specs.Links.{from, row_from, bench_from, all_from, total, IsWay, Links, IsFresh, IsApart, AreApart, AreReady}

-- what stands behind the list is not read
pub any_default : {X : Type 0} (l : List X) (i : ℕ) (d e : X) → i < length l → get_or l i d ≡ get_or l i e
any_default [] i d e h = absurd (omega arith)
any_default (x ∷ xs) zero d e h = refl
any_default (x ∷ xs) (suc i) d e h = any_default xs i d e (omega arith)

left : {X : Type 0} (P : X → Type 0) (xs ys : List X) → All P (xs ++ ys) → All P xs
left P xs ys h = subst (All P) (take-append_seam xs ys) (All-take P (length xs) (xs ++ ys) h)

right : {X : Type 0} (P : X → Type 0) (xs ys : List X) → All P (xs ++ ys) → All P ys
right P xs ys h = subst (All P) (drop-append_seam xs ys) (All-drop P (length xs) (xs ++ ys) h)

one : {X : Type 0} (P : X → Type 0) (x : X) → P x → All P (x ∷ [])
one P x p = λ k d h. elim k as (λ n. n < 1 → P (get_or (x ∷ []) n d)) [ zero ↦ λ _. p | suc n ↦ λ (z : suc n < 1). absurd (omega arith) ] h

module _ {J : Type 0} where
  from_here : (k : ℕ) (f : Hand J → ℕ) (t : Thief J) → t.deque ≡ k → from k f t ≡ f (reach t)
  from_here k f t e = ap (λ b. cond b (f (reach t)) 0) (eq-eqb t.deque k e)

  from_else : (k : ℕ) (f : Hand J → ℕ) (t : Thief J) → t.deque ≢ k → from k f t ≡ 0
  from_else k f t n = ap (λ b. cond b (f (reach t)) 0) (ne_eqb t.deque k n)

  -- the same deques stand at the same places
  pub record SameDeques (xs ys : List (Bench J)) : Type 0 where
    pub count : length ys ≡ length xs
    pub each : (k : ℕ) (d : Bench J) → k < length xs → worker_deque (get_or ys k d).owner.worker ≡ worker_deque (get_or xs k d).owner.worker

  way_moved : (xs ys : List (Bench J)) (t : Thief J) → SameDeques xs ys → IsWay xs t → IsWay ys t
  way_moved xs ys t same w = record {
    there = subst (λ n. t.deque < n) (sym same.count) w.there;
    deque = λ d. w.deque d ∙ sym (same.each t.deque d w.there);
    part = w.part;
    pushed = w.pushed;
  }

  pub ways_moved : (xs ys : List (Bench J)) (ts : List (Thief J)) → SameDeques xs ys → All (IsWay xs) ts → All (IsWay ys) ts
  ways_moved xs ys ts same w = λ k d h. way_moved xs ys (get_or ts k d) same (w k d h)

  -- one bench was changed, whose deque is the same
  pub deques_set : (bs : List (Bench J)) (i : ℕ) (b : Bench J) → (x : Bench J) → i < length bs → worker_deque b.owner.worker ≡ worker_deque (get_or bs i x).owner.worker → SameDeques bs (set bs i b)
  deques_set bs i b x within same = record {
    count = length-set bs i b;
    each = λ k d _. dite (ℕ_discrete k i)
        (λ (e : k ≡ i). subst (λ n. worker_deque (get_or (set bs i b) n d).owner.worker ≡ worker_deque (get_or bs n d).owner.worker) (sym e)
        (ap (λ (x : Bench J). worker_deque x.owner.worker) (get_or-set_same bs i b d within) ∙ (same ∙ ap (λ (x : Bench J). worker_deque x.owner.worker) (any_default bs i x d within))))
        (λ (n : k ≢ i). ap (λ (x : Bench J). worker_deque x.owner.worker) (get_or-set_other bs i k b d n));
  }

  -- a fact of each bench, where one was changed
  pub each_set : (P : Bench J → Type 0) (bs : List (Bench J)) (i : ℕ) (b : Bench J) → i < length bs → P b → ((k : ℕ) (d : Bench J) → k < length bs → k ≢ i → P (get_or bs k d))
      → (k : ℕ) (d : Bench J) → k < length (set bs i b) → P (get_or (set bs i b) k d)
  each_set P bs i b within mine others k d there = dite (ℕ_discrete k i)
      (λ (e : k ≡ i). subst (λ n. P (get_or (set bs i b) n d)) (sym e) (subst P (sym (get_or-set_same bs i b d within)) mine))
      (λ (n : k ≢ i). subst P (sym (get_or-set_other bs i k b d n)) (others k d (subst (λ n. k < n) (length-set bs i b) there) n))

  all_from_set : (k : ℕ) (f : Hand J → ℕ) (bs : List (Bench J)) (i : ℕ) (b : Bench J) → i < length bs → all_from k f (set bs i b) + bench_from k f (get_or bs i b) ≡ all_from k f bs + bench_from k f b
  all_from_set k f bs i b within = sum_by-set (bench_from k f) bs i b b within

  all_from_same : (k : ℕ) (f : Hand J → ℕ) (bs : List (Bench J)) (i : ℕ) (b x : Bench J) → i < length bs → b.thieves.items ≡ (get_or bs i x).thieves.items → all_from k f (set bs i b) ≡ all_from k f bs
  all_from_same k f bs i b x within same =
      let s = all_from_set k f bs i b within in
      let e : bench_from k f b ≡ bench_from k f (get_or bs i b) = ap (row_from k f) (same ∙ ap (λ (y : Bench J). y.thieves.items) (any_default bs i x b within)) in
      omega arith

  own_other : (f : Hand J → ℕ) (bs : List (Bench J)) (i : ℕ) (b : Bench J) (k : ℕ) (d : Bench J) → k ≢ i → f (own (get_or (set bs i b) k d).owner) ≡ f (own (get_or bs k d).owner)
  own_other f bs i b k d n = ap (λ (x : Bench J). f (own x.owner)) (get_or-set_other bs i k b d n)

  own_here : (f : Hand J → ℕ) (bs : List (Bench J)) (i : ℕ) (b : Bench J) (k : ℕ) (d : Bench J) → k ≡ i → i < length bs → f (own (get_or (set bs i b) k d).owner) ≡ f (own b.owner)
  own_here f bs i b k d e within = ap (λ n. f (own (get_or (set bs i b) n d).owner)) e ∙ ap (λ (x : Bench J). f (own x.owner)) (get_or-set_same bs i b d within)

  own_kept : (f : Hand J → ℕ) (bs : List (Bench J)) (i : ℕ) (b x : Bench J) → i < length bs → own b.owner ≡ own (get_or bs i x).owner
      → (k : ℕ) (d : Bench J) → f (own (get_or (set bs i b) k d).owner) ≡ f (own (get_or bs k d).owner)
  own_kept f bs i b x within same k d = dite (ℕ_discrete k i)
      (λ (e : k ≡ i). own_here f bs i b k d e within ∙ (ap f same ∙ (ap (λ (y : Bench J). f (own y.owner)) (any_default bs i x d within) ∙ ap (λ n. f (own (get_or bs n d).owner)) (sym e))))
      (λ (n : k ≢ i). own_other f bs i b k d n)

  -- a pass is cut off an owner's
  split_total : (f : Hand J → ℕ) (bs : List (Bench J)) (row : List (Thief J)) (i : ℕ) (b x : Bench J) (t : Thief J) → i < length bs → b.thieves.items ≡ (get_or bs i x).thieves.items
      → t.deque ≡ i → f (own b.owner) + f (reach t) ≡ f (own (get_or bs i x).owner)
      → (k : ℕ) (d : Bench J) → total k f (set bs i b) (t ∷ row) d ≡ total k f bs row d
  split_total f bs row i b x t within same number cut k d = dite (ℕ_discrete k i)
      (λ (e : k ≡ i).
      let a = all_from_same k f bs i b x within same in
      let o = own_here f bs i b k d e within in
      let o' : f (own (get_or bs k d).owner) ≡ f (own (get_or bs i x).owner) = ap (λ n. f (own (get_or bs n d).owner)) e ∙ ap (λ (y : Bench J). f (own y.owner)) (any_default bs i d x within) in
      let h = from_here k f t (number ∙ sym e) in
      omega (arith, sum_by-cons (from k f) t row))
      (λ (n : k ≢ i).
      let a = all_from_same k f bs i b x within same in
      let o = own_other f bs i b k d n in
      let h = from_else k f t (λ z. n (sym z ∙ number)) in
      omega (arith, sum_by-cons (from k f) t row))

  -- it is placed at a bench
  place_total : (f : Hand J → ℕ) (bs : List (Bench J)) (row : List (Thief J)) (i : ℕ) (b x : Bench J) (t : Thief J) → i < length bs → own b.owner ≡ own (get_or bs i x).owner
      → b.thieves.items ≡ (get_or bs i x).thieves.items ++ t ∷ []
      → (k : ℕ) (d : Bench J) → total k f (set bs i b) row d ≡ total k f bs (t ∷ row) d
  place_total f bs row i b x t within same put k d =
      let o = own_kept f bs i b x within same k d in
      let s = all_from_set k f bs i b within in
      let e : bench_from k f b ≡ row_from k f ((get_or bs i b).thieves.items ++ t ∷ []) = ap (row_from k f) (put ∙ ap (λ (y : Bench J). y.thieves.items ++ t ∷ []) (any_default bs i x b within)) in
      omega (arith, sum_by-append (from k f) (get_or bs i b).thieves.items (t ∷ []), sum_by-cons (from k f) t [], sum_by-cons (from k f) t row)

  -- all thieves of a bench are taken from it
  pub take_total : (f : Hand J → ℕ) (bs : List (Bench J)) (i : ℕ) (b x : Bench J) (row : List (Thief J)) → i < length bs → own b.owner ≡ own (get_or bs i x).owner
      → b.thieves.items ≡ [] → row ≡ (get_or bs i x).thieves.items
      → (k : ℕ) (d : Bench J) → total k f (set bs i b) row d ≡ total k f bs [] d
  take_total f bs i b x row within same none is k d =
      let o = own_kept f bs i b x within same k d in
      let r : row_from k f row ≡ bench_from k f (get_or bs i b) = ap (row_from k f) (is ∙ ap (λ (y : Bench J). y.thieves.items) (any_default bs i x b within)) in
      let s = all_from_set k f bs i b within in
      let e : bench_from k f b ≡ 0 = ap (row_from k f) none in
      let z : row_from {J = J} k f [] ≡ 0 = refl in
      omega arith

  -- a pass is taken into its owner's
  pub absorb_total : (f : Hand J → ℕ) (bs : List (Bench J)) (row : List (Thief J)) (i : ℕ) (b x : Bench J) (t : Thief J) → i < length bs → b.thieves.items ≡ (get_or bs i x).thieves.items
      → t.deque ≡ i → f (own b.owner) ≡ f (own (get_or bs i x).owner) + f (reach t)
      → (k : ℕ) (d : Bench J) → total k f (set bs i b) row d ≡ total k f bs (row ++ t ∷ []) d
  absorb_total f bs row i b x t within same number both k d = dite (ℕ_discrete k i)
      (λ (e : k ≡ i).
      let a = all_from_same k f bs i b x within same in
      let o = own_here f bs i b k d e within in
      let o' : f (own (get_or bs k d).owner) ≡ f (own (get_or bs i x).owner) = ap (λ n. f (own (get_or bs n d).owner)) e ∙ ap (λ (y : Bench J). f (own y.owner)) (any_default bs i d x within) in
      let h = from_here k f t (number ∙ sym e) in
      omega (arith, sum_by-append (from k f) row (t ∷ []), sum_by-cons (from k f) t []))
      (λ (n : k ≢ i).
      let a = all_from_same k f bs i b x within same in
      let o = own_other f bs i b k d n in
      let h = from_else k f t (λ z. n (sym z ∙ number)) in
      omega (arith, sum_by-append (from k f) row (t ∷ []), sum_by-cons (from k f) t []))

  -- an owner cuts its pass
  pub cut_links : (bs : List (Bench J)) (i : ℕ) (b x : Bench J) (t : Thief J) → i < length bs → Links bs []
      → worker_deque b.owner.worker ≡ worker_deque (get_or bs i x).owner.worker → b.thieves.items ≡ (get_or bs i x).thieves.items
      → t.deque ≡ i → stealer_deque t.stealer ≡ worker_deque b.owner.worker → reach t ≡ hand 1 [] []
      → (own b.owner).parts + 1 ≡ (own (get_or bs i x).owner).parts → 1 < (own (get_or bs i x).owner).parts
      → Links (set bs i b) (t ∷ [])
  cut_links bs i b x t within links deque same number stealer fresh parts some =
      let one_part : parts_of (reach t) ≡ 1 = ap parts_of fresh in
      let moved : SameDeques bs (set bs i b) = deques_set bs i b x within deque in
      record {
        parts = λ k d there. split_total parts_of bs [] i b x t within same number (omega arith) k d ∙ links.parts k d (subst (λ n. k < n) (length-set bs i b) there);
        part = each_set (λ (y : Bench J). 0 < (own y.owner).parts) bs i b within (omega arith) (λ k d there n. links.part k d there);
        ways = each_set (λ (y : Bench J). All (IsWay (set bs i b)) y.thieves.items) bs i b within
            (subst (All (IsWay (set bs i b))) (sym same) (ways_moved bs (set bs i b) (get_or bs i x).thieves.items moved (links.ways i x within)))
            (λ k d there n. ways_moved bs (set bs i b) (get_or bs k d).thieves.items moved (links.ways k d there));
        row_ways = one (IsWay (set bs i b)) t record {
          there = subst (λ n. n < length (set bs i b)) (sym number) (subst (λ n. i < n) (sym (length-set bs i b)) within);
          deque = λ d. stealer ∙ sym (ap (λ n. worker_deque (get_or (set bs i b) n d).owner.worker) number ∙ ap (λ (y : Bench J). worker_deque y.owner.worker) (get_or-set_same bs i b d within));
          part = omega arith;
          pushed = ap (λ (h : Hand J). h.pushed) fresh;
        };
      }

  -- a thief is placed at a bench
  pub place_links : (bs : List (Bench J)) (i : ℕ) (b x : Bench J) (t : Thief J) → i < length bs → Links bs (t ∷ [])
      → worker_deque b.owner.worker ≡ worker_deque (get_or bs i x).owner.worker → own b.owner ≡ own (get_or bs i x).owner
      → b.thieves.items ≡ (get_or bs i x).thieves.items ++ t ∷ []
      → Links (set bs i b) []
  place_links bs i b x t within links deque same put =
      let moved : SameDeques bs (set bs i b) = deques_set bs i b x within deque in
      record {
        parts = λ k d there. place_total parts_of bs [] i b x t within same put k d ∙ links.parts k d (subst (λ n. k < n) (length-set bs i b) there);
        part = each_set (λ (y : Bench J). 0 < (own y.owner).parts) bs i b within (subst (λ (h : Hand J). 0 < h.parts) (sym same) (links.part i x within)) (λ k d there n. links.part k d there);
        ways = each_set (λ (y : Bench J). All (IsWay (set bs i b)) y.thieves.items) bs i b within
            (subst (All (IsWay (set bs i b))) (sym put)
            (ways_moved bs (set bs i b) ((get_or bs i x).thieves.items ++ t ∷ []) moved (All-append (IsWay bs) (get_or bs i x).thieves.items (t ∷ []) (links.ways i x within) links.row_ways)))
            (λ k d there n. ways_moved bs (set bs i b) (get_or bs k d).thieves.items moved (links.ways k d there));
        row_ways = λ k d h. absurd (omega arith);
      }

  -- the thieves are taken from a bench
  pub take_links : (bs : List (Bench J)) (i : ℕ) (b x : Bench J) (row : List (Thief J)) → i < length bs → Links bs []
      → worker_deque b.owner.worker ≡ worker_deque (get_or bs i x).owner.worker → own b.owner ≡ own (get_or bs i x).owner
      → b.thieves.items ≡ [] → row ≡ (get_or bs i x).thieves.items
      → Links (set bs i b) row
  take_links bs i b x row within links deque same none is =
      let moved : SameDeques bs (set bs i b) = deques_set bs i b x within deque in
      record {
        parts = λ k d there. take_total parts_of bs i b x row within same none is k d ∙ links.parts k d (subst (λ n. k < n) (length-set bs i b) there);
        part = each_set (λ (y : Bench J). 0 < (own y.owner).parts) bs i b within (subst (λ (h : Hand J). 0 < h.parts) (sym same) (links.part i x within)) (λ k d there n. links.part k d there);
        ways = each_set (λ (y : Bench J). All (IsWay (set bs i b)) y.thieves.items) bs i b within
            (subst (All (IsWay (set bs i b))) (sym none) (λ k d h. absurd (omega arith)))
            (λ k d there n. ways_moved bs (set bs i b) (get_or bs k d).thieves.items moved (links.ways k d there));
        row_ways = subst (All (IsWay (set bs i b))) (sym is) (ways_moved bs (set bs i b) (get_or bs i x).thieves.items moved (links.ways i x within));
      }

  -- an owner takes in the pass of a thief
  pub absorb_links : (bs : List (Bench J)) (row : List (Thief J)) (i : ℕ) (b x : Bench J) (t : Thief J) → i < length bs → Links bs (row ++ t ∷ [])
      → worker_deque b.owner.worker ≡ worker_deque (get_or bs i x).owner.worker → b.thieves.items ≡ (get_or bs i x).thieves.items
      → t.deque ≡ i → (own b.owner).parts ≡ (own (get_or bs i x).owner).parts + (reach t).parts
      → Links (set bs i b) row
  absorb_links bs row i b x t within links deque same number parts =
      let moved : SameDeques bs (set bs i b) = deques_set bs i b x within deque in
      let had : 0 < (own (get_or bs i x).owner).parts = links.part i x within in
      record {
        parts = λ k d there. absorb_total parts_of bs row i b x t within same number parts k d ∙ links.parts k d (subst (λ n. k < n) (length-set bs i b) there);
        part = each_set (λ (y : Bench J). 0 < (own y.owner).parts) bs i b within (omega arith) (λ k d there n. links.part k d there);
        ways = each_set (λ (y : Bench J). All (IsWay (set bs i b)) y.thieves.items) bs i b within
            (subst (All (IsWay (set bs i b))) (sym same) (ways_moved bs (set bs i b) (get_or bs i x).thieves.items moved (links.ways i x within)))
            (λ k d there n. ways_moved bs (set bs i b) (get_or bs k d).thieves.items moved (links.ways k d there));
        row_ways = ways_moved bs (set bs i b) row moved (left (IsWay bs) row (t ∷ []) links.row_ways);
      }

  -- the last thief of a row
  pub last_way : (bs : List (Bench J)) (row : List (Thief J)) (t : Thief J) → Links bs (row ++ t ∷ []) → IsWay bs t
  last_way bs row t links = right (IsWay bs) row (t ∷ []) links.row_ways 0 t (omega arith)

  -- nothing went through the deques where an owner cut its pass
  pub fresh_cut : (bs : List (Bench J)) (i : ℕ) (b x : Bench J) → i < length bs → ((k : ℕ) (d : Bench J) → k < length bs → IsFresh (get_or bs k d))
      → (own b.owner).pushed ≡ (own (get_or bs i x).owner).pushed → (own b.owner).taken ≡ (own (get_or bs i x).owner).taken
      → b.thieves.items ≡ (get_or bs i x).thieves.items → b.children ≡ (get_or bs i x).children
      → (k : ℕ) (d : Bench J) → k < length bs → IsFresh (get_or (set bs i b) k d)
  fresh_cut bs i b x within fresh pushed taken same children k d there =
      let was = fresh i x within in
      each_set IsFresh bs i b within
      record {
        pushed = pushed ∙ was.pushed;
        taken = taken ∙ was.taken;
        stolen = subst (All (λ (t : Thief J). (reach t).taken ≡ [])) (sym same) was.stolen;
        none = children ∙ was.none;
      }
      (λ k d there n. fresh k d there) k d (subst (λ n. k < n) (sym (length-set bs i b)) there)

  -- nor where a thief was placed that had taken nothing
  pub fresh_place : (bs : List (Bench J)) (i : ℕ) (b x : Bench J) (t : Thief J) → i < length bs → ((k : ℕ) (d : Bench J) → k < length bs → IsFresh (get_or bs k d))
      → own b.owner ≡ own (get_or bs i x).owner → b.thieves.items ≡ (get_or bs i x).thieves.items ++ t ∷ [] → (reach t).taken ≡ []
      → b.children ≡ (get_or bs i x).children
      → (k : ℕ) (d : Bench J) → k < length bs → IsFresh (get_or (set bs i b) k d)
  fresh_place bs i b x t within fresh same put idle children k d there =
      let was = fresh i x within in
      each_set IsFresh bs i b within
      record {
        pushed = ap (λ (h : Hand J). h.pushed) same ∙ was.pushed;
        taken = ap (λ (h : Hand J). h.taken) same ∙ was.taken;
        stolen = subst (All (λ (t : Thief J). (reach t).taken ≡ [])) (sym put)
            (All-append (λ (t : Thief J). (reach t).taken ≡ []) (get_or bs i x).thieves.items (t ∷ []) was.stolen (one (λ (t : Thief J). (reach t).taken ≡ []) t idle));
        none = children ∙ was.none;
      }
      (λ k d there n. fresh k d there) k d (subst (λ n. k < n) (sym (length-set bs i b)) there)

  -- the parts of the owners, where one was changed
  pub parts_here : (bs : List (Bench J)) (i : ℕ) (b : Bench J) → i < length bs → (d : Bench J) → (own (get_or (set bs i b) i d).owner).parts ≡ (own b.owner).parts
  parts_here bs i b within d = own_here parts_of bs i b i d refl within

  pub parts_else : (bs : List (Bench J)) (i : ℕ) (b : Bench J) (k : ℕ) (d : Bench J) → k ≢ i → (own (get_or (set bs i b) k d).owner).parts ≡ (own (get_or bs k d).owner).parts
  parts_else bs i b k d n = own_other parts_of bs i b k d n

  pub parts_kept : (bs : List (Bench J)) (i : ℕ) (b x : Bench J) → i < length bs → own b.owner ≡ own (get_or bs i x).owner → (k : ℕ) (d : Bench J) → (own (get_or (set bs i b) k d).owner).parts ≡ (own (get_or bs k d).owner).parts
  parts_kept bs i b x within same k d = own_kept parts_of bs i b x within same k d

  -- where no bench has a thief
  pub none_from : (k : ℕ) (f : Hand J → ℕ) (bs : List (Bench J)) → ((i : ℕ) (d : Bench J) → i < length bs → (get_or bs i d).thieves.items ≡ []) → all_from k f bs ≡ 0
  none_from k f [] none = refl
  none_from k f (b ∷ bs) none =
      let h : bench_from k f b ≡ 0 = ap (row_from k f) (none 0 b (omega arith)) in
      let t = none_from k f bs (λ i d there. none (suc i) d (omega arith)) in
      omega (arith, sum_by-cons (bench_from k f) b bs)

  pub apart_ready : (count : ℕ) (bs : List (Bench J)) → AreApart count bs → AreReady count bs
  apart_ready count bs apart =
      let none : (i : ℕ) (d : Bench J) → i < length bs → (get_or bs i d).thieves.items ≡ [] = λ i d there. (apart.each i d there).ways in
      record {
        count_is = apart.count_is;
        links = record {
          parts = λ k d there.
              let p : (own (get_or bs k d).owner).parts ≡ 16 = ap parts_of (apart.each k d there).hand_is in
              let a = none_from k parts_of bs none in
              let z : row_from {J = J} k parts_of [] ≡ 0 = refl in
              omega arith;
          part = λ k d there. let p : (own (get_or bs k d).owner).parts ≡ 16 = ap parts_of (apart.each k d there).hand_is in omega arith;
          ways = λ i d there. subst (All (IsWay bs)) (sym (none i d there)) (λ j e h. absurd (omega arith));
          row_ways = λ j e h. absurd (omega arith);
        };
        fresh = λ i d there. let a = apart.each i d there in record {
          pushed = ap (λ (h : Hand J). h.pushed) a.hand_is;
          taken = ap (λ (h : Hand J). h.taken) a.hand_is;
          stolen = subst (All (λ (t : Thief J). (reach t).taken ≡ [])) (sym a.ways) (λ j e h. absurd (omega arith));
          none = a.none;
        };
      }

  pub apart_whole : (count : ℕ) (bs : List (Bench J)) → AreApart count bs → (k : ℕ) (d : Bench J) → k < length bs → (own (get_or bs k d).owner).parts ≡ 16
  apart_whole count bs apart k d there = ap parts_of (apart.each k d there).hand_is

  pub apart_more : (n : ℕ) (bs : List (Bench J)) (b : Bench J) → AreApart n bs → IsApart b → AreApart (n + 1) (bs ++ b ∷ [])
  apart_more n bs b all one_more = record {
    count_is = let c = all.count_is in omega (arith, length-append bs (b ∷ []));
    each = All-append IsApart bs (b ∷ []) all.each (one IsApart b one_more);
  }
