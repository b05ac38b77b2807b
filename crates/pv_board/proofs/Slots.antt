-- What a write to a slab does to the values in it.
use Rattle.std.proofs.Common.{◌≡◌, ◌≢◌, ℕ, zero, suc, ◌+◌, Option, Some, None, List, [], ◌∷◌, cond, refl, sym, ◌∙◌, ap, arith}
use Rattle.std.specs.Prelude.{slice_index_or, filter_map, fold, is_some}
use Rattle.slab.specs.Slab.{Slab, get, values, slab_len, Updates}
use Rattle.pv_board.specs.Marks.{weigh, HasMore}

module _ {X : Type 0} (f : X → ℕ) where
  abbrev pub amount : Option X → ℕ
  amount None = 0
  amount (Some x) = f x

  abbrev pub total : List (Option X) → ℕ
  total [] = 0
  total (x ∷ xs) = amount x + total xs

  pub kept_total : (xs : List (Option X)) → weigh f (filter_map (λ (x : Option X). x) xs) ≡ total xs
  kept_total [] = refl
  kept_total (None ∷ xs) = let r = kept_total xs in omega (arith, r)
  kept_total (Some x ∷ xs) = ap (λ n. f x + n) (kept_total xs)

  empty_total : (xs : List (Option X)) → ((i : ℕ) → slice_index_or xs i None ≡ None) → total xs ≡ 0
  empty_total [] h = refl
  empty_total (x ∷ xs) h = let e = ap amount (h 0) in let r = empty_total xs (λ i. h (suc i)) in omega (arith, e, r)

  same_total : (xs ys : List (Option X)) → ((i : ℕ) → slice_index_or ys i None ≡ slice_index_or xs i None) → total ys ≡ total xs
  same_total [] ys h = empty_total ys h
  same_total (x ∷ xs) [] h = sym (empty_total (x ∷ xs) (λ i. sym (h i)))
  same_total (x ∷ xs) (y ∷ ys) h = ap (λ (z : Option X). amount z + total ys) (h 0) ∙ ap (λ n. amount x + n) (same_total xs ys (λ i. h (suc i)))

  written_total : (xs ys : List (Option X)) (k : ℕ) → ((i : ℕ) → i ≢ k → slice_index_or ys i None ≡ slice_index_or xs i None) → total ys + amount (slice_index_or xs k None) ≡ total xs + amount (slice_index_or ys k None)
  written_total [] [] k h = refl
  written_total [] (y ∷ ys) zero h = let r = empty_total ys (λ i. h (suc i) (λ e. cc)) in omega (arith, r)
  written_total [] (y ∷ ys) (suc k) h =
      let e : y ≡ None = h 0 (λ e. cc) in
      let r = written_total [] ys k (λ i n. h (suc i) (λ e. n (cc))) in
      let z : amount y ≡ 0 = ap amount e in omega (arith, r, z)
  written_total (x ∷ xs) [] zero h = let r = empty_total xs (λ i. sym (h (suc i) (λ e. cc))) in omega (arith, r)
  written_total (x ∷ xs) [] (suc k) h =
      let e : x ≡ None = sym (h 0 (λ e. cc)) in
      let r = written_total xs [] k (λ i n. h (suc i) (λ e. n (cc))) in
      let z : amount x ≡ 0 = ap amount e in omega (arith, r, z)
  written_total (x ∷ xs) (y ∷ ys) zero h = let r = same_total xs ys (λ i. h (suc i) (λ e. cc)) in omega (arith, r)
  written_total (x ∷ xs) (y ∷ ys) (suc k) h =
      let e : y ≡ x = h 0 (λ e. cc) in
      let r = written_total xs ys k (λ i n. h (suc i) (λ e. n (cc))) in
      let z : amount y ≡ amount x = ap amount e in omega (arith, r, z)

pub inserted : {X : Type 0} (old new : Slab X) (k : ℕ) (x : X) → get old k ≡ None → Updates old new k (Some x) → HasMore (values old) x (values new)
inserted old new k x e u f =
    let w = written_total f old.slots new.slots k u.others in
    let a : amount f (get old k) ≡ 0 = ap (amount f) e in
    let b : amount f (get new k) ≡ f x = ap (amount f) u.changed in
    let s = kept_total f old.slots in let t = kept_total f new.slots in
    omega (arith, w, a, b, s, t)

pub removed : {X : Type 0} (old new : Slab X) (k : ℕ) (x : X) → get old k ≡ Some x → Updates old new k None → HasMore (values new) x (values old)
removed old new k x e u f =
    let w = written_total f old.slots new.slots k u.others in
    let a : amount f (get old k) ≡ f x = ap (amount f) e in
    let b : amount f (get new k) ≡ 0 = ap (amount f) u.changed in
    let s = kept_total f old.slots in let t = kept_total f new.slots in
    omega (arith, w, a, b, s, t)

count_from : {X : Type 0} (a : ℕ) (xs : List (Option X)) → fold (λ n x. n + cond (is_some x) 1 0) a xs ≡ a + weigh (λ (x : X). 1) (filter_map (λ (x : Option X). x) xs)
count_from a [] = omega arith
count_from a (None ∷ xs) = count_from (a + 0) xs ∙ omega arith
count_from a (Some x ∷ xs) = let r = count_from (a + 1) xs in r ∙ omega arith

-- as many keys have a value as there are values
pub counted : {X : Type 0} (s : Slab X) → slab_len s ≡ weigh (λ (x : X). 1) (values s)
counted s = count_from 0 s.slots ∙ omega arith
