-- Sums over the passes of a deque.
use Rattle.std.proofs.Common.{◌≡◌, ℕ, zero, suc, ◌+◌, ◌<◌, ◌≢◌, List, [], ◌∷◌, ◌++◌, length, set, refl, sym, ap, ◌∙◌, inl, inr, ⊎_elim, sum_by, arith}
use Rattle.std.proofs.lemmas.List.Sums.{sum_by-cons, sum_by-append}
use mathlib.Core.Option.{some, some-ne-none, some-injective}
use lib.ListN.{get_elem?}

module _ {X : Type 0} where
  -- the sum after a change of one pass
  pub sum_set : (f : X → ℕ) (xs : List X) (i : ℕ) (v w : X) → get_elem? xs i ≡ some v → sum_by f (set xs i w) + f v ≡ sum_by f xs + f w
  sum_set f [] i v w e = absurd (some-ne-none v (sym e))
  sum_set f (x ∷ xs) zero v w e =
      let h : f x ≡ f v = ap f (some-injective x v e) in
      omega (arith, sum_by-cons f w xs, sum_by-cons f x xs)
  sum_set f (x ∷ xs) (suc i) v w e =
      let h = sum_set f xs i v w e in
      omega (arith, sum_by-cons f x (set xs i w), sum_by-cons f x xs)

  pub sum_snoc : (f : X → ℕ) (xs : List X) (x : X) → sum_by f (xs ++ x ∷ []) ≡ sum_by f xs + f x
  sum_snoc f xs x = omega (arith, sum_by-append f xs (x ∷ []), sum_by-cons f x [])

  -- a sum to which nothing adds
  pub sum_none : (f : X → ℕ) (xs : List X) → ((i : ℕ) (v : X) → get_elem? xs i ≡ some v → f v ≡ 0) → sum_by f xs ≡ 0
  sum_none f [] z = refl
  sum_none f (x ∷ xs) z =
      let h = z 0 x refl in
      let t = sum_none f xs (λ i v e. z (suc i) v e) in
      omega (arith, sum_by-cons f x xs)

  -- a sum to which one alone adds
  pub sum_one : (f : X → ℕ) (xs : List X) (i : ℕ) (v : X) → get_elem? xs i ≡ some v
      → ((j : ℕ) (w : X) → j ≢ i → get_elem? xs j ≡ some w → f w ≡ 0) → sum_by f xs ≡ f v
  sum_one f [] i v e z = absurd (some-ne-none v (sym e))
  sum_one f (x ∷ xs) zero v e z =
      let h : f x ≡ f v = ap f (some-injective x v e) in
      let t = sum_none f xs (λ j w at. z (suc j) w (λ k. omega arith) at) in
      omega (arith, sum_by-cons f x xs)
  sum_one f (x ∷ xs) (suc i) v e z =
      let h = z 0 x (λ k. omega arith) refl in
      let t = sum_one f xs i v e (λ j w other at. z (suc j) w (λ k. other (omega arith)) at) in
      omega (arith, sum_by-cons f x xs)

  -- no more than the whole
  pub one_within : (f : X → ℕ) (xs : List X) (i : ℕ) (v : X) → get_elem? xs i ≡ some v → (rest : ℕ) × (sum_by f xs ≡ f v + rest)
  one_within f [] i v e = absurd (some-ne-none v (sym e))
  one_within f (x ∷ xs) zero v e =
      let h : f x ≡ f v = ap f (some-injective x v e) in
      (sum_by f xs, omega (arith, sum_by-cons f x xs))
  one_within f (x ∷ xs) (suc i) v e =
      let t = one_within f xs i v e in
      (f x + t.0, let k = t.1 in omega (arith, sum_by-cons f x xs))

  -- where a sum is all of one, each other adds nothing
  pub others_none : (f : X → ℕ) (xs : List X) (i : ℕ) (v : X) → get_elem? xs i ≡ some v → sum_by f xs ≡ f v
      → (j : ℕ) (w : X) → j ≢ i → get_elem? xs j ≡ some w → f w ≡ 0
  others_none f [] i v e s j w other at = absurd (some-ne-none v (sym e))
  others_none f (x ∷ xs) zero v e s zero w other at = absurd (other refl)
  others_none f (x ∷ xs) zero v e s (suc j) w other at =
      let h : f x ≡ f v = ap f (some-injective x v e) in
      let t = one_within f xs j w at in let k = t.1 in
      omega (arith, sum_by-cons f x xs)
  others_none f (x ∷ xs) (suc i) v e s zero w other at =
      let h : f x ≡ f w = ap f (some-injective x w at) in
      let t = one_within f xs i v e in let k = t.1 in
      omega (arith, sum_by-cons f x xs)
  others_none f (x ∷ xs) (suc i) v e s (suc j) w other at =
      let t = one_within f xs i v e in let k = t.1 in
      let here : sum_by f xs ≡ f v = omega (arith, sum_by-cons f x xs) in
      others_none f xs i v e here j w (λ p. other (ap suc p)) at

  pub ones : (xs : List X) → sum_by (λ (x : X). 1) xs ≡ length xs
  ones [] = refl
  ones (x ∷ xs) = let t = ones xs in omega (arith, sum_by-cons (λ (y : X). 1) x xs)
