-- Sums of slopes times changes, one a variable.
use Rattle.std.proofs.Common.{◌≡◌, ◌≢◌, ℕ, zero, suc, ◌<◌, ◌≤◌, [], ◌∷◌, refl, ap, sym, ◌∙◌, arith, inl, inr}
use Rattle.std.specs.Prelude.{ℤ, pos, ◌+ℤ◌, ◌*ℤ◌, true, false, nat_eq, cond}
use Rattle.std.proofs.Math.IntN.{zero-*ℤ}
use Rattle.std.proofs.lemmas.Int.{ints}
use Rattle.std.proofs.lemmas.Bool.{cases_eq}
use Rattle.std.proofs.lemmas.Bool.Decides.{nat_tests}
use Rattle.pv_interval.proofs.Products.{cancel_pos}
use Rattle.pv_slope.proofs.Polynomials.{v, n, ◌⊕◌, ◌⊗◌, follows, one_times}

-- equal multiples are of equal numbers
pub cancelled : (k : ℕ) (x y : ℤ) → 0 < k → x *ℤ pos k ≡ y *ℤ pos k → x ≡ y
cancelled k x y h e =
    let f = cancel_pos k x y h (omega (arith, ints)) in
    let g = cancel_pos k y x h (omega (arith, ints)) in omega (arith, ints)

-- the sum of the first k products
abbrev pub dot : ℕ → (ℕ → ℤ) → (ℕ → ℤ) → ℤ
dot zero f d = pos 0
dot (suc k) f d = dot k f d +ℤ f k *ℤ d k

one_more : (p q r a b c x y z : ℤ) → r ≡ p *ℤ x +ℤ q *ℤ y → c ≡ a *ℤ x +ℤ b *ℤ y → r +ℤ c *ℤ z ≡ (p +ℤ a *ℤ z) *ℤ x +ℤ (q +ℤ b *ℤ z) *ℤ y
one_more p q r a b c x y z e f =
    follows (p ∷ q ∷ r ∷ a ∷ b ∷ c ∷ x ∷ y ∷ z ∷ [])
    (v 2 ⊕ v 5 ⊗ v 8) ((v 0 ⊕ v 3 ⊗ v 8) ⊗ v 6 ⊕ (v 1 ⊕ v 4 ⊗ v 8) ⊗ v 7)
    (record { by = n (pos 1); left = v 2; right = v 0 ⊗ v 6 ⊕ v 1 ⊗ v 7 } ∷ record { by = v 8; left = v 5; right = v 3 ⊗ v 6 ⊕ v 4 ⊗ v 7 } ∷ [])
    refl (e, (f, tt))

-- a sum of combined slopes is the sums combined
pub dot_linear : (k : ℕ) (f g h d : ℕ → ℤ) (x y : ℤ) → ((i : ℕ) → h i ≡ f i *ℤ x +ℤ g i *ℤ y) → dot k h d ≡ dot k f d *ℤ x +ℤ dot k g d *ℤ y
dot_linear zero f g h d x y e = let a = zero-*ℤ x in let b = zero-*ℤ y in omega (arith, ints)
dot_linear (suc k) f g h d x y e = one_more (dot k f d) (dot k g d) (dot k h d) (f k) (g k) (h k) x y (d k) (dot_linear k f g h d x y e) (e k)

one_scaled : (p r a c x z : ℤ) → r ≡ p *ℤ x → c ≡ a *ℤ x → r +ℤ c *ℤ z ≡ (p +ℤ a *ℤ z) *ℤ x
one_scaled p r a c x z e f =
    follows (p ∷ r ∷ a ∷ c ∷ x ∷ z ∷ [])
    (v 1 ⊕ v 3 ⊗ v 5) ((v 0 ⊕ v 2 ⊗ v 5) ⊗ v 4)
    (record { by = n (pos 1); left = v 1; right = v 0 ⊗ v 4 } ∷ record { by = v 5; left = v 3; right = v 2 ⊗ v 4 } ∷ [])
    refl (e, (f, tt))

pub dot_scaled : (k : ℕ) (f h d : ℕ → ℤ) (x : ℤ) → ((i : ℕ) → h i ≡ f i *ℤ x) → dot k h d ≡ dot k f d *ℤ x
dot_scaled zero f h d x e = sym (zero-*ℤ x)
dot_scaled (suc k) f h d x e = one_scaled (dot k f d) (dot k h d) (f k) (h k) x (d k) (dot_scaled k f h d x e) (e k)

pub dot_zero : (k : ℕ) (d : ℕ → ℤ) → dot k (λ i. pos 0) d ≡ pos 0
dot_zero zero d = refl
dot_zero (suc k) d = let a = dot_zero k d in let b = zero-*ℤ (d k) in omega (arith, ints)

-- 1 at number j, and else 0
abbrev pub only : ℕ → ℕ → ℤ
only j i = cond (nat_eq i j) (pos 1) (pos 0)

only_here : (j i : ℕ) → i ≡ j → only j i ≡ pos 1
only_here j i e = ap (λ t. cond t (pos 1) (pos 0)) (same j i e)
  where
    same : (j i : ℕ) → i ≡ j → nat_eq i j ≡ true
    same j i e = grind (arith, nat_tests)

only_other : (j i : ℕ) → i ≢ j → only j i ≡ pos 0
only_other j i e = ap (λ t. cond t (pos 1) (pos 0)) (other j i e)
  where
    other : (j i : ℕ) → i ≢ j → nat_eq i j ≡ false
    other j i e = grind (arith, nat_tests)

dot_before : (k j : ℕ) (d : ℕ → ℤ) → k ≤ j → dot k (only j) d ≡ pos 0
dot_before zero j d h = refl
dot_before (suc k) j d h =
    let a = dot_before k j d (omega arith) in
    let b = ap (λ z. z *ℤ d k) (only_other j k (omega arith)) ∙ zero-*ℤ (d k) in omega (arith, ints)

-- the sum of one change alone
pub dot_only : (k j : ℕ) (d : ℕ → ℤ) → j < k → dot k (only j) d ≡ d j
dot_only zero j d h = absurd (omega arith)
dot_only (suc k) j d h =
    elim (cases_eq k j) [
      | inl e ↦
          let a = dot_before k j d (omega arith) in
          let b = ap (λ z. z *ℤ d k) (only_here j k e) ∙ one_times (d k) ∙ ap d e in omega (arith, ints)
      | inr ne ↦
          let a = dot_only k j d (omega arith) in
          let b = ap (λ z. z *ℤ d k) (only_other j k ne) ∙ zero-*ℤ (d k) in omega (arith, ints)
    ]
