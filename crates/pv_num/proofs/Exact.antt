use Rattle.std.proofs.Common.{◌≡◌, ◌≢◌, ℕ, zero, suc, ◌+◌, ◌*◌, ◌^◌, ◌<◌, ◌≤◌, ◌⊎◌, inl, inr, Bool, true, false, Option, Some, None, arith, refl, ap, sym, subst, ◌∙◌, zero-mul, ℤ, pos, negsuc, neg_ℤ, ◌*ℤ◌, ◌+ℤ◌, ◌<ℤ◌, unsigned_abs}
use Rattle.std.proofs.lemmas.Int.{ints, unsigned_abs-mul}
use Rattle.std.proofs.lemmas.Bool.{cases_eq, le-ltb}
use Rattle.std.proofs.lemmas.Nat.{pow_pos}
use Rattle.std.specs.Int.Signed.{lt_z}
use Rattle.std.proofs.Math.IntN.{negsuc-*ℤ-pos}
use Rattle.std.proofs.Math.Nat.{mul-le-mul_right, lt_of_lt_of_le, pow-le-pow_right, eq_of_mul-eq-mul_right}
use Rattle.pv_num.specs.Extended.{Extended, Fin}
use Rattle.pv_num.specs.Grid.{IsGridSize, IsGrid}
use Rattle.pv_num.specs.Sizes.{size_of, fine, with_sign, signed_of}
use Rattle.pv_num.specs.Parts.{IsValueAt, IsValue, IsFin, IsFineExponent}
use Rattle.pv_num.specs.declared.magnitude.Magnitude.{Magnitude}
use Rattle.pv_num.proofs.Align.{shifted_to}
use Rattle.pv_num.proofs.Rounds.{at_fine, below_all, is_grid}
use Rattle.pv_num.proofs.Signs.{neg_size}

value_size : (m z : ℤ) (k : ℕ) → z *ℤ pos (2 ^ k) ≡ m → unsigned_abs z * 2 ^ k ≡ unsigned_abs m
value_size m z k h = sym (unsigned_abs-mul z (pos (2 ^ k))) ∙ ap unsigned_abs h

size_value : (m z : ℤ) (k : ℕ) → z ≡ m *ℤ pos (2 ^ k) → unsigned_abs z ≡ unsigned_abs m * 2 ^ k
size_value m z k h = ap unsigned_abs h ∙ unsigned_abs-mul m (pos (2 ^ k))

-- ---- Exponents with which only 0 is a number

too_low : (m w z : ℤ) → w <ℤ negsuc 1023 → 0 < unsigned_abs m → unsigned_abs m < 2 ^ 64 → IsValueAt m w z → ⊥
too_low m (pos k) z h p l v = omega (arith, ints)
too_low m (negsuc k) z h p l v =
    let e : unsigned_abs z * 2 ^ suc k ≡ unsigned_abs m = value_size m z (suc k) v in
    let kk : 64 ≤ suc k = omega (arith, ints) in
    let two : 0 < 2 = omega arith in
    let big : 2 ^ 64 ≤ 2 ^ suc k = pow-le-pow_right two kk in
    elim (cases_eq (unsigned_abs z) 0) [
      | inl q ↦ let f : unsigned_abs z * 2 ^ suc k ≡ 0 = ap (λ x. x * 2 ^ suc k) q ∙ zero-mul (2 ^ suc k) in omega (arith, f, e, p)
      | inr c ↦
          let one : 1 * 2 ^ suc k ≤ unsigned_abs z * 2 ^ suc k = mul-le-mul_right (2 ^ suc k) (omega (arith, c)) in
          omega (arith, one, e, big, l)
    ]

high_grid : (f k t : ℕ) → t ≡ 962 → 62 + t ≤ k → IsGridSize f → f < 2 ^ k
high_grid f k t q h g =
    let two : 0 < 2 = omega arith in
    lt_of_lt_of_le (below_all f t q g) (pow-le-pow_right two h)

too_high : (m w z : ℤ) → pos 3072 <ℤ w → 0 < unsigned_abs m → IsGrid z → IsValueAt m w z → ⊥
too_high m (pos k) z h p g v =
    let e : unsigned_abs z ≡ unsigned_abs m * 2 ^ k = size_value m z k v in
    let kk : 62 + 962 ≤ k = omega (arith, ints) in
    let l : unsigned_abs z < 2 ^ k = high_grid (unsigned_abs z) k 962 refl kk g in
    let one : 1 * 2 ^ k ≤ unsigned_abs m * 2 ^ k = mul-le-mul_right (2 ^ k) (omega (arith, p)) in
    omega (arith, one, l, e)
too_high m (negsuc k) z h p g v = omega (arith, ints)

abbrev IsOutside : ℤ → Type 0
IsOutside e = (e <ℤ negsuc 1535) ⊎ (pos 2560 <ℤ e)

outside : (m e z : ℤ) → IsOutside e → 0 < unsigned_abs m → unsigned_abs m < 2 ^ 64 → IsGrid z → IsValue m e z → ⊥
outside m e z (inl h) p l g v = let k : (e +ℤ pos 512) <ℤ negsuc 1023 = omega (arith, ints, h) in too_low m (e +ℤ pos 512) z k p l v
outside m e z (inr h) p l g v = let k : pos 3072 <ℤ (e +ℤ pos 512) = omega (arith, ints, h) in too_high m (e +ℤ pos 512) z k p g v

pub fin_outside : (m e : ℤ) (o : Option Extended) → o ≡ None → IsFineExponent e None → 0 < unsigned_abs m → unsigned_abs m < 2 ^ 64 → IsFin m e o
fin_outside m e o q h p l = subst (IsFin m e) (sym q) (λ z g v. outside m e z h p l g v)

-- ---- Exact values

exact_at : (m w z : ℤ) (at : ℕ) → pos at ≡ w +ℤ pos 1024 → IsValueAt m w z → unsigned_abs z * fine ≡ unsigned_abs m * 2 ^ at
exact_at m (pos k) z at h v =
    let e : unsigned_abs z ≡ unsigned_abs m * 2 ^ k = size_value m z k v in
    let q : k + 1024 ≡ at = omega (arith, ints, h) in
    at_fine (λ b. unsigned_abs z * b ≡ unsigned_abs m * 2 ^ at) (λ s is.
    let k' : k + s ≡ at = omega (arith, is, q) in
    ap (λ x. x * 2 ^ s) e ∙ shifted_to (unsigned_abs m) k s at k')
exact_at m (negsuc k) z at h v =
    let e : unsigned_abs z * 2 ^ suc k ≡ unsigned_abs m = value_size m z (suc k) v in
    let q : suc k + at ≡ 1024 = omega (arith, ints, h) in
    at_fine (λ b. unsigned_abs z * b ≡ unsigned_abs m * 2 ^ at) (λ s is.
    let k' : suc k + at ≡ s = omega (arith, is, q) in
    sym (ap (λ x. x * 2 ^ at) (sym e) ∙ shifted_to (unsigned_abs z) (suc k) at s k'))

pub fin_inexact : (m e : ℤ) (at v : ℕ) (o : Option Extended) → o ≡ None → pos at ≡ e +ℤ pos 1536 → v ≡ unsigned_abs m → ((f : ℕ) → IsGridSize f → f * fine ≡ v * 2 ^ at → ⊥) → IsFin m e o
fin_inexact m e at v o q h ev n =
    let w : pos at ≡ (e +ℤ pos 512) +ℤ pos 1024 = omega (arith, ints, h) in
    subst (IsFin m e) (sym q) (λ z g x. n (unsigned_abs z) g (exact_at m (e +ℤ pos 512) z at w x ∙ ap (λ y. y * 2 ^ at) (sym ev)))

with_own_sign : (m : ℤ) (k p : ℕ) → k ≡ unsigned_abs m * 2 ^ p → with_sign (lt_z m (pos 0)) k ≡ m *ℤ pos (2 ^ p)
with_own_sign (pos n) k p h = ap (λ s. with_sign s k) (le-ltb n 0 (omega arith)) ∙ ap pos h
with_own_sign (negsuc n) k p h = ap (λ x. neg_ℤ (pos x)) h ∙ sym (negsuc-*ℤ-pos n (2 ^ p))

signed_times : (s : Bool) (k b : ℕ) → with_sign s k *ℤ pos b ≡ with_sign s (k * b)
signed_times false k b = refl
signed_times true zero b = ap pos (zero-mul b) ∙ sym (ap (λ x. neg_ℤ (pos x)) (zero-mul b))
signed_times true (suc k) b = negsuc-*ℤ-pos k b

own_sign : (m : ℤ) → with_sign (lt_z m (pos 0)) (unsigned_abs m) ≡ m
own_sign (pos n) = ap (λ s. with_sign s n) (le-ltb n 0 (omega arith))
own_sign (negsuc n) = refl

exact_from : (m w : ℤ) (k at : ℕ) → pos at ≡ w +ℤ pos 1024 → k * fine ≡ unsigned_abs m * 2 ^ at → IsValueAt m w (with_sign (lt_z m (pos 0)) k)
exact_from m (pos j) k at h e =
    let q : j + 1024 ≡ at = omega (arith, ints, h) in
    with_own_sign m k j
    (at_fine (λ b. k * b ≡ unsigned_abs m * 2 ^ at → k ≡ unsigned_abs m * 2 ^ j) (λ s is e'.
    let j' : j + s ≡ at = omega (arith, is, q) in
    eq_of_mul-eq-mul_right (2 ^ s) (pow_pos s) k (unsigned_abs m * 2 ^ j) (e' ∙ sym (shifted_to (unsigned_abs m) j s at j'))) e)
exact_from m (negsuc j) k at h e =
    let q : suc j + at ≡ 1024 = omega (arith, ints, h) in
    let size : k * 2 ^ suc j ≡ unsigned_abs m =
    at_fine (λ b. k * b ≡ unsigned_abs m * 2 ^ at → k * 2 ^ suc j ≡ unsigned_abs m) (λ s is e'.
    let j' : suc j + at ≡ s = omega (arith, is, q) in
    eq_of_mul-eq-mul_right (2 ^ at) (pow_pos at) (k * 2 ^ suc j) (unsigned_abs m) (shifted_to k (suc j) at s j' ∙ e')) e in
    signed_times (lt_z m (pos 0)) k (2 ^ suc j) ∙ ap (with_sign (lt_z m (pos 0))) size ∙ own_sign m

signed_grid : (s : Bool) (k : ℕ) → IsGridSize k → IsGrid (with_sign s k)
signed_grid false k g = g
signed_grid true k g = subst IsGridSize (sym (neg_size (pos k))) g

signed_fin : (s : Bool) (m : Magnitude) → signed_of s (Some m) ≡ Fin (with_sign s (size_of m))
signed_fin true m = refl
signed_fin false m = refl

pub fin_exact : (m m' e : ℤ) (at v : ℕ) (size : Magnitude) (r : Extended) → m' ≡ m → pos at ≡ e +ℤ pos 1536 → v ≡ unsigned_abs m → size_of size * fine ≡ v * 2 ^ at → r ≡ signed_of (lt_z m' (pos 0)) (Some size) → IsFin m e (Some r)
fin_exact m m' e at v size r q h ev x er =
    let w : pos at ≡ (e +ℤ pos 512) +ℤ pos 1024 = omega (arith, ints, h) in
    let g : IsGridSize (size_of size) = is_grid size.mantissa size.exponent size.mantissa_fits size.exponent_fits in
    let x' : size_of size * fine ≡ unsigned_abs m * 2 ^ at = x ∙ ap (λ y. y * 2 ^ at) ev in (
      with_sign (lt_z m (pos 0)) (size_of size),
      er ∙ signed_fin (lt_z m' (pos 0)) size ∙ ap (λ z. Fin (with_sign (lt_z z (pos 0)) (size_of size))) q,
      signed_grid (lt_z m (pos 0)) (size_of size) g,
      exact_from m (e +ℤ pos 512) (size_of size) at w x',
    )

pub not_zero_size : (m : ℤ) → m ≢ pos 0 → 0 < unsigned_abs m
not_zero_size (pos zero) h = absurd (h refl)
not_zero_size (pos (suc n)) h = omega arith
not_zero_size (negsuc n) h = omega arith
