use Rattle.std.proofs.Common.{◌≡◌, ℕ, zero, suc, ◌+◌, ◌-◌, ◌*◌, ◌^◌, ◌<◌, ◌≤◌, Some, inl, inr, arith, refl, ap, sym, subst, ◌∙◌, one-mul, mul-one, add-mul}
use Rattle.std.proofs.lemmas.Bool.{cases_lt}
use Rattle.std.proofs.lemmas.Nat.{pow_pos, pow-add}
use Rattle.std.proofs.Math.Nat.{mul-le-mul_right, mul-le-mul_left, lt_of_mul-lt-mul_right, pow-le-pow_right}
use Rattle.pv_num.specs.Sizes.{size_of, IsWhole, IsSized}
use Rattle.pv_num.specs.declared.magnitude.Magnitude.{Magnitude}
use Rattle.pv_num.specs.declared.magnitude.Toward.{Toward}
use Rattle.pv_num.specs.declared.magnitude.Toward.TheVariants.{Zero, Away}
use Rattle.pv_num.proofs.Align.{shifted_to}
use Rattle.pv_num.proofs.Fitted.{kept_sized}
use Rattle.pv_num.proofs.Wholes.{times_whole}

-- ---- A size in units

exact_whole : (t : Toward) (v u w : ℕ) → 0 < u → w * u ≡ v → IsWhole t v u w
exact_whole Zero v u w p q = (omega (arith, q), omega (arith, q, p, add-mul w 1 u, one-mul u))
exact_whole Away v u w p q = (omega (arith, q), omega (arith, q, p))

pub doubled_exact : (m f e : ℕ) → e < f → f ≤ e + 1 → m * 2 * 2 ^ e ≡ m * 2 ^ f
doubled_exact m f e l h = let q : 1 + e ≡ f = omega arith in shifted_to m 1 e f q

pub doubled_whole : (t : Toward) (m f e : ℕ) → e < f → f ≤ e + 1 → IsWhole t (m * 2 ^ f) (2 ^ e) (m * 2)
doubled_whole t m f e l h = exact_whole t (m * 2 ^ f) (2 ^ e) (m * 2) (pow_pos e) (doubled_exact m f e l h)

pub shifted_whole : (t : Toward) (m d f e p : ℕ) → d + f ≡ e → IsWhole t m (2 ^ d) p → IsWhole t (m * 2 ^ f) (2 ^ e) p
shifted_whole t m d f e p q h =
    let u : 2 ^ d * 2 ^ f ≡ 2 ^ e = sym (pow-add 2 d f) ∙ ap (λ x. 2 ^ x) q in
    subst (λ y. IsWhole t (m * 2 ^ f) y p) u (times_whole t m (2 ^ d) (2 ^ f) p (pow_pos f) h)

at_once : (t : Toward) (m p : ℕ) → IsWhole t m 1 p → p ≡ m
at_once Zero m p h = omega (arith, h.0, h.1)
at_once Away m p h = omega (arith, h.0, h.1)

pub same_exact : (t : Toward) (m d f e p : ℕ) → d ≡ 0 → f ≡ e → IsWhole t m (2 ^ d) p → p * 2 ^ e ≡ m * 2 ^ f
same_exact t m d f e p z q h =
    let s : p ≡ m = at_once t m p (subst (λ x. IsWhole t m (2 ^ x) p) z h) in
    ap (λ x. x * 2 ^ e) s ∙ ap (λ x. m * 2 ^ x) (sym q)

below_next : (t : Toward) (m u p : ℕ) → IsWhole t m u p → p * u < m + u
below_next Zero m u p h = omega (arith, h.0, h.1, add-mul p 1 u, one-mul u)
below_next Away m u p h = h.1

pub few_units : (t : Toward) (m d p : ℕ) → 0 < d → m < 2 ^ 62 → IsWhole t m (2 ^ d) p → p ≤ 2 ^ 61
few_units t m d p l h k =
    let two : 0 < 2 = omega arith in
    let u : 2 ^ 1 ≤ 2 ^ d = pow-le-pow_right two l in
    let n : p * 2 ^ d < m + 2 ^ d = below_next t m (2 ^ d) p k in
    few p (2 ^ d) m u h n
  where
    few : (p u m : ℕ) → 2 ≤ u → m < 2 ^ 62 → p * u < m + u → p ≤ 2 ^ 61
    few zero u m l h n = omega arith
    few (suc p) u m l h n =
        let a : p * 2 ≤ p * u = mul-le-mul_left p l in
        omega (arith, a, h, n, add-mul p 1 u, one-mul u)

-- ---- What is left of x whole units

abbrev pub other_way : Toward → Toward
other_way Zero = Away
other_way Away = Zero

pub other_is : (u v p : ℕ) (k l : Toward) → (k ≡ Zero → l ≡ Away) → (k ≡ Away → l ≡ Zero) → IsWhole l v u p → IsWhole (other_way k) v u p
other_is u v p Zero l z a h = subst (λ y. IsWhole y v u p) (z refl) h
other_is u v p Away l z a h = subst (λ y. IsWhole y v u p) (a refl) h

left : (x p u v : ℕ) → p ≤ x → (x - p) * u + p * u ≡ x * u
left x p u v h = let q : x - p + p ≡ x = omega (arith, h) in sym (add-mul (x - p) p u) ∙ ap (λ y. y * u) q

pub part_below : (t : Toward) (x p u v : ℕ) → 0 < u → v ≤ x * u → IsWhole t v u p → p ≤ x
part_below t x p u v l h k =
    let n : p * u < v + u = below_next t v u p k in
    let m : p * u < (x + 1) * u = omega (arith, n, h, add-mul x 1 u, one-mul u) in
    let r : p < x + 1 = lt_of_mul-lt-mul_right u m in
    omega (arith, r)

pub rest_whole : (t : Toward) (x p u v : ℕ) → 0 < u → v ≤ x * u → IsWhole (other_way t) v u p → IsWhole t (x * u - v) u (x - p)
rest_whole Zero x p u v l h k =
    let b : p ≤ x = part_below Away x p u v l h k in
    let e = left x p u v b in
    (omega (arith, e, k.0, k.1, h), omega (arith, e, k.0, k.1, h, add-mul (x - p) 1 u, one-mul u))
rest_whole Away x p u v l h k =
    let b : p ≤ x = part_below Zero x p u v l h k in
    let e = left x p u v b in
    (omega (arith, e, k.0, k.1, h), omega (arith, e, k.0, k.1, h, add-mul p 1 u, one-mul u))

pub rest_exact : (x p u v : ℕ) → p ≤ x → p * u ≡ v → (x - p) * u ≡ x * u - v
rest_exact x p u v b q = omega (arith, left x p u v b, q)

-- A difference that is a size is one after rounding.
pub exact_sized : (t : Toward) (v : ℕ) (m : Magnitude) → size_of m ≡ v → IsSized t v 1 (Some m)
exact_sized t v m q =
    let one : 0 < 1 = omega arith in
    let unit : 2 ^ m.exponent * 1 ≡ 2 ^ m.exponent = mul-one (2 ^ m.exponent) in
    kept_sized t m.mantissa m.exponent v 1 m refl one m.mantissa_fits m.exponent_fits m.justified
    (λ p. let l : 2 ^ 61 * 2 ^ m.exponent ≤ m.mantissa * 2 ^ m.exponent = mul-le-mul_right (2 ^ m.exponent) (m.justified p) in omega (arith, l, unit, q))
    (subst (λ u. IsWhole t v u m.mantissa) (sym unit) (exact_whole t v (2 ^ m.exponent) m.mantissa (pow_pos m.exponent) q))

-- Far sizes leave more than half of the units.
pub far_rest : (m f e x : ℕ) → f < e → m < 2 ^ 62 → 2 ^ 62 ≤ x → 2 ^ 61 * 2 ^ e ≤ x * 2 ^ e - m * 2 ^ f
far_rest m f e x l h k =
    let two : 0 < 2 = omega arith in
    let u : 2 ^ (f + 1) ≤ 2 ^ e = pow-le-pow_right two (omega (arith, l)) in
    let d : 2 ^ (f + 1) ≡ 2 ^ f * 2 ^ 1 = pow-add 2 f 1 in
    let s : m * 2 ^ f ≤ 2 ^ 62 * 2 ^ f = mul-le-mul_right (2 ^ f) (omega (arith, h)) in
    let b : 2 ^ 62 * 2 ^ e ≤ x * 2 ^ e = mul-le-mul_right (2 ^ e) k in
    omega (arith, u, d, s, b)

-- Sizes of whole units are exact.
pub at_zero : (m n e f : ℕ) → e ≡ 0 → f ≡ 0 → (m - n) * 2 ^ 0 ≡ m * 2 ^ e - n * 2 ^ f
at_zero m n e f p q =
    let a : m * 2 ^ e ≡ m * 2 ^ 0 = ap (λ x. m * 2 ^ x) p in
    let b : n * 2 ^ f ≡ n * 2 ^ 0 = ap (λ x. n * 2 ^ x) q in
    omega (arith, a, b)

-- The difference of m * 2 ^ e and n * 2 ^ f in units of 2 ^ g, p of which are taken off.

pub taken_below : (t : Toward) (m e n f g p : ℕ) → g + 1 ≡ e → n * 2 ^ f ≤ m * 2 ^ e → IsWhole t (n * 2 ^ f) (2 ^ g) p → p ≤ m * 2
taken_below t m e n f g p q h k =
    let s : m * 2 * 2 ^ g ≡ m * 2 ^ e = doubled_exact m e g (omega (arith, q)) (omega (arith, q)) in
    part_below t (m * 2) p (2 ^ g) (n * 2 ^ f) (pow_pos g) (omega (arith, s, h)) k

pub word_whole : (t k : Toward) (m e n f g p : ℕ) → g + 1 ≡ e → n * 2 ^ f ≤ m * 2 ^ e → (t ≡ Zero → k ≡ Away) → (t ≡ Away → k ≡ Zero) → IsWhole k (n * 2 ^ f) (2 ^ g) p → IsWhole t (m * 2 ^ e - n * 2 ^ f) (2 ^ g * 1) (m * 2 - p)
word_whole t k m e n f g p q h z a w =
    let s : m * 2 * 2 ^ g ≡ m * 2 ^ e = doubled_exact m e g (omega (arith, q)) (omega (arith, q)) in
    let unit : 2 ^ g * 1 ≡ 2 ^ g = mul-one (2 ^ g) in
    subst (λ u. IsWhole t (m * 2 ^ e - n * 2 ^ f) u (m * 2 - p)) (sym unit)
    (subst (λ y. IsWhole t (y - n * 2 ^ f) (2 ^ g) (m * 2 - p)) s
    (rest_whole t (m * 2) p (2 ^ g) (n * 2 ^ f) (pow_pos g) (omega (arith, s, h)) (other_is (2 ^ g) (n * 2 ^ f) p t k z a w)))

near_exact : (m e n f g p : ℕ) → g + 1 ≡ e → p ≤ m * 2 → p * 2 ^ g ≡ n * 2 ^ f → (m * 2 - p) * 2 ^ g ≡ m * 2 ^ e - n * 2 ^ f
near_exact m e n f g p q b h =
    let s : m * 2 * 2 ^ g ≡ m * 2 ^ e = doubled_exact m e g (omega (arith, q)) (omega (arith, q)) in
    rest_exact (m * 2) p (2 ^ g) (n * 2 ^ f) b h ∙ ap (λ y. y - n * 2 ^ f) s

-- A difference of few units has nothing below them.
pub few_exact : (m e n f g p : ℕ) → g + 1 ≡ e → 2 ^ 61 ≤ m → p ≤ m * 2 → m * 2 - p < 2 ^ 61 → (g ≤ f → p * 2 ^ g ≡ n * 2 ^ f) → (f < g → p ≤ 2 ^ 61) → (m * 2 - p) * 2 ^ g ≡ m * 2 ^ e - n * 2 ^ f
few_exact m e n f g p q j b l near far =
    elim (cases_lt f g) [
      | inl k ↦ let r : p ≤ 2 ^ 61 = far k in absurd (omega (arith, r, j, l))
      | inr k ↦ near_exact m e n f g p q b (near k)
    ]

pub word_high : (m e n f g p : ℕ) → g + 1 ≡ e → 2 ^ 61 ≤ m → n < 2 ^ 62 → p ≤ m * 2 → 2 ^ 61 ≤ m * 2 - p → (g ≤ f → p * 2 ^ g ≡ n * 2 ^ f) → 2 ^ 61 * (2 ^ g * 1) ≤ m * 2 ^ e - n * 2 ^ f
word_high m e n f g p q j h b l near =
    let s : m * 2 * 2 ^ g ≡ m * 2 ^ e = doubled_exact m e g (omega (arith, q)) (omega (arith, q)) in
    let unit : 2 ^ g * 1 ≡ 2 ^ g = mul-one (2 ^ g) in
    elim (cases_lt f g) [
      | inl k ↦
          let r : 2 ^ 61 * 2 ^ g ≤ m * 2 * 2 ^ g - n * 2 ^ f = far_rest n f g (m * 2) k h (omega (arith, j)) in
          omega (arith, r, s, unit)
      | inr k ↦
          let w : (m * 2 - p) * 2 ^ g ≡ m * 2 ^ e - n * 2 ^ f = near_exact m e n f g p q b (near k) in
          let r : 2 ^ 61 * 2 ^ g ≤ (m * 2 - p) * 2 ^ g = mul-le-mul_right (2 ^ g) l in
          omega (arith, r, w, unit)
    ]
