use Rattle.std.proofs.Common.{◌≡◌, ℕ, ◌+◌, ◌*◌, ◌^◌, ◌≤◌, Bool, Option, ap, sym, subst, ◌∙◌, one-mul, mul_assoc}
use Rattle.std.proofs.lemmas.Nat.{pow_pos, pow-add}
use Rattle.std.proofs.Math.Nat.{mul-le-mul_right, mul-mul-mul_comm}
use Rattle.pv_num.specs.Grid.{unit}
use Rattle.pv_num.specs.Rounding.{rounded}
use Rattle.pv_num.specs.declared.num.End.{End}
use Rattle.pv_num.proofs.Wholes.{times_whole}
use Rattle.pv_num.specs.Sizes.{IsSized, IsWhole, signed_of, toward_of, with_sign}
use Rattle.pv_num.specs.declared.magnitude.Magnitude.{Magnitude}
use Rattle.pv_num.specs.declared.magnitude.Toward.{Toward}
use Rattle.pv_num.proofs.Align.{shifted_to}
use Rattle.pv_num.proofs.Scales.{by_unit, unit_pos, signed_is}

-- The same value in units.

in_units : (k c e at : ℕ) → c + at ≡ e + 512 → k * 2 ^ c * 2 ^ at ≡ k * 2 ^ e * unit
in_units k c e at q = shifted_to k c at (e + 512) q ∙ by_unit k e

-- The product of two sizes.
pub sizes_product : (t : Toward) (m e n f : ℕ) (r : Option Magnitude) → IsSized t (m * n * 2 ^ (e + f)) unit r → IsSized t (m * 2 ^ e * (n * 2 ^ f)) unit r
sizes_product t m e n f r h =
    let s : m * 2 ^ e * (n * 2 ^ f) ≡ m * n * 2 ^ (e + f) = mul-mul-mul_comm m (2 ^ e) n (2 ^ f) ∙ ap (λ x. m * n * x) (sym (pow-add 2 e f)) in
    subst (λ v. IsSized t v unit r) (sym s) h

-- A product of so many whole units of 2 ^ 61, in units.

units_are : (e at : ℕ) → 61 + at ≡ e + 512 → 2 ^ 61 * 2 ^ at ≡ 2 ^ e * unit
units_are e at q =
    let own : 1 * 2 ^ 61 * 2 ^ at ≡ 1 * 2 ^ e * unit = in_units 1 61 e at q in
    sym (ap (λ x. x * 2 ^ at) (one-mul (2 ^ 61))) ∙ own ∙ ap (λ x. x * unit) (one-mul (2 ^ e))

pub cut_in_units : (t : Toward) (p e at w : ℕ) → 61 + at ≡ e + 512 → IsWhole t p (2 ^ 61) w → IsWhole t (p * 2 ^ at) (2 ^ e * unit) w
cut_in_units t p e at w q h = subst (λ u. IsWhole t (p * 2 ^ at) u w) (units_are e at q) (times_whole t p (2 ^ 61) (2 ^ at) w (pow_pos at) h)

pub full_in_units : (p e at : ℕ) → 61 + at ≡ e + 512 → 2 ^ 61 * 2 ^ 61 ≤ p → 2 ^ 61 * (2 ^ e * unit) ≤ p * 2 ^ at
full_in_units p e at q h =
    subst (λ u. 2 ^ 61 * u ≤ p * 2 ^ at) (units_are e at q)
    (subst (λ y. y ≤ p * 2 ^ at) (mul_assoc (2 ^ 61) (2 ^ 61) (2 ^ at)) (mul-le-mul_right (2 ^ at) h))

-- A product of sizes, rounded, as a number of a sign.
pub product_rounded : (side : End) (s : Bool) (t : Toward) (m e n f : ℕ) (r : Option Magnitude) → t ≡ toward_of side s → IsSized t (m * n * 2 ^ (e + f)) unit r → signed_of s r ≡ rounded side (with_sign s (m * 2 ^ e * (n * 2 ^ f))) unit
product_rounded side s t m e n f r et h =
    signed_is side s (m * 2 ^ e * (n * 2 ^ f)) unit r unit_pos (subst (λ z. IsSized z (m * 2 ^ e * (n * 2 ^ f)) unit r) et (sizes_product t m e n f r h))
