use Rattle.std.proofs.Common.{◌≡◌, ℕ, ◌+◌, ◌-◌, ◌*◌, ◌^◌, ◌<◌, ◌≤◌, Bool, Option, Some, None, arith, refl, ap, sym, subst, ◌∙◌}
use Rattle.std.proofs.lemmas.Nat.{pow_pos}
use Rattle.std.proofs.Math.Nat.{mul-le-mul_right, mul-lt-mul_of_pos_right, lt_of_mul-lt-mul_right, le_of_mul-le-mul_right, mul_assoc, mul_right_comm}
use Rattle.pv_num.specs.Grid.{unit}
use Rattle.pv_num.specs.Rounding.{rounded}
use Rattle.pv_num.specs.Sizes.{size_of, IsSized, fine, signed_of, toward_of, with_sign}
use Rattle.pv_num.specs.declared.num.End.{End}
use Rattle.pv_num.specs.declared.magnitude.Magnitude.{Magnitude}
use Rattle.pv_num.specs.declared.magnitude.Toward.{Toward}
use Rattle.pv_num.specs.declared.magnitude.Toward.TheVariants.{Zero, Away}
use Rattle.pv_num.proofs.Align.{shifted_to}
use Rattle.pv_num.proofs.Rounds.{at_fine, fine_pos}
use Rattle.pv_num.proofs.Signs.{signed_rounded}
use Rattle.pv_num.proofs.Rounding.{rounded-unique}

-- ---- Equal quotients are rounded alike

crossed : (f v b w d : ℕ) → v * d ≡ w * b → (f * d * b ≡ f * b * d) × (w * b ≡ v * d)
crossed f v b w d e = (mul_right_comm f d b, sym e)

cross_le : (f v b w d : ℕ) → 0 < b → v * d ≡ w * b → f * b ≤ v → f * d ≤ w
cross_le f v b w d p e h =
    let k : f * b * d ≤ v * d = mul-le-mul_right d h in
    let l : f * d * b ≤ w * b = subst (λ x. x ≤ w * b) (sym (mul_right_comm f d b)) (subst (λ x. f * b * d ≤ x) e k) in
    le_of_mul-le-mul_right l p

cross_ge : (f v b w d : ℕ) → 0 < b → v * d ≡ w * b → v ≤ f * b → w ≤ f * d
cross_ge f v b w d p e h =
    let k : v * d ≤ f * b * d = mul-le-mul_right d h in
    let l : w * b ≤ f * d * b = subst (λ x. w * b ≤ x) (sym (mul_right_comm f d b)) (subst (λ x. x ≤ f * b * d) e k) in
    le_of_mul-le-mul_right l p

cross_lt : (f v b w d : ℕ) → 0 < d → v * d ≡ w * b → f * b < v → f * d < w
cross_lt f v b w d p e h =
    let k : f * b * d < v * d = mul-lt-mul_of_pos_right h p in
    let l : f * d * b < w * b = subst (λ x. x < w * b) (sym (mul_right_comm f d b)) (subst (λ x. f * b * d < x) e k) in
    lt_of_mul-lt-mul_right b l

pub equal_sized : (t : Toward) (v b w d : ℕ) (r : Option Magnitude) → 0 < b → 0 < d → v * d ≡ w * b → IsSized t v b r → IsSized t w d r
equal_sized Zero v b w d None p q e h = h
equal_sized Zero v b w d (Some m) p q e h = record {
  grid = h.grid;
  below = cross_le (size_of m) v b w d p e h.below;
  greatest = λ f g l. h.greatest f g (cross_le f w d v b q (sym e) l);
}
equal_sized Away v b w d None p q e h = λ f g. cross_lt f v b w d q e (h f g)
equal_sized Away v b w d (Some m) p q e h = record {
  grid = h.grid;
  above = cross_ge (size_of m) v b w d p e h.above;
  least = λ f g l. h.least f g (cross_ge f w d v b q (sym e) l);
}

-- ---- The units

pub at_unit : (P : ℕ → Type 0) → ((s : ℕ) → s ≡ 512 → P (2 ^ s)) → P unit
unfolding unit
at_unit P h = h 512 refl

pub unit_pos : 0 < unit
unit_pos = at_unit (λ b. 0 < b) (λ s q. pow_pos s)

pub fine-unit : fine ≡ unit * unit
unfolding fine unit
fine-unit = refl

pub by_unit : (p k : ℕ) → p * 2 ^ (k + 512) ≡ p * 2 ^ k * unit
by_unit p k = at_unit (λ u. p * 2 ^ (k + 512) ≡ p * 2 ^ k * u) (λ s q. let e : k + s ≡ k + 512 = omega (arith, q) in sym (shifted_to p k s (k + 512) e))

-- What `round` gives for a product.
pub round_product : (t : Toward) (p k : ℕ) (r : Option Magnitude) → IsSized t (p * 2 ^ (k + 512)) fine r → IsSized t (p * 2 ^ k) unit r
round_product t p k r h =
    let e : p * 2 ^ (k + 512) * unit ≡ p * 2 ^ k * fine = ap (λ x. x * unit) (by_unit p k) ∙ mul_assoc (p * 2 ^ k) unit unit ∙ ap (λ x. p * 2 ^ k * x) (sym fine-unit) in
    equal_sized t (p * 2 ^ (k + 512)) fine (p * 2 ^ k) unit r fine_pos unit_pos e h

-- What `round` gives for a sum.
pub round_sum : (t : Toward) (v at : ℕ) (r : Option Magnitude) → at ≤ 1024 → IsSized t (v * 2 ^ at) fine r → IsSized t v (2 ^ (1024 - at)) r
round_sum t v at r l h =
    let e : v * 2 ^ at * 2 ^ (1024 - at) ≡ v * fine =
    at_fine (λ b. v * 2 ^ at * 2 ^ (1024 - at) ≡ v * b) (λ s q. let w : at + (1024 - at) ≡ s = omega (arith, q, l) in shifted_to v at (1024 - at) s w) in
    equal_sized t (v * 2 ^ at) fine v (2 ^ (1024 - at)) r fine_pos (pow_pos (1024 - at)) e h

-- ---- From a rounded size to a rounded number

pub signed_is : (side : End) (s : Bool) (v b : ℕ) (r : Option Magnitude) → 0 < b → IsSized (toward_of side s) v b r → signed_of s r ≡ rounded side (with_sign s v) b
signed_is side s v b r p h = rounded-unique side (with_sign s v) b (signed_of s r) p (signed_rounded side s v b r p h)
