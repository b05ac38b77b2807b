use Rattle.std.proofs.Common.{◌≡◌, ℕ, ◌+◌, ◌*◌, ◌^◌, ◌<◌, ◌≤◌, Option, Some, None, arith, refl, ap, sym, subst, mul-one}
use Rattle.std.proofs.lemmas.Nat.{pow_pos, pow-add}
use Rattle.std.proofs.Math.Nat.{mul-le-mul_right, add-mul}
use Rattle.pv_num.specs.Grid.{IsGridSize}
use Rattle.pv_num.specs.Rounding.{top_size}
use Rattle.pv_num.specs.Sizes.{IsSizeOf, IsFloorSize, IsSized}
use Rattle.pv_num.specs.declared.magnitude.Magnitude.{Magnitude}
use Rattle.pv_num.specs.declared.magnitude.Toward.{Toward}
use Rattle.pv_num.specs.declared.magnitude.Toward.TheVariants.{Zero, Away}
use Rattle.pv_num.proofs.Align.{shifted_to}
use Rattle.pv_num.proofs.Rounds.{below_all, at_most_top, top_grid}

-- What a size adds to a greater one lies between two neighbours.

pub sum_low : (m n p d e f : ℕ) → d + f ≡ e → p * 2 ^ d ≤ n → (m + p) * 2 ^ e ≤ m * 2 ^ e + n * 2 ^ f
sum_low m n p d e f q h =
    let s : p * 2 ^ d * 2 ^ f ≡ p * 2 ^ e = shifted_to p d f e q in
    let l : p * 2 ^ d * 2 ^ f ≤ n * 2 ^ f = mul-le-mul_right (2 ^ f) h in
    omega (arith, s, l, add-mul m p (2 ^ e))

pub sum_high : (m n p d e f : ℕ) → d + f ≡ e → n < (p + 1) * 2 ^ d → m * 2 ^ e + n * 2 ^ f < (m + p + 1) * 2 ^ e
sum_high m n p d e f q h =
    let s : (p + 1) * 2 ^ d * 2 ^ f ≡ (p + 1) * 2 ^ e = shifted_to (p + 1) d f e q in
    let h' : n + 1 ≤ (p + 1) * 2 ^ d = omega (arith, h) in
    let l : (n + 1) * 2 ^ f ≤ (p + 1) * 2 ^ d * 2 ^ f = mul-le-mul_right (2 ^ f) h' in
    omega (arith, s, l, pow_pos f, add-mul n 1 (2 ^ f), add-mul m (p + 1) (2 ^ e), ap (λ x. x * 2 ^ e) (assoc m p))
  where
    assoc : (m p : ℕ) → m + p + 1 ≡ m + (p + 1)
    assoc m p = omega arith

-- A value with 63 bits above the greatest exponent is above all sizes.

above_all : (s e v f : ℕ) → e ≡ 962 → 2 ^ 62 ≤ s → s * 2 ^ e ≤ v → IsGridSize f → f * 1 < v
above_all s e v f q l h g =
    let a : f < 2 ^ (62 + e) = below_all f e q g in
    let b : 2 ^ 62 * 2 ^ e ≤ s * 2 ^ e = mul-le-mul_right (2 ^ e) l in
    omega (arith, a, b, h, pow-add 2 62 e, mul-one f)

pub past_top : (t : Toward) (s e v : ℕ) (r : Option Magnitude) → e ≡ 962 → 2 ^ 62 ≤ s → s * 2 ^ e ≤ v → (t ≡ Zero → IsSizeOf r top_size) → (t ≡ Away → r ≡ None) → IsSized t v 1 r
past_top Zero s e v None q l h z a = z refl
past_top Zero s e v (Some m) q l h z a =
    let o = above_all s e v top_size q l h top_grid in
    subst (IsFloorSize v 1) (sym (z refl)) (record {
      grid = top_grid;
      below = omega (arith, o);
      greatest = λ f g _. at_most_top f g;
    })
past_top Away s e v None q l h z a = λ f g. above_all s e v f q l h g
past_top Away s e v (Some m) q l h z a = let e = a refl in cc
