use Rattle.std.proofs.Common.{lit≤, ◌≢◌, ℕ, suc, ◌*◌, ◌^◌, ◌<◌, ◌≤◌, IsTrue, arith, sym, subst, ℤ, pos, negsuc, neg_ℤ, ◌*ℤ◌, ◌≤ℤ◌, ◌<ℤ◌, unsigned_abs}
use Rattle.std.proofs.lemmas.Int.{ints}
use Rattle.std.proofs.lemmas.Nat.{mul-le}
use Rattle.std.proofs.Math.IntN.{negsuc-*ℤ-pos}
use Rattle.pv_num.specs.Extended.{Extended, NegInf, Fin, PosInf}
use Rattle.pv_num.specs.Grid.{unit}
use Rattle.pv_num.specs.Order.{le}
use Rattle.pv_num.specs.Rounding.{IsDown, IsUp, rounded, top_size}
use Rattle.pv_num.specs.Arithmetic.{ratio_of}
use Rattle.pv_num.specs.declared.num.End.{End}
use Rattle.pv_num.specs.declared.num.End.TheVariants.{Down, Up}
use Rattle.pv_num.proofs.Rounds.{top_grid}
use Rattle.pv_num.proofs.Signs.{pos_le, neg_grid, neg-mul}
use Rattle.pv_num.proofs.Rounding.{rounded-is}
use Rattle.pv_num.proofs.Monotone.{rounded-monotone, rounded-zero}

-- A ratio from 0 on is rounded to a number from 0 on.
pub ratio-from_zero : (side : End) (n q : ℕ) → 0 < q → IsTrue (le (Fin (pos 0)) (ratio_of side (pos n) q))
ratio-from_zero side n q p =
    subst (λ z. IsTrue (le z (rounded side (pos (n * unit)) q))) (rounded-zero side q p)
    (rounded-monotone side (pos 0) (pos (n * unit)) q p (pos_le 0 (n * unit) (omega arith)))

wide : 10 ^ 37 * unit ≤ top_size
unfolding unit top_size
wide = lit≤ tt

within : (n q : ℕ) → n < 10 ^ 37 → 1 ≤ q → n * unit ≤ top_size * q
within n q h l =
    let a : n * unit ≤ 10 ^ 37 * unit = mul-le n unit (10 ^ 37) unit (omega (arith, h)) (omega arith) in
    let b : top_size * 1 ≤ top_size * q = mul-le top_size 1 top_size q (omega arith) l in
    omega (arith, a, wide, b)

below_top : (p : ℤ) (q : ℕ) → unsigned_abs p < 10 ^ 37 → 1 ≤ q → (p *ℤ pos unit) ≤ℤ (pos top_size *ℤ pos q)
below_top (pos n) q h l = pos_le (n * unit) (top_size * q) (within n q h l)
below_top (negsuc n) q h l = subst (λ x. x ≤ℤ pos (top_size * q)) (sym (negsuc-*ℤ-pos n unit)) (omega (arith, ints))

above_bottom : (p : ℤ) (q : ℕ) → unsigned_abs p < 10 ^ 37 → 1 ≤ q → (neg_ℤ (pos top_size) *ℤ pos q) ≤ℤ (p *ℤ pos unit)
above_bottom (pos n) q h l = subst (λ x. x ≤ℤ pos (n * unit)) (sym (neg-mul (pos top_size) q)) (omega (arith, ints))
above_bottom (negsuc n) q h l =
    let w : suc n * unit ≤ top_size * q = within (suc n) q h l in
    subst (λ x. x ≤ℤ (negsuc n *ℤ pos unit)) (sym (neg-mul (pos top_size) q))
    (subst (λ x. neg_ℤ (pos (top_size * q)) ≤ℤ x) (sym (negsuc-*ℤ-pos n unit)) (omega (arith, ints, w)))

down_finite : (a : ℤ) (q : ℕ) (r : Extended) → (neg_ℤ (pos top_size) *ℤ pos q) ≤ℤ a → IsDown a q r → (r ≢ NegInf) × (r ≢ PosInf)
down_finite a q NegInf h d =
    let l : a <ℤ (neg_ℤ (pos top_size) *ℤ pos q) = d (neg_ℤ (pos top_size)) (neg_grid (pos top_size) top_grid) in
    absurd (omega (arith, ints, l, h))
down_finite a q (Fin n) h d = (λ e. cc, λ e. cc)
down_finite a q PosInf h d = absurd d

up_finite : (a : ℤ) (q : ℕ) (r : Extended) → a ≤ℤ (pos top_size *ℤ pos q) → IsUp a q r → (r ≢ NegInf) × (r ≢ PosInf)
up_finite a q NegInf h u = absurd u
up_finite a q (Fin n) h u = (λ e. cc, λ e. cc)
up_finite a q PosInf h u =
    let l : (pos top_size *ℤ pos q) <ℤ a = u (pos top_size) top_grid in
    absurd (omega (arith, ints, l, h))

-- The ratios that `from_ratio` takes are rounded to finite numbers.
pub ratio-finite : (side : End) (p : ℤ) (q : ℕ) → unsigned_abs p < 10 ^ 37 → 1 ≤ q → (ratio_of side p q ≢ NegInf) × (ratio_of side p q ≢ PosInf)
ratio-finite Down p q h l = down_finite (p *ℤ pos unit) q (ratio_of Down p q) (above_bottom p q h l) (rounded-is Down (p *ℤ pos unit) q l)
ratio-finite Up p q h l = up_finite (p *ℤ pos unit) q (ratio_of Up p q) (below_top p q h l) (rounded-is Up (p *ℤ pos unit) q l)
