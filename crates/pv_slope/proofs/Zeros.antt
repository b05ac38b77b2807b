-- The slope of an operation on parts that have the slope 0.
use Rattle.std.proofs.Common.{◌≡◌, zero, suc, refl, ap, sym, subst, ◌∙◌, arith, pos, negsuc}
use Rattle.std.proofs.lemmas.Bool.{true≢false, and_from, not-true}
use Rattle.std.specs.Prelude.{Bool, true, false, Option, Some, None, if◌then◌else◌}
use Rattle.std.proofs.Math.IntN.{*ℤ-zero, zero-*ℤ}
use Rattle.pv_num.specs.Arithmetic.{mul_of, div_of}
use Rattle.pv_num.specs.Extended.{Extended, NegInf, Fin, PosInf}
use Rattle.pv_num.specs.Grid.{unit}
use Rattle.pv_num.specs.Order.{le}
use Rattle.pv_num.specs.Rounding.{rounded}
use Rattle.pv_num.specs.declared.num.End.{End}
use Rattle.pv_num.specs.declared.num.End.TheVariants.{Down, Up}
use Rattle.pv_num.proofs.Monotone.{rounded-zero}
use Rattle.pv_num.proofs.Orders.{le-refl, le-trans, le-antisym}
use Rattle.pv_num.proofs.Scales.{unit_pos}
use Rattle.pv_interval.specs.Bounds.{Bounds, IsInterval}
use Rattle.pv_interval.specs.Tables.{nought, is_from_nought, is_to_nought, has_nought, is_nought, least_of_four, greatest_of_four, of_ends, sum_of, difference_of, product_of, quotient_of, negated, hull_of}
use Rattle.pv_expr.specs.declared.operators.UnaryOp.{UnaryOp}
use Rattle.pv_expr.specs.declared.operators.UnaryOp.TheVariants.{Neg, Abs, Pow}
use Rattle.pv_expr.specs.declared.operators.BinaryOp.{BinaryOp}
use Rattle.pv_expr.specs.declared.operators.BinaryOp.TheVariants.{Add, Sub, Mul, Div, Min, Max}
use Rattle.pv_hc4.specs.Totality.{divides_well}
use Rattle.pv_slope.specs.Centres.{known}
use Rattle.pv_slope.specs.Flat.{unary_slope_by, binary_slope_by}
use Rattle.pv_slope.specs.SlopeTable.{zero_slope, either_slope, quotient_slope}
use Rattle.pv_slope.proofs.Centring.{both_true}
use Rattle.pv_slope.proofs.Weighing.{truth}

pub same_ends : (x y : Bounds) → x.lo ≡ y.lo → x.hi ≡ y.hi → x ≡ y
same_ends x y e h = λ i. record { lo = e i; hi = h i }

by_nought : (side : End) (e : Extended) → mul_of side e nought ≡ nought
by_nought side NegInf = refl
by_nought side (Fin a) = ap (λ z. rounded side z unit) (*ℤ-zero a) ∙ rounded-zero side unit unit_pos
by_nought side PosInf = refl

nought_by : (side : End) (e : Extended) → mul_of side nought e ≡ nought
nought_by side NegInf = refl
nought_by side (Fin a) = ap (λ z. rounded side z unit) (zero-*ℤ a) ∙ rounded-zero side unit unit_pos
nought_by side PosInf = refl

pub least_nought : (p q r s : Extended) → p ≡ nought → q ≡ nought → r ≡ nought → s ≡ nought → least_of_four p q r s ≡ nought
least_nought p q r s e f g h = let same : least_of_four nought nought nought nought ≡ nought = refl in cc

pub greatest_nought : (p q r s : Extended) → p ≡ nought → q ≡ nought → r ≡ nought → s ≡ nought → greatest_of_four p q r s ≡ nought
greatest_nought p q r s e f g h = let same : greatest_of_four nought nought nought nought ≡ nought = refl in cc

pub times_zero : (x : Bounds) → product_of x zero_slope ≡ zero_slope
unfolding product_of
times_zero x =
    same_ends (product_of x zero_slope) zero_slope
    (least_nought _ _ _ _ (by_nought Down x.lo) (by_nought Down x.lo) (by_nought Down x.hi) (by_nought Down x.hi))
    (greatest_nought _ _ _ _ (by_nought Up x.lo) (by_nought Up x.lo) (by_nought Up x.hi) (by_nought Up x.hi))

pub zero_times : (x : Bounds) → product_of zero_slope x ≡ zero_slope
unfolding product_of
zero_times x =
    same_ends (product_of zero_slope x) zero_slope
    (least_nought _ _ _ _ (nought_by Down x.lo) (nought_by Down x.hi) (nought_by Down x.lo) (nought_by Down x.hi))
    (greatest_nought _ _ _ _ (nought_by Up x.lo) (nought_by Up x.hi) (nought_by Up x.lo) (nought_by Up x.hi))

sum_zero : sum_of zero_slope zero_slope ≡ zero_slope
unfolding sum_of
sum_zero = same_ends (sum_of zero_slope zero_slope) zero_slope (rounded-zero Down 1 (omega arith)) (rounded-zero Up 1 (omega arith))

difference_zero : difference_of zero_slope zero_slope ≡ zero_slope
unfolding difference_of
difference_zero = same_ends (difference_of zero_slope zero_slope) zero_slope (rounded-zero Down 1 (omega arith)) (rounded-zero Up 1 (omega arith))

negated_zero : negated zero_slope ≡ zero_slope
unfolding negated
negated_zero = refl

hull_zero : hull_of zero_slope zero_slope ≡ zero_slope
unfolding hull_of
hull_zero = refl

-- one of three that are the same
of_three : (s t : Bool) (x y z w : Bounds) → x ≡ w → y ≡ w → z ≡ w → (if s then x else if t then y else z) ≡ w
of_three true t x y z w e f g = e
of_three false true x y z w e f g = f
of_three false false x y z w e f g = g

pub unary_zero : (o : UnaryOp) (by f : Bounds) → unary_slope_by o by f zero_slope ≡ zero_slope
unary_zero Neg by f = negated_zero
unary_zero Abs by f = of_three (is_from_nought f) (is_to_nought f) zero_slope (negated zero_slope) (product_of either_slope zero_slope) zero_slope refl negated_zero (times_zero either_slope)
unary_zero (Pow zero) by f = refl
unary_zero (Pow (suc n)) by f = times_zero by

-- ---- quotients, whose divisor lacks 0

over_end : (side : End) (e : Extended) → (e ≡ nought → ⊥) → div_of side nought e ≡ nought
over_end side NegInf h = refl
over_end side (Fin (pos zero)) h = absurd (h refl)
over_end side (Fin (pos (suc n))) h = ap (λ z. rounded side z (suc n)) (zero-*ℤ (pos unit)) ∙ rounded-zero side (suc n) (omega arith)
over_end side (Fin (negsuc n)) h = ap (λ z. rounded side z (suc n)) (zero-*ℤ (pos unit)) ∙ rounded-zero side (suc n) (omega arith)
over_end side PosInf h = refl

not_low : (g : Bounds) → IsInterval g → has_nought g ≡ false → g.lo ≡ nought → ⊥
not_low g i h e =
    true≢false (sym (and_from (le g.lo nought) (le nought g.hi) (subst (λ x. le x nought ≡ true) (sym e) (le-refl nought)) (subst (λ x. le x g.hi ≡ true) e i.ordered)) ∙ h)

not_high : (g : Bounds) → IsInterval g → has_nought g ≡ false → g.hi ≡ nought → ⊥
not_high g i h e =
    true≢false (sym (and_from (le g.lo nought) (le nought g.hi) (subst (λ x. le g.lo x ≡ true) e i.ordered) (subst (λ x. le nought x ≡ true) (sym e) (le-refl nought))) ∙ h)

not_alone : (g : Bounds) → IsInterval g → has_nought g ≡ false → is_nought g ≡ false
not_alone g i h =
    truth (is_nought g)
    (λ e. let p = both_true (is_from_nought g) (is_to_nought g) e in not_low g i h (le-antisym g.lo nought (le-trans g.lo g.hi nought i.ordered p.1) p.0))

third : (s t : Bool) (x : Option Bounds) (y : Bounds) → s ≡ false → t ≡ false → (if s then None else if t then x else Some y) ≡ Some y
third s t x y e f = ap (λ q. if q then None else if t then x else Some y) e ∙ ap (λ q. if q then x else Some y) f

quotient_nought : (g : Bounds) → IsInterval g → has_nought g ≡ false → quotient_of zero_slope g ≡ Some zero_slope
unfolding quotient_of
quotient_nought g i h =
    let low = not_low g i h in
    let high = not_high g i h in
    third (is_nought g) (has_nought g) _ (of_ends div_of zero_slope g) (not_alone g i h) h
    ∙ ap Some (same_ends (of_ends div_of zero_slope g) zero_slope
    (least_nought _ _ _ _ (over_end Down g.lo low) (over_end Down g.hi high) (over_end Down g.lo low) (over_end Down g.hi high))
    (greatest_nought _ _ _ _ (over_end Up g.lo low) (over_end Up g.hi high) (over_end Up g.lo low) (over_end Up g.hi high)))

quotient_zero : (by g : Bounds) → IsInterval g → has_nought g ≡ false → quotient_slope by g zero_slope zero_slope ≡ zero_slope
quotient_zero by g i h =
    ap (λ x. known (quotient_of (difference_of zero_slope x) g)) (times_zero by) ∙ ap (λ x. known (quotient_of x g)) difference_zero ∙ ap known (quotient_nought g i h)

pub binary_zero : (o : BinaryOp) (by f g d : Bounds) → divides_well o (Some g) ≡ true → IsInterval g → binary_slope_by o by f g d zero_slope zero_slope ≡ zero_slope
binary_zero Add by f g d h i = sum_zero
binary_zero Sub by f g d h i = difference_zero
binary_zero Mul by f g d h i = ap (λ x. sum_of x (product_of d zero_slope)) (times_zero f) ∙ ap (sum_of zero_slope) (times_zero d) ∙ sum_zero
binary_zero Div by f g d h i = quotient_zero by g i (not-true (has_nought g) h)
binary_zero Min by f g d h i = of_three _ _ zero_slope zero_slope (hull_of zero_slope zero_slope) zero_slope refl refl hull_zero
binary_zero Max by f g d h i = of_three _ _ zero_slope zero_slope (hull_of zero_slope zero_slope) zero_slope refl refl hull_zero
