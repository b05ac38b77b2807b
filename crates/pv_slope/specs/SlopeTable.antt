-- The slopes of an expression on a box: for each variable an interval, so that from the centre to any point of the box the
-- expression changes by some numbers of these intervals times the changes of the variables.
--
-- Source: Krawczyk and Neumaier, "Interval slopes for rational functions and associated centered forms" (1985).
use Rattle.std.specs.Prelude.{ℕ, zero, suc, ◌-◌, pos, List, nat_eq, if◌then◌else◌}
use Rattle.pv_num.specs.Extended.{Fin}
use Rattle.pv_num.specs.Grid.{unit}
use Rattle.pv_num.specs.Arithmetic.{neg_of}
use Rattle.pv_num.specs.Order.{le}
use Rattle.pv_interval.specs.Bounds.{Bounds, between}
use Rattle.pv_interval.specs.Tables as table
use Rattle.pv_expr.specs.declared.operators.UnaryOp.{UnaryOp}
use Rattle.pv_expr.specs.declared.operators.UnaryOp.TheVariants.{Neg, Abs, Pow}
use Rattle.pv_expr.specs.declared.operators.BinaryOp.{BinaryOp}
use Rattle.pv_expr.specs.declared.operators.BinaryOp.TheVariants.{Add, Sub, Mul, Div, Min, Max}
use Rattle.pv_expr.specs.Terms.{Term, constant, place, one, two}
use Rattle.pv_slope.specs.Centres.{known, on_box, at_centre}

abbrev pub zero_slope : Bounds
zero_slope = table.exactly table.nought

abbrev pub one_slope : Bounds
one_slope = table.exactly (Fin (pos unit))

-- [-1,1]
abbrev pub either_slope : Bounds
either_slope = between (neg_of (Fin (pos unit))) (Fin (pos unit))

-- f^k c^(n-k), for f on the box and c at its centre
abbrev pub power_term : Bounds → Bounds → ℕ → ℕ → Bounds
power_term f c n k = table.product_of (table.power_of f k) (table.power_of c (n - k))

-- the sum of these over the numbers from 0 to k, in their order
abbrev pub power_terms : Bounds → Bounds → ℕ → ℕ → Bounds
power_terms f c n zero = power_term f c n zero
power_terms f c n (suc k) = table.sum_of (power_terms f c n k) (power_term f c n (suc k))

-- what the slopes of f are multiplied by to be those of f^n
abbrev pub power_factor : Bounds → Bounds → ℕ → Bounds
power_factor f c zero = zero_slope
power_factor f c (suc n) = power_terms f c n n

abbrev pub power_slope : Bounds → Bounds → Bounds → ℕ → Bounds
power_slope f c s zero = zero_slope
power_slope f c s (suc n) = table.product_of (power_factor f c (suc n)) s

abbrev pub absolute_slope : Bounds → Bounds → Bounds
absolute_slope f s =
    if table.is_from_nought f then s
    else if table.is_to_nought f then table.negated s
    else table.product_of either_slope s

-- by the forward interval f, the interval c at the centre and the slope s of the part
abbrev pub unary_slope : UnaryOp → Bounds → Bounds → Bounds → Bounds
unary_slope Neg f c s = table.negated s
unary_slope Abs f c s = absolute_slope f s
unary_slope (Pow n) f c s = power_slope f c s n

-- of the lesser of two parts with forward intervals f and g
abbrev pub least_slope : Bounds → Bounds → Bounds → Bounds → Bounds
least_slope f g s t = if le f.hi g.lo then s else if le g.hi f.lo then t else table.hull_of s t

abbrev pub greatest_slope : Bounds → Bounds → Bounds → Bounds → Bounds
greatest_slope f g s t = if le g.hi f.lo then s else if le f.hi g.lo then t else table.hull_of s t

-- by the quotient of the two intervals at the centre, and g, the divisor's forward interval
abbrev pub quotient_slope : Bounds → Bounds → Bounds → Bounds → Bounds
quotient_slope by g s t = known (table.quotient_of (table.difference_of s (table.product_of by t)) g)

-- by the forward intervals f and g, the intervals c and d at the centre and the slopes s and t of the two parts
abbrev pub binary_slope : BinaryOp → Bounds → Bounds → Bounds → Bounds → Bounds → Bounds → Bounds
binary_slope Add f g c d s t = table.sum_of s t
binary_slope Sub f g c d s t = table.difference_of s t
binary_slope Mul f g c d s t = table.sum_of (table.product_of f t) (table.product_of d s)
binary_slope Div f g c d s t = quotient_slope (known (table.quotient_of c d)) g s t
binary_slope Min f g c d s t = least_slope f g s t
binary_slope Max f g c d s t = greatest_slope f g s t

-- the slope of an expression for variable i
abbrev pub slope_of : List Bounds → ℕ → Term → Bounds
slope_of b i (constant p q) = zero_slope
slope_of b i (place j) = if nat_eq i j then one_slope else zero_slope
slope_of b i (one u t) = unary_slope u (on_box b t) (at_centre b t) (slope_of b i t)
slope_of b i (two o t u) =
    binary_slope o (on_box b t) (on_box b u) (at_centre b t) (at_centre b u) (slope_of b i t) (slope_of b i u)
