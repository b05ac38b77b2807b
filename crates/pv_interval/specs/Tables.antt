-- The operations on intervals, end by end: a lower end is rounded down and an upper end up.
use Rattle.std.specs.Prelude.{ℕ, ◌%◌, Bool, ◌&&◌, pos, Option, Some, None, if◌then◌else◌, eqb}
use Rattle.pv_num.specs.Extended.{Extended, NegInf, Fin, PosInf}
use Rattle.pv_num.specs.Grid.{unit}
use Rattle.pv_num.specs.Order.{le, lt, lesser, greater}
use Rattle.pv_num.specs.Arithmetic.{neg_of, add_of, sub_of, mul_of, div_of, pow_of}
use Rattle.pv_num.specs.declared.num.End.{End}
use Rattle.pv_num.specs.declared.num.End.TheVariants.{Down, Up}
use Rattle.pv_interval.specs.Bounds.{Bounds, between, everything}

abbrev pub nought : Extended
nought = Fin (pos 0)

abbrev pub exactly : Extended → Bounds
exactly e = record { lo = e; hi = e }

-- every number of the interval is at least 0
abbrev pub is_from_nought : Bounds → Bool
is_from_nought x = le nought x.lo

-- every number of the interval is at most 0
abbrev pub is_to_nought : Bounds → Bool
is_to_nought x = le x.hi nought

-- 0 lies in the interval
abbrev pub has_nought : Bounds → Bool
has_nought x = le x.lo nought && le nought x.hi

-- the interval is [0,0]
abbrev pub is_nought : Bounds → Bool
is_nought x = is_from_nought x && is_to_nought x

-- numbers below 0 and above 0 lie in the interval
abbrev pub crosses_nought : Bounds → Bool
crosses_nought x = lt x.lo nought && lt nought x.hi

unfoldable pub sum_of : Bounds → Bounds → Bounds
sum_of x y = record { lo = add_of Down x.lo y.lo; hi = add_of Up x.hi y.hi }

unfoldable pub difference_of : Bounds → Bounds → Bounds
difference_of x y = record { lo = sub_of Down x.lo y.hi; hi = sub_of Up x.hi y.lo }

abbrev pub least_of_four : Extended → Extended → Extended → Extended → Extended
least_of_four p q r s = lesser (lesser p q) (lesser r s)

abbrev pub greatest_of_four : Extended → Extended → Extended → Extended → Extended
greatest_of_four p q r s = greater (greater p q) (greater r s)

-- the least and the greatest of an operation at the four pairs of ends
abbrev pub of_ends : (End → Extended → Extended → Extended) → Bounds → Bounds → Bounds
of_ends op x y = record {
  lo = least_of_four (op Down x.lo y.lo) (op Down x.lo y.hi) (op Down x.hi y.lo) (op Down x.hi y.hi);
  hi = greatest_of_four (op Up x.lo y.lo) (op Up x.lo y.hi) (op Up x.hi y.lo) (op Up x.hi y.hi);
}

unfoldable pub product_of : Bounds → Bounds → Bounds
product_of x y = of_ends mul_of x y

unfoldable pub negated : Bounds → Bounds
negated x = record { lo = neg_of x.hi; hi = neg_of x.lo }

unfoldable pub absolute : Bounds → Bounds
absolute x =
    if is_from_nought x then x
    else if is_to_nought x then negated x
    else record { lo = nought; hi = greater (neg_of x.lo) x.hi }

unfoldable pub least_of : Bounds → Bounds → Bounds
least_of x y = record { lo = lesser x.lo y.lo; hi = lesser x.hi y.hi }

unfoldable pub greatest_of : Bounds → Bounds → Bounds
greatest_of x y = record { lo = greater x.lo y.lo; hi = greater x.hi y.hi }

-- a power that keeps the sign: rounded to a side from 0 on, and below 0 to the other side by the size
abbrev pub signed_power : End → End → Extended → ℕ → Extended
signed_power side other e n = if le nought e then pow_of side e n else neg_of (pow_of other (neg_of e) n)

abbrev pub odd_power : Bounds → ℕ → Bounds
odd_power x n = record { lo = signed_power Down Up x.lo n; hi = signed_power Up Down x.hi n }

abbrev pub even_power : Bounds → ℕ → Bounds
even_power x n =
    if is_from_nought x then record { lo = pow_of Down x.lo n; hi = pow_of Up x.hi n }
    else if is_to_nought x then
    record { lo = pow_of Down (neg_of x.hi) n; hi = pow_of Up (neg_of x.lo) n }
    else record { lo = nought; hi = greater (pow_of Up (neg_of x.lo) n) (pow_of Up x.hi n) }

unfoldable pub power_of : Bounds → ℕ → Bounds
power_of x n =
    if eqb n 0 then exactly (Fin (pos unit))
    else if eqb (n % 2) 0 then even_power x n
    else odd_power x n

-- the quotient by [0,d], d above 0
abbrev pub over_from_nought : Bounds → Extended → Bounds
over_from_nought x d =
    if is_from_nought x then between (div_of Down x.lo d) PosInf
    else if is_to_nought x then between NegInf (div_of Up x.hi d)
    else everything

-- the quotient by [c,0], c below 0
abbrev pub over_to_nought : Bounds → Extended → Bounds
over_to_nought x c =
    if is_from_nought x then between NegInf (div_of Up x.lo c)
    else if is_to_nought x then between (div_of Down x.hi c) PosInf
    else everything

-- the quotient where 0 lies in the divisor y, y is not [0,0] and x is not [0,0]
abbrev pub quotient_across : Bounds → Bounds → Bounds
quotient_across x y =
    if crosses_nought y then everything
    else if le nought y.lo then over_from_nought x y.hi
    else over_to_nought x y.lo

-- None is empty: the divisor is [0,0]
unfoldable pub quotient_of : Bounds → Bounds → Option Bounds
quotient_of x y =
    if is_nought y then None
    else if has_nought y then Some (if is_nought x then exactly nought else quotient_across x y)
    else Some (of_ends div_of x y)

unfoldable pub hull_of : Bounds → Bounds → Bounds
hull_of x y = record { lo = lesser x.lo y.lo; hi = greater x.hi y.hi }

-- None is empty: no number is common to both
unfoldable pub meet_of : Bounds → Bounds → Option Bounds
meet_of x y =
    if le (greater x.lo y.lo) (lesser x.hi y.hi)
    then Some (record { lo = greater x.lo y.lo; hi = lesser x.hi y.hi })
    else None

unfoldable pub width_of : Bounds → Extended
width_of x = sub_of Up x.hi x.lo

-- e lies in the interval
abbrev pub holds : Bounds → Extended → Bool
holds x e = le x.lo e && le e x.hi
