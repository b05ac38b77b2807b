-- The centered form of an expression on a box.
use Rattle.std.specs.Prelude.{◌≡◌, ℕ, zero, suc, Bool, true, false, ◌&&◌, List, [], ◌∷◌, length, Option, Some, None, if◌then◌else◌}
use Rattle.pv_num.specs.Extended.{Extended, NegInf, Fin, PosInf}
use Rattle.pv_interval.specs.Bounds.{Bounds}
use Rattle.pv_interval.specs.Fractions.{Fraction}
use Rattle.pv_interval.specs.Points.{Point, LiesInSome}
use Rattle.pv_interval.specs.Tables.{exactly, sum_of, difference_of, product_of, meet_of}
use Rattle.pv_box.specs.Boxes.{IsBox, PointIn}
use Rattle.pv_expr.specs.declared.operators.BinaryOp.TheVariants.{Sub}
use Rattle.pv_expr.specs.Terms.{Term, two, value_at}
use Rattle.pv_expr.specs.Systems.{IsOver}
use Rattle.pv_hc4.specs.Chain.{chain, at}
use Rattle.pv_hc4.specs.Forward.{forward_of}
use Rattle.pv_hc4.specs.Revise.{Sides}
use Rattle.pv_hc4.specs.Totality.{total_of}
use Rattle.pv_slope.specs.Centres.{centre_of, at_centre}
use Rattle.pv_slope.specs.SlopeTable.{slope_of}

abbrev pub is_finite : Extended → Bool
is_finite NegInf = false
is_finite (Fin a) = true
is_finite PosInf = false

-- no end is infinite
abbrev pub has_finite_ends : List Bounds → Bool
has_finite_ends [] = true
has_finite_ends (x ∷ xs) = (is_finite x.lo && is_finite x.hi) && has_finite_ends xs

-- how far the numbers of an interval lie from its centre
abbrev pub from_centre : Bounds → Bounds
from_centre x = difference_of x (exactly (centre_of x))

-- the interval at the centre and the first n slopes, each times its variable's distance from the centre
abbrev pub linear_of : List Bounds → Term → ℕ → Bounds
linear_of b t zero = at_centre b t
linear_of b t (suc n) = sum_of (linear_of b t n) (product_of (slope_of b n t) (from_centre (at b n)))

-- the slope for variable i; None where an end is infinite or a divisor's interval contains 0
abbrev pub slope_where : List Bounds → ℕ → Term → Option Bounds
slope_where b i t = chain (forward_of b t) (λ f. if has_finite_ends b && total_of b t then Some (slope_of b i t) else None)

-- the forward interval f, met with the linear one where all ends are finite and no divisor's interval contains 0
abbrev pub centered_from : List Bounds → Term → Bounds → Option Bounds
centered_from b t f = if has_finite_ends b && total_of b t then meet_of f (linear_of b t (length b)) else Some f

-- the centered form; None where a divisor's interval is [0,0]
abbrev pub centered_of : List Bounds → Term → Option Bounds
centered_of b t = chain (forward_of b t) (centered_from b t)

-- left - right of a constraint's two sides
abbrev pub gap_of : Sides → Term
gap_of s = two Sub s.left s.right

-- an expression's value lies in o at each rational point of the box where it is defined
abbrev pub Encloses : Term → List Bounds → Option Bounds → Type 0
Encloses t b o = (x : Point) (v : Fraction) → PointIn x b → value_at t x.places x.under ≡ Some v → LiesInSome v.top v.under o

-- the centered form on a box of an expression over its variables encloses it
abbrev pub CenteredEncloses : Type 0
CenteredEncloses = (t : Term) (b : List Bounds) → IsOver (length b) t → IsBox b → Encloses t b (centered_of b t)
