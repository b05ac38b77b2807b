-- The centre of a box, and an expression's interval there.
use Rattle.std.specs.Prelude.{List, Option, unwrap_or}
use Rattle.pv_num.specs.Extended.{Extended}
use Rattle.pv_num.specs.Arithmetic.{middle_of}
use Rattle.pv_interval.specs.Bounds.{Bounds, everything}
use Rattle.pv_interval.specs.Tables.{exactly, meet_of}
use Rattle.pv_expr.specs.Terms.{Term, constant, place, one, two}
use Rattle.pv_hc4.specs.Chain.{at}
use Rattle.pv_hc4.specs.Forward.{constant_of, unary_of, binary_of, forward_of}

-- the middle of an interval, or its lower end where it has none
abbrev pub centre_of : Bounds → Extended
centre_of x = unwrap_or (middle_of x.lo x.hi) x.lo

-- an interval that is known to be there
abbrev pub known : Option Bounds → Bounds
known o = unwrap_or o everything

-- x met with y, of which it is known that some number lies in both
abbrev pub met_with : Bounds → Bounds → Bounds
met_with x y = unwrap_or (meet_of x y) y

-- the forward interval of an expression on a box
abbrev pub on_box : List Bounds → Term → Bounds
on_box b t = known (forward_of b t)

-- the interval of an expression at the centre of a box: the operations at the parts' intervals there, each met with the
-- forward interval on the box
abbrev pub at_centre : List Bounds → Term → Bounds
at_centre b (constant p q) = constant_of p q
at_centre b (place i) = exactly (centre_of (at b i))
at_centre b (one u t) = met_with (unary_of u (at_centre b t)) (on_box b (one u t))
at_centre b (two o t u) = met_with (known (binary_of o (at_centre b t) (at_centre b u))) (on_box b (two o t u))
