-- Projections, if an end of the target is the one of the operation's own interval.
use Rattle.std.specs.Prelude.{◌≡◌, Option}
use Rattle.pv_num.specs.Extended.{Extended}
use Rattle.pv_num.specs.Order.{lesser, greater}
use Rattle.pv_num.specs.Arithmetic.{add_of, sub_of}
use Rattle.pv_num.specs.declared.num.End.TheVariants.{Down, Up}
use Rattle.pv_interval.specs.Bounds.{Bounds, interval_from}
use Rattle.pv_project.specs.Projections.{narrowed}
use Rattle.pv_project.specs.declared.resting.Rest.{Rest}
use Rattle.pv_project.specs.declared.resting.Rest.TheVariants.{Neither, Lower, Upper}

-- an end of a target z is the one of an interval
abbrev pub Rests : Rest → Bounds → Bounds → Type 0
Rests Neither z own = Unit {0}
Rests Lower z own = z.lo ≡ own.lo
Rests Upper z own = z.hi ≡ own.hi

-- the numbers of x up to an end, and from one on
abbrev pub up_to_of : Bounds → Extended → Option Bounds
up_to_of x hi = interval_from x.lo (lesser x.hi hi)

abbrev pub from_of : Bounds → Extended → Option Bounds
from_of x lo = interval_from (greater x.lo lo) x.hi

-- both arguments if the lower end of z rests, and if the upper one does
unfoldable pub sum_below_of : Bounds → Bounds → Bounds → Option (Bounds × Bounds)
sum_below_of z x y = narrowed (up_to_of x (sub_of Up z.hi y.lo)) (λ x'. up_to_of y (sub_of Up z.hi x'.lo))

unfoldable pub sum_above_of : Bounds → Bounds → Bounds → Option (Bounds × Bounds)
sum_above_of z x y = narrowed (from_of x (sub_of Down z.lo y.hi)) (λ x'. from_of y (sub_of Down z.lo x'.hi))

unfoldable pub difference_below_of : Bounds → Bounds → Bounds → Option (Bounds × Bounds)
difference_below_of z x y = narrowed (up_to_of x (add_of Up z.hi y.hi)) (λ x'. from_of y (sub_of Down x'.lo z.hi))

unfoldable pub difference_above_of : Bounds → Bounds → Bounds → Option (Bounds × Bounds)
difference_above_of z x y = narrowed (from_of x (add_of Down z.lo y.lo)) (λ x'. up_to_of y (sub_of Up x'.hi z.lo))
