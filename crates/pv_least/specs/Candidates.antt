-- The three points of a box at which the objective is tried.
use Rattle.std.specs.Prelude.{pos, List, Option, Some, None, map}
use Rattle.pv_num.specs.Extended.{Extended, NegInf, Fin, PosInf}
use Rattle.pv_num.specs.Arithmetic.{middle_of}
use Rattle.pv_interval.specs.Bounds.{Bounds}
use Rattle.pv_least.specs.declared.candidate.Candidate.{Candidate}
use Rattle.pv_least.specs.declared.candidate.Candidate.TheVariants.{Low, Centre, High}
pub use Rattle.pv_least.specs.Points.{IsFinite, exact_box}

-- a number where it is finite, else another one
abbrev pub finite_or : Extended → Extended → Extended
finite_or NegInf other = other
finite_or (Fin n) other = Fin n
finite_or PosInf other = other

abbrev pub some_or : Option Extended → Extended → Extended
some_or None other = other
some_or (Some n) other = n

-- the cut near the middle; where there is none the lower end if finite, else the upper end if finite, else 0
abbrev pub centre_of : Bounds → Extended
centre_of x = some_or (middle_of x.lo x.hi) (finite_or x.lo (finite_or x.hi (Fin (pos 0))))

-- the number of a point in a place
abbrev pub number_of : Candidate → Bounds → Extended
number_of Low x = finite_or x.lo (centre_of x)
number_of Centre x = centre_of x
number_of High x = finite_or x.hi (centre_of x)

-- the point of a box
abbrev pub point_in : Candidate → List Bounds → List Extended
point_in c to = map (number_of c) to

-- the box that has this point alone
abbrev pub exactly_at : Candidate → List Bounds → List Bounds
exactly_at c to = exact_box (point_in c to)
