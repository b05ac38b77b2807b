-- What a search for the least value promises, in terms of members of the set.
use Rattle.std.specs.Prelude.{◌≡◌, Some, List}
use Rattle.pv_num.specs.Extended.{Extended}
use Rattle.pv_interval.specs.Bounds.{Bounds}
use Rattle.pv_interval.specs.Fractions.{Fraction}
use Rattle.pv_interval.specs.Points.{Point, IsBelow, IsAbove}
use Rattle.pv_box.specs.Boxes.{PointIn}
use Rattle.pv_expr.specs.Terms.{Term, value_at}
use Rattle.pv_least.specs.Points.{rational}
use Rattle.pv_least.specs.declared.found.BestPoint.{BestPoint}

-- no member of the box at which the term is defined has a value below a number
abbrev pub NoneIsBelow : (Point → Type 0) → Term → List Bounds → Extended → Type 0
NoneIsBelow inside t b lower =
    (x : Point) (v : Fraction) → PointIn x b → inside x → value_at t x.places x.under ≡ Some v → IsBelow lower v.top v.under

-- a point of the box is a member, the term is defined there, and its value is at most the bound
pub record IsWitness (inside : Point → Type 0) (t : Term) (b : List Bounds) (p : BestPoint) : Type 0 where
  pub within : PointIn (rational p.point) b
  pub is_member : inside (rational p.point)
  pub value : Fraction
  pub defined : value_at t (rational p.point).places (rational p.point).under ≡ Some value
  pub at_most : IsAbove p.upper value.top value.under
