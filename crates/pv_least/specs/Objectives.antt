-- The term of an objective, and what its forward interval on a box tells.
use Rattle.std.specs.Prelude.{◌≡◌, pos, Bool, false, List, Option, Some, None, if◌then◌else◌}
use Rattle.pv_num.specs.Extended.{Extended}
use Rattle.pv_num.specs.Order.{le}
use Rattle.pv_interval.specs.Bounds.{Bounds}
use Rattle.pv_expr.specs.Terms.{Term, constant}
use Rattle.pv_hc4.specs.Forward.{forward_of}
use Rattle.pv_hc4.specs.Totality.{total_of}
use Rattle.pv_hc4.specs.Graphs.{Parts, sides_of}

-- the term whose least value is sought: the left side of the graph's constraint
abbrev pub aim_of : Parts → Term
aim_of g = (sides_of g).left

-- the other side is 0
abbrev pub HasAim : Parts → Type 0
HasAim g = (sides_of g).right ≡ constant (pos 0) 1

abbrev pub lower_end : Option Bounds → Option Extended
lower_end None = None
lower_end (Some x) = Some x.lo

abbrev pub upper_end : Option Bounds → Option Extended
upper_end None = None
upper_end (Some x) = Some x.hi

-- the lower end of the term's forward interval on a box; none where that is empty
abbrev pub low_of : Term → List Bounds → Option Extended
low_of t b = lower_end (forward_of b t)

-- the upper end of the term's forward interval on a box; none where some divisor's contains 0
abbrev pub value_bound : Term → List Bounds → Option Extended
value_bound t b = if total_of b t then upper_end (forward_of b t) else None

-- a low end that is there and at most a bound
abbrev pub admits : Option Extended → Extended → Bool
admits None u = false
admits (Some l) u = le l u
