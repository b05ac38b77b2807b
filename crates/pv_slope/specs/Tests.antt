-- What the centered form of a constraint says of its points in a box.
use Rattle.std.specs.Prelude.{Bool, true, false, not, ◌||◌, ◌&&◌, List, Option, Some, None}
use Rattle.pv_num.specs.Order.{le, lt}
use Rattle.pv_interval.specs.Bounds.{Bounds}
use Rattle.pv_interval.specs.Tables.{nought, holds}
use Rattle.pv_expr.specs.declared.constraint.Relation.{Relation}
use Rattle.pv_expr.specs.declared.constraint.Relation.TheVariants.{Eq, Le, Ge, Lt, Gt}
use Rattle.pv_hc4.specs.Revise.{Sides}
use Rattle.pv_hc4.specs.Totality.{total_of, same_number, sure_of}
use Rattle.pv_slope.specs.Centered.{gap_of, centered_of}

-- no number of an interval stands so to 0
abbrev pub none_stands : Relation → Bounds → Bool
none_stands Le x = lt nought x.lo
none_stands Lt x = le nought x.lo
none_stands Ge x = lt x.hi nought
none_stands Gt x = le x.hi nought
none_stands Eq x = not (holds x nought)

-- every number of an interval stands so to 0
abbrev pub all_stand : Relation → Bounds → Bool
all_stand Le x = le x.hi nought
all_stand Lt x = lt x.hi nought
all_stand Ge x = le nought x.lo
all_stand Gt x = lt nought x.lo
all_stand Eq x = same_number x.lo nought && same_number x.hi nought

abbrev pub none_in : Relation → Option Bounds → Bool
none_in r None = true
none_in r (Some x) = none_stands r x

abbrev pub all_in : Relation → Option Bounds → Bool
all_in r None = false
all_in r (Some x) = all_stand r x

-- the constraint holds at no point of the box, as the centered form of left - right shows
abbrev pub centered_none : Sides → List Bounds → Bool
centered_none s b = none_in s.relation (centered_of b (gap_of s))

-- the constraint holds at every point of the box, as the centered form of left - right shows
abbrev pub centered_sure : Sides → List Bounds → Bool
centered_sure s b = total_of b (gap_of s) && all_in s.relation (centered_of b (gap_of s))

-- it holds at every point, as one of the two tests shows
abbrev pub counts_as_sure : Sides → List Bounds → Bool
counts_as_sure s b = sure_of s b || centered_sure s b
