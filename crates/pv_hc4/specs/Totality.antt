-- Where no divisor's interval contains 0, and when a constraint is sure on a box.
use Rattle.std.specs.Prelude.{Bool, true, false, not, ◌&&◌, List, Option, Some, None}
use Rattle.std.specs.Ordering.{eq_by_cmp}
use Rattle.pv_num.specs.Extended.{Extended}
use Rattle.pv_num.specs.Order.{le, lt, order_of}
use Rattle.pv_interval.specs.Bounds.{Bounds}
use Rattle.pv_interval.specs.Tables.{has_nought}
use Rattle.pv_expr.specs.declared.constraint.Relation.{Relation}
use Rattle.pv_expr.specs.declared.constraint.Relation.TheVariants.{Eq, Le, Ge, Lt, Gt}
use Rattle.pv_expr.specs.declared.operators.BinaryOp.{BinaryOp}
use Rattle.pv_expr.specs.declared.operators.BinaryOp.TheVariants.{Add, Sub, Mul, Div, Min, Max}
use Rattle.pv_expr.specs.Terms.{Term, constant, place, one, two}
use Rattle.pv_hc4.specs.declared.graph.Forward.{Forward}
use Rattle.pv_hc4.specs.Chain.{chain}
use Rattle.pv_hc4.specs.Forward.{forward_of}
use Rattle.pv_hc4.specs.Revise.{Sides}

-- a divisor's interval does not contain 0
abbrev pub divides_well : BinaryOp → Option Bounds → Bool
divides_well Add y = true
divides_well Sub y = true
divides_well Mul y = true
divides_well Div None = false
divides_well Div (Some y) = not (has_nought y)
divides_well Min y = true
divides_well Max y = true

-- no divisor's interval contains 0
abbrev pub total_of : List Bounds → Term → Bool
total_of b (constant p q) = true
total_of b (place i) = true
total_of b (one u t) = total_of b t
total_of b (two o t u) = total_of b t && (total_of b u && divides_well o (forward_of b u))

-- both sides' intervals; empty where a divisor's is [0,0]
abbrev pub forward_sides : Sides → List Bounds → Option Forward
forward_sides s b = chain (forward_of b s.left) (λ x. chain (forward_of b s.right) (λ y.
    Some (record { left = x; right = y; total = total_of b s.left && total_of b s.right })))

abbrev pub same_number : Extended → Extended → Bool
same_number a b = eq_by_cmp order_of a b

-- all numbers of one interval stand so to all of the other, by their ends
abbrev pub ends_decide : Relation → Bounds → Bounds → Bool
ends_decide Eq l r = same_number l.lo l.hi && (same_number r.lo r.hi && same_number l.lo r.lo)
ends_decide Le l r = le l.hi r.lo
ends_decide Lt l r = lt l.hi r.lo
ends_decide Ge l r = le r.hi l.lo
ends_decide Gt l r = lt r.hi l.lo

abbrev pub decided : Relation → Option Forward → Bool
decided r None = false
decided r (Some f) = f.total && ends_decide r f.left f.right

-- the constraint holds at every point of the box, as the intervals show
abbrev pub sure_of : Sides → List Bounds → Bool
sure_of s b = decided s.relation (forward_sides s b)
