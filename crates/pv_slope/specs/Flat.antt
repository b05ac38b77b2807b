-- An expression as a list of nodes, and what one pass over them leaves.
use Rattle.std.specs.Prelude.{◌≡◌, ℕ, zero, suc, ◌<◌, ◌≤◌, List, length, Some}
use Rattle.pv_interval.specs.Bounds.{Bounds, everything}
use Rattle.pv_interval.specs.Subsets.{IsSubset}
use Rattle.pv_interval.specs.Tables as table
use Rattle.pv_expr.specs.declared.constraint.Relation.{Relation}
use Rattle.pv_expr.specs.Systems.{IsOver}
use Rattle.pv_expr.specs.declared.operators.UnaryOp.{UnaryOp}
use Rattle.pv_expr.specs.declared.operators.UnaryOp.TheVariants.{Neg, Abs, Pow}
use Rattle.pv_expr.specs.declared.operators.BinaryOp.{BinaryOp}
use Rattle.pv_expr.specs.declared.operators.BinaryOp.TheVariants.{Add, Sub, Mul, Div, Min, Max}
use Rattle.pv_expr.specs.Terms.{Term}
use Rattle.pv_hc4.specs.declared.node.Node.{Node}
use Rattle.pv_hc4.specs.declared.node.Node.TheVariants.{Constant, Place, One, Two}
use Rattle.pv_hc4.specs.Building.{IsPart}
use Rattle.pv_hc4.specs.Chain.{at}
use Rattle.pv_hc4.specs.Forward.{unary_of, binary_of}
use Rattle.pv_hc4.specs.Nodes.{AreOrdered, terms, term_at, node_at}
use Rattle.pv_slope.specs.Centres.{centre_of, known, met_with}
use Rattle.pv_slope.specs.SlopeTable.{zero_slope, absolute_slope, power_factor, quotient_slope, least_slope, greatest_slope}

-- slopes as their callers see them: the nodes of left - right, and the number of its own node
pub record Parts : Type 0 where
  pub nodes : List Node
  pub root : ℕ
  pub relation : Relation
  pub dims : ℕ

-- the expression that the nodes stand for
abbrev pub term_in : Parts → Term
term_in p = term_at (terms p.nodes) p.root

-- each node reads earlier ones, and stands for a part of the expression
pub record IsFlat (ns : List Node) (root d : ℕ) : Type 0 where
  pub ordered : AreOrdered ns d
  pub root_in : root < length ns
  pub over : IsOver d (term_at (terms ns) root)
  pub used : (k : ℕ) → k < length ns → IsPart (term_at (terms ns) k) (term_at (terms ns) root)

-- each of the intervals is f of its node's term
pub record AreOf (f : Term → Bounds) (ns : List Node) (xs : List Bounds) : Type 0 where
  pub within : length ns ≤ length xs
  pub each : (k : ℕ) → k < length ns → f (term_at (terms ns) k) ≡ at xs k

-- a node's interval at the centre of the box b over those of earlier nodes; whole is its forward interval
abbrev pub node_centre : List Bounds → List Bounds → Bounds → Node → Bounds
node_centre b cs whole (Constant p q) = whole
node_centre b cs whole (Place i) = table.exactly (centre_of (at b i))
node_centre b cs whole (One o a) = met_with (unary_of o (at cs a)) whole
node_centre b cs whole (Two o a c) = met_with (known (binary_of o (at cs a) (at cs c))) whole

-- a node's forward interval w over those of earlier nodes
abbrev pub IsWholeOf : List Bounds → List Bounds → Bounds → Node → Type 0
IsWholeOf b vs w (Constant p q) = Unit {0}
IsWholeOf b vs w (Place i) = w ≡ at b i
IsWholeOf b vs w (One o a) = w ≡ unary_of o (at vs a)
IsWholeOf b vs w (Two o a c) = binary_of o (at vs a) (at vs c) ≡ Some w

-- the intervals at the centre of the nodes that a node reads lie in their forward intervals
abbrev pub ArePartsInside : List Bounds → List Bounds → Node → Type 0
ArePartsInside vs cs (Constant p q) = Unit {0}
ArePartsInside vs cs (Place i) = Unit {0}
ArePartsInside vs cs (One o a) = IsSubset (at cs a) (at vs a)
ArePartsInside vs cs (Two o a c) = IsSubset (at cs a) (at vs a) × IsSubset (at cs c) (at vs c)

abbrev pub unary_factor : UnaryOp → Bounds → Bounds → Bounds
unary_factor Neg f c = everything
unary_factor Abs f c = everything
unary_factor (Pow n) f c = power_factor f c n

abbrev pub binary_factor : BinaryOp → Bounds → Bounds → Bounds
binary_factor Add c d = everything
binary_factor Sub c d = everything
binary_factor Mul c d = everything
binary_factor Div c d = known (table.quotient_of c d)
binary_factor Min c d = everything
binary_factor Max c d = everything

-- what the slopes of a node for all variables have in common
abbrev pub node_factor : List Bounds → List Bounds → Node → Bounds
node_factor vs cs (Constant p q) = everything
node_factor vs cs (Place i) = everything
node_factor vs cs (One o a) = unary_factor o (at vs a) (at cs a)
node_factor vs cs (Two o a c) = binary_factor o (at cs a) (at cs c)

pub record AreFactors (vs cs : List Bounds) (ns : List Node) (fs : List Bounds) : Type 0 where
  pub within : length ns ≤ length fs
  pub each : (k : ℕ) → k < length ns → node_factor vs cs (node_at ns k) ≡ at fs k

abbrev pub unary_slope_by : UnaryOp → Bounds → Bounds → Bounds → Bounds
unary_slope_by Neg by f s = table.negated s
unary_slope_by Abs by f s = absolute_slope f s
unary_slope_by (Pow zero) by f s = zero_slope
unary_slope_by (Pow (suc n)) by f s = table.product_of by s

abbrev pub binary_slope_by : BinaryOp → Bounds → Bounds → Bounds → Bounds → Bounds → Bounds → Bounds
binary_slope_by Add by f g d s t = table.sum_of s t
binary_slope_by Sub by f g d s t = table.difference_of s t
binary_slope_by Mul by f g d s t = table.sum_of (table.product_of f t) (table.product_of d s)
binary_slope_by Div by f g d s t = quotient_slope by g s t
binary_slope_by Min by f g d s t = least_slope f g s t
binary_slope_by Max by f g d s t = greatest_slope f g s t
