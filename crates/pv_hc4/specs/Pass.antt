-- One pass over the nodes, in their order.
use Rattle.std.specs.Prelude.{ℕ, ◌≡◌, ◌<◌, Bool, true, false, List, length, Option, Some, None}
use Rattle.pv_hc4.specs.Totality.{divides_well, total_of}
use Rattle.pv_interval.specs.Bounds.{Bounds}
use Rattle.pv_hc4.specs.declared.node.Node.{Node}
use Rattle.pv_hc4.specs.declared.node.Node.TheVariants.{Constant, Place, One, Two}
use Rattle.pv_hc4.specs.Chain.{at}
use Rattle.pv_hc4.specs.Forward.{forward_of, unary_of, binary_of}
use Rattle.pv_hc4.specs.Nodes.{terms, term_at}
use Rattle.pv_hc4.specs.Graphs.{AreValues}

-- the interval of a node over those of earlier ones
abbrev pub node_value : List Bounds → List Bounds → Bounds → Node → Option Bounds
node_value b vs own (Constant p q) = Some own
node_value b vs own (Place i) = Some (at b i)
node_value b vs own (One o a) = Some (unary_of o (at vs a))
node_value b vs own (Two o a c) = binary_of o (at vs a) (at vs c)

-- some node's forward interval is empty
pub record IsEmptyPass (b : List Bounds) (ns : List Node) : Type 0 where
  pub node : ℕ
  pub within : node < length ns
  pub none : forward_of b (term_at (terms ns) node) ≡ None

abbrev pub IsPass : List Bounds → List Node → List Bounds → Bool → Type 0
IsPass b ns vs true = AreValues b ns vs
IsPass b ns vs false = IsEmptyPass b ns

-- the node is no quotient by an interval that contains 0
abbrev pub node_divides_well : List Bounds → Node → Bool
node_divides_well vs (Constant p q) = true
node_divides_well vs (Place i) = true
node_divides_well vs (One o a) = true
node_divides_well vs (Two o a c) = divides_well o (Some (at vs c))

-- some node's term has a divisor whose interval contains 0
pub record IsPartial (b : List Bounds) (ns : List Node) : Type 0 where
  pub node : ℕ
  pub within : node < length ns
  pub is : total_of b (term_at (terms ns) node) ≡ false

-- whether every node's term is total
abbrev pub IsTotality : List Bounds → List Node → Bool → Type 0
IsTotality b ns true = (k : ℕ) → k < length ns → total_of b (term_at (terms ns) k) ≡ true
IsTotality b ns false = IsPartial b ns
