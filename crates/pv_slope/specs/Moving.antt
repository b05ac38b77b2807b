-- Which nodes move with a variable: those in whose term it stands. The slopes of the others are [0,0].
use Rattle.std.specs.Prelude.{◌≡◌, ℕ, ◌<◌, ◌≤◌, Bool, false, ◌||◌, nat_eq, List, length, slice_index_or, if◌then◌else◌}
use Rattle.pv_interval.specs.Bounds.{Bounds, IsInterval}
use Rattle.pv_hc4.specs.declared.node.Node.{Node}
use Rattle.pv_hc4.specs.declared.node.Node.TheVariants.{Constant, Place, One, Two}
use Rattle.pv_hc4.specs.Chain.{at}
use Rattle.pv_hc4.specs.Nodes.{terms, term_at}
use Rattle.pv_slope.specs.Flat.{unary_slope_by, binary_slope_by}
use Rattle.pv_slope.specs.SlopeTable.{zero_slope, one_slope, slope_of}

abbrev pub flag_at : List Bool → ℕ → Bool
flag_at ms k = slice_index_or ms k false

-- whether variable i stands in a node's term, where ms tells of those of earlier nodes
abbrev pub node_moves : ℕ → List Bool → Node → Bool
node_moves i ms (Constant p q) = false
node_moves i ms (Place j) = nat_eq i j
node_moves i ms (One o a) = flag_at ms a
node_moves i ms (Two o a c) = flag_at ms a || flag_at ms c

-- the slope of a node that was come to: [0,0] where it doesn't move, whatever stands in its place
abbrev pub seen : List Bool → List Bounds → ℕ → Bounds
seen ms ss k = if flag_at ms k then at ss k else zero_slope

-- a node's slope for variable i over those of earlier nodes
abbrev pub moving_slope : ℕ → Bounds → List Bounds → List Bounds → List Bool → List Bounds → Node → Bounds
moving_slope i by vs cs ms ss (Constant p q) = zero_slope
moving_slope i by vs cs ms ss (Place j) = if nat_eq i j then one_slope else zero_slope
moving_slope i by vs cs ms ss (One o a) = unary_slope_by o by (at vs a) (seen ms ss a)
moving_slope i by vs cs ms ss (Two o a c) = binary_slope_by o by (at vs a) (at vs c) (at cs c) (seen ms ss a) (seen ms ss c)

-- what divides in a node, if something does, is an interval
abbrev pub HasDivisor : List Bounds → Node → Type 0
HasDivisor vs (Constant p q) = Unit {0}
HasDivisor vs (Place j) = Unit {0}
HasDivisor vs (One o a) = Unit {0}
HasDivisor vs (Two o a c) = IsInterval (at vs c)

-- whether a node is variable i itself
abbrev pub is_place : ℕ → Node → Bool
is_place i (Constant p q) = false
is_place i (Place j) = nat_eq i j
is_place i (One o a) = false
is_place i (Two o a c) = false

-- the slopes of all nodes for variable i, and which of them move
pub record AreSlopes (b : List Bounds) (i : ℕ) (ns : List Node) (ms : List Bool) (ss : List Bounds) : Type 0 where
  pub moving_in : length ns ≤ length ms
  pub slopes_in : length ns ≤ length ss
  pub each : (k : ℕ) → k < length ns → slope_of b i (term_at (terms ns) k) ≡ seen ms ss k
