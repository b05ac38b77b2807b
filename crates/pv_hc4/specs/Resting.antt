-- When a target that is a node's own interval narrows nothing.
use Rattle.std.specs.Prelude.{ℕ, ◌≡◌, ◌<◌, Bool, true, false, All, List, length, Some}
use Rattle.pv_interval.specs.Bounds.{Bounds, IsInterval}
use Rattle.pv_project.specs.declared.resting.Rest.{Rest}
use Rattle.pv_project.specs.Rests.{Rests}
use Rattle.pv_expr.specs.declared.operators.BinaryOp.{BinaryOp}
use Rattle.pv_expr.specs.Systems.{IsOver}
use Rattle.pv_hc4.specs.declared.node.Node.{Node}
use Rattle.pv_hc4.specs.Forward.{binary_of}
use Rattle.pv_hc4.specs.Members.{AreWithin}
use Rattle.pv_hc4.specs.Nodes.{terms, term_at}
use Rattle.pv_hc4.specs.Totality.{total_of}

-- each node's term is over the places of the entry box and total there, and the box lies in that one
pub record IsRest (entry b : List Bounds) (ns : List Node) : Type 0 where
  pub intervals : All IsInterval entry
  pub within : AreWithin b entry
  pub over : (k : ℕ) → k < length ns → IsOver (length entry) (term_at (terms ns) k)
  pub total : (k : ℕ) → k < length ns → total_of entry (term_at (terms ns) k) ≡ true

abbrev pub MayRest : Bool → List Bounds → List Bounds → List Node → Type 0
MayRest true entry b ns = IsRest entry b ns
MayRest false entry b ns = Unit {0}

-- an end of an operation's target z is the one of its interval
abbrev pub RestsAt : BinaryOp → Rest → Bounds → Bounds → Bounds → Type 0
RestsAt op rest z x y = (w : Bounds) → binary_of op x y ≡ Some w → Rests rest z w
