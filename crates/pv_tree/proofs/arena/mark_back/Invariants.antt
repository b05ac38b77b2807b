use Rattle.std.proofs.Common.{◌≤◌, length}
use Rattle.pv_tree.specs.Arena.{IsRemarked}
use Rattle.pv_tree.proofs.arena.mark_back.Given as goal

abbrev pub invariant-loop-at : goal.invariant-loop-at
invariant-loop-at l = IsRemarked l.fn.nodes l.nodes × (l.at ≤ length l.nodes)

abbrev pub decreases-loop-at : goal.decreases-loop-at
decreases-loop-at l = l.at
