use Rattle.std.proofs.Common.{◌≡◌, length}
use Rattle.pv_tree.specs.Pieces.{to_come}
use Rattle.test_trees.proofs.sample.has_lines.Given as goal

abbrev pub invariant-loop-shape : goal.invariant-loop-shape
invariant-loop-shape l = (l.walk.root ≡ l.paving.root) × (length l.scratch ≡ length l.paving.root)

abbrev pub decreases-loop-shape : goal.decreases-loop-shape
decreases-loop-shape l = to_come l.walk.pending
