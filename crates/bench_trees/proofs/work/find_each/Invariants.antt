use Rattle.std.proofs.Common.{◌≡◌, length}
use Rattle.pv_tree.specs.Pieces.{to_come}
use Rattle.bench_trees.proofs.work.find_each.Given as goal

abbrev pub invariant-loop-shape : goal.invariant-loop-shape
invariant-loop-shape l = (l.walk.root ≡ l.tree.root) × (l.walk.tree ≡ l.tree.tree) × (length l.scratch ≡ length l.tree.root)

abbrev pub decreases-loop-shape : goal.decreases-loop-shape
decreases-loop-shape l = to_come l.walk.pending
