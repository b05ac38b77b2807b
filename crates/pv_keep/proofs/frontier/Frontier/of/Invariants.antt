use Rattle.std.proofs.Common.{◌≡◌, Some, length}
use Rattle.std.specs.Prelude.{IfSome}
use Rattle.pv_tree.specs.Trees.{leaf, subtree, opens}
use Rattle.pv_keep.proofs.Fresh.{from, AreSoFar}
use Rattle.pv_keep.proofs.frontier.Frontier.of.Given as goal

abbrev pub invariant-loop-open : goal.invariant-loop-open
invariant-loop-open l = record {
  there : IfSome l.open (λ p. subtree l.paving.tree p ≡ Some leaf);
  so_far : AreSoFar l.paving.tree l.leaves.items l.open;
}

abbrev pub decreases-loop-open : goal.decreases-loop-open
decreases-loop-open l = length (from l.open (opens l.paving.tree))
