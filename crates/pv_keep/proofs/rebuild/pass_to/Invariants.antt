use Rattle.std.proofs.Common.{◌≡◌, length}
use Rattle.pv_keep.specs.Rebuilding.{IsPassed, IsToCome}
use Rattle.pv_keep.proofs.rebuild.pass_to.Given as goal

abbrev pub invariant-loop-next : goal.invariant-loop-next
invariant-loop-next l = record {
  root : l.growth.root ≡ l.initial.growth.root;
  tree : l.growth.tree ≡ l.initial.growth.tree;
  passed : IsPassed l.initial.growth.holes l.growth.holes;
  none : IsToCome l.path l.initial.growth.holes → IsToCome l.path l.growth.holes;
}

abbrev pub decreases-loop-next : goal.decreases-loop-next
decreases-loop-next l = length l.growth.holes
