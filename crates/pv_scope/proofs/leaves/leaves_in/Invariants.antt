use Rattle.std.proofs.Common.{◌≡◌, ◌++◌, ◌+◌, ◌≤◌}
use Rattle.pv_tree.specs.Trees.{opens}
use Rattle.pv_tree.specs.Pieces.{to_come, all_nodes}
use Rattle.pv_scope.specs.Scopes.{is_in_scope, picked}
use Rattle.pv_scope.proofs.Ahead.{ahead}
use Rattle.pv_scope.proofs.leaves.leaves_in.Given as goal

abbrev pub invariant-loop-shape : goal.invariant-loop-shape
invariant-loop-shape l = record {
  leaves : l.leaves.items ++ picked (is_in_scope l.scope) l.number (ahead l.walk.pending) ≡ picked (is_in_scope l.scope) 0 (opens l.paving.tree);
  few : l.number + to_come l.walk.pending ≤ all_nodes l.paving.tree;
}

abbrev pub decreases-loop-shape : goal.decreases-loop-shape
decreases-loop-shape l = to_come l.walk.pending
