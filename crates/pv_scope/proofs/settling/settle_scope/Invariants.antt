use Rattle.std.proofs.Common.{◌≡◌, ◌≤◌, length}
use Rattle.std.specs.Prelude.{reverse}
use Rattle.pv_tree.specs.Trees.{Tree, Paves, opens}
use Rattle.pv_tree.specs.Stages.{IsStage}
use Rattle.pv_scope.specs.Scopes.{is_in_scope, most_steps, picked}
use Rattle.pv_scope.proofs.Settled.{IsGoing}
use Rattle.pv_scope.proofs.settling.settle_scope.Given as goal

abbrev pub invariant-loop-path : goal.invariant-loop-path
invariant-loop-path g l = record {
  root : l.paving.root ≡ l.fn.paving.root;
  scratch : length l.workspace.scratch ≡ g.S.Settler.dims l.settler;
  stage : (opening : Tree) → Paves l.fn.paving.root opening → IsStage (g.S.Settler.settle_of l.settler) (g.S.Settler.depth_of l.settler) l.fn.paving.root opening l.fn.paving.tree
      → IsStage (g.S.Settler.settle_of l.settler) (g.S.Settler.depth_of l.settler) l.paving.root opening l.paving.tree;
  going : IsGoing l.fn.paving.tree (picked (is_in_scope l.fn.scope) 0 (opens l.fn.paving.tree)) (reverse l.leaves.items) (most_steps l.fn.scope) l.settled l.paving.tree;
  few : l.settled ≤ l.budget;
}

abbrev pub decreases-loop-path : goal.decreases-loop-path
decreases-loop-path g l = length l.leaves.items
