use Rattle.std.proofs.Common.{◌≡◌, ◌+◌, ◌≤◌, length}
use Rattle.pv_tree.specs.Trees.{Tree, Paves}
use Rattle.pv_tree.specs.Stages.{IsStage}
use Rattle.pv_board.specs.Rules.{settled_in}
use Rattle.pv_scope.proofs.Passes.{IsBegun}
use Rattle.pv_scope.proofs.levels.by_passes.Given as goal

abbrev pub invariant-loop-pass : goal.invariant-loop-pass
invariant-loop-pass g l = record {
  root : l.paving.root ≡ l.fn.opening.root;
  scratch : length l.workspace.scratch ≡ g.S.Settler.dims l.settler;
  stage : (earlier : Tree) → Paves l.fn.opening.root earlier → IsStage (g.S.Settler.settle_of l.settler) (g.S.Settler.depth_of l.settler) l.fn.opening.root earlier l.fn.opening.tree
      → IsStage (g.S.Settler.settle_of l.settler) (g.S.Settler.depth_of l.settler) l.fn.opening.root earlier l.paving.tree;
  begun : IsBegun l.fn.opening.tree l.paving.tree l.pass;
  count : settled_in l.paving.tree ≡ settled_in l.fn.opening.tree + l.settled;
  few : l.settled ≤ l.budget;
  some : 1 ≤ l.pass;
}
