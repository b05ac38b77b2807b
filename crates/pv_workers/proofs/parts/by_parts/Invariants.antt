use Rattle.std.proofs.Common.{◌≡◌, ◌+◌, ◌*◌, ◌≤◌}
use Rattle.pv_tree.specs.Stages.{IsStage}
use Rattle.pv_board.specs.Rules.{settled_in}
use Rattle.pv_workers.proofs.parts.by_parts.Given as goal

abbrev pub invariant-loop-round : goal.invariant-loop-round
invariant-loop-round g l = record {
  root : l.paved.paving.root ≡ l.fn.opening.root;
  stage : IsStage (g.S.Settler.settle_of l.settler) (g.S.Settler.depth_of l.settler) l.fn.opening.root l.fn.opening.tree l.paved.paving.tree;
  count : settled_in l.paved.paving.tree + l.left ≡ settled_in l.fn.opening.tree + l.fn.budget.nodes;
  some : 1 ≤ l.left;
  few : l.left + l._round ≤ l.fn.budget.nodes;
  spent : settled_in l.paved.paving.tree ≤ settled_in l.fn.opening.tree + 16 * l.paved.spent;
  least : settled_in l.fn.opening.tree + l.paved.spent ≤ settled_in l.paved.paving.tree;
  low : l.paved.spent ≤ 19342813113834066795298816 * l._round;
}
