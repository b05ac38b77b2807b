use Rattle.std.proofs.Common.{◌≡◌, ◌++◌, map, length}
use Rattle.pv_board.specs.Events.{leaves_at}
use Rattle.pv_workers.specs.Leaves.{paths_of}
use Rattle.pv_workers.proofs.stage.list_leaves.Given as goal

abbrev pub invariant-loop-path : goal.invariant-loop-path
invariant-loop-path l = record {
  at : l.stage.at ≡ l.fn.stage.at;
  root : l.stage.growth.root ≡ l.fn.stage.growth.root;
  tree : l.stage.growth.tree ≡ l.fn.stage.growth.tree;
  listed : l.leaves.items ++ map (λ q. l.stage.at ++ q) (paths_of l.stage.growth.holes) ≡ leaves_at l.stage.at l.fn.stage.growth.tree;
}

abbrev pub decreases-loop-path : goal.decreases-loop-path
decreases-loop-path l = length l.stage.growth.holes
