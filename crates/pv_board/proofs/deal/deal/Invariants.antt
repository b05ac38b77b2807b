use Rattle.std.proofs.Common.{◌≡◌, ◌++◌, map, take}
use Rattle.pv_board.specs.Events.{free_units, fresh}
use Rattle.pv_board.specs.Leaves.{AreOffered}
use Rattle.pv_board.proofs.deal.deal.Given as goal

abbrev pub invariant-loop-i : goal.invariant-loop-i
invariant-loop-i l = record {
  offered : AreOffered l.fn.leaves l.leaves (take l.i l.paths);
  tickets : l.children ≡ l.fn.children ++ map fresh (take (free_units l.fn.leaves.stopped l.fn.leaves.left) (take l.i l.paths));
}
