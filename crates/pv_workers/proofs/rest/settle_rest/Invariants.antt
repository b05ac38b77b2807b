use Rattle.std.proofs.Common.{◌≡◌, ◌+◌, length}
use Rattle.pv_workers.specs.Boards.{IsRecalled}
use Rattle.pv_workers.proofs.rest.settle_rest.Given as goal

abbrev pub invariant-loop-settled : goal.invariant-loop-settled
invariant-loop-settled g l = record {
  recalled : IsRecalled g.N.Naming.opening l.board;
  used : l.board.used ≡ l.fn.board.used + l.settled;
  places : length l.scratch ≡ g.N.Naming.dims;
}
