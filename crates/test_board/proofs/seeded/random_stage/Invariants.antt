use Rattle.std.proofs.Common.{◌≡◌, length}
use Rattle.test_board.proofs.seeded.random_stage.Given as goal

abbrev pub invariant-loop : goal.invariant-loop
invariant-loop g l = record {
  root : l.stage.root ≡ l.root;
  scratch : length l.scratch ≡ length l.root;
}
