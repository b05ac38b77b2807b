use Rattle.std.specs.Prelude.{◌≡◌}
use Rattle.pv_board.proofs.shared.Shared.idle.Given as goal

abbrev pub invariant-loop : goal.invariant-loop
invariant-loop g l = l.told ≡ l.initial.told
