use Rattle.std.proofs.Common.{length, ◌+◌, ◌≤◌}
use Rattle.pv_pool.specs.Benches.{own}
use Rattle.pv_pool.specs.Ends.{IsDraining}
use Rattle.pv_pool.proofs.teardown.drain.Given as goal

abbrev pub invariant-loop : goal.invariant-loop
invariant-loop g l = record {
  draining : IsDraining (g.W.Work.numbers l.initial.told) (g.W.Work.numbers l.told) (own l.initial.owner) (own l.owner);
  within : length (own l.owner).taken ≤ length (own l.initial.owner).taken + length (own l.owner).pushed;
}
