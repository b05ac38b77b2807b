use Rattle.std.proofs.Common.{◌≤◌, vec_capacity}
use Rattle.pv_pool.specs.Links.{AreApart}
use Rattle.pv_pool.proofs.bench.empty_benches.Given as goal

abbrev pub invariant-loop : goal.invariant-loop
invariant-loop g l = record { apart : AreApart l.counter l.benches.items; room : l.count ≤ vec_capacity l.benches }
