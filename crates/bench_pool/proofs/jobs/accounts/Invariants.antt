use Rattle.std.proofs.Common.{◌≡◌, ℕ, ◌<◌, ◌≤◌, length, get_or, vec_capacity}
use Rattle.bench_pool.specs.declared.jobs.Counted.{Counted}
use Rattle.bench_pool.proofs.jobs.accounts.Given as goal

abbrev pub invariant-loop : goal.invariant-loop
invariant-loop l = record {
  size : length l.told.items ≡ l.counter;
  room : l.count ≤ vec_capacity l.told;
  fresh : (k : ℕ) (t : Counted) → k < l.counter → ((get_or l.told.items k t).given ≡ 0) × ((get_or l.told.items k t).back ≡ 0) × ((get_or l.told.items k t).looks ≡ 0);
}
