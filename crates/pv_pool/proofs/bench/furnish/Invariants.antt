use Rattle.std.proofs.Common.{◌≡◌, ℕ, ◌+◌, ◌≤◌, ◌<◌, length, get_or}
use Rattle.pv_pool.specs.declared.bench.Bench.{Bench}
use Rattle.pv_pool.specs.Benches.{own}
use Rattle.pv_pool.specs.Links.{AreReady}
use Rattle.pv_pool.proofs.bench.furnish.Given as goal

abbrev pub invariant-loop-number : goal.invariant-loop-number
invariant-loop-number g l = record {
  ready : AreReady l.count l.benches.items;
  whole : (k : ℕ) (d : Bench g.row.J.Denot) → l.number ≤ k → k < l.count → (own (get_or l.benches.items k d).owner).parts ≡ 16;
}
