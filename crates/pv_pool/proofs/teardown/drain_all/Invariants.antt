use Rattle.std.proofs.Common.{◌≡◌, ℕ, ◌<◌, ◌≤◌, length, get_or}
use Rattle.pv_pool.specs.declared.bench.Bench.{Bench}
use Rattle.pv_pool.specs.Benches.{own}
use Rattle.pv_pool.specs.Ends.{IsDrained}
use Rattle.pv_pool.proofs.teardown.drain_all.Given as goal

abbrev pub invariant-loop-i : goal.invariant-loop-i
invariant-loop-i g l = record {
  drained : (k : ℕ) (d : Bench g.row.W-Job.Denot) (t : g.row.W-Told.Denot) → k < l.i → IsDrained (g.W.Work.numbers (get_or l.initial.told k t)) (g.W.Work.numbers (get_or l.told k t)) (own (get_or l.initial.benches k d).owner);
  told : (k : ℕ) (t : g.row.W-Told.Denot) → l.i ≤ k → get_or l.told k t ≡ get_or l.initial.told k t;
  owners : (k : ℕ) (d : Bench g.row.W-Job.Denot) → l.i ≤ k → get_or l.benches k d ≡ get_or l.initial.benches k d;
}
