use Rattle.std.proofs.Common.{◌≡◌, ℕ, ◌+◌, ◌≤◌, ◌<◌, length, get_or}
use Rattle.pv_pool.specs.declared.bench.Bench.{Bench}
use Rattle.pv_pool.specs.Benches.{own}
use Rattle.pv_pool.specs.Links.{AreReady}
use Rattle.pv_pool.proofs.bench.introduce.Given as goal

abbrev pub invariant-loop-other : goal.invariant-loop-other
invariant-loop-other g l = record {
  ready : AreReady (length l.initial.benches) l.benches;
  before : (d : Bench g.row.J.Denot) → l.other ≤ l.number → (own (get_or l.benches l.number d).owner).parts + l.other ≡ 16;
  behind : (d : Bench g.row.J.Denot) → l.number < l.other → (own (get_or l.benches l.number d).owner).parts + l.other ≡ 17;
  whole : (k : ℕ) (d : Bench g.row.J.Denot) → l.number < k → k < length l.initial.benches → (own (get_or l.benches k d).owner).parts ≡ 16;
}
