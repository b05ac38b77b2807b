use Rattle.std.proofs.Common.{◌≡◌, sum_by}
use Rattle.pv_pool.specs.Benches.{stolen_by, SameThieves}
use Rattle.pv_pool.proofs.Thieves.{TriedSo}
use Rattle.pv_pool.proofs.bench.steal_once_round.Given as goal

abbrev pub invariant-loop-i : goal.invariant-loop-i
invariant-loop-i g l = record {
  so : TriedSo l.i l.initial.thieves l.thieves;
  same : SameThieves l.initial.thieves l.thieves;
  stolen : sum_by stolen_by l.thieves ≡ sum_by stolen_by l.initial.thieves;
}
