use Rattle.std.proofs.Common.{◌≡◌, sum_by}
use Rattle.pv_pool.specs.Benches.{stolen_by, MaySteal, SameThieves}
use Rattle.pv_pool.proofs.bench.steal.Given as goal

abbrev pub invariant-loop-turn : goal.invariant-loop-turn
invariant-loop-turn g l = record {
  may : MaySteal l.thieves;
  same : SameThieves l.initial.thieves l.thieves;
  stolen : sum_by stolen_by l.thieves ≡ sum_by stolen_by l.initial.thieves;
}
