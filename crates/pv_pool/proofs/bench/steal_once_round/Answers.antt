use Rattle.std.proofs.Common.{refl}
use Rattle.pv_pool.proofs.Thieves.{thieves_refl, thieves_set, still_steal, stolen_set, TriedSo, none_tried, one_tried}
use Rattle.pv_pool.proofs.bench.steal_once_round.Goals as goal

pub loop-i-init : goal.loop-i-init
loop-i-init g c = record { same = thieves_refl _; stolen = refl; so = none_tried _ }
