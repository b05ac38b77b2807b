use Rattle.pv_pool.proofs.Rule.{forks}
use Rattle.pv_pool.proofs.deque.Owner.share.Goals as goal

pub another-pass-requires : goal.another-pass-requires
another-pass-requires g c = forks _ _ c.requires
