use Rattle.pv_pool.proofs.Rule.{pushes}
use Rattle.pv_pool.proofs.deque.Owner.push.Goals as goal

pub push_as-requires-clause-pushes : goal.push_as-requires-clause-pushes
push_as-requires-clause-pushes g c = pushes _ _ _ c.requires
