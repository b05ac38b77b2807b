use Rattle.pv_pool.proofs.Rule.{pops, empties}
use Rattle.pv_pool.proofs.deque.Owner.pop.Goals as goal

pub pop_as-requires-clause-lifo : goal.pop_as-requires-clause-lifo
pop_as-requires-clause-lifo g c = λ _. pops _ _ c.requires

pub pop_as-requires-clause-empty : goal.pop_as-requires-clause-empty
pop_as-requires-clause-empty g c = empties _ _
