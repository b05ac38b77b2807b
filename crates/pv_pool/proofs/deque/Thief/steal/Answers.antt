use Rattle.std.proofs.Common.{rules}
use Rattle.pv_pool.proofs.Rule.{takes, empties_but_one}
use Rattle.pv_pool.proofs.deque.Thief.steal.Goals as goal

pub steal_as-requires-clause-takes : goal.steal_as-requires-clause-takes
steal_as-requires-clause-takes g c = takes _ _ 1 c.requires

pub steal_as-requires-clause-empty : goal.steal_as-requires-clause-empty
steal_as-requires-clause-empty g c = empties_but_one _ _ _ (search rules)
