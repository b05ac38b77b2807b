use Rattle.pv_deliver.proofs.Written.{front_of_any}
use Rattle.pv_deliver.proofs.telling.tell_memory.Goals as goal

pub returns-clause-front : goal.returns-clause-front
returns-clause-front g c = front_of_any c.write.result _ _ _ c.write.ensures.whole c.write.ensures.front c.write.ensures.unchanged
