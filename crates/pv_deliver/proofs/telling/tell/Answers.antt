use Rattle.std.proofs.Common.{rules}
use Rattle.pv_deliver.proofs.Written.{told_line, told_memory}
use Rattle.pv_deliver.proofs.telling.tell.Goals as goal

pub returns-in_default : goal.returns-in_default
returns-in_default g c = told_memory c.args.refusal.now c.tell_memory.result _ _ c.tell_memory.ensures.memory c.tell_memory.ensures.front

pub returns : goal.returns
returns g c = told_line c.args.refusal.now _ _ c.tell_line.result _ _ (search rules) c.status.ensures c.tell_line.ensures
