use Rattle.pv_laws.proofs.StatusLaws.{memory_leaves}
use Rattle.pv_laws.proofs.laws.no_memory.Goals as goal

pub returns : goal.returns
returns c = memory_leaves
