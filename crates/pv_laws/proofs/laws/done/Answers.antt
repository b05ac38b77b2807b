use Rattle.pv_laws.proofs.StatusLaws.{done_is_whole}
use Rattle.pv_laws.proofs.laws.done.Goals as goal

pub returns : goal.returns
returns c = done_is_whole
