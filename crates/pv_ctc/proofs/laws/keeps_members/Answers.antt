use Rattle.pv_ctc.proofs.Keeping.{contract-keeps}
use Rattle.pv_ctc.proofs.laws.keeps_members.Goals as goal

pub returns : goal.returns
returns c = contract-keeps
