use Rattle.pv_ctc.proofs.Keeping.{sure-members}
use Rattle.pv_ctc.proofs.laws.sure_of_members.Goals as goal

pub returns : goal.returns
returns c = sure-members
