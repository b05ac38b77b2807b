use Rattle.pv_ctc.proofs.Shrinking.{contract-within}
use Rattle.pv_ctc.proofs.laws.stays_within.Goals as goal

pub returns : goal.returns
returns c = contract-within
