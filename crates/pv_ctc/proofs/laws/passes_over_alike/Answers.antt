use Rattle.pv_ctc.proofs.Skipping.{passage-leaves}
use Rattle.pv_ctc.proofs.laws.passes_over_alike.Goals as goal

pub returns : goal.returns
returns c = passage-leaves
