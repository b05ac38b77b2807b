use Rattle.pv_hc4.proofs.Sureness.{sure-holds}
use Rattle.pv_hc4.proofs.laws.sure_holds.Goals as goal

pub returns : goal.returns
returns c = λ s b x o h e. sure-holds s b x o.0 o.1 h e
