use Rattle.pv_laws.proofs.StatusLaws.{others_stay}
use Rattle.pv_laws.proofs.laws.others_stay.Goals as goal

pub returns : goal.returns
returns c = others_stay
