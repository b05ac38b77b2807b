use Rattle.pv_hc4.proofs.Keeping.{revised-keeps}
use Rattle.pv_hc4.proofs.laws.keeps_points.Goals as goal

pub returns : goal.returns
returns c = λ s n b x o h a. revised-keeps s n b x o.0 o.1 h a
