use Rattle.pv_slope.proofs.Enclosing.{encloses}
use Rattle.pv_slope.proofs.laws.enclosure.Goals as goal

pub returns : goal.returns
returns c = encloses
