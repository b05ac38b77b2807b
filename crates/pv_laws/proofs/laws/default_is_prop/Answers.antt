use Rattle.pv_laws.proofs.Sets.{default_is_prop}
use Rattle.pv_laws.proofs.laws.default_is_prop.Goals as goal

pub returns : goal.returns
returns c = default_is_prop
