use Rattle.pv_laws.proofs.Headline.{completed_are_alike}
use Rattle.pv_laws.proofs.laws.completed_alike.Goals as goal

pub returns : goal.returns
returns c = completed_are_alike
