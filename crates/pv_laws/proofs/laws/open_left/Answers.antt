use Rattle.pv_laws.proofs.StatusLaws.{open_left_is_part}
use Rattle.pv_laws.proofs.laws.open_left.Goals as goal

pub returns : goal.returns
returns c = open_left_is_part
