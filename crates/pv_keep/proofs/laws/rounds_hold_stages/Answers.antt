use Rattle.pv_keep.proofs.Rounding.{all_held}
use Rattle.pv_keep.proofs.laws.rounds_hold_stages.Goals as goal

pub returns : goal.returns
returns c = all_held
