use Rattle.pv_laws.proofs.StatusLaws.{early_is_untouched}
use Rattle.pv_laws.proofs.laws.refused.Goals as goal

pub returns : goal.returns
returns c = early_is_untouched
