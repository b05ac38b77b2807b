use Rattle.pv_laws.proofs.Sets.{centered_prunes, pruned_have_no_more}
use Rattle.pv_laws.proofs.laws.centered_prunes.Goals as goal

pub returns : goal.returns
returns c = record { pruned = centered_prunes; less = pruned_have_no_more }
