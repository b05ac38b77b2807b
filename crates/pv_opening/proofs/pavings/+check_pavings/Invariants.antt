use Rattle.std.proofs.Common.{length}
use Rattle.pv_opening.proofs.pavings.+check_pavings.Given as goal

abbrev pub decreases-check_pavings : goal.decreases-check_pavings
decreases-check_pavings g l = length l.names.now
