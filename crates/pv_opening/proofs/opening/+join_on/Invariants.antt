use Rattle.std.proofs.Common.{length}
use Rattle.pv_opening.proofs.opening.+join_on.Given as goal

abbrev pub decreases-join_on : goal.decreases-join_on
decreases-join_on g l = length l.names.now
