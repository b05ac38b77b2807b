use Rattle.std.proofs.Common.{length}
use Rattle.pv_fork.proofs.+call_from.Given as goal

abbrev pub decreases-call_from : goal.decreases-call_from
decreases-call_from g l = length l.s.now
