use Rattle.std.proofs.Common.{◌+◌, ◌*◌, length}
use Rattle.pv_fork.proofs.+begun.Given as goal

abbrev pub decreases-begin_both : goal.decreases-begin_both
decreases-begin_both g l = 4 * length l.rest.now + 3

abbrev pub decreases-begin_from : goal.decreases-begin_from
decreases-begin_from g l = 4 * length l.s.now

abbrev pub decreases-begin_both-others : goal.decreases-begin_both-others
decreases-begin_both-others g l = 4 * length l.rest.now + 1
