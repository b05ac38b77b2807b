use Rattle.std.proofs.Common.{length}
use Rattle.pv_workers.proofs.task.+hand_out.Given as goal

abbrev pub decreases-hand_out : goal.decreases-hand_out
decreases-hand_out g l = length l.tickets.now
