use Rattle.std.proofs.Common.{◌-◌, length}
use Rattle.test_workers.proofs.edges.CombWork.work.Given as goal

abbrev pub decreases-loop-children : goal.decreases-loop-children
decreases-loop-children g l = 17 - length l.children
