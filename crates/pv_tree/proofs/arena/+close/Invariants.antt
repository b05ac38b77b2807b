use Rattle.std.proofs.Common.{◌-◌, length}
use Rattle.pv_tree.proofs.arena.+close.Given as goal

abbrev pub decreases-close : goal.decreases-close
decreases-close l = length l.path - l.depth
