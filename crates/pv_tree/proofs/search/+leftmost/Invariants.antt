use Rattle.std.proofs.Common.{◌-◌, length}
use Rattle.pv_tree.proofs.search.+leftmost.Given as goal

abbrev pub decreases-leftmost : goal.decreases-leftmost
decreases-leftmost l = 200 - length l.spot.path
