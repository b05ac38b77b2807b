use Rattle.std.proofs.Common.{◌-◌, length}
use Rattle.pv_tree.proofs.search.+later.Given as goal

abbrev pub decreases-later : goal.decreases-later
decreases-later l = length l.after - length l.spot.path
