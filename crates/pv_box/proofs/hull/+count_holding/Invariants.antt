use Rattle.std.proofs.Common.{◌-◌, length}
use Rattle.pv_box.proofs.hull.+count_holding.Given as goal

abbrev pub decreases-count_holding : goal.decreases-count_holding
decreases-count_holding l = length l.boxes.now - l.at
