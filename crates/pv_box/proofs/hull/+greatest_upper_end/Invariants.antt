use Rattle.std.proofs.Common.{◌-◌, length}
use Rattle.pv_box.proofs.hull.+greatest_upper_end.Given as goal

abbrev pub decreases-greatest_upper_end : goal.decreases-greatest_upper_end
decreases-greatest_upper_end l = length l.boxes.now - l.at
