use Rattle.std.proofs.Common.{◌-◌, length}
use Rattle.pv_box.proofs.hull.+least_lower_end.Given as goal

abbrev pub decreases-least_lower_end : goal.decreases-least_lower_end
decreases-least_lower_end l = length l.boxes.now - l.at
