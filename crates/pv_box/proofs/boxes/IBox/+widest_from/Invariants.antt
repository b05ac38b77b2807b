use Rattle.std.proofs.Common.{◌-◌, length}
use Rattle.pv_box.proofs.boxes.IBox.+widest_from.Given as goal

abbrev pub decreases-widest_from : goal.decreases-widest_from
decreases-widest_from l = length l.self.now - l.i
