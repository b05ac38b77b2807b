use Rattle.std.proofs.Common.{◌-◌, length}
use Rattle.pv_box.proofs.boxes.IBox.+first_from.Given as goal

abbrev pub decreases-first_from : goal.decreases-first_from
decreases-first_from l = length l.self.now - l.i
