use Rattle.std.proofs.Common.{◌-◌, length}
use Rattle.pv_box.proofs.boxes.IBox.+is_small_from.Given as goal

abbrev pub decreases-is_small_from : goal.decreases-is_small_from
decreases-is_small_from l = length l.self.now - l.i
