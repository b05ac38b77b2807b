use Rattle.std.proofs.Common.{◌-◌, length}
use Rattle.pv_keep.proofs.new_rows.+learn_numbers.Given as goal

abbrev pub decreases-learn_numbers : goal.decreases-learn_numbers
decreases-learn_numbers l = length l.bx.now - l.i
