use Rattle.std.proofs.Common.{◌-◌, length}
use Rattle.pv_keep.proofs.new_rows.+push_below.Given as goal

abbrev pub decreases-push_below : goal.decreases-push_below
decreases-push_below l = 200 - length l.path
