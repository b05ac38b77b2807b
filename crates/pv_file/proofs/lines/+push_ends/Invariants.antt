use Rattle.std.proofs.Common.{◌-◌}
use Rattle.pv_file.proofs.lines.+push_ends.Given as goal

abbrev pub decreases-push_ends : goal.decreases-push_ends
decreases-push_ends l = 255 - l.i
