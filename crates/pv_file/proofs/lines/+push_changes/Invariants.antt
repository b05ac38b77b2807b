use Rattle.std.proofs.Common.{◌-◌}
use Rattle.pv_file.proofs.lines.+push_changes.Given as goal

abbrev pub decreases-push_changes : goal.decreases-push_changes
decreases-push_changes l = 255 - l.i
