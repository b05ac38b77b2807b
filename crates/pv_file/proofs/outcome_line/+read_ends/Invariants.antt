use Rattle.std.proofs.Common.{◌-◌}
use Rattle.pv_file.proofs.outcome_line.+read_ends.Given as goal

abbrev pub decreases-read_ends : goal.decreases-read_ends
decreases-read_ends l = 255 - l.i
