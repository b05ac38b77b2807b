use Rattle.std.proofs.Common.{◌-◌, length}
use Rattle.pv_join.proofs.merge.+overlay.Given as goal

abbrev pub decreases-overlay : goal.decreases-overlay
decreases-overlay l = 200 - length l.path
