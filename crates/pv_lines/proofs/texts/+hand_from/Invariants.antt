use Rattle.std.proofs.Common.{◌-◌, length}
use Rattle.pv_lines.proofs.texts.+hand_from.Given as goal

abbrev pub decreases-hand_from : goal.decreases-hand_from
decreases-hand_from g l = length l.texts.now - l.i
