use Rattle.std.proofs.Common.{◌-◌, length}
use Rattle.pv_board.proofs.pile.+pile.Given as goal

abbrev pub decreases-pile : goal.decreases-pile
decreases-pile l = 200 - length l.path
