use Rattle.std.proofs.Common.{◌-◌, length}
use Rattle.test_board.proofs.seeded.Plain.+add_below.Given as goal

abbrev pub decreases-add_below : goal.decreases-add_below
decreases-add_below l = 200 - length l.path
