use Rattle.std.proofs.Common.{[], refl}
use Rattle.pv_board.proofs.Openings.{root_open}
use Rattle.pv_board.proofs.leaves.Leaves.open.Goals as goal

pub returns-clause-leaves : goal.returns-clause-leaves
returns-clause-leaves c = root_open c.args.paving.now.tree [] [] c.pile_all.new.free.items _ refl refl c.pile_all.ensures.piled c.in_ok-marks.ensures.none
