use Rattle.pv_num.specs.Grid.{unit}
use Rattle.pv_box.proofs.Cuts.{above_zero, above_row}
use Rattle.pv_box.proofs.choice.above.Goals as goal

pub returns-then-lt-clause-cut : goal.returns-then-lt-clause-cut
returns-then-lt-clause-cut c = let p = above_zero c.args.lo (cc) in cc

pub returns-clause-cut : goal.returns-clause-cut
unfolding unit
returns-clause-cut c = let p = above_row c.args.lo c.is_number.ensures (cc) in cc
