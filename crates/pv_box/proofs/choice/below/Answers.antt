use Rattle.pv_num.specs.Grid.{unit}
use Rattle.pv_box.proofs.Cuts.{below_zero, below_row}
use Rattle.pv_box.proofs.choice.below.Goals as goal

pub returns-then-lt-clause-cut : goal.returns-then-lt-clause-cut
returns-then-lt-clause-cut c = let p = below_zero c.args.hi (cc) in cc

pub returns-clause-cut : goal.returns-clause-cut
unfolding unit
returns-clause-cut c = let p = below_row c.args.hi c.is_number.ensures (cc) in cc
