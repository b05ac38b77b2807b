use Rattle.pv_interval.specs.Tables.{width_of}
use Rattle.pv_interval.proofs.interval.Interval.width.Goals as goal

pub returns : goal.returns
unfolding width_of
returns c = cc
