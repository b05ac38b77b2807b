use Rattle.std.proofs.Common.{◌∙◌}
use Rattle.pv_interval.specs.Bounds.{everything}
use Rattle.pv_slope.proofs.Rounds.{one_power}
use Rattle.pv_slope.proofs.rows.one.Goals as goal

pub returns : goal.returns
returns c = c.pow.ensures.value ∙ one_power everything
