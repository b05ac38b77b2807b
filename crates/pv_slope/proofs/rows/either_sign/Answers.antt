use Rattle.std.proofs.Common.{◌∙◌, ap}
use Rattle.pv_interval.specs.Tables.{hull_of, negated}
use Rattle.pv_slope.specs.SlopeTable.{one_slope}
use Rattle.pv_slope.proofs.Rounds.{either_is}
use Rattle.pv_slope.proofs.rows.either_sign.Goals as goal

pub returns : goal.returns
returns c =
    c.hull.ensures.value
    ∙ ap (λ x. hull_of x c.one-2.result) (c.neg.ensures.value ∙ ap negated c.one.ensures) ∙ ap (hull_of (negated one_slope)) c.one-2.ensures
    ∙ either_is
