use Rattle.std.proofs.Common.{◌∙◌}
use Rattle.std.proofs.lemmas.Int.{to_z-of_z}
use mir.Syntax.{w128}
use Rattle.pv_num.proofs.Operations.{ratio_finite}
use Rattle.pv_num.proofs.num.Num.from_ratio.Goals as goal

pub returns : goal.returns
returns c =
    c.signed.ensures
    ∙ ratio_finite c.args.side c.args.p _ c.args.q _ c.toward.result c.ratio-size.result
    (to_z-of_z w128 c.args.p c.ranges.p) c.requires.q_positive c.unsigned_abs.ensures.value c.toward.ensures c.ratio-size.ensures
