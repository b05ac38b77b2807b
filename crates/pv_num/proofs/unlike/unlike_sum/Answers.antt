use Rattle.std.proofs.Common.{Some, ◌∙◌}
use Rattle.pv_num.proofs.Operations.{unlike_whole}
use Rattle.pv_num.proofs.unlike.unlike_sum.Goals as goal

pub returns : goal.returns
returns c =
    c.signed.ensures
    ∙ unlike_whole c.args.side c.args.a c.args.b c.toward.result _ _ c.is_negative.result c.is_smaller-smaller.result (Some c.distance-size.result)
    c.requires.a_finite c.requires.b_finite c.requires.unlike c.is_negative.ensures c.size-x.ensures c.size-y.ensures
    c.is_smaller-smaller.ensures c.toward.ensures c.distance-size.ensures
