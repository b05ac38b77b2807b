use Rattle.std.proofs.Common.{◌∙◌, sym}
use Rattle.pv_num.proofs.Operations.{div_finite}
use Rattle.pv_num.proofs.num.Num.div.Goals as goal

pub returns : goal.returns
returns c =
    c.signed.ensures
    ∙ div_finite c.args.side c.args.self c.args.other c.toward.result _ _ c.is_negative.result c.is_negative-2.result c.quotient-size.result
    (sym c.if-is_infinite-2.ensures) (sym c.if-is_infinite.ensures) c.requires c.is_negative.ensures c.is_negative-2.ensures c.size.ensures c.size-2.ensures c.toward.ensures c.quotient-size.ensures
