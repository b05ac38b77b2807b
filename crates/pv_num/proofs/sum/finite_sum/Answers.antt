use Rattle.std.proofs.Common.{◌∙◌, refl}
use Rattle.pv_num.proofs.Operations.{smaller_finite, larger_finite, alike_finite, not_smaller}
use Rattle.pv_num.proofs.sum.finite_sum.Goals as goal

pub returns-then-is_smaller : goal.returns-then-is_smaller
returns-then-is_smaller c =
    c.signed.ensures
    ∙ smaller_finite c.args.side c.args.a c.args.b c.toward.result _ _ c.args.at c.is_negative-less.result c.is_negative.result c.difference.result
    c.requires.a_finite c.requires.b_finite c.is_negative-less.ensures c.is_negative.ensures c.size-x.ensures c.size-y.ensures
    c.if-less-is_negative.true (c.if-is_smaller.ensures.0 refl) c.requires.at_fits c.toward.ensures c.difference.ensures

pub returns-else-is_smaller : goal.returns-else-is_smaller
returns-else-is_smaller c =
    c.signed-else-is_smaller.ensures
    ∙ larger_finite c.args.side c.args.a c.args.b c.toward-else-is_smaller.result _ _ c.args.at c.is_negative-less.result c.is_negative.result c.difference-else-is_smaller.result
    c.requires.a_finite c.requires.b_finite c.is_negative-less.ensures c.is_negative.ensures c.size-x.ensures c.size-y.ensures
    c.if-less-is_negative.true (not_smaller _ _ c.if-is_smaller.ensures.1) c.requires.at_fits c.toward-else-is_smaller.ensures c.difference-else-is_smaller.ensures

pub returns-else-less-is_negative : goal.returns-else-less-is_negative
returns-else-less-is_negative c =
    c.signed-else-less-is_negative.ensures
    ∙ alike_finite c.args.side c.args.a c.args.b c.toward-else-less-is_negative.result _ _ c.args.at c.is_negative-less.result c.is_negative.result c.total.result
    c.requires.a_finite c.requires.b_finite c.is_negative-less.ensures c.is_negative.ensures c.size-x.ensures c.size-y.ensures
    c.if-less-is_negative.false c.requires.at_fits c.toward-else-less-is_negative.ensures c.total.ensures
