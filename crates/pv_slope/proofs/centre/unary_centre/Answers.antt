use Rattle.pv_slope.proofs.Inside.{one_in}
use Rattle.pv_slope.proofs.centre.unary_centre.Goals as goal

pub returns-clause-inside : goal.returns-clause-inside
returns-clause-inside c =
    one_in c.args.op c.args.c c.args.f c.args.whole c.unary-at_centre.result c.learn.ensures.interval c.requires.part c.requires.whole c.unary-at_centre.ensures
