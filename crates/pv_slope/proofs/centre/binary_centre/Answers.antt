use Rattle.std.proofs.Common.{sym, ◌∙◌}
use Rattle.pv_slope.proofs.Inside.{two_in}
use Rattle.pv_slope.proofs.centre.binary_centre.Goals as goal

pub returns-in-Some-clause-inside : goal.returns-in-Some-clause-inside
returns-in-Some-clause-inside c =
    two_in c.args.op c.args.c c.args.d c.args.f c.args.g c.args.whole c.in-Some.at_centre c.learn.ensures.interval c.learn-2.ensures.interval c.requires.first c.requires.second c.requires.whole (sym c.binary.ensures ∙ c.in-Some.is)
