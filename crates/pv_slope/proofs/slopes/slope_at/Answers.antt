use Rattle.std.proofs.Common.{length}
use Rattle.pv_hc4.specs.Nodes.{terms, term_at}
use Rattle.pv_slope.proofs.Ranging.{flat_none, slope_none}
use Rattle.pv_slope.proofs.slopes.slope_at.Goals as goal

pub returns-then-not-forward_all : goal.returns-then-not-forward_all
returns-then-not-forward_all c =
    slope_none c.args.bx.now c.args.i (term_at (terms c.args.nodes.now) c.args.root)
    (flat_none c.args.nodes.now c.args.root (length c.args.bx.now) c.args.bx.now c.requires.flat c.if-not-forward_all.ensures.passed)
