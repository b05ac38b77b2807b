use Rattle.std.proofs.Common.{length}
use Rattle.pv_slope.proofs.Ranging.{flat_total}
use Rattle.pv_slope.proofs.slopes.root_is_total.Goals as goal

pub returns : goal.returns
returns c = flat_total c.args.nodes.now c.args.root (length c.args.bx.now) c.args.bx.now c.is_total.result c.requires.flat c.is_total.ensures
