use Rattle.std.proofs.Common.{refl}
use Rattle.pv_hc4.proofs.Resting.{total_rests}
use Rattle.pv_hc4.proofs.judge.may_rest.Goals as goal

pub returns : goal.returns
returns c =
    total_rests c.is_total.result (record { nodes = c.args.nodes.now; left = c.args.left; relation = c.args.relation; right = c.args.right; dims = _ }) c.args.bx.now c.requires.graph refl c.dims-dims.ensures.is_box.intervals c.is_total.ensures
