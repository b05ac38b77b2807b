use Rattle.std.proofs.Common.{length}
use Rattle.pv_hc4.proofs.Totals.{sides_none, sides_some}
use Rattle.pv_hc4.proofs.graph.forward_values.Goals as goal

pub returns-then-not-forward_all : goal.returns-then-not-forward_all
returns-then-not-forward_all c =
    sides_none (record { nodes = c.args.nodes.now; left = c.args.left; relation = c.args.relation; right = c.args.right; dims = length c.args.bx.now }) c.args.bx.now c.requires.graph c.if-not-forward_all.ensures.passed

pub returns : goal.returns
returns c =
    sides_some (record { nodes = c.args.nodes.now; left = c.args.left; relation = c.args.relation; right = c.args.right; dims = length c.args.bx.now }) c.args.bx.now c.forward_all.new.values c.index-values-left.result c.index-values-right.result c.is_total.result c.requires.graph c.if-not-forward_all.ensures.passed c.index-values-left.is c.index-values-right.is c.is_total.ensures
