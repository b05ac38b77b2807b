use Rattle.std.proofs.Common.{length, sym, ◌∙◌}
use Rattle.pv_hc4.proofs.Judging.{sure_total}
use Rattle.pv_hc4.proofs.judge.is_sure.Goals as goal

pub returns-then-decides : goal.returns-then-decides
returns-then-decides c =
    sure_total (record { nodes = c.args.nodes.now; left = c.args.left; relation = c.args.relation; right = c.args.right; dims = length c.args.bx.now }) c.args.bx.now c.args.values.now c.index-values-left.result c.index-values-right.result c.is_total.result
    c.requires.graph c.requires.valued c.index-values-left.is c.index-values-right.is (sym c.decides.ensures ∙ c.if-decides.true) c.is_total.ensures
