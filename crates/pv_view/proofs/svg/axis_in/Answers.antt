use Rattle.pv_view.proofs.Planes.{no_axis}
use Rattle.pv_view.proofs.svg.axis_in.Goals as goal

pub returns-else-is_bounded : goal.returns-else-is_bounded
returns-else-is_bounded c =
    no_axis c.args.system.now c.args.name.now c.in_ok-i.i c.search_interval.result c.in_ok-i.ensures.found c.search_interval.ensures
    (c.is_bounded.ensures.unbounded c.if-is_bounded.false)
