use Rattle.std.proofs.Common.{◌≡◌, sym, subst}
use Rattle.pv_interval.specs.Bounds.{IsInterval, between}
use Rattle.pv_interval.specs.Tables.{product_of}
use Rattle.pv_interval.proofs.Intervals.{product_interval}
use Rattle.pv_interval.proofs.Picks.{product_down}
use Rattle.pv_interval.proofs.interval.Interval.scale_down.Goals as goal

pub of_ends-requires : goal.of_ends-requires
of_ends-requires c =
    let p = product_down c.args.self c.args.other c.lo.ensures.interval c.lo-c.ensures.interval c.requires in
    let e : between c.mul-lo.result c.mul-hi.result ≡ product_of c.args.self c.args.other = cc in
    subst IsInterval (sym e) (product_interval c.args.self c.args.other c.lo.ensures.interval c.lo-c.ensures.interval)

pub returns : goal.returns
returns c =
    let p = product_down c.args.self c.args.other c.lo.ensures.interval c.lo-c.ensures.interval c.requires in cc
