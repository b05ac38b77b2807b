use Rattle.std.proofs.Common.{◌≡◌, sym, subst}
use Rattle.pv_interval.specs.Bounds.{IsInterval, between}
use Rattle.pv_interval.specs.Tables.{odd_power}
use Rattle.pv_interval.proofs.Intervals.{odd_interval}
use Rattle.pv_interval.proofs.interval.Interval.odd_power.Goals as goal

pub of_ends-requires : goal.of_ends-requires
of_ends-requires c =
    let e : between c.signed_power-lo.result c.signed_power-hi.result ≡ odd_power c.args.self c.args.n = cc in
    subst IsInterval (sym e) (odd_interval c.args.self c.args.n c.requires.odd c.lo.ensures.interval)
