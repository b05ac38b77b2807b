use Rattle.std.proofs.Common.{◌≡◌, sym, subst}
use Rattle.pv_interval.specs.Bounds.{IsInterval, between}
use Rattle.pv_interval.specs.Tables.{absolute, nought}
use Rattle.pv_interval.proofs.Intervals.{absolute_interval}
use Rattle.pv_interval.proofs.Cases.{absolute_up, absolute_down, absolute_wide}
use Rattle.pv_interval.proofs.interval.Interval.sizes.Goals as goal

pub returns-then-le : goal.returns-then-le
returns-then-le c = sym (absolute_up c.args.self (cc))

pub returns-then-le-2 : goal.returns-then-le-2
returns-then-le-2 c = let e = absolute_down c.args.self (cc) (cc) in cc

pub returns : goal.returns
returns c = let e = absolute_wide c.args.self (cc) (cc) in cc

pub of_ends-requires : goal.of_ends-requires
of_ends-requires c =
    let p = absolute_wide c.args.self (cc) (cc) in
    let e : between nought c.greater-hi.result ≡ absolute c.args.self = cc in
    subst IsInterval (sym e) (absolute_interval c.args.self c.lo.ensures.interval)
