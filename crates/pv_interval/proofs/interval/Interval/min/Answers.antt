use Rattle.pv_interval.specs.Fractions.{least}
use Rattle.pv_interval.specs.Inclusion.{HoldsPair}
use Rattle.pv_interval.proofs.Orders.{least_keeps}
use Rattle.std.proofs.Common.{◌≡◌, sym, subst}
use Rattle.pv_interval.specs.Bounds.{IsInterval, between}
use Rattle.pv_interval.specs.Tables.{least_of}
use Rattle.pv_interval.proofs.Intervals.{least_interval}
use Rattle.pv_interval.proofs.interval.Interval.min.Goals as goal

pub of_ends-requires : goal.of_ends-requires
unfolding least_of
of_ends-requires c =
    let e : between c.lesser-lo.result c.lesser-hi.result ≡ least_of c.args.self c.args.other = cc in
    subst IsInterval (sym e) (least_interval c.args.self c.args.other c.lo.ensures.interval c.lo-2.ensures.interval)

pub returns-clause-value : goal.returns-clause-value
unfolding least_of
returns-clause-value c = cc

pub returns-clause-inclusion : goal.returns-clause-inclusion
unfolding least_of
returns-clause-inclusion c =
    let e : least_of c.args.self c.args.other ≡ c.of_ends.result = cc in
    subst (HoldsPair least c.args.self c.args.other) e (λ f g. least_keeps f g c.args.self c.args.other)
