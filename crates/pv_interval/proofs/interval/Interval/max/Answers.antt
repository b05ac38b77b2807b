use Rattle.pv_interval.specs.Fractions.{greatest}
use Rattle.pv_interval.specs.Inclusion.{HoldsPair}
use Rattle.pv_interval.proofs.Orders.{greatest_keeps}
use Rattle.std.proofs.Common.{◌≡◌, sym, subst}
use Rattle.pv_interval.specs.Bounds.{IsInterval, between}
use Rattle.pv_interval.specs.Tables.{greatest_of}
use Rattle.pv_interval.proofs.Intervals.{greatest_interval}
use Rattle.pv_interval.proofs.interval.Interval.max.Goals as goal

pub of_ends-requires : goal.of_ends-requires
unfolding greatest_of
of_ends-requires c =
    let e : between c.greater-lo.result c.greater-hi.result ≡ greatest_of c.args.self c.args.other = cc in
    subst IsInterval (sym e) (greatest_interval c.args.self c.args.other c.lo.ensures.interval c.lo-2.ensures.interval)

pub returns-clause-value : goal.returns-clause-value
unfolding greatest_of
returns-clause-value c = cc

pub returns-clause-inclusion : goal.returns-clause-inclusion
unfolding greatest_of
returns-clause-inclusion c =
    let e : greatest_of c.args.self c.args.other ≡ c.of_ends.result = cc in
    subst (HoldsPair greatest c.args.self c.args.other) e (λ f g. greatest_keeps f g c.args.self c.args.other)
