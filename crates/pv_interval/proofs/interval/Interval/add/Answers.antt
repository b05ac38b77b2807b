use Rattle.pv_interval.specs.Fractions.{plus}
use Rattle.pv_interval.specs.Inclusion.{HoldsPair}
use Rattle.pv_interval.proofs.Keeps.{sum_keeps}
use Rattle.std.proofs.Common.{◌≡◌, sym, subst}
use Rattle.pv_interval.specs.Bounds.{IsInterval, between}
use Rattle.pv_interval.specs.Tables.{sum_of}
use Rattle.pv_interval.proofs.Intervals.{sum_interval}
use Rattle.pv_interval.proofs.interval.Interval.add.Goals as goal

pub of_ends-requires : goal.of_ends-requires
unfolding sum_of
of_ends-requires c =
    let e : between c.add-lo.result c.add-hi.result ≡ sum_of c.args.self c.args.other = cc in
    subst IsInterval (sym e) (sum_interval c.args.self c.args.other c.lo.ensures.interval c.lo-2.ensures.interval)

pub returns-clause-value : goal.returns-clause-value
unfolding sum_of
returns-clause-value c = cc

pub returns-clause-inclusion : goal.returns-clause-inclusion
unfolding sum_of
returns-clause-inclusion c =
    let e : sum_of c.args.self c.args.other ≡ c.of_ends.result = cc in
    subst (HoldsPair plus c.args.self c.args.other) e (λ f g. sum_keeps f g c.args.self c.args.other)
