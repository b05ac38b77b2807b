use Rattle.pv_interval.specs.Fractions.{minus}
use Rattle.pv_interval.specs.Inclusion.{HoldsPair}
use Rattle.pv_interval.proofs.Keeps.{difference_keeps}
use Rattle.std.proofs.Common.{◌≡◌, sym, subst}
use Rattle.pv_interval.specs.Bounds.{IsInterval, between}
use Rattle.pv_interval.specs.Tables.{difference_of}
use Rattle.pv_interval.proofs.Intervals.{difference_interval}
use Rattle.pv_interval.proofs.interval.Interval.sub.Goals as goal

pub of_ends-requires : goal.of_ends-requires
unfolding difference_of
of_ends-requires c =
    let e : between c.sub-lo.result c.sub-hi.result ≡ difference_of c.args.self c.args.other = cc in
    subst IsInterval (sym e) (difference_interval c.args.self c.args.other c.lo.ensures.interval c.hi.ensures.interval)

pub returns-clause-value : goal.returns-clause-value
unfolding difference_of
returns-clause-value c = cc

pub returns-clause-inclusion : goal.returns-clause-inclusion
unfolding difference_of
returns-clause-inclusion c =
    let e : difference_of c.args.self c.args.other ≡ c.of_ends.result = cc in
    subst (HoldsPair minus c.args.self c.args.other) e (λ f g. difference_keeps f g c.args.self c.args.other)
