use Rattle.std.proofs.Common.{◌≡◌, subst}
use Rattle.pv_interval.specs.Fractions.{opposite}
use Rattle.pv_interval.specs.Inclusion.{HoldsOne}
use Rattle.pv_interval.specs.Bounds.{IsInterval, between}
use Rattle.pv_interval.proofs.Intervals.{negated_interval}
use Rattle.pv_interval.proofs.Keeps.{opposite_keeps}
use Rattle.pv_interval.specs.Tables.{negated}
use Rattle.pv_interval.proofs.interval.Interval.neg.Goals as goal

pub of_ends-requires : goal.of_ends-requires
unfolding negated
of_ends-requires c =
    let e : negated c.args.self ≡ between c.neg-lo.result c.neg-hi.result = cc in
    subst IsInterval e (negated_interval c.args.self c.hi.ensures.interval)

pub returns-clause-value : goal.returns-clause-value
unfolding negated
returns-clause-value c = cc

pub returns-clause-inclusion : goal.returns-clause-inclusion
unfolding negated
returns-clause-inclusion c =
    let e : negated c.args.self ≡ c.of_ends.result = cc in
    subst (HoldsOne opposite c.args.self) e (λ f. opposite_keeps f c.args.self)
