use Rattle.pv_interval.specs.Inclusion.{Covers}
use Rattle.pv_interval.proofs.Orders.{hull_keeps_left, hull_keeps_right}
use Rattle.std.proofs.Common.{◌≡◌, sym, subst}
use Rattle.pv_interval.specs.Bounds.{IsInterval, between}
use Rattle.pv_interval.specs.Tables.{hull_of}
use Rattle.pv_interval.proofs.Intervals.{hull_interval}
use Rattle.pv_interval.proofs.interval.Interval.hull.Goals as goal

pub of_ends-requires : goal.of_ends-requires
unfolding hull_of
of_ends-requires c =
    let e : between c.lesser-lo.result c.greater-hi.result ≡ hull_of c.args.self c.args.other = cc in
    subst IsInterval (sym e) (hull_interval c.args.self c.args.other c.lo.ensures.interval)

pub returns-clause-value : goal.returns-clause-value
unfolding hull_of
returns-clause-value c = cc

pub returns-clause-holds_left : goal.returns-clause-holds_left
unfolding hull_of
returns-clause-holds_left c =
    let e : hull_of c.args.self c.args.other ≡ c.of_ends.result = cc in
    subst (Covers c.args.self) e (λ f. hull_keeps_left f.top f.under c.args.self c.args.other)

pub returns-clause-holds_right : goal.returns-clause-holds_right
unfolding hull_of
returns-clause-holds_right c =
    let e : hull_of c.args.self c.args.other ≡ c.of_ends.result = cc in
    subst (Covers c.args.other) e (λ f. hull_keeps_right f.top f.under c.args.self c.args.other)
