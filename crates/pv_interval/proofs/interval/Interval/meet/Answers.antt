use Rattle.std.proofs.Common.{sym, subst}
use Rattle.pv_interval.specs.Inclusion.{HoldsBoth}
use Rattle.pv_interval.proofs.Orders.{meet_keeps}
use Rattle.pv_interval.proofs.interval.Interval.meet.Goals as goal

pub returns-clause-inclusion : goal.returns-clause-inclusion
returns-clause-inclusion c = subst (HoldsBoth c.args.self c.args.other) (sym c.common.ensures) (λ f. meet_keeps f.top f.under c.args.self c.args.other)
