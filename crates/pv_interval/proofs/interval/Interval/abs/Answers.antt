use Rattle.std.proofs.Common.{sym, subst}
use Rattle.pv_interval.specs.Fractions.{size}
use Rattle.pv_interval.specs.Inclusion.{HoldsOne}
use Rattle.pv_interval.proofs.Orders.{absolute_keeps}
use Rattle.pv_interval.proofs.interval.Interval.abs.Goals as goal

pub returns-clause-inclusion : goal.returns-clause-inclusion
returns-clause-inclusion c = subst (HoldsOne size c.args.self) (sym c.sizes.ensures) (λ f. absolute_keeps f c.args.self)
