use Rattle.std.proofs.Common.{sym, subst}
use Rattle.pv_interval.specs.Inclusion.{HoldsQuotient}
use Rattle.pv_interval.proofs.Quotients.{quotient_keeps}
use Rattle.pv_interval.proofs.interval.Interval.quotient.Goals as goal

pub returns-clause-inclusion : goal.returns-clause-inclusion
returns-clause-inclusion c = subst (HoldsQuotient c.args.self c.args.by) (sym c.divided.ensures) (λ f g h. quotient_keeps f g h c.args.self c.args.by)
