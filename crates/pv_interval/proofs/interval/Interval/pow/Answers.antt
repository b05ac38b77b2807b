use Rattle.std.proofs.Common.{sym, subst}
use Rattle.pv_interval.specs.Inclusion.{HoldsPower}
use Rattle.pv_interval.proofs.Powers.{power_keeps}
use Rattle.pv_interval.proofs.interval.Interval.pow.Goals as goal

pub returns-clause-inclusion : goal.returns-clause-inclusion
returns-clause-inclusion c = subst (HoldsPower c.args.n c.args.self) (sym c.power.ensures) (λ f. power_keeps f c.args.self c.args.n)
