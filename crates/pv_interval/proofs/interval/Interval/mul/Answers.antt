use Rattle.std.proofs.Common.{sym, subst}
use Rattle.pv_interval.specs.Fractions.{times}
use Rattle.pv_interval.specs.Inclusion.{HoldsPair}
use Rattle.pv_interval.proofs.Keeps.{product_keeps}
use Rattle.pv_interval.proofs.interval.Interval.mul.Goals as goal

pub returns-clause-inclusion : goal.returns-clause-inclusion
returns-clause-inclusion c = subst (HoldsPair times c.args.self c.args.other) (sym c.product.ensures) (λ f g. product_keeps f g c.args.self c.args.other)
