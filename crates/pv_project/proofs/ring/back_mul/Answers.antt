use Rattle.std.proofs.Common.{sym, subst}
use Rattle.pv_interval.specs.Fractions.{times}
use Rattle.pv_project.specs.Kept.{KeepsPair}
use Rattle.pv_project.proofs.Kept.{back_mul_keeps}
use Rattle.pv_project.proofs.ring.back_mul.Goals as goal

pub returns-clause-kept : goal.returns-clause-kept
returns-clause-kept c = subst (KeepsPair times c.args.z c.args.x c.args.y) (sym c.narrow_product.ensures) (λ f g. back_mul_keeps f g c.args.z c.args.x c.args.y)
