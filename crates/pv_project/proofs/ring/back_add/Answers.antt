use Rattle.std.proofs.Common.{sym, subst}
use Rattle.pv_interval.specs.Fractions.{plus}
use Rattle.pv_project.specs.Kept.{KeepsPair}
use Rattle.pv_project.proofs.Kept.{back_add_keeps}
use Rattle.pv_project.proofs.ring.back_add.Goals as goal

pub returns-clause-kept : goal.returns-clause-kept
returns-clause-kept c = subst (KeepsPair plus c.args.z c.args.x c.args.y) (sym c.narrow_sum.ensures) (λ f g. back_add_keeps f g c.args.z c.args.x c.args.y)
