use Rattle.std.proofs.Common.{sym, subst}
use Rattle.pv_interval.specs.Fractions.{size}
use Rattle.pv_project.specs.Kept.{KeepsOne}
use Rattle.pv_project.proofs.Kept.{back_abs_keeps}
use Rattle.pv_project.proofs.order.back_abs.Goals as goal

pub returns-clause-kept : goal.returns-clause-kept
returns-clause-kept c = subst (KeepsOne size c.args.z c.args.x) (sym c.narrow_size.ensures) (λ f. back_abs_keeps f c.args.z c.args.x)
