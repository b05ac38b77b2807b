use Rattle.std.proofs.Common.{sym, subst}
use Rattle.pv_interval.specs.Fractions.{opposite}
use Rattle.pv_project.specs.Kept.{KeepsOne}
use Rattle.pv_project.proofs.Kept.{back_neg_keeps}
use Rattle.pv_project.proofs.order.back_neg.Goals as goal

pub returns-clause-kept : goal.returns-clause-kept
returns-clause-kept c = subst (KeepsOne opposite c.args.z c.args.x) (sym c.narrow_opposite.ensures) (λ f. back_neg_keeps f c.args.z c.args.x)
