use Rattle.std.proofs.Common.{sym, subst}
use Rattle.pv_project.specs.Kept.{KeepsQuotient}
use Rattle.pv_project.proofs.Kept.{back_div_keeps}
use Rattle.pv_project.proofs.ring.back_div.Goals as goal

pub returns-clause-kept : goal.returns-clause-kept
returns-clause-kept c = subst (KeepsQuotient c.args.z c.args.x c.args.y) (sym c.narrow_quotient.ensures) (λ f g h. back_div_keeps f g h c.args.z c.args.x c.args.y)
