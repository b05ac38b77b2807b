use Rattle.std.proofs.Common.{sym, subst}
use Rattle.pv_interval.specs.Fractions.{greatest}
use Rattle.pv_project.specs.Kept.{KeepsPair}
use Rattle.pv_project.proofs.Kept.{back_max_keeps}
use Rattle.pv_project.proofs.order.back_max.Goals as goal

pub returns-clause-kept : goal.returns-clause-kept
returns-clause-kept c = subst (KeepsPair greatest c.args.z c.args.x c.args.y) (sym c.narrow_greatest.ensures) (λ f g. back_max_keeps f g c.args.z c.args.x c.args.y)
