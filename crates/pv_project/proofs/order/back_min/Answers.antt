use Rattle.std.proofs.Common.{sym, subst}
use Rattle.pv_interval.specs.Fractions.{least}
use Rattle.pv_project.specs.Kept.{KeepsPair}
use Rattle.pv_project.proofs.Kept.{back_min_keeps}
use Rattle.pv_project.proofs.order.back_min.Goals as goal

pub returns-clause-kept : goal.returns-clause-kept
returns-clause-kept c = subst (KeepsPair least c.args.z c.args.x c.args.y) (sym c.narrow_least.ensures) (λ f g. back_min_keeps f g c.args.z c.args.x c.args.y)
