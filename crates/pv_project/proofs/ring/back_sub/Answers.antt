use Rattle.std.proofs.Common.{sym, subst}
use Rattle.pv_interval.specs.Fractions.{minus}
use Rattle.pv_project.specs.Kept.{KeepsPair}
use Rattle.pv_project.proofs.Kept.{back_sub_keeps}
use Rattle.pv_project.proofs.ring.back_sub.Goals as goal

pub returns-clause-kept : goal.returns-clause-kept
returns-clause-kept c = subst (KeepsPair minus c.args.z c.args.x c.args.y) (sym c.narrow_difference.ensures) (λ f g. back_sub_keeps f g c.args.z c.args.x c.args.y)
