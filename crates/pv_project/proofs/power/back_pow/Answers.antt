use Rattle.std.proofs.Common.{sym, subst}
use Rattle.pv_project.specs.Kept.{KeepsPower}
use Rattle.pv_project.proofs.RootsKept.{back_pow_keeps}
use Rattle.pv_project.proofs.power.back_pow.Goals as goal

pub returns-clause-kept : goal.returns-clause-kept
returns-clause-kept c = subst (KeepsPower c.args.z c.args.x c.args.n) (sym c.narrow_power.ensures) (λ f. back_pow_keeps f c.args.z c.args.x c.args.n)
