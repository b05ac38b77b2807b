use Rattle.std.proofs.Common.{length, sym, subst}
use Rattle.pv_ctc.specs.Plans.{plan_of}
use Rattle.pv_ctc.specs.Refusals.{IsSpelling}
use Rattle.pv_slope.specs.Methods.{method_of}
use Rattle.pv_rule.proofs.Spelled.{rule_for}
use Rattle.pv_rule.proofs.system.settler_for.Goals as goal

pub returns-clause-rule : goal.returns-clause-rule
returns-clause-rule c =
    let s = c.in_ok-new.ensures in
    let n = length c.args.system.constraints in
    let program = subst (λ p. IsSpelling n c.args.settings.now.contract.now (plan_of p)) (sym s.program) c.in-Ok.ensures.program in
    rule_for c.args.system c.args.settings.now (method_of c.in_ok-new.field-0) c.in-Ok.ensures.few s.form program s.system s.sides s.eps s.depth s.bisector
