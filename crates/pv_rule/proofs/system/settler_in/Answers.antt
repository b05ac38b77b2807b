use Rattle.std.proofs.lemmas.Result.{IfOk-weaker}
use Rattle.pv_rule.proofs.system.settler_in.Goals as goal

pub returns-in-Ok-clause-rule : goal.returns-in-Ok-clause-rule
returns-in-Ok-clause-rule g c =
    IfOk-weaker c.settler_for.result _ _
    (λ s is. record { system = c.in-Ok.system; read = c.in-Ok.ensures.system; is = is }) c.settler_for.ensures.rule
