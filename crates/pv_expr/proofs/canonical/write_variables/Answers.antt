use Rattle.pv_expr.proofs.Lines.{variables_step}
use Rattle.pv_expr.proofs.canonical.write_variables.Goals as goal

pub loop-i-preserved : goal.loop-i-preserved
loop-i-preserved c = variables_step _ _ _ _ _ c.in_ok-write_variable.ensures c.loop-i.invariant
