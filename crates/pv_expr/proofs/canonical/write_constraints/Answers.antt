use Rattle.pv_expr.proofs.Lines.{constraints_step}
use Rattle.pv_expr.proofs.canonical.write_constraints.Goals as goal

pub loop-i-preserved : goal.loop-i-preserved
loop-i-preserved c = constraints_step c.args.system.now.constraints c.loop-i.i c.constraint.result.now _ _ _ c.constraint.ensures.found c.in_ok-write_constraint.ensures c.loop-i.invariant
