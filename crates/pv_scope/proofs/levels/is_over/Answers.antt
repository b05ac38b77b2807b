use Rattle.std.proofs.Common.{inr}
use Rattle.pv_scope.proofs.levels.is_over.Goals as goal

pub returns-clause-over : goal.returns-clause-over
returns-clause-over c = λ yes. inr (c.is_closed.ensures.closed yes)
