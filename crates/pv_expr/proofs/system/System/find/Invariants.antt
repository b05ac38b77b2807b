use Rattle.std.proofs.Common.{ℕ, ◌<◌, ◌≢◌, slice_get, Some}
use Rattle.pv_expr.proofs.system.System.find.Given as goal

abbrev pub invariant-loop-i : goal.invariant-loop-i
invariant-loop-i l = (k : ℕ) → k < l.i → slice_get l.self.names k ≢ Some l.name
