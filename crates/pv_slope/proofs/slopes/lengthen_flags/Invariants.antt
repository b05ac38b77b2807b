use Rattle.std.proofs.Common.{◌≤◌, length}
use Rattle.pv_slope.proofs.slopes.lengthen_flags.Given as goal

abbrev pub invariant-loop : goal.invariant-loop
invariant-loop l = l.counter ≤ length l.column.items
