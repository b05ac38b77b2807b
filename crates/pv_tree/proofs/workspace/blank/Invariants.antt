use Rattle.std.proofs.Common.{◌≡◌, length}
use Rattle.pv_tree.proofs.workspace.blank.Given as goal

abbrev pub invariant-loop : goal.invariant-loop
invariant-loop l = length l.parts.items ≡ l.counter
