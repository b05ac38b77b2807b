use Rattle.std.proofs.Common.{◌≡◌, ◌++◌, take}
use Rattle.pv_tree.proofs.path.Path.then.Given as goal

abbrev pub invariant-loop-i : goal.invariant-loop-i
invariant-loop-i l = l.path ≡ l.initial.path ++ take l.i l.tail
