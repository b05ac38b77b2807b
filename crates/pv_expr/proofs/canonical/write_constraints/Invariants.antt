use Rattle.std.proofs.Common.{◌≡◌, ◌++◌, drop}
use Rattle.pv_expr.specs.Canonical.{constraints_text}
use Rattle.pv_expr.proofs.canonical.write_constraints.Given as goal

abbrev pub invariant-loop-i : goal.invariant-loop-i
invariant-loop-i l =
    l.out.items ++ constraints_text (drop l.i l.system.constraints) ≡ l.initial.out.items ++ constraints_text l.system.constraints
