use Rattle.std.proofs.Common.{◌≡◌, ◌++◌, drop, map}
use Rattle.pv_expr.specs.Searches.{search_bounds}
use Rattle.pv_expr.specs.Canonical.{variables_text}
use Rattle.pv_expr.proofs.canonical.write_variables.Given as goal

abbrev pub invariant-loop-i : goal.invariant-loop-i
invariant-loop-i l =
    l.out.items ++ variables_text (drop l.i l.system.names) (drop l.i (map search_bounds l.system.domains))
    ≡ l.initial.out.items ++ variables_text l.system.names (map search_bounds l.system.domains)
