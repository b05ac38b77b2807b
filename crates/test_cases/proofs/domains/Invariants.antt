use Rattle.std.proofs.Common.{◌≡◌, length, take}
use Rattle.std.specs.Prelude.{map}
use Rattle.pv_expr.specs.Searches.{search_bounds}
use Rattle.test_cases.proofs.domains.Given as goal

abbrev pub invariant-loop-i : goal.invariant-loop-i
invariant-loop-i l = record {
  end : l.i-end ≡ length l.system.names;
  parts : l.parts.items ≡ take l.i (map search_bounds l.system.domains);
}
