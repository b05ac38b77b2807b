use Rattle.std.proofs.Common.{◌≤◌, length, drop}
use Rattle.pv_parse.specs.Meanings.{AreSame, variables_from}
use Rattle.pv_parse.specs.Views.{view}
use Rattle.pv_parse.proofs.names.Names.of_system.Given as goal

abbrev pub invariant-loop-i : goal.invariant-loop-i
invariant-loop-i l = record {
  within : l.i ≤ length l.system.names;
  same : AreSame (view l.names) (variables_from (drop l.i l.system.names) l.i);
}

abbrev pub decreases-loop-i : goal.decreases-loop-i
decreases-loop-i l = l.i
