use Rattle.std.proofs.Common.{◌≡◌, ◌+◌, ◌++◌, take, map, vec_len, vec_capacity}
use Rattle.pv_tree.specs.Intakes.{moved}
use Rattle.pv_tree.proofs.intake.append_nodes.Given as goal

abbrev pub invariant-loop-i : goal.invariant-loop-i
invariant-loop-i l = record {
  items : l.nodes.items ≡ l.initial.nodes.items ++ map (moved l.by.nodes l.by.ends) (take l.i l.more);
  count : vec_len l.nodes ≡ vec_len l.initial.nodes + l.i;
  capacity : vec_capacity l.nodes ≡ vec_capacity l.initial.nodes;
}
