use Rattle.std.proofs.Common.{◌≡◌, ◌+◌, ◌++◌, take, vec_len, vec_capacity}
use Rattle.pv_tree.proofs.intake.take_ends.Given as goal

abbrev pub invariant-loop-i : goal.invariant-loop-i
invariant-loop-i l = record {
  items : l.ends.items ≡ l.initial.ends.items ++ take l.i l.more;
  count : vec_len l.ends ≡ vec_len l.initial.ends + l.i;
  capacity : vec_capacity l.ends ≡ vec_capacity l.initial.ends;
}
