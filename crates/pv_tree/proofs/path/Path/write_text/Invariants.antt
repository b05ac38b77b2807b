use Rattle.std.proofs.Common.{◌≡◌, ◌≤◌, ◌+◌, ◌++◌, length, take, map, vec_len, vec_capacity}
use Rattle.pv_tree.specs.PathText.{digit}
use Rattle.pv_tree.proofs.path.Path.write_text.Given as goal

abbrev pub invariant-loop-i : goal.invariant-loop-i
invariant-loop-i l = record {
  text : l.out.items ≡ l.initial.out.items ++ map digit (take l.i l.self);
  room : vec_len l.out + length l.self ≤ vec_capacity l.out + l.i;
}
