use Rattle.std.proofs.Common.{◌≡◌, length, take, drop}
use Rattle.pv_tree.proofs.arena.copy_out.Given as goal

abbrev pub invariant-loop-i : goal.invariant-loop-i
invariant-loop-i l = record {
  size : length l.into ≡ length l.initial.into;
  done : take l.i l.into ≡ take l.i (drop l.start l.ends);
}
