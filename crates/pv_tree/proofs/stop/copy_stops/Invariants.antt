use Rattle.std.proofs.Common.{◌≡◌, ◌≤◌, length, take, vec_len, vec_capacity}
use Rattle.pv_tree.proofs.stop.copy_stops.Given as goal

abbrev pub invariant-loop-stop : goal.invariant-loop-stop
invariant-loop-stop l = record {
  items : l.into.items ≡ take l.stop-index l.from;
  count : vec_len l.into ≡ l.stop-index;
  room : length l.from ≤ vec_capacity l.into;
  capacity : vec_capacity l.into ≡ vec_capacity l.fn.into;
}
