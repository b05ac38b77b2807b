use Rattle.std.proofs.Common.{◌≡◌, ◌+◌, ◌≤◌, ◌++◌, length, map, reverse, vec_capacity}
use Rattle.pv_pool.specs.Seats.{told_of, bench_of}
use Rattle.pv_pool.proofs.seat.seat_all.Given as goal

abbrev pub invariant-loop-told : goal.invariant-loop-told
invariant-loop-told g l = record {
  told : l.told.items ++ reverse (map told_of l.seats.items) ≡ l.initial.told.items;
  bench : l.benches.items ++ reverse (map bench_of l.seats.items) ≡ l.initial.benches.items;
  same : length l.benches.items ≡ length l.told.items;
  room : length l.seats.items + length l.told.items ≤ vec_capacity l.seats;
}

abbrev pub decreases-loop-told : goal.decreases-loop-told
decreases-loop-told g l = length l.told.items
