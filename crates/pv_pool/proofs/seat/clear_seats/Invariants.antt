use Rattle.std.proofs.Common.{◌≡◌, ◌+◌, ◌≤◌, ◌++◌, length, map, reverse, vec_capacity}
use Rattle.pv_pool.specs.Seats.{told_of, bench_of}
use Rattle.pv_pool.proofs.seat.clear_seats.Given as goal

abbrev pub invariant-loop-seat : goal.invariant-loop-seat
invariant-loop-seat g l = record {
  told : l.told.items ++ reverse (map told_of l.seats.items) ≡ reverse (map told_of l.initial.seats.items);
  bench : l.benches.items ++ reverse (map bench_of l.seats.items) ≡ reverse (map bench_of l.initial.seats.items);
  room_told : length l.told.items + length l.seats.items ≤ vec_capacity l.told;
  room_benches : length l.benches.items + length l.seats.items ≤ vec_capacity l.benches;
}

abbrev pub decreases-loop-seat : goal.decreases-loop-seat
decreases-loop-seat g l = length l.seats.items
