-- The parts of a seat.
use Rattle.pv_pool.specs.declared.seat.Seat.{Seat}
use Rattle.pv_pool.specs.declared.bench.Bench.{Bench}

module _ {J T : Type 0} where
  abbrev pub told_of : Seat J T → T
  told_of s = s.told

  abbrev pub bench_of : Seat J T → Bench J
  bench_of s = s.bench
