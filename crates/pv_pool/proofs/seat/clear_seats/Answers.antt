use Rattle.std.proofs.Common.{◌++◌, map, reverse, ap, ◌∙◌, sym, rules, arith}
use Rattle.pv_pool.specs.Seats.{told_of, bench_of}
use Rattle.pv_pool.proofs.Rows.{pushed_on}
use Rattle.pv_pool.proofs.seat.clear_seats.Goals as goal

pub loop-seat-preserved : goal.loop-seat-preserved
loop-seat-preserved g c = record {
  told = ap (λ l. l ++ reverse (map told_of c.pop.new.self.items)) c.push_reserved.ensures.items
      ∙ (pushed_on told_of c.loop-seat.told.items c.pop.new.self.items c.in-Some.seat
      ∙ (ap (λ l. c.loop-seat.told.items ++ reverse (map told_of l)) (sym c.in-Some.ensures.items) ∙ c.loop-seat.invariant.told));
  bench = ap (λ l. l ++ reverse (map bench_of c.pop.new.self.items)) c.push_reserved-in-Some.ensures.items
      ∙ (pushed_on bench_of c.loop-seat.benches.items c.pop.new.self.items c.in-Some.seat
      ∙ (ap (λ l. c.loop-seat.benches.items ++ reverse (map bench_of l)) (sym c.in-Some.ensures.items) ∙ c.loop-seat.invariant.bench));
  room_told = search rules;
  room_benches = search rules;
}
