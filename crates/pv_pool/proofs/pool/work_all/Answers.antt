use Rattle.std.proofs.Common.{◌≡◌, ◌++◌, ◌<◌, length, map, reverse, take, drop, sym, ap, ◌∙◌, subst, refl}
use Rattle.pv_tree.proofs.Wholes.{written_back}
use Rattle.pv_pool.specs.Seats.{told_of, bench_of}
use Rattle.pv_pool.specs.Links.{AreReady}
use Rattle.pv_pool.specs.Pools.{HaveWorked}
use Rattle.pv_pool.proofs.Sitting.{seated, worked}
use Rattle.pv_pool.proofs.pool.work_all.Goals as goal

pub run_all-requires-clause-seated : goal.run_all-requires-clause-seated
run_all-requires-clause-seated g c κs within =
    seated g.W.Work.numbers c.as_mut_slice.result.now c.args.told.items c.args.benches.items
    (ap (λ l. reverse (map told_of l)) c.as_mut_slice.ensures.value ∙ c.seat_all.ensures.told) (ap (λ l. reverse (map bench_of l)) c.as_mut_slice.ensures.value ∙ c.seat_all.ensures.benches)
    (subst (λ n. AreReady n c.args.benches.items) c.args.told.ok.0 c.requires.ready) (λ i t there. c.requires.below i t (subst (λ n. i < n) (sym c.args.told.ok.0) there))

pub returns : goal.returns
returns g c =
    let ys = c.seat_all.new.seats.items in
    let xs = c.run_all.new.seats in
    let long : length ys ≡ c.seat_all.new.seats.len = ap length (sym c.as_mut_slice.ensures.value) ∙ c.as_mut_slice.ensures.len in
    let now : length xs ≡ c.seat_all.new.seats.len = c.run_all.ensures.count ∙ c.as_mut_slice.ensures.len in
    let back : take c.seat_all.new.seats.len (xs ++ drop (length xs) ys) ≡ xs = written_back c.seat_all.new.seats.len xs ys now long in
    let told_is = c.clear_seats.ensures.told ∙ ap (λ l. reverse (map told_of l)) back in
    let benches_is = c.clear_seats.ensures.benches ∙ ap (λ l. reverse (map bench_of l)) back in
    subst (λ l. HaveWorked g.W.Work.numbers c.args.told.items l c.clear_seats.new.benches.items) (sym told_is)
    (subst (λ l. HaveWorked g.W.Work.numbers c.args.told.items (reverse (map told_of xs)) l) (sym benches_is)
    (worked g.W.Work.numbers c.as_mut_slice.result.now xs c.args.told.items c.args.benches.items
    (ap (λ l. reverse (map told_of l)) c.as_mut_slice.ensures.value ∙ c.seat_all.ensures.told) (ap (λ l. reverse (map bench_of l)) c.as_mut_slice.ensures.value ∙ c.seat_all.ensures.benches)
    (subst (λ n. AreReady n c.args.benches.items) c.args.told.ok.0 c.requires.ready) (λ i t there. c.requires.below i t (subst (λ n. i < n) (sym c.args.told.ok.0) there))
    c.run_all.ensures.count c.run_all.ensures.run))
