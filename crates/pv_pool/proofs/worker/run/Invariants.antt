use Rattle.std.proofs.Common.{◌≡◌, ◌+◌, ◌≤◌, ◌^◌, length}
use Rattle.pv_pool.specs.Counting.{Lasted}
use Rattle.pv_pool.specs.Benches.{drawn, put, MayWork, SameBench}
use Rattle.pv_pool.proofs.worker.run.Given as goal

abbrev pub invariant-loop : goal.invariant-loop
invariant-loop g l = record {
  work : MayWork l.bench;
  same : SameBench l.initial.bench l.bench;
  lasted : Lasted l.rounds (g.W.Work.numbers l.initial.told) (g.W.Work.numbers l.told) (drawn l.initial.bench) (drawn l.bench) (put l.initial.bench) (put l.bench);
  few : l.rounds ≤ 2 ^ 63;
}
