use Rattle.std.proofs.Common.{◌≡◌, ◌+◌, ◌≤◌, length}
use Rattle.crossbeam_deque.specs.Handles.{worker_deque}
use Rattle.pv_pool.specs.Benches.{own}
use Rattle.pv_pool.proofs.worker.offer_all.Given as goal

abbrev pub invariant-loop-job : goal.invariant-loop-job
invariant-loop-job g l = record {
  deque : worker_deque l.owner.worker ≡ worker_deque l.initial.owner.worker;
  passes : (own l.owner).parts ≡ (own l.initial.owner).parts;
  taken : (own l.owner).taken ≡ (own l.initial.owner).taken;
  went : (g.W.Work.numbers l.told).back + length (own l.owner).pushed + length l.children ≡ (g.W.Work.numbers l.initial.told).back + length (own l.initial.owner).pushed + length l.initial.children;
  back : (g.W.Work.numbers l.initial.told).back ≤ (g.W.Work.numbers l.told).back;
  pushed : length (own l.initial.owner).pushed ≤ length (own l.owner).pushed;
  given : (g.W.Work.numbers l.told).given ≡ (g.W.Work.numbers l.initial.told).given;
  looks : (g.W.Work.numbers l.told).looks ≡ (g.W.Work.numbers l.initial.told).looks;
  ends : (g.W.Work.numbers l.told).ends ≡ (g.W.Work.numbers l.initial.told).ends;
  parts : (g.W.Work.numbers l.told).parts ≡ (g.W.Work.numbers l.initial.told).parts;
}

abbrev pub decreases-loop-job : goal.decreases-loop-job
decreases-loop-job g l = length l.children
