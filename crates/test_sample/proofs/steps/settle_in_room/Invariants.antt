use Rattle.std.proofs.Common.{◌≡◌, ◌+◌, ◌≤◌, length}
use Rattle.test_sample.proofs.steps.settle_in_room.Given as goal

abbrev pub invariant-loop : goal.invariant-loop
invariant-loop g l = record {
  root : l.paving.root ≡ l.initial.paving.root;
  scratch : length l.scratch ≡ length l.initial.scratch;
  room : l.most ≤ l.paving.spare + l.counter;
}
