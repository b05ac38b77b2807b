use Rattle.std.proofs.Common.{◌≡◌, length}
use Rattle.test_sample.proofs.steps.grow.Given as goal

abbrev pub invariant-loop : goal.invariant-loop
invariant-loop g l = record {
  root : l.growth.root ≡ l.initial.growth.root;
  scratch : length l.scratch ≡ length l.initial.scratch;
}
