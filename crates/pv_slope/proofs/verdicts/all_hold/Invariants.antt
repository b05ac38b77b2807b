use Rattle.std.proofs.Common.{◌≡◌, drop}
use Rattle.pv_ctc.specs.Sureness.{all_true}
use Rattle.pv_slope.proofs.verdicts.all_hold.Given as goal

abbrev pub invariant-loop-test : goal.invariant-loop-test
invariant-loop-test l = all_true (drop l.test-index l.tests) ≡ all_true l.tests
