use Rattle.std.proofs.Common.{◌≡◌, drop}
use Rattle.std.specs.Prelude.{nat_le}
use Rattle.pv_ctc.specs.Sureness.{count_true}
use Rattle.pv_slope.proofs.verdicts.some_hold.Given as goal

abbrev pub invariant-loop-test : goal.invariant-loop-test
invariant-loop-test l = nat_le 1 (count_true (drop l.test-index l.tests)) ≡ nat_le 1 (count_true l.tests)
