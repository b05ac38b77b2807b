use Rattle.std.proofs.Common.{◌≡◌, ◌+◌, ◌*◌, drop}
use Rattle.std.specs.Prelude.{nat_le}
use Rattle.pv_ctc.specs.Plans.{plan_of, plans_of}
use Rattle.pv_ctc.specs.Sureness.{all_true, count_true}
use Rattle.pv_ctc.proofs.Sizes.{plan_size, plans_size}
use Rattle.pv_slope.specs.Programs.{sure_by_each}
use Rattle.pv_slope.proofs.verdicts.+fullness.Given as goal

abbrev pub decreases-is_sure : goal.decreases-is_sure
decreases-is_sure l = 2 * plan_size (plan_of l.program.now)

abbrev pub decreases-all_are_sure : goal.decreases-all_are_sure
decreases-all_are_sure l = 2 * plans_size (plans_of l.parts.now) + 1

abbrev pub decreases-so_many_are_sure : goal.decreases-so_many_are_sure
decreases-so_many_are_sure l = 2 * plans_size (plans_of l.parts.now) + 1

abbrev pub invariant-all_are_sure-loop-part : goal.invariant-all_are_sure-loop-part
invariant-all_are_sure-loop-part l =
    all_true (sure_by_each l.tests (plans_of (drop l.part-index l.parts))) ≡ all_true (sure_by_each l.tests (plans_of l.parts))

abbrev pub invariant-so_many_are_sure-loop-part : goal.invariant-so_many_are_sure-loop-part
invariant-so_many_are_sure-loop-part l =
    nat_le l.missing (count_true (sure_by_each l.tests (plans_of (drop l.part-index l.parts)))) ≡ nat_le l.q (count_true (sure_by_each l.tests (plans_of l.parts)))
