use Rattle.std.proofs.Common.{◌≡◌, ◌+◌, ◌*◌, drop}
use Rattle.std.specs.Prelude.{nat_le}
use Rattle.pv_ctc.specs.Plans.{plan_of, plans_of}
use Rattle.pv_ctc.specs.Sureness.{all_true, count_true}
use Rattle.pv_ctc.proofs.Sizes.{plan_size, plans_size}
use Rattle.pv_slope.specs.Programs.{none_by_each}
use Rattle.pv_slope.proofs.verdicts.+emptiness.Given as goal

abbrev pub decreases-has_none : goal.decreases-has_none
decreases-has_none l = 2 * plan_size (plan_of l.program.now)

abbrev pub decreases-all_have_none : goal.decreases-all_have_none
decreases-all_have_none l = 2 * plans_size (plans_of l.parts.now)

abbrev pub decreases-more_have_none : goal.decreases-more_have_none
decreases-more_have_none l = 2 * plans_size (plans_of l.parts.now) + 1

abbrev pub decreases-so_many_have_none : goal.decreases-so_many_have_none
decreases-so_many_have_none l = 2 * plans_size (plans_of l.parts.now)

abbrev pub invariant-all_have_none-loop-part : goal.invariant-all_have_none-loop-part
invariant-all_have_none-loop-part l =
    all_true (none_by_each l.tests (plans_of (drop l.part-index l.parts))) ≡ all_true (none_by_each l.tests (plans_of l.parts))

abbrev pub invariant-so_many_have_none-loop-part : goal.invariant-so_many_have_none-loop-part
invariant-so_many_have_none-loop-part l =
    nat_le l.missing (count_true (none_by_each l.tests (plans_of (drop l.part-index l.parts)))) ≡ nat_le l.wanted (count_true (none_by_each l.tests (plans_of l.parts)))
