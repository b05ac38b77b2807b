use Rattle.std.proofs.Common.{◌≡◌, ◌+◌, ◌*◌, drop}
use Rattle.std.specs.Prelude.{nat_le}
use Rattle.pv_ctc.specs.Contracting.{sides_in}
use Rattle.pv_ctc.specs.Facts.{Knows}
use Rattle.pv_ctc.specs.Sureness.{parts_sure, all_true, count_true}
use Rattle.pv_ctc.specs.Plans.{plan_of, plans_of}
use Rattle.pv_ctc.proofs.Sizes.{plan_size, plans_size}
use Rattle.pv_ctc.proofs.sure.+testing.Given as goal

abbrev pub decreases-is_sure : goal.decreases-is_sure
decreases-is_sure l = 2 * plan_size (plan_of l.program.now)

abbrev pub decreases-all_are_sure : goal.decreases-all_are_sure
decreases-all_are_sure l = 2 * plans_size (plans_of l.parts.now) + 1

abbrev pub decreases-so_many_are_sure : goal.decreases-so_many_are_sure
decreases-so_many_are_sure l = 2 * plans_size (plans_of l.parts.now) + 1

abbrev pub invariant-all_are_sure-loop-part : goal.invariant-all_are_sure-loop-part
invariant-all_are_sure-loop-part l = record {
  known : Knows (sides_in l.graphs) l.known l.bx;
  rest : all_true (parts_sure (sides_in l.graphs) (plans_of (drop l.part-index l.parts)) l.bx) ≡ all_true (parts_sure (sides_in l.graphs) (plans_of l.parts) l.bx);
}

abbrev pub invariant-so_many_are_sure-loop-part : goal.invariant-so_many_are_sure-loop-part
invariant-so_many_are_sure-loop-part l = record {
  known : Knows (sides_in l.graphs) l.known l.bx;
  rest : nat_le l.missing (count_true (parts_sure (sides_in l.graphs) (plans_of (drop l.part-index l.parts)) l.bx)) ≡ nat_le l.q (count_true (parts_sure (sides_in l.graphs) (plans_of l.parts) l.bx));
}
