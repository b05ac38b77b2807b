use Rattle.std.proofs.Common.{◌≡◌, ◌+◌, ◌*◌, ◌++◌, length, drop}
use Rattle.pv_ctc.specs.Plans.{plan_of, plans_of}
use Rattle.pv_ctc.specs.Texts.{parts_text}
use Rattle.pv_ctc.proofs.Sizes.{plan_size, plans_size}
use Rattle.pv_ctc.proofs.writing.+writing.Given as goal

abbrev pub decreases-write_program : goal.decreases-write_program
decreases-write_program l = 2 * plan_size (plan_of l.program.now)

abbrev pub decreases-write_list : goal.decreases-write_list
decreases-write_list l = 2 * plans_size (plans_of l.parts.now) + 1

abbrev pub decreases-write_parts : goal.decreases-write_parts
decreases-write_parts l = 2 * plans_size (plans_of l.parts.now)

abbrev pub invariant-write_parts-loop-i : goal.invariant-write_parts-loop-i
invariant-write_parts-loop-i l = record {
  end : l.i-end ≡ length l.parts;
  rest : l.out.items ++ parts_text l.i (plans_of (drop l.i l.parts)) ≡ l.fn.out.items ++ parts_text 0 (plans_of l.parts);
}
