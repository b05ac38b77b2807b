use Rattle.std.proofs.Common.{◌≡◌, ◌+◌, ◌*◌, ◌++◌, length, drop}
use Rattle.std.specs.Prelude.{All}
use Rattle.pv_hc4.specs.Members.{AreWithin}
use Rattle.pv_ctc.specs.Plans.{plan_of, plans_of}
use Rattle.pv_ctc.specs.Contracting.{sides_in, contract_of, effects, in_order, turns_of, results}
use Rattle.pv_ctc.specs.Facts.{Knows}
use Rattle.pv_ctc.specs.Revisions.{revisions, revisions_in_order, revisions_of_all, sum_of_turns}
use Rattle.pv_ctc.specs.Steps.{IsSoFar}
use Rattle.pv_ctc.proofs.Sizes.{plan_size, plans_size}
use Rattle.pv_ctc.proofs.Tallies.{SoMany}
use Rattle.pv_ctc.proofs.contract.+narrowing.Given as goal

abbrev pub decreases-narrow : goal.decreases-narrow
decreases-narrow g l = 3 * plan_size (plan_of l.program.now)

abbrev pub decreases-narrow_in_order : goal.decreases-narrow_in_order
decreases-narrow_in_order g l = 3 * plans_size (plans_of l.parts.now) + 1

abbrev pub decreases-narrow_to_hull : goal.decreases-narrow_to_hull
decreases-narrow_to_hull g l = 3 * plans_size (plans_of l.parts.now) + 2

abbrev pub decreases-narrow_to_q_hull : goal.decreases-narrow_to_q_hull
decreases-narrow_to_q_hull g l = 3 * plans_size (plans_of l.parts.now) + 2

abbrev pub decreases-left_by_each : goal.decreases-left_by_each
decreases-left_by_each g l = 3 * plans_size (plans_of l.parts.now) + 1

abbrev pub decreases-narrow_in_turns : goal.decreases-narrow_in_turns
decreases-narrow_in_turns g l = 3 * plan_size (plan_of l.part.now) + 1

abbrev pub decreases-narrow_in_turns-loop-left : goal.decreases-narrow_in_turns-loop-left
decreases-narrow_in_turns-loop-left g l = l.left

-- what is left of the box by all parts is what the further ones leave of it as it is now, and their revisions are still to come
abbrev pub invariant-narrow_in_order-loop-part : goal.invariant-narrow_in_order-loop-part
invariant-narrow_in_order-loop-part g l = record {
  dims : length l.bx ≡ length l.fn.bx;
  so_far : IsSoFar l.answer l.fn.bx l.bx;
  within : AreWithin l.bx l.fn.bx;
  known : Knows (sides_in l.graphs) l.known l.bx;
  rest : in_order (effects (sides_in l.graphs) (plans_of (drop l.part-index l.parts))) l.bx ≡ in_order (effects (sides_in l.graphs) (plans_of l.parts)) l.fn.bx;
  count : SoMany (g.C.Counter.told l.fn.counter) (g.C.Counter.told l.counter) (revisions_in_order (sides_in l.graphs) (plans_of (drop l.part-index l.parts)) l.bx) (revisions_in_order (sides_in l.graphs) (plans_of l.parts) l.fn.bx);
}

abbrev pub invariant-narrow_in_turns-loop-left : goal.invariant-narrow_in_turns-loop-left
invariant-narrow_in_turns-loop-left g l = record {
  dims : length l.bx ≡ length l.fn.bx;
  so_far : IsSoFar l.answer l.fn.bx l.bx;
  within : AreWithin l.bx l.fn.bx;
  known : Knows (sides_in l.graphs) l.known l.bx;
  rest : turns_of l.left (contract_of (sides_in l.graphs) (plan_of l.part)) l.bx ≡ turns_of l.turns (contract_of (sides_in l.graphs) (plan_of l.part)) l.fn.bx;
  count : SoMany (g.C.Counter.told l.fn.counter) (g.C.Counter.told l.counter) (sum_of_turns l.left (contract_of (sides_in l.graphs) (plan_of l.part)) (revisions (sides_in l.graphs) (plan_of l.part)) l.bx) (sum_of_turns l.turns (contract_of (sides_in l.graphs) (plan_of l.part)) (revisions (sides_in l.graphs) (plan_of l.part)) l.fn.bx);
}

abbrev pub invariant-left_by_each-loop-part : goal.invariant-left_by_each-loop-part
invariant-left_by_each-loop-part g l = record {
  dims : All (λ b. length b ≡ length l.bx) l.found.items;
  found : l.found.items ++ results (effects (sides_in l.graphs) (plans_of (drop l.part-index l.parts))) l.bx ≡ results (effects (sides_in l.graphs) (plans_of l.parts)) l.bx;
  count : SoMany (g.C.Counter.told l.fn.counter) (g.C.Counter.told l.counter) (revisions_of_all (sides_in l.graphs) (plans_of (drop l.part-index l.parts)) l.bx) (revisions_of_all (sides_in l.graphs) (plans_of l.parts) l.bx);
}
