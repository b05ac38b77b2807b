use Rattle.std.proofs.Common.{rules, length, drop, ◌+◌, ◌-◌, ◌++◌, [], ◌∷◌, suc, refl, ◌∙◌, ◌≡◌, ap, sym, subst, arith, inr}
use Rattle.std.specs.Prelude.{All, Some, IfOk, OnOk, OnErr}
use Rattle.pv_ctc.specs.Contracting.{sides_in, contract_of, effects, results, with_result, hull_all, q_hull_all}
use Rattle.pv_ctc.specs.Counters.{raised, RoseAtMost}
use Rattle.pv_ctc.specs.Facts.{Knows}
use Rattle.pv_ctc.specs.Plans.{plan_of, plans_of}
use Rattle.pv_ctc.specs.Revisions.{revisions, revisions_in_order, revisions_of_all, sum_of_turns}
use Rattle.pv_ctc.specs.Steps.{IsStep, IsSoFar}
use Rattle.pv_ctc.proofs.Boxes.{all_push}
use Rattle.pv_ctc.proofs.Falling.{compose_size, union_size, qinter_size, part_size}
use Rattle.pv_ctc.proofs.Narrowing.{contract-lies, so_far_changed, so_far_kept}
use Rattle.pv_ctc.proofs.Noting.{known_changed, known_kept, hull_known, q_hull_known}
use Rattle.pv_ctc.proofs.Parts.{compose_effect, union_effect, qinter_effect}
use Rattle.pv_ctc.proofs.Rows.{compose_parts, union_parts, qinter_parts, fits_at}
use Rattle.pv_ctc.proofs.Shrinking.{within_refl, within_trans}
use Rattle.pv_ctc.proofs.Summing.{compose_count, union_count, qinter_count, order_goes_on, order_without_memory, all_go_on, all_without_memory, turns_go_on, turns_stop, turns_break, turns_without_memory}
use Rattle.pv_ctc.proofs.Tallies.{all_to_come, rose_all, rose_so_far, for_err}
use Rattle.pv_ctc.proofs.Turns.{turns_end, turn_after, parts_after, results_step, found_none, found_some, step_empty, step_left, step_kept, step_changed, step_other}
use Rattle.pv_ctc.proofs.contract.+narrowing.Goals.{left_by_each-in-Empty, left_by_each-in-Kept+in_ok-push-in-Kept, narrow_in_order-in-Kept, narrow_in_order-in-Changed}
use Rattle.pv_ctc.proofs.contract.+narrowing.Goals as goal

pub left_by_each-narrow-requires : goal.left_by_each-narrow-requires
left_by_each-narrow-requires g t c κs within =
    (part_size c.args.parts.now c.loop-part.part-index c.part-item.result t c.loop-part-test.true c.part-item.is c.decreases, (within, (fits_at (length c.args.graphs.now.graphs) c.args.parts.now c.loop-part.part-index c.part-item.result c.requires.programs c.loop-part-test.true c.part-item.is, (ap length c.in_ok-to.ensures ∙ c.requires.dims, subst (Knows (sides_in c.args.graphs.now) c.args.known) (sym c.in_ok-to.ensures) c.requires.known))))

pub narrow-narrow_in_order-requires : goal.narrow-narrow_in_order-requires
narrow-narrow_in_order-requires g t c κs within =
    let s = compose_size c.args.program.now c.in-Compose.parts c.deref.result.now c.in-Compose.is c.deref.ensures.value in
    (omega (arith, s, c.decreases), (within, (compose_parts (length c.args.graphs.now.graphs) c.args.program.now c.in-Compose.parts c.deref.result.now c.in-Compose.is c.deref.ensures.value c.requires.program, (c.requires.dims, c.requires.known))))

pub narrow-narrow_to_hull-requires : goal.narrow-narrow_to_hull-requires
narrow-narrow_to_hull-requires g t c κs within =
    let s = union_size c.args.program.now c.in-Union.parts c.deref-in-Union.result.now c.in-Union.is c.deref-in-Union.ensures.value in
    (omega (arith, s, c.decreases), (within, (union_parts (length c.args.graphs.now.graphs) c.args.program.now c.in-Union.parts c.deref-in-Union.result.now c.in-Union.is c.deref-in-Union.ensures.value c.requires.program, (c.requires.dims, c.requires.known))))

pub narrow-narrow_to_q_hull-requires : goal.narrow-narrow_to_q_hull-requires
narrow-narrow_to_q_hull-requires g t c κs within =
    let s = qinter_size c.args.program.now c.in-QInter.q c.in-QInter.parts c.deref-in-QInter.result.now c.in-QInter.is c.deref-in-QInter.ensures.value in
    let f = qinter_parts (length c.args.graphs.now.graphs) c.in-QInter.q c.args.program.now c.in-QInter.parts c.deref-in-QInter.result.now c.in-QInter.is c.deref-in-QInter.ensures.value c.requires.program in
    (omega (arith, s, c.decreases), (within, (f.0, (f.1, (c.requires.dims, c.requires.known)))))

pub narrow_in_order-narrow-requires : goal.narrow_in_order-narrow-requires
narrow_in_order-narrow-requires g t c κs within =
    (part_size c.args.parts.now c.loop-part.part-index c.part-item.result t c.loop-part-test.true c.part-item.is c.decreases, (within, (fits_at (length c.args.graphs.now.graphs) c.args.parts.now c.loop-part.part-index c.part-item.result c.requires.programs c.loop-part-test.true c.part-item.is, (c.loop-part.invariant.dims ∙ c.requires.dims, c.loop-part.invariant.known))))

pub left_by_each-returns-in_err-narrow-clause-at_most : goal.left_by_each-returns-in_err-narrow-clause-at_most
left_by_each-returns-in_err-narrow-clause-at_most g t c =
    let ss = sides_in c.args.graphs.now in
    for_err c.from_residual-in_err-narrow.result
    (all_without_memory ss c.args.parts.now c.loop-part.part-index c.part-item.result c.args.bx.now c.in_ok-to.to (g.C.Counter.told c.args.counter.now) (g.C.Counter.told c.loop-part.counter) (g.C.Counter.told c.narrow.new.counter) (revisions_of_all ss (plans_of c.args.parts.now) c.args.bx.now)
    c.loop-part-test.true c.part-item.is c.in_ok-to.ensures c.in_err-narrow.ensures.at_most c.loop-part.invariant.count)

pub left_by_each-returns-in_err-push-in-Kept : goal.left_by_each-returns-in_err-push-in-Kept
left_by_each-returns-in_err-push-in-Kept g t c =
    let ss = sides_in c.args.graphs.now in
    let ps = c.args.parts.now in
    let start = g.C.Counter.told c.args.counter.now in
    let next = g.C.Counter.told c.narrow.new.counter in
    let all = revisions_of_all ss (plans_of ps) c.args.bx.now in
    let k = c.loop-part.part-index in
    record {
      dims = search rules;
      found = search rules;
      counted = search rules;
      at_most = for_err c.from_residual-in_err-push-in-Kept.result (rose_so_far start next (revisions_of_all ss (plans_of (drop (k + 1) ps)) c.args.bx.now) all
          (all_go_on ss ps k c.part-item.result c.args.bx.now c.in_ok-to.to start (g.C.Counter.told c.loop-part.counter) next all c.loop-part-test.true c.part-item.is c.in_ok-to.ensures c.in_ok-narrow.ensures.counted c.loop-part.invariant.count));
    }

pub left_by_each-loop-part-preserved : goal.left_by_each-loop-part-preserved
left_by_each-loop-part-preserved g t c =
    let ss = sides_in c.args.graphs.now in
    let b = c.args.bx.now in
    let ps = c.args.parts.now in
    let k = c.loop-part.part-index in
    let found = c.loop-part.found.items in
    let more = c.match-branch-3.found.items in
    let to = c.in_ok-to.to in
    let new = c.narrow.new.bx in
    let o = contract_of ss (plan_of c.part-item.result) to in
    let rest = results (effects ss (plans_of (drop k ps))) b in
    let later = results (effects ss (plans_of (drop (k + 1) ps))) b in
    let all = results (effects ss (plans_of ps)) b in
    let h : rest ≡ with_result o later = results_step ss ps k c.part-item.result b c.loop-part-test.true c.part-item.is ∙ ap (λ x. with_result (contract_of ss (plan_of c.part-item.result) x) later) (sym c.in_ok-to.ensures) in
    record {
      dims = elim c.match-branch-3.branch [
        | left_by_each-in-Empty w ↦ subst (λ v. All (λ b. length b ≡ length c.args.bx.now) v.items) (sym w.found-is) c.loop-part.invariant.dims
        | left_by_each-in-Kept+in_ok-push-in-Kept w ↦
            subst (λ v. All (λ b. length b ≡ length c.args.bx.now) v.items) (sym w.found-is)
            (subst (All (λ b. length b ≡ length c.args.bx.now)) (sym w.in_ok-push-in-Kept.ensures.items)
            (all_push (length c.args.bx.now) c.loop-part.found.items c.narrow.new.bx c.loop-part.invariant.dims (c.in_ok-narrow.ensures.dims ∙ ap length c.in_ok-to.ensures)))
      ];
      found = elim c.match-branch-3.branch [
        | left_by_each-in-Empty w ↦
            let e : more ≡ found = ap (λ v. v.items) w.found-is in
            found_none found more rest later all o e (step_empty o to new (subst (λ r. IsStep o r to new) w.in-Empty.is c.in_ok-narrow.ensures.step) ∙ refl) h c.loop-part.invariant.found
        | left_by_each-in-Kept+in_ok-push-in-Kept w ↦
            let e : more ≡ found ++ new ∷ [] = ap (λ v. v.items) w.found-is ∙ w.in_ok-push-in-Kept.ensures.items in
            found_some found more rest later all o new e (step_left o c.in_ok-narrow.field-0 to new w.in-Kept.is c.in_ok-narrow.ensures.step) h c.loop-part.invariant.found
      ];
      count = all_go_on ss ps k c.part-item.result b to (g.C.Counter.told c.args.counter.now) (g.C.Counter.told c.loop-part.counter) (g.C.Counter.told c.narrow.new.counter) (revisions_of_all ss (plans_of ps) b) c.loop-part-test.true c.part-item.is c.in_ok-to.ensures c.in_ok-narrow.ensures.counted c.loop-part.invariant.count;
    }

pub narrow-returns-in-Compose-clause-step : goal.narrow-returns-in-Compose-clause-step
narrow-returns-in-Compose-clause-step g t c =
    subst (λ o. IfOk c.narrow_in_order.result (λ r. IsStep o r c.args.bx.now c.narrow_in_order.new.bx)) (sym (compose_effect (sides_in c.args.graphs.now) c.args.program.now c.in-Compose.parts c.deref.result.now c.args.bx.now c.in-Compose.is c.deref.ensures.value)) c.narrow_in_order.ensures.step

pub narrow-returns-in-Compose-clause-counted : goal.narrow-returns-in-Compose-clause-counted
narrow-returns-in-Compose-clause-counted g t c =
    subst (λ n. OnOk c.narrow_in_order.result (g.C.Counter.told c.narrow_in_order.new.counter ≡ raised (g.C.Counter.told c.args.counter.now) n)) (compose_count (sides_in c.args.graphs.now) c.args.program.now c.in-Compose.parts c.deref.result.now c.args.bx.now c.in-Compose.is c.deref.ensures.value) c.narrow_in_order.ensures.counted

pub narrow-returns-in-Compose-clause-at_most : goal.narrow-returns-in-Compose-clause-at_most
narrow-returns-in-Compose-clause-at_most g t c =
    subst (λ n. OnErr c.narrow_in_order.result (RoseAtMost n (g.C.Counter.told c.args.counter.now) (g.C.Counter.told c.narrow_in_order.new.counter))) (compose_count (sides_in c.args.graphs.now) c.args.program.now c.in-Compose.parts c.deref.result.now c.args.bx.now c.in-Compose.is c.deref.ensures.value) c.narrow_in_order.ensures.at_most

pub narrow_in_order-returns-in_err-narrow-clause-at_most : goal.narrow_in_order-returns-in_err-narrow-clause-at_most
narrow_in_order-returns-in_err-narrow-clause-at_most g t c =
    let ss = sides_in c.args.graphs.now in
    for_err c.from_residual.result
    (order_without_memory ss c.args.parts.now c.loop-part.part-index c.part-item.result c.loop-part.bx (g.C.Counter.told c.args.counter.now) (g.C.Counter.told c.loop-part.counter) (g.C.Counter.told c.narrow.new.counter) (revisions_in_order ss (plans_of c.args.parts.now) c.args.bx.now)
    c.loop-part-test.true c.part-item.is c.in_err-narrow.ensures.at_most c.loop-part.invariant.count)

pub narrow_in_turns-returns-in_err-narrow-clause-at_most : goal.narrow_in_turns-returns-in_err-narrow-clause-at_most
narrow_in_turns-returns-in_err-narrow-clause-at_most g t c =
    let ss = sides_in c.args.graphs.now in
    let p = plan_of c.args.part.now in
    let e : c.loop-left.left ≡ suc (c.loop-left.left - 1) = omega (arith, c.loop-left-test.true) in
    for_err c.from_residual.result
    (turns_without_memory c.loop-left.left (c.loop-left.left - 1) (contract_of ss p) (revisions ss p) c.loop-left.bx (g.C.Counter.told c.args.counter.now) (g.C.Counter.told c.loop-left.counter) (g.C.Counter.told c.narrow.new.counter) (sum_of_turns c.args.turns (contract_of ss p) (revisions ss p) c.args.bx.now)
    e c.in_err-narrow.ensures.at_most c.loop-left.invariant.count)

pub narrow_in_turns-returns-in-Kept-clause-step : goal.narrow_in_turns-returns-in-Kept-clause-step
narrow_in_turns-returns-in-Kept-clause-step g t c =
    turns_end c.args.turns c.loop-left.left (contract_of (sides_in c.args.graphs.now) (plan_of c.args.part.now)) c.args.bx.now c.loop-left.bx c.narrow.new.bx c.in_ok-narrow.field-0 c.loop-left.answer c.in-Kept.is c.in_ok-narrow.ensures.step c.loop-left.invariant.rest c.loop-left.invariant.so_far

pub narrow_in_turns-returns-in-Kept-clause-counted : goal.narrow_in_turns-returns-in-Kept-clause-counted
narrow_in_turns-returns-in-Kept-clause-counted g t c =
    let ss = sides_in c.args.graphs.now in
    let p = plan_of c.args.part.now in
    let f = contract_of ss p in
    let b = c.loop-left.bx in
    let new = c.narrow.new.bx in
    let e : c.loop-left.left ≡ suc (c.loop-left.left - 1) = omega (arith, c.loop-left-test.true) in
    turns_stop c.loop-left.left (c.loop-left.left - 1) f (revisions ss p) b new (g.C.Counter.told c.args.counter.now) (g.C.Counter.told c.loop-left.counter) (g.C.Counter.told c.narrow.new.counter) (sum_of_turns c.args.turns f (revisions ss p) c.args.bx.now)
    e (subst (λ r. IsStep (f b) r b new) c.in-Kept.is c.in_ok-narrow.ensures.step) c.in_ok-narrow.ensures.counted c.loop-left.invariant.count

pub narrow-returns-in-Union-clause-step : goal.narrow-returns-in-Union-clause-step
narrow-returns-in-Union-clause-step g t c =
    subst (λ o. IfOk c.narrow_to_hull.result (λ r. IsStep o r c.args.bx.now c.narrow_to_hull.new.bx)) (sym (union_effect (sides_in c.args.graphs.now) c.args.program.now c.in-Union.parts c.deref-in-Union.result.now c.args.bx.now c.in-Union.is c.deref-in-Union.ensures.value)) c.narrow_to_hull.ensures.step

pub narrow-returns-in-QInter-clause-step : goal.narrow-returns-in-QInter-clause-step
narrow-returns-in-QInter-clause-step g t c =
    subst (λ o. IfOk c.narrow_to_q_hull.result (λ r. IsStep o r c.args.bx.now c.narrow_to_q_hull.new.bx)) (sym (qinter_effect (sides_in c.args.graphs.now) c.in-QInter.q c.args.program.now c.in-QInter.parts c.deref-in-QInter.result.now c.args.bx.now c.in-QInter.is c.deref-in-QInter.ensures.value)) c.narrow_to_q_hull.ensures.step

pub narrow_to_hull-returns-clause-known : goal.narrow_to_hull-returns-clause-known
narrow_to_hull-returns-clause-known g t c =
    let ss = sides_in c.args.graphs.now in
    let b = c.args.bx.now in
    let d = c.take_hull.new.bx in
    let answer = c.in_ok-answer.answer in
    let step = subst (λ xs. IsStep (hull_all xs) answer b d) (c.deref.ensures.value ∙ c.in_ok-found.ensures.found) c.in_ok-answer.ensures.step in
    hull_known ss (plans_of c.args.parts.now) c.args.known.now c.behind.result answer b d step c.requires.known (λ w k s. c.behind.ensures b d c.dims-after.ensures.is_box w k s)

pub narrow_to_q_hull-returns-clause-known : goal.narrow_to_q_hull-returns-clause-known
narrow_to_q_hull-returns-clause-known g t c =
    let ss = sides_in c.args.graphs.now in
    let b = c.args.bx.now in
    let d = c.take_q_hull.new.bx in
    let answer = c.in_ok-answer.answer in
    let step = subst (λ xs. IsStep (q_hull_all c.args.q xs) answer b d) (c.deref.ensures.value ∙ c.in_ok-found.ensures.found) c.in_ok-answer.ensures.step in
    q_hull_known ss c.args.q (plans_of c.args.parts.now) c.args.known.now c.behind.result answer b d step c.requires.known (λ w k s. c.behind.ensures b d c.dims-after.ensures.is_box w k s)

pub narrow-returns-in-Union-clause-counted : goal.narrow-returns-in-Union-clause-counted
narrow-returns-in-Union-clause-counted g t c =
    subst (λ n. OnOk c.narrow_to_hull.result (g.C.Counter.told c.narrow_to_hull.new.counter ≡ raised (g.C.Counter.told c.args.counter.now) n)) (union_count (sides_in c.args.graphs.now) c.args.program.now c.in-Union.parts c.deref-in-Union.result.now c.args.bx.now c.in-Union.is c.deref-in-Union.ensures.value) c.narrow_to_hull.ensures.counted

pub narrow-returns-in-Union-clause-at_most : goal.narrow-returns-in-Union-clause-at_most
narrow-returns-in-Union-clause-at_most g t c =
    subst (λ n. OnErr c.narrow_to_hull.result (RoseAtMost n (g.C.Counter.told c.args.counter.now) (g.C.Counter.told c.narrow_to_hull.new.counter))) (union_count (sides_in c.args.graphs.now) c.args.program.now c.in-Union.parts c.deref-in-Union.result.now c.args.bx.now c.in-Union.is c.deref-in-Union.ensures.value) c.narrow_to_hull.ensures.at_most

pub narrow-returns-in-QInter-clause-counted : goal.narrow-returns-in-QInter-clause-counted
narrow-returns-in-QInter-clause-counted g t c =
    subst (λ n. OnOk c.narrow_to_q_hull.result (g.C.Counter.told c.narrow_to_q_hull.new.counter ≡ raised (g.C.Counter.told c.args.counter.now) n)) (qinter_count (sides_in c.args.graphs.now) c.in-QInter.q c.args.program.now c.in-QInter.parts c.deref-in-QInter.result.now c.args.bx.now c.in-QInter.is c.deref-in-QInter.ensures.value) c.narrow_to_q_hull.ensures.counted

pub narrow-returns-in-QInter-clause-at_most : goal.narrow-returns-in-QInter-clause-at_most
narrow-returns-in-QInter-clause-at_most g t c =
    subst (λ n. OnErr c.narrow_to_q_hull.result (RoseAtMost n (g.C.Counter.told c.args.counter.now) (g.C.Counter.told c.narrow_to_q_hull.new.counter))) (qinter_count (sides_in c.args.graphs.now) c.in-QInter.q c.args.program.now c.in-QInter.parts c.deref-in-QInter.result.now c.args.bx.now c.in-QInter.is c.deref-in-QInter.ensures.value) c.narrow_to_q_hull.ensures.at_most

pub narrow_in_order-loop-part-init : goal.narrow_in_order-loop-part-init
narrow_in_order-loop-part-init g t c = record {
  dims = refl;
  so_far = refl;
  within = within_refl c.args.bx.now;
  known = c.requires.known;
  rest = refl;
  count = all_to_come (g.C.Counter.told c.args.counter.now) (revisions_in_order (sides_in c.args.graphs.now) (plans_of c.args.parts.now) c.args.bx.now);
}

pub narrow_in_turns-loop-left-init : goal.narrow_in_turns-loop-left-init
narrow_in_turns-loop-left-init g t c =
    let ss = sides_in c.args.graphs.now in
    let p = plan_of c.args.part.now in
    record {
      dims = refl;
      so_far = refl;
      within = within_refl c.args.bx.now;
      known = c.requires.known;
      rest = refl;
      count = all_to_come (g.C.Counter.told c.args.counter.now) (sum_of_turns c.args.turns (contract_of ss p) (revisions ss p) c.args.bx.now);
    }

pub narrow_in_order-loop-part-preserved : goal.narrow_in_order-loop-part-preserved
narrow_in_order-loop-part-preserved g t c =
    let ss = sides_in c.args.graphs.now in
    let ps = c.args.parts.now in
    let k = c.loop-part.part-index in
    let p = plan_of c.part-item.result in
    let first = c.args.bx.now in
    let b = c.loop-part.bx in
    let new = c.narrow.new.bx in
    let o = contract_of ss p b in
    let step = c.in_ok-narrow.ensures.step in
    let left : o ≡ Some new = elim c.match-branch-2.branch [
      | narrow_in_order-in-Changed w ↦ step_changed o b new (subst (λ r. IsStep o r b new) w.in-Changed.is step)
      | narrow_in_order-in-Kept w ↦ let e = step_kept o b new (subst (λ r. IsStep o r b new) w.in-Kept.is step) in e.0 ∙ ap Some (sym e.1)
    ] in
    let lies = contract-lies ss p b new left in
    record {
      dims = c.in_ok-narrow.ensures.dims ∙ c.loop-part.invariant.dims;
      so_far = elim c.match-branch-2.branch [
        | narrow_in_order-in-Changed w ↦
            subst (λ r. IsSoFar r first new) (sym w.answer-is) (so_far_changed first b new c.loop-part.invariant.within lies (step_other o b new (subst (λ r. IsStep o r b new) w.in-Changed.is step)))
        | narrow_in_order-in-Kept w ↦
            subst (λ r. IsSoFar r first new) (sym w.answer-is) (so_far_kept c.loop-part.answer first b new (step_kept o b new (subst (λ r. IsStep o r b new) w.in-Kept.is step)).1 c.loop-part.invariant.so_far)
      ];
      within = within_trans new b first lies c.loop-part.invariant.within;
      known = elim c.match-branch-2.branch [
        | narrow_in_order-in-Changed w ↦ known_changed c.in_ok-narrow.field-0 w.in-Changed.is c.in_ok-narrow.ensures.known
        | narrow_in_order-in-Kept w ↦ known_kept c.in_ok-narrow.field-0 w.in-Kept.is c.in_ok-narrow.ensures.known
      ];
      rest = parts_after ss ps k c.part-item.result b new first c.loop-part-test.true c.part-item.is left c.loop-part.invariant.rest;
      count = order_goes_on ss ps k c.part-item.result b new (g.C.Counter.told c.args.counter.now) (g.C.Counter.told c.loop-part.counter) (g.C.Counter.told c.narrow.new.counter) (revisions_in_order ss (plans_of ps) first) c.loop-part-test.true c.part-item.is left c.in_ok-narrow.ensures.counted c.loop-part.invariant.count;
    }

pub narrow_in_turns-loop-left-preserved : goal.narrow_in_turns-loop-left-preserved
narrow_in_turns-loop-left-preserved g t c =
    let ss = sides_in c.args.graphs.now in
    let p = plan_of c.args.part.now in
    let f = contract_of ss p in
    let first = c.args.bx.now in
    let b = c.loop-left.bx in
    let new = c.narrow.new.bx in
    let e : c.loop-left.left ≡ suc (c.loop-left.left - 1) = omega (arith, c.loop-left-test.true) in
    let s = subst (λ r. IsStep (f b) r b new) c.in-Changed.is c.in_ok-narrow.ensures.step in
    let k = step_changed (f b) b new s in
    let lies = contract-lies ss p b new k in
    record {
      dims = c.in_ok-narrow.ensures.dims ∙ c.loop-left.invariant.dims;
      so_far = so_far_changed first b new c.loop-left.invariant.within lies (step_other (f b) b new s);
      within = within_trans new b first lies c.loop-left.invariant.within;
      known = known_changed c.in_ok-narrow.field-0 c.in-Changed.is c.in_ok-narrow.ensures.known;
      rest = turn_after c.args.turns c.loop-left.left (c.loop-left.left - 1) f first b new e k c.loop-left.invariant.rest;
      count = turns_go_on c.loop-left.left (c.loop-left.left - 1) f (revisions ss p) b new (g.C.Counter.told c.args.counter.now) (g.C.Counter.told c.loop-left.counter) (g.C.Counter.told c.narrow.new.counter) (sum_of_turns c.args.turns f (revisions ss p) first) e s c.in_ok-narrow.ensures.counted c.loop-left.invariant.count;
    }

pub narrow_in_turns-returns-in-Kept-clause-known : goal.narrow_in_turns-returns-in-Kept-clause-known
narrow_in_turns-returns-in-Kept-clause-known g t c = inr (known_kept c.in_ok-narrow.field-0 c.in-Kept.is c.in_ok-narrow.ensures.known)

pub narrow_to_hull-returns-in_err-answer-clause-at_most : goal.narrow_to_hull-returns-in_err-answer-clause-at_most
narrow_to_hull-returns-in_err-answer-clause-at_most g t c =
    for_err c.from_residual-in_err-answer.result (rose_all (revisions_of_all (sides_in c.args.graphs.now) (plans_of c.args.parts.now) c.args.bx.now) (g.C.Counter.told c.args.counter.now) (g.C.Counter.told c.left_by_each.new.counter) c.in_ok-found.ensures.counted)

pub narrow_to_q_hull-returns-in_err-answer-clause-at_most : goal.narrow_to_q_hull-returns-in_err-answer-clause-at_most
narrow_to_q_hull-returns-in_err-answer-clause-at_most g t c =
    for_err c.from_residual-in_err-answer.result (rose_all (revisions_of_all (sides_in c.args.graphs.now) (plans_of c.args.parts.now) c.args.bx.now) (g.C.Counter.told c.args.counter.now) (g.C.Counter.told c.left_by_each.new.counter) c.in_ok-found.ensures.counted)

pub narrow_in_turns-returns-in-Empty-clause-counted : goal.narrow_in_turns-returns-in-Empty-clause-counted
narrow_in_turns-returns-in-Empty-clause-counted g t c =
    let ss = sides_in c.args.graphs.now in
    let p = plan_of c.args.part.now in
    let f = contract_of ss p in
    let b = c.loop-left.bx in
    let new = c.narrow.new.bx in
    let e : c.loop-left.left ≡ suc (c.loop-left.left - 1) = omega (arith, c.loop-left-test.true) in
    turns_break c.loop-left.left (c.loop-left.left - 1) f (revisions ss p) b new (g.C.Counter.told c.args.counter.now) (g.C.Counter.told c.loop-left.counter) (g.C.Counter.told c.narrow.new.counter) (sum_of_turns c.args.turns f (revisions ss p) c.args.bx.now)
    e (subst (λ r. IsStep (f b) r b new) c.in-Empty.is c.in_ok-narrow.ensures.step) c.in_ok-narrow.ensures.counted c.loop-left.invariant.count
