use Rattle.std.proofs.Common.{true, ◌≡◌, ◌<◌, ◌≤◌, ◌+◌, drop, length, refl, ap, sym, ◌∙◌, subst, arith, take}
use Rattle.std.specs.Prelude.{Some, map}
use Rattle.std.proofs.lemmas.List.{length-map, length-set}
use Rattle.pv_hc4.specs.Graphs.{sides_of}
use Rattle.pv_hc4.specs.Revise.{revised}
use Rattle.pv_hc4.specs.Members.{AreWithin}
use Rattle.pv_hc4.specs.declared.revised.Revised.TheVariants.{Kept, Changed}
use Rattle.pv_ctc.specs.Contracting.{sides_in, side_at, all_revised, in_order}
use Rattle.pv_ctc.specs.GraphLists.{GraphList}
use Rattle.pv_ctc.specs.Marks.{AreClean}
use Rattle.pv_ctc.specs.Revisions.{whole_turn}
use Rattle.pv_ctc.specs.Steps.{IsStep, IsSoFar}
use Rattle.pv_ctc.proofs.Cleaning.{AreSpared, still_clean}
use Rattle.pv_ctc.proofs.Marking.{one_mark}
use Rattle.pv_ctc.proofs.Narrowing.{so_far_changed, so_far_kept, revision_lies}
use Rattle.pv_ctc.proofs.Passing.{TurnSoFar, turn_begins, went_kept, went_changed, went_empty, went_without_memory, turn_ends}
use Rattle.pv_ctc.proofs.Shrinking.{within_refl, within_trans}
use Rattle.pv_ctc.proofs.Tallies.{for_err}
use Rattle.pv_ctc.proofs.Turns.{step_of_empty, step_empty, constraints_step, chain_none, rest_after, step_kept, step_changed, step_other}
use Rattle.pv_ctc.proofs.propagation.propagate_once.Goals.{in-Kept, in-Changed}
use Rattle.pv_ctc.proofs.propagation.propagate_once.Goals as goal

pub loop-i-init : goal.loop-i-init
loop-i-init g c = record {
  end = let m = length-map c.args.graphs.now.graphs sides_of in let v = ap (λ (l : _). length (sides_in l)) c.graphs.view_is in omega (arith, c.len-i-end.ensures, c.graphs.inside.graphs.ok.0, v, m, length-map c.graphs.inside.graphs.items sides_of);
  dims = refl;
  so_far = refl;
  within = within_refl c.args.bx.now;
  clean = c.requires.marks;
  rest = refl;
  turn = λ start made h k. turn_begins (sides_in c.args.graphs.now) start c.args.clean.now made c.args.bx.now (g.C.Counter.told c.args.counter.now) h k;
}

pub returns-in_err-revise-clause-at_most : goal.returns-in_err-revise-clause-at_most
returns-in_err-revise-clause-at_most g c =
    let ss = sides_in c.args.graphs.now in
    let l : c.loop-i.i < length ss = let m = length-map c.args.graphs.now.graphs sides_of in omega (arith, m, c.loop-i.invariant.end, c.loop-i-test.true) in
    for_err c.from_residual.result (λ start made h k.
    went_without_memory ss start c.loop-i.i c.loop-i.clean c.loop-i.bx (g.C.Counter.told c.loop-i.counter) (g.C.Counter.told c.revise.new.counter) (whole_turn ss made c.args.bx.now) l c.if-clean-i.false c.in_err-revise.ensures.counted (c.loop-i.invariant.turn start made h k))

pub returns-in-Empty-clause-step : goal.returns-in-Empty-clause-step
returns-in-Empty-clause-step g c =
    let ss = sides_in c.args.graphs.now in
    let b = c.loop-i.bx in
    let new = c.revise.new.bx in
    let o = revised (side_at ss c.loop-i.i) b in
    let l : c.loop-i.i < length ss = let m = length-map c.args.graphs.now.graphs sides_of in omega (arith, m, c.loop-i.invariant.end, c.loop-i-test.true) in
    step_of_empty (all_revised ss c.args.bx.now) c.args.bx.now new
    (sym c.loop-i.invariant.rest ∙ constraints_step ss c.loop-i.i b l ∙ chain_none o (in_order (map revised (drop (c.loop-i.i + 1) ss))) (step_empty o b new (subst (λ r. IsStep o r b new) c.in-Empty.is c.in_ok-revise.ensures.step)))

pub returns-in-Empty-clause-turn : goal.returns-in-Empty-clause-turn
returns-in-Empty-clause-turn g c = λ start made h k.
    let ss = sides_in c.args.graphs.now in
    let b = c.loop-i.bx in
    let new = c.revise.new.bx in
    let o = revised (side_at ss c.loop-i.i) b in
    let l : c.loop-i.i < length ss = let m = length-map c.args.graphs.now.graphs sides_of in omega (arith, m, c.loop-i.invariant.end, c.loop-i-test.true) in
    went_empty ss start c.loop-i.i c.loop-i.clean c.args.bx.now b new (g.C.Counter.told c.loop-i.counter) (g.C.Counter.told c.revise.new.counter) (whole_turn ss made c.args.bx.now) l c.if-clean-i.false
    (subst (λ r. IsStep o r b new) c.in-Empty.is c.in_ok-revise.ensures.step) c.in_ok-revise.ensures.counted (c.loop-i.invariant.turn start made h k)

pub loop-i-preserved : goal.loop-i-preserved
loop-i-preserved g c =
    let ss = sides_in c.args.graphs.now in
    let i = c.loop-i.i in
    let first = c.args.bx.now in
    let b = c.loop-i.bx in
    let new = c.revise.new.bx in
    let o = revised (side_at ss i) b in
    let told = g.C.Counter.told c.loop-i.counter in
    let next = g.C.Counter.told c.revise.new.counter in
    let m = length-map c.args.graphs.now.graphs sides_of in
    let l : i < length ss = omega (arith, m, c.loop-i.invariant.end, c.loop-i-test.true) in
    let few = subst (λ (p : GraphList). length p.graphs ≤ 64) c.graphs.view_is c.graphs.invariant.0.few in
    let copied = ap (λ n. take n c.places-entry.result) c.in_ok-revise.ensures.dims ∙ c.places-entry.ensures in
    let kept = λ (e : c.in_ok-revise.field-0 ≡ Kept). subst (λ r. IsStep o r b new) e c.in_ok-revise.ensures.step in
    let changed = λ (e : c.in_ok-revise.field-0 ≡ Changed). subst (λ r. IsStep o r b new) e c.in_ok-revise.ensures.step in
    record {
      end = c.loop-i.invariant.end;
      dims = c.in_ok-revise.ensures.dims ∙ c.loop-i.invariant.dims;
      so_far = elim c.match-branch-2.branch [
        | in-Kept w ↦
            subst (λ r. IsSoFar r first new) (sym w.answer-is) (so_far_kept c.loop-i.answer first b new (step_kept o b new (kept w.in-Kept.is)).1 c.loop-i.invariant.so_far)
        | in-Changed w ↦
            let s = changed w.in-Changed.is in
            subst (λ r. IsSoFar r first new) (sym w.answer-is) (so_far_changed first b new c.loop-i.invariant.within (revision_lies (side_at ss i) b new (step_changed o b new s)) (step_other o b new s))
      ];
      within = elim c.match-branch-2.branch [
        | in-Kept w ↦ subst (λ x. AreWithin x first) (sym (step_kept o b new (kept w.in-Kept.is)).1) c.loop-i.invariant.within
        | in-Changed w ↦ within_trans new b first (revision_lies (side_at ss i) b new (step_changed o b new (changed w.in-Changed.is))) c.loop-i.invariant.within
      ];
      clean = elim c.match-branch-2.branch [
        | in-Kept w ↦
            let k = step_kept o b new (kept w.in-Kept.is) in
            subst (λ x. AreClean ss x new) (sym w.clean-is) (subst (AreClean ss _) (sym k.1) (one_mark ss c.loop-i.clean i b k.0 c.loop-i.invariant.clean))
        | in-Changed w ↦
            subst (λ x. AreClean ss x new) (sym w.clean-is)
            (still_clean ss c.loop-i.clean w.unmark.new.clean b new (sym c.in_ok-revise.ensures.dims) c.loop-i.invariant.clean (subst (λ x. AreSpared ss c.loop-i.clean w.unmark.new.clean x new) copied w.unmark.ensures))
      ];
      rest = elim c.match-branch-2.branch [
        | in-Kept w ↦
            let k = step_kept o b new (kept w.in-Kept.is) in
            rest_after ss i b new (all_revised ss first) l (k.0 ∙ ap Some (sym k.1)) c.loop-i.invariant.rest
        | in-Changed w ↦ rest_after ss i b new (all_revised ss first) l (step_changed o b new (changed w.in-Changed.is)) c.loop-i.invariant.rest
      ];
      turn = λ start made h k. elim c.match-branch-2.branch [
        | in-Kept w ↦
            let long = ap length (sym w.clean-is) ∙ c.match-branch-2.array_long in
            let n : i < length c.loop-i.clean = let q = length-set c.loop-i.clean i true in omega (arith, long, q, few, m, l) in
            subst (λ x. TurnSoFar ss start (i + 1) x new next (whole_turn ss made first)) (sym w.clean-is)
            (went_kept ss start i c.loop-i.clean b new told next (whole_turn ss made first) l n c.if-clean-i.false (kept w.in-Kept.is) c.in_ok-revise.ensures.counted (c.loop-i.invariant.turn start made h k))
        | in-Changed w ↦
            subst (λ x. TurnSoFar ss start (i + 1) x new next (whole_turn ss made first)) (sym w.clean-is)
            (went_changed ss start i c.loop-i.clean w.unmark.new.clean b new told next (whole_turn ss made first) l c.if-clean-i.false (changed w.in-Changed.is) (subst (λ x. AreSpared ss c.loop-i.clean w.unmark.new.clean x new) copied w.unmark.ensures) c.in_ok-revise.ensures.counted (c.loop-i.invariant.turn start made h k))
      ];
    }

pub returns-clause-turn : goal.returns-clause-turn
returns-clause-turn g c = λ start made h k.
    let l : length (sides_in c.args.graphs.now) ≤ c.loop-i.i = let m = length-map c.args.graphs.now.graphs sides_of in omega (arith, m, c.loop-i.invariant.end, c.loop-i-test.false) in
    turn_ends (sides_in c.args.graphs.now) start c.loop-i.i c.loop-i.clean c.args.bx.now c.loop-i.bx c.loop-i.answer (g.C.Counter.told c.loop-i.counter) (whole_turn (sides_in c.args.graphs.now) made c.args.bx.now) l c.loop-i.invariant.so_far (c.loop-i.invariant.turn start made h k)
