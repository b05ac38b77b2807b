use Rattle.std.proofs.Common.{◌≡◌, ◌+◌, ◌<◌, length, drop, refl, ap, sym, ◌∙◌, subst, arith}
use Rattle.std.specs.Prelude.{Some, map}
use Rattle.std.proofs.lemmas.List.{length-map}
use Rattle.pv_hc4.specs.Graphs.{sides_of}
use Rattle.pv_hc4.specs.Members.{AreWithin}
use Rattle.pv_hc4.specs.Revise.{revised}
use Rattle.pv_hc4.specs.declared.revised.Revised.TheVariants as done
use Rattle.pv_ctc.specs.Contracting.{sides_in, side_at, in_order, all_revised}
use Rattle.pv_ctc.specs.Steps.{IsStep, IsSoFar}
use Rattle.pv_ctc.proofs.Narrowing.{so_far_changed, so_far_kept, revision_lies}
use Rattle.pv_ctc.proofs.Noting.{known_changed, known_kept}
use Rattle.pv_ctc.proofs.Shrinking.{within_refl, within_trans}
use Rattle.pv_ctc.proofs.Turns.{step_of_empty, step_empty, constraints_step, chain_none, rest_after, step_kept, step_changed, step_other}
use Rattle.pv_ctc.proofs.knowing.turn.Goals.{in-Kept, in-Changed}
use Rattle.pv_ctc.proofs.knowing.turn.Goals as goal

pub loop-i-init : goal.loop-i-init
loop-i-init c = record {
  end = let m = length-map c.args.graphs.now.graphs sides_of in let v = ap (λ (l : _). length (sides_in l)) c.graphs.view_is in omega (arith, c.len-i-end.ensures, c.graphs.inside.graphs.ok.0, v, m, length-map c.graphs.inside.graphs.items sides_of);
  dims = refl;
  so_far = refl;
  within = within_refl c.args.bx.now;
  known = c.requires.known;
  rest = refl;
}

pub returns-in-Empty-clause-step : goal.returns-in-Empty-clause-step
returns-in-Empty-clause-step c =
    let ss = sides_in c.args.graphs.now in
    let b = c.loop-i.bx in
    let new = c.revise.new.bx in
    let o = revised (side_at ss c.loop-i.i) b in
    let l : c.loop-i.i < length ss = let m = length-map c.args.graphs.now.graphs sides_of in omega (arith, m, c.loop-i.invariant.end, c.loop-i-test.true) in
    step_of_empty (all_revised ss c.args.bx.now) c.args.bx.now new
    (sym c.loop-i.invariant.rest ∙ constraints_step ss c.loop-i.i b l ∙ chain_none o (in_order (map revised (drop (c.loop-i.i + 1) ss))) (step_empty o b new (subst (λ r. IsStep o r b new) c.in-Empty.is c.in_ok-revise.ensures.step)))

pub loop-i-preserved : goal.loop-i-preserved
loop-i-preserved c =
    let ss = sides_in c.args.graphs.now in
    let i = c.loop-i.i in
    let first = c.args.bx.now in
    let b = c.loop-i.bx in
    let new = c.revise.new.bx in
    let o = revised (side_at ss i) b in
    let answer = c.in_ok-revise.field-0 in
    let m = length-map c.args.graphs.now.graphs sides_of in
    let l : i < length ss = omega (arith, m, c.loop-i.invariant.end, c.loop-i-test.true) in
    let kept = λ (e : answer ≡ done.Kept). step_kept o b new (subst (λ r. IsStep o r b new) e c.in_ok-revise.ensures.step) in
    let changed = λ (e : answer ≡ done.Changed). subst (λ r. IsStep o r b new) e c.in_ok-revise.ensures.step in
    record {
      end = c.loop-i.invariant.end;
      dims = c.in_ok-revise.ensures.dims ∙ c.loop-i.invariant.dims;
      so_far = elim c.match-branch-2.branch [
        | in-Changed w ↦
            let s = changed w.in-Changed.is in
            subst (λ r. IsSoFar r first new) (sym w.answer-is) (so_far_changed first b new c.loop-i.invariant.within (revision_lies (side_at ss i) b new (step_changed o b new s)) (step_other o b new s))
        | in-Kept w ↦
            subst (λ r. IsSoFar r first new) (sym w.answer-is) (so_far_kept c.loop-i.answer first b new (kept w.in-Kept.is).1 c.loop-i.invariant.so_far)
      ];
      within = elim c.match-branch-2.branch [
        | in-Changed w ↦ within_trans new b first (revision_lies (side_at ss i) b new (step_changed o b new (changed w.in-Changed.is))) c.loop-i.invariant.within
        | in-Kept w ↦ subst (λ x. AreWithin x first) (sym (kept w.in-Kept.is).1) c.loop-i.invariant.within
      ];
      known = elim c.match-branch-2.branch [
        | in-Changed w ↦ known_changed answer w.in-Changed.is c.in_ok-revise.ensures.known
        | in-Kept w ↦ known_kept answer w.in-Kept.is c.in_ok-revise.ensures.known
      ];
      rest = elim c.match-branch-2.branch [
        | in-Changed w ↦ rest_after ss i b new (all_revised ss first) l (step_changed o b new (changed w.in-Changed.is)) c.loop-i.invariant.rest
        | in-Kept w ↦
            let k = kept w.in-Kept.is in
            rest_after ss i b new (all_revised ss first) l (k.0 ∙ ap Some (sym k.1)) c.loop-i.invariant.rest
      ];
    }
