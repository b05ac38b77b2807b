use Rattle.std.proofs.Common.{◌≡◌, ◌-◌, refl, ◌∙◌, suc, subst, arith, inr}
use Rattle.pv_ctc.specs.Contracting.{sides_in, all_revised}
use Rattle.pv_ctc.specs.Steps.{IsStep}
use Rattle.pv_ctc.proofs.Narrowing.{so_far_changed, all_revised-lies}
use Rattle.pv_ctc.proofs.Noting.{known_changed, known_kept}
use Rattle.pv_ctc.proofs.Shrinking.{within_refl, within_trans}
use Rattle.pv_ctc.proofs.Turns.{turns_end, turns_none, turn_after, step_changed, step_other}
use Rattle.pv_ctc.proofs.knowing.propagate.Goals as goal

pub loop-left-init : goal.loop-left-init
loop-left-init c = record { dims = refl; so_far = refl; within = within_refl c.args.bx.now; known = c.requires.known; rest = refl }

pub returns-in-Empty-clause-step : goal.returns-in-Empty-clause-step
returns-in-Empty-clause-step c =
    let e : c.loop-left.left ≡ suc (c.loop-left.left - 1) = omega (arith, c.loop-left-test.true) in
    turns_none c.args.turns c.loop-left.left (c.loop-left.left - 1) (all_revised (sides_in c.args.graphs.now)) c.args.bx.now c.loop-left.bx c.turn.new.bx c.in_ok-turn.field-0 e c.in-Empty.is c.in_ok-turn.ensures.step c.loop-left.invariant.rest

pub loop-left-preserved : goal.loop-left-preserved
loop-left-preserved c =
    let ss = sides_in c.args.graphs.now in
    let f = all_revised ss in
    let b = c.loop-left.bx in
    let new = c.turn.new.bx in
    let e : c.loop-left.left ≡ suc (c.loop-left.left - 1) = omega (arith, c.loop-left-test.true) in
    let s = subst (λ r. IsStep (f b) r b new) c.in-Changed.is c.in_ok-turn.ensures.step in
    let k = step_changed (f b) b new s in
    let lies = all_revised-lies ss b new k in
    record {
      dims = c.in_ok-turn.ensures.dims ∙ c.loop-left.invariant.dims;
      so_far = so_far_changed c.args.bx.now b new c.loop-left.invariant.within lies (step_other (f b) b new s);
      within = within_trans new b c.args.bx.now lies c.loop-left.invariant.within;
      known = known_changed c.in_ok-turn.field-0 c.in-Changed.is c.in_ok-turn.ensures.known;
      rest = turn_after c.args.turns c.loop-left.left (c.loop-left.left - 1) f c.args.bx.now b new e k c.loop-left.invariant.rest;
    }

pub returns-in-Kept : goal.returns-in-Kept
returns-in-Kept c = record {
  dims = c.in_ok-turn.ensures.dims ∙ c.loop-left.invariant.dims;
  step = turns_end c.args.turns c.loop-left.left (all_revised (sides_in c.args.graphs.now)) c.args.bx.now c.loop-left.bx c.turn.new.bx c.in_ok-turn.field-0 c.loop-left.answer c.in-Kept.is c.in_ok-turn.ensures.step c.loop-left.invariant.rest c.loop-left.invariant.so_far;
  known = inr (known_kept c.in_ok-turn.field-0 c.in-Kept.is c.in_ok-turn.ensures.known);
}
