use Rattle.std.proofs.Common.{◌≡◌, ◌-◌, [], refl, ◌∙◌, suc, subst, arith}
use Rattle.pv_ctc.specs.Contracting.{sides_in, all_revised}
use Rattle.pv_ctc.specs.Marks.{IsTurn}
use Rattle.pv_ctc.specs.Revisions.{whole_turn, passage}
use Rattle.pv_ctc.specs.Steps.{IsStep}
use Rattle.pv_ctc.proofs.Marking.{no_marks}
use Rattle.pv_ctc.proofs.Narrowing.{so_far_changed, all_revised-lies}
use Rattle.pv_ctc.proofs.Passing.{turns_begin, turned_changed, turned_kept, turned_empty, turned_without_memory, clean_after}
use Rattle.pv_ctc.proofs.Shrinking.{within_refl, within_trans}
use Rattle.pv_ctc.proofs.Tallies.{for_err}
use Rattle.pv_ctc.proofs.Turns.{turns_end, turns_none, turn_after, step_changed, step_other}
use Rattle.pv_ctc.proofs.propagation.propagate.Goals as goal

pub loop-left-init : goal.loop-left-init
loop-left-init g c = record {
  dims = refl;
  so_far = refl;
  within = within_refl c.args.bx.now;
  clean = no_marks (sides_in c.args.graphs.now) c.args.bx.now;
  rest = refl;
  turns = turns_begin (sides_in c.args.graphs.now) (g.C.Counter.told c.args.counter.now) c.args.turns c.args.bx.now;
}

pub returns-in_err-propagate_once-clause-at_most : goal.returns-in_err-propagate_once-clause-at_most
returns-in_err-propagate_once-clause-at_most g c =
    let ss = sides_in c.args.graphs.now in
    let start = g.C.Counter.told c.args.counter.now in
    let h = c.loop-left.invariant.turns in
    let e : c.loop-left.left ≡ suc (c.loop-left.left - 1) = omega (arith, c.loop-left-test.true) in
    for_err c.from_residual.result
    (turned_without_memory ss start c.loop-left.left (c.loop-left.left - 1) c.loop-left.clean c.loop-left.bx (g.C.Counter.told c.loop-left.counter) (g.C.Counter.told c.propagate_once.new.counter) (passage c.args.turns ss [] c.args.bx.now) e h
    (c.in_err-propagate_once.ensures.at_most start h.made h.marked h.count))

pub returns-in-Empty-clause-step : goal.returns-in-Empty-clause-step
returns-in-Empty-clause-step g c =
    let e : c.loop-left.left ≡ suc (c.loop-left.left - 1) = omega (arith, c.loop-left-test.true) in
    turns_none c.args.turns c.loop-left.left (c.loop-left.left - 1) (all_revised (sides_in c.args.graphs.now)) c.args.bx.now c.loop-left.bx c.propagate_once.new.bx c.in_ok-propagate_once.field-0 e c.in-Empty.is c.in_ok-propagate_once.ensures.step c.loop-left.invariant.rest

pub returns-in-Empty-clause-counted : goal.returns-in-Empty-clause-counted
returns-in-Empty-clause-counted g c =
    let ss = sides_in c.args.graphs.now in
    let start = g.C.Counter.told c.args.counter.now in
    let b = c.loop-left.bx in
    let new = c.propagate_once.new.bx in
    let after = c.propagate_once.new.clean in
    let next = g.C.Counter.told c.propagate_once.new.counter in
    let h = c.loop-left.invariant.turns in
    let e : c.loop-left.left ≡ suc (c.loop-left.left - 1) = omega (arith, c.loop-left-test.true) in
    turned_empty ss start c.loop-left.left (c.loop-left.left - 1) c.loop-left.clean after b new (g.C.Counter.told c.loop-left.counter) next (passage c.args.turns ss [] c.args.bx.now) e h
    (subst (λ r. IsTurn ss start (whole_turn ss h.made b) r b new after next) c.in-Empty.is (c.in_ok-propagate_once.ensures.turn start h.made h.marked h.count))

pub loop-left-preserved : goal.loop-left-preserved
loop-left-preserved g c =
    let ss = sides_in c.args.graphs.now in
    let f = all_revised ss in
    let start = g.C.Counter.told c.args.counter.now in
    let b = c.loop-left.bx in
    let new = c.propagate_once.new.bx in
    let after = c.propagate_once.new.clean in
    let next = g.C.Counter.told c.propagate_once.new.counter in
    let h = c.loop-left.invariant.turns in
    let e : c.loop-left.left ≡ suc (c.loop-left.left - 1) = omega (arith, c.loop-left-test.true) in
    let s = subst (λ r. IsStep (f b) r b new) c.in-Changed.is c.in_ok-propagate_once.ensures.step in
    let k = step_changed (f b) b new s in
    let lies = all_revised-lies ss b new k in
    record {
      dims = c.in_ok-propagate_once.ensures.dims ∙ c.loop-left.invariant.dims;
      so_far = so_far_changed c.args.bx.now b new c.loop-left.invariant.within lies (step_other (f b) b new s);
      within = within_trans new b c.args.bx.now lies c.loop-left.invariant.within;
      clean = clean_after ss after new c.in_ok-propagate_once.field-0 c.in-Changed.is c.in_ok-propagate_once.ensures.marks;
      rest = turn_after c.args.turns c.loop-left.left (c.loop-left.left - 1) f c.args.bx.now b new e k c.loop-left.invariant.rest;
      turns = turned_changed ss start c.loop-left.left (c.loop-left.left - 1) c.loop-left.clean after b new (g.C.Counter.told c.loop-left.counter) next (passage c.args.turns ss [] c.args.bx.now) e h
          (subst (λ r. IsTurn ss start (whole_turn ss h.made b) r b new after next) c.in-Changed.is (c.in_ok-propagate_once.ensures.turn start h.made h.marked h.count));
    }

pub returns-in-Kept-clause-step : goal.returns-in-Kept-clause-step
returns-in-Kept-clause-step g c =
    turns_end c.args.turns c.loop-left.left (all_revised (sides_in c.args.graphs.now)) c.args.bx.now c.loop-left.bx c.propagate_once.new.bx c.in_ok-propagate_once.field-0 c.loop-left.answer c.in-Kept.is c.in_ok-propagate_once.ensures.step c.loop-left.invariant.rest c.loop-left.invariant.so_far

pub returns-in-Kept-clause-counted : goal.returns-in-Kept-clause-counted
returns-in-Kept-clause-counted g c =
    let ss = sides_in c.args.graphs.now in
    let start = g.C.Counter.told c.args.counter.now in
    let b = c.loop-left.bx in
    let new = c.propagate_once.new.bx in
    let after = c.propagate_once.new.clean in
    let next = g.C.Counter.told c.propagate_once.new.counter in
    let h = c.loop-left.invariant.turns in
    let e : c.loop-left.left ≡ suc (c.loop-left.left - 1) = omega (arith, c.loop-left-test.true) in
    turned_kept ss start c.loop-left.left (c.loop-left.left - 1) c.loop-left.clean after b new (g.C.Counter.told c.loop-left.counter) next (passage c.args.turns ss [] c.args.bx.now) e h
    (subst (λ r. IsTurn ss start (whole_turn ss h.made b) r b new after next) c.in-Kept.is (c.in_ok-propagate_once.ensures.turn start h.made h.marked h.count))
