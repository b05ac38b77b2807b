use Rattle.std.proofs.Common.{rules, ap, ◌≡◌, ◌≤◌, ◌∙◌, ◌<◌, ◌+◌, length, get_or, map, drop}
use Rattle.pv_expr.specs.Terms.{term_of}
use Rattle.pv_code.specs.Expansion.{RunsAlike, code_of, meanings, stack_of, top}
use Rattle.pv_code.proofs.Building.{called-is, called-past, run-more, run-begun, run-ended, stacked-push, stacked-same}
use Rattle.pv_code.proofs.Moving.{alike_behind}
use Rattle.pv_code.proofs.expand.+expansion.Goals.{expand-in-Some+in_ok-push, expand-in_default}
use Rattle.pv_code.proofs.expand.+expansion.Goals as goal

pub called-returns-then-i-functions : goal.called-returns-then-i-functions
called-returns-then-i-functions t c =
    let past : length c.args.functions.now ≤ c.args.function = search rules in
    c.nothing.ensures ∙ called-past c.args.functions.now c.args.function (map term_of c.args.arguments.now) past

pub called-returns : goal.called-returns
called-returns t c =
    let within : c.args.function < length c.args.functions.now = search rules in
    let code : c.as_slice-code.result.now ≡ code_of (get_or c.args.functions.now c.args.function c.index-functions-i.result) = search rules in
    called-is c.args.functions.now c.args.function c.index-functions-i.result (map term_of c.args.arguments.now) _ c.as_slice-code.result.now within code c.in_ok-expand.ensures

pub expand-loop-i-init : goal.expand-loop-i-init
expand-loop-i-init t c =
    run-begun (meanings (map code_of c.args.functions.now)) (map term_of c.args.arguments.now) c.args.code.now c.new-stack.result.items c.new-stack.ensures.items

pub expand-loop-i-preserved : goal.expand-loop-i-preserved
expand-loop-i-preserved t c =
    let within : c.loop-i.i < length c.args.code.now = search rules in
    let alike : RunsAlike (drop (c.loop-i.i + 1) c.args.code.now) (map term_of c.loop-i.arguments) (map term_of c.made_by.new.arguments) =
    alike_behind c.args.code.now (c.loop-i.i + 1) (map term_of c.loop-i.arguments) (map term_of c.made_by.new.arguments) c.in_ok-made.ensures.rest in
    alike (meanings (map code_of c.args.functions.now)) (stack_of c.match-made.stack.items)
    ∙ run-more (meanings (map code_of c.args.functions.now)) (map term_of c.loop-i.arguments) c.args.code.now c.loop-i.i _ c.loop-i.stack.items _ c.in_ok-made.made _ _ within c.in_ok-made.ensures.made
    (elim c.match-made.branch [
      | expand-in-Some+in_ok-push w ↦ stacked-push c.made_by.new.stack.items c.match-made.stack.items c.in_ok-made.made w.in-Some.value w.in-Some.is (ap (λ v. v.items) w.stack-is ∙ w.in_ok-push.ensures.items)
      | expand-in_default w ↦ stacked-same c.made_by.new.stack.items c.match-made.stack.items c.in_ok-made.made w.in_default.not-Some (ap (λ v. v.items) w.stack-is)
    ])
    c.loop-i.invariant

pub expand-returns : goal.expand-returns
expand-returns t c =
    let end : length c.args.code.now ≤ c.loop-i.i = search rules in
    c.taken.ensures.value
    ∙ ap top (run-ended (meanings (map code_of c.args.functions.now)) (map term_of c.loop-i.arguments) c.args.code.now c.loop-i.i (stack_of c.loop-i.stack.items) _ end c.loop-i.invariant)
