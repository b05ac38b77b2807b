use Rattle.std.proofs.Common.{refl, ◌∙◌, ap}
use Rattle.std.specs.Prelude.{Err}
use Rattle.pv_file.proofs.Refusals.{same_error, same_bad}
use Rattle.pv_file.proofs.Steps.{step_of, stuck_at_end, stuck_at_line, full_at}
use Rattle.pv_file.proofs.reader.take_node.Goals as goal

pub returns-in-Ok-clause-step : goal.returns-in-Ok-clause-step
returns-in-Ok-clause-step c =
    step_of c.args.version c.args.growth.now c.put_node.new.growth c.args.at.path c.args.bx.now c.args.rest.now c.in-Some.cut.line.now c.in-Some.cut.rest.now c.args.at.settled c.in-Ok.settled
    c.in_ok-node-in-Some.node c.requires.next c.requires.bx c.in-Some.ensures.free c.in-Some.ensures.sound c.in_ok-node-in-Some.ensures.sound c.in_ok-node-in-Some.ensures.complete c.in-Ok.ensures.put

pub returns-in-Err-clause-bad : goal.returns-in-Err-clause-bad
returns-in-Err-clause-bad c = λ n e.
    let bad = c.put_node.ensures.bad n (c.in-Err.is ∙ ap Err (same_error _ _ e)) in (
      bad.0,
      stuck_at_line c.args.version c.args.growth.now c.args.at.path c.args.bx.now c.args.rest.now c.in-Some.cut.line.now c.in-Some.cut.rest.now c.in_ok-node-in-Some.node c.requires.next
          c.requires.bx c.in-Some.ensures.free c.in-Some.ensures.sound c.in_ok-node-in-Some.ensures.sound c.in_ok-node-in-Some.ensures.complete bad.1,
    )

pub returns-in-Err-clause-full : goal.returns-in-Err-clause-full
returns-in-Err-clause-full c = λ n e.
    full_at c.args.at.limit c.args.version c.args.growth.now c.args.at.path c.args.bx.now c.args.rest.now c.in-Some.cut.line.now c.in-Some.cut.rest.now c.in_ok-node-in-Some.node n c.args.at.line
    c.args.at.settled c.requires.next c.requires.bx c.in-Some.ensures.free c.in-Some.ensures.sound c.in_ok-node-in-Some.ensures.sound c.in_ok-node-in-Some.ensures.complete
    (c.put_node.ensures.many n (c.in-Err.is ∙ ap Err (same_error _ _ e)))

pub returns-in-None-clause-bad : goal.returns-in-None-clause-bad
returns-in-None-clause-bad c = λ n e. (same_bad c.args.at.line n e, stuck_at_end c.args.version c.args.growth.now c.args.at.path c.args.rest.now c.requires.next (c.in-None.ensures.none refl))
