use Rattle.std.proofs.Common.{◌≡◌, ◌++◌, ◌∙◌, sym, ap, rules}
use Rattle.pv_file.specs.Walks.{pending_text}
use Rattle.pv_file.proofs.Handing.{over_come, end_come, step_come, line_written, visit_text}
use Rattle.pv_file.proofs.scribe.push_lines.Goals as goal

pub returns-in_default-clause-written : goal.returns-in_default-clause-written
returns-in_default-clause-written c =
    let same = ap (λ w. w.pending) (c.next.ensures.stays c.in_default.is) in record {
      come = over_come c.loop-left.left _ _ _ c.loop-left.invariant.come (c.next.ensures.over c.in_default.is) same;
      text_is = c.loop-left.invariant.text ∙ ap (λ p. c.loop-left.out.items ++ pending_text c.args.version p) (sym same);
    }

pub loop-left-preserved : goal.loop-left-preserved
loop-left-preserved c =
    let visit = c.in-Some.ensures.visit in record {
      root = search rules;
      bx = search rules;
      to = search rules;
      come = step_come c.loop-left.left c.next.new.self.here _ _ visit.rest _ c.loop-left-test.true c.loop-left.invariant.come visit.was visit.pending;
      text = line_written _ _ _ _ _ _ c.loop-left.invariant.text (visit_text c.args.version c.next.new.self.here _ _ visit.rest visit.was visit.pending) c.in_ok-push_visited.ensures.line;
    }

pub returns-clause-written : goal.returns-clause-written
returns-clause-written c =
    let e : c.loop-left.left ≡ 0 = search rules in
    record { come = end_come c.loop-left.left _ _ c.loop-left.invariant.come e; text_is = c.loop-left.invariant.text }
