use Rattle.std.proofs.Common.{[], ◌++◌, sym, ◌∙◌, ap, append_assoc, rules}
use Rattle.std.proofs.lemmas.Result.{on_ok_weaker, on_err_weaker}
use Rattle.pv_io.proofs.Fronts.{appended_none, sent_front, held_front, line_held, part_sent, all_sent, on_any, more_sent}
use Rattle.pv_file.proofs.Handing.{visit_text, begin_text, end_text}
use Rattle.pv_file.proofs.writer.write_nodes.Goals as goal

pub loop-shape-init : goal.loop-shape-init
loop-shape-init g c = record {
  root = search rules;
  bx = search rules;
  to = search rules;
  counts = search rules;
  sent = [];
  told = sym (appended_none _);
  text = begin_text c.args.version c.args.p.now.root c.args.p.now.tree c.args.held.items c.in_ok-walk.walk.pending (ap (λ w. w.pending) c.in_ok-walk.ensures);
}

pub returns-in_err-push_visited-clause-front : goal.returns-in_err-push_visited-clause-front
returns-in_err-push_visited-clause-front g c =
    on_any _ (sent_front _ _ c.loop-shape.invariant.sent _ _ c.loop-shape.invariant.told (c.loop-shape.invariant.text ∙ append_assoc c.loop-shape.invariant.sent _ _))

pub returns-in_err-hand_over_piece-clause-front : goal.returns-in_err-hand_over_piece-clause-front
returns-in_err-hand_over_piece-clause-front g c =
    let visit = c.in-Some.ensures.visit in
    let held = line_held _ c.loop-shape.invariant.sent _ _ _ _ _ c.loop-shape.invariant.text (visit_text c.args.version c.next.new.self.here _ _ visit.rest visit.was visit.pending) c.in_ok-push_visited.ensures.line in
    on_any _ (held_front _ _ _ c.loop-shape.invariant.sent _ _ _ c.loop-shape.invariant.told held c.in_err-hand_over_piece.ensures.front)

pub loop-shape-preserved : goal.loop-shape-preserved
loop-shape-preserved g c =
    let visit = c.in-Some.ensures.visit in
    let held = line_held _ c.loop-shape.invariant.sent _ _ _ _ _ c.loop-shape.invariant.text (visit_text c.args.version c.next.new.self.here _ _ visit.rest visit.was visit.pending) c.in_ok-push_visited.ensures.line in
    let part = c.in_ok-hand_over_piece.ensures.part in record {
      root = search rules;
      bx = search rules;
      to = search rules;
      counts = search rules;
      sent = c.loop-shape.invariant.sent ++ part.0;
      told = more_sent _ _ _ c.loop-shape.invariant.sent part.0 c.loop-shape.invariant.told part.1;
      text = part_sent _ c.loop-shape.invariant.sent _ part.0 _ _ held part.2;
    }

pub returns-clause-whole : goal.returns-clause-whole
returns-clause-whole g c =
    let done = end_text c.args.version c.loop-shape.invariant.sent _ _ _ (c.next.ensures.over c.in_default.is) c.loop-shape.invariant.text in
    on_ok_weaker c.hand_over_held.result (λ e. all_sent _ _ _ c.loop-shape.invariant.sent _ _ c.loop-shape.invariant.told done e) c.hand_over_held.ensures.whole

pub returns-clause-front : goal.returns-clause-front
returns-clause-front g c =
    on_err_weaker c.hand_over_held.result (λ f. held_front _ _ _ c.loop-shape.invariant.sent _ _ _ c.loop-shape.invariant.told c.loop-shape.invariant.text f) c.hand_over_held.ensures.front
