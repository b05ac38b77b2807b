use Rattle.std.proofs.Common.{◌++◌, ◌∙◌, append_assoc, rules}
use Rattle.std.proofs.lemmas.Result.{on_ok_weaker, on_err_weaker}
use Rattle.pv_io.proofs.Fronts.{sent_front, held_front, line_held, part_sent, more_sent, all_sent, on_any}
use Rattle.pv_svg.proofs.Handing.{next_line, end_held, seen_line}
use Rattle.pv_svg.proofs.picture.Picture.write.Goals as goal

pub returns-in_err-push_rectangle-clause-front : goal.returns-in_err-push_rectangle-clause-front
returns-in_err-push_rectangle-clause-front g c =
    on_any _ (sent_front _ _ c.loop-i.invariant.sent _ _ c.loop-i.invariant.told (c.loop-i.invariant.text ∙ append_assoc c.loop-i.invariant.sent _ _))

pub returns-in_err-hand_over_piece-clause-front : goal.returns-in_err-hand_over_piece-clause-front
returns-in_err-hand_over_piece-clause-front g c =
    let line = next_line c.args.self.now c.loop-i.i c.index.result.now (search rules) (search rules) in
    let held = line_held _ c.loop-i.invariant.sent _ _ _ _ _ c.loop-i.invariant.text line (seen_line _ c.args.self.now c.index.result.now _ _ c.self.view_is c.in_ok-push_rectangle.ensures) in
    on_any _ (held_front _ _ _ c.loop-i.invariant.sent _ _ _ c.loop-i.invariant.told held c.in_err-hand_over_piece.ensures.front)

pub loop-i-preserved : goal.loop-i-preserved
loop-i-preserved g c =
    let line = next_line c.args.self.now c.loop-i.i c.index.result.now (search rules) (search rules) in
    let held = line_held _ c.loop-i.invariant.sent _ _ _ _ _ c.loop-i.invariant.text line (seen_line _ c.args.self.now c.index.result.now _ _ c.self.view_is c.in_ok-push_rectangle.ensures) in
    let part = c.in_ok-hand_over_piece.ensures.part in record {
      counts = search rules;
      sent = c.loop-i.invariant.sent ++ part.0;
      told = more_sent _ _ _ c.loop-i.invariant.sent part.0 c.loop-i.invariant.told part.1;
      text = part_sent _ c.loop-i.invariant.sent _ part.0 _ _ held part.2;
    }

pub returns-in_err-push-2-clause-front : goal.returns-in_err-push-2-clause-front
returns-in_err-push-2-clause-front g c =
    on_any _ (sent_front _ _ c.loop-i.invariant.sent _ _ c.loop-i.invariant.told (c.loop-i.invariant.text ∙ append_assoc c.loop-i.invariant.sent _ _))

pub returns-clause-whole : goal.returns-clause-whole
returns-clause-whole g c =
    let done = end_held c.args.self.now c.loop-i.invariant.sent _ _ _ c.loop-i.i (search rules) c.loop-i.invariant.text c.in_ok-push-2.ensures in
    on_ok_weaker c.hand_over_held.result (λ e. all_sent _ _ _ c.loop-i.invariant.sent _ _ c.loop-i.invariant.told done e) c.hand_over_held.ensures.whole

pub returns-clause-front : goal.returns-clause-front
returns-clause-front g c =
    let done = end_held c.args.self.now c.loop-i.invariant.sent _ _ _ c.loop-i.i (search rules) c.loop-i.invariant.text c.in_ok-push-2.ensures in
    on_err_weaker c.hand_over_held.result (λ f. held_front _ _ _ c.loop-i.invariant.sent _ _ _ c.loop-i.invariant.told done f) c.hand_over_held.ensures.front
