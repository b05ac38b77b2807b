use Rattle.std.proofs.Common.{◌≡◌, ◌≤◌, ◌*◌, ◌+◌, [], ◌∷◌, ◌++◌, List, length, sym, ◌∙◌, ap, subst, rules}
use Rattle.pv_io.specs.Outside.{appended}
use Rattle.pv_io.proofs.Fronts.{appended_none, more_sent, on_any, sent_front}
use Rattle.pv_tree.specs.Pieces.{Piece, root_piece, all_nodes}
use Rattle.pv_file.specs.Walks.{pending_text, after_steps}
use Rattle.pv_lines.specs.Turns.{AreSpread, joined}
use Rattle.pv_lines.proofs.Turning.{steps_add, round_whole, spread_on, spread_still, lines_begin, lines_end, round_sent, round_front}
use Rattle.pv_lines.proofs.rounds.write_rounds.Goals as goal

pub loop-at-init : goal.loop-at-init
loop-at-init g c = record {
  count = search rules;
  texts = search rules;
  before = c.args.scribes.now;
  same = c.turn_all.ensures.count;
  spread = c.requires.spread;
  turned = c.turn_all.ensures.turned;
  counts = search rules;
  sent = [];
  told = sym (appended_none _);
  text = lines_begin c.args.version c.args.p.now.root c.args.p.now.tree;
}

pub returns-in_err-take_texts-clause-front : goal.returns-in_err-take_texts-clause-front
returns-in_err-take_texts-clause-front g c =
    let so_far = c.loop-at.invariant in
    on_any _ (sent_front _ _ so_far.sent _ _ so_far.told so_far.text)

pub returns-in_err-turn_and_hand-clause-front : goal.returns-in_err-turn_and_hand-clause-front
returns-in_err-turn_and_hand-clause-front g c =
    let so_far = c.loop-at.invariant in
    let share = c.args.share in
    let gap = c.gap_of-gap.result in
    let all = root_piece c.args.p.now.root c.args.p.now.tree ∷ [] in
    let now = after_steps c.loop-at.at all in
    let ys = c.loop-at.scribes in
    let ts = c.take_texts.new.texts in
    let count : length ts ≡ length ys = c.in_ok-take_texts.ensures.texts ∙ so_far.texts ∙ sym so_far.count in
    let far : share * length ys ≡ share + gap = ap (λ n. share * n) so_far.count ∙ sym c.gap_of-gap.ensures.is in
    let whole : pending_text c.args.version now ≡ joined ts ++ pending_text c.args.version (after_steps (share + gap) now) =
    round_whole c.args.version share gap now so_far.before ys ts so_far.same count far so_far.spread so_far.turned c.in_ok-take_texts.ensures.taken in
    on_any _ (round_front _ _ _ _ so_far.sent (joined ts) (pending_text c.args.version (after_steps (share + gap) now)) (pending_text c.args.version now)
    so_far.told so_far.text whole c.in_err-turn_and_hand.ensures.front)

pub loop-at-preserved : goal.loop-at-preserved
loop-at-preserved g c =
    let so_far = c.loop-at.invariant in
    let share = c.args.share in
    let gap = c.gap_of-gap.result in
    let all = root_piece c.args.p.now.root c.args.p.now.tree ∷ [] in
    let now = after_steps c.loop-at.at all in
    let ys = c.loop-at.scribes in
    let ts = c.take_texts.new.texts in
    let count : length ts ≡ length ys = c.in_ok-take_texts.ensures.texts ∙ so_far.texts ∙ sym so_far.count in
    let far : share * length ys ≡ share + gap = ap (λ n. share * n) so_far.count ∙ sym c.gap_of-gap.ensures.is in
    let whole : pending_text c.args.version now ≡ joined ts ++ pending_text c.args.version (after_steps (share + gap) now) =
    round_whole c.args.version share gap now so_far.before ys ts so_far.same count far so_far.spread so_far.turned c.in_ok-take_texts.ensures.taken in
    let zs = c.take_texts.new.scribes in record {
      count = c.in_ok-turn_and_hand.ensures.count ∙ c.in_ok-take_texts.ensures.scribes ∙ so_far.count;
      texts = count ∙ so_far.count;
      before = zs;
      same = c.in_ok-turn_and_hand.ensures.count;
      spread = subst (λ (q : List Piece). AreSpread share q zs) (sym (steps_add c.loop-at.at (share + gap) all))
          (spread_still share (after_steps (share + gap) now) ys zs c.in_ok-take_texts.ensures.scribes
          (spread_on c.args.version share gap now so_far.before ys ts so_far.same count so_far.spread so_far.turned c.in_ok-take_texts.ensures.taken)
          c.in_ok-take_texts.ensures.still);
      turned = c.in_ok-turn_and_hand.ensures.turned;
      counts = search rules;
      sent = so_far.sent ++ joined ts;
      told = more_sent _ _ _ so_far.sent (joined ts) so_far.told c.in_ok-turn_and_hand.ensures.whole;
      text = round_sent c.args.version c.loop-at.at (share + gap) all _ so_far.sent (joined ts) so_far.text whole;
    }

pub returns-clause-whole : goal.returns-clause-whole
returns-clause-whole g c =
    let so_far = c.loop-at.invariant in
    let past : all_nodes c.args.p.now.tree ≤ c.loop-at.at = search rules in
    so_far.told ∙ ap (appended (g.K.Sink.written c.args.sink.now)) (sym (lines_end c.args.version c.args.p.now.root c.args.p.now.tree c.loop-at.at so_far.sent past so_far.text))
