use Rattle.std.proofs.Common.{◌≡◌, ◌+◌, ◌<◌, [], length, get_or, drop, sym, ◌∙◌, append-nil, rules}
use Rattle.std.proofs.lemmas.Result.{on_err_weaker}
use Rattle.pv_io.proofs.Fronts.{appended_none, held_front, on_any}
use Rattle.pv_lines.specs.Turns.{joined}
use Rattle.pv_lines.proofs.Turning.{texts_from}
use Rattle.pv_lines.proofs.texts.+hand_from.Goals as goal

pub returns-in_err-hand_over-clause-front : goal.returns-in_err-hand_over-clause-front
returns-in_err-hand_over-clause-front g t c =
    let ts = c.args.texts.now in
    let there : c.args.i < length ts = search rules in
    let d = c.index-texts-i.result in
    let text : get_or ts c.args.i d ≡ c.bytes.result.now = search rules in
    on_any _ (held_front _ _ _ [] c.bytes.result.now (joined (drop (c.args.i + 1) ts)) _ (sym (appended_none _))
    (texts_from ts c.args.i d c.bytes.result.now there text) c.in_err-hand_over.ensures.front)

pub returns-clause-front : goal.returns-clause-front
returns-clause-front g t c =
    let ts = c.args.texts.now in
    let there : c.args.i < length ts = search rules in
    let d = c.index-texts-i.result in
    let text : get_or ts c.args.i d ≡ c.bytes.result.now = search rules in
    on_err_weaker c.hand_from.result
    (λ f. held_front _ _ _ c.bytes.result.now (joined (drop (c.args.i + 1) ts)) [] _ c.in_ok-hand_over.ensures.whole
    (texts_from ts c.args.i d c.bytes.result.now there text ∙ sym (append-nil _)) f) c.hand_from.ensures.front
