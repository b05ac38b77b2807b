use Rattle.std.proofs.Common.{◌≡◌, ◌∷◌, sym, ◌∙◌, rules}
use Rattle.pv_file.proofs.Bytes.{cut_once}
use Rattle.pv_file.proofs.outcome_line.cut_word.Goals as goal

pub returns-clause-complete : goal.returns-clause-complete
returns-clause-complete c = λ word more plain stops e.
    let whole : c.args.bytes.now ≡ c.in_ok-first.first.now ∷ c.in_ok-first.text.now = search rules in
    let cut = cut_once c.in_ok-first.text.now word more c.in_ok-first.first.now c.end_at.result c.end_at.ensures.free c.end_at.ensures.ends plain stops (sym whole ∙ e) in (
      c.split_at.ensures.front ∙ cut.0,
      c.split_at.ensures.back ∙ cut.1,
    )
