use Rattle.std.proofs.Common.{◌≡◌, false, List, ℕ, sym, ◌∙◌, ap, subst}
use Rattle.std.specs.Prelude.{MatchOption}
use Rattle.pv_num.specs.Extended.{Extended}
use Rattle.pv_request.specs.Requests.{IsLevel, has_minus}
use Rattle.pv_args.proofs.Levels.{plain_by}
use Rattle.pv_args.proofs.values.level_of.Goals as goal

pub returns-then-begins_with : goal.returns-then-begins_with
returns-then-begins_with c =
    subst (λ (t : List ℕ). MatchOption c.below_zero.result ((n : Extended) → IsLevel t n → ⊥) (λ n. IsLevel t n)) c.as_bytes-then-begins_with.ensures.value
    c.below_zero.ensures

pub returns-else-begins_with : goal.returns-else-begins_with
returns-else-begins_with c =
    let plain : has_minus c.args.word.now ≡ false =
    ap (λ (t : List ℕ). has_minus t) (sym c.as_bytes.ensures.value) ∙ (sym c.begins_with.ensures ∙ c.if-begins_with.false) in
    plain_by c.args.word.now c.width_of.result plain c.width_of.ensures.width
