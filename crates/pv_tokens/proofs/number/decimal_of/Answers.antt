use Rattle.std.proofs.Common.{◌+◌, ◌^◌, [], ap, arith}
use Rattle.pv_tokens.proofs.Decimals.{behind_length, caps_negative, caps_positive, kept_digits, tail_within}
use Rattle.pv_tokens.proofs.number.decimal_of.Goals as goal

pub returns-then-parts-clause-caps : goal.returns-then-parts-clause-caps
returns-then-parts-clause-caps c =
    let within = tail_within c.args.text.now 0 c.args.parts c.requires in
    caps_negative c.args.text.now c.args.parts _ _ c.with_digits-power.result c.min.result c.if-parts.true
    (kept_digits c.args.text.now c.args.parts (10 ^ 37) c.with_digits-whole.result _ c.min.result c.min.ensures c.with_digits-whole.ensures.value c.with_digits-digits.ensures.value)
    (ap (λ n. n + c.with_digits-power.result) (behind_length c.args.text.now c.args.parts.point c.args.parts.tail c.min.result c.min.ensures within))
    (c.with_digits-power.ensures.value [] (omega arith))

pub returns-else-parts-clause-caps : goal.returns-else-parts-clause-caps
returns-else-parts-clause-caps c =
    let within = tail_within c.args.text.now 0 c.args.parts c.requires in
    caps_positive c.args.text.now c.args.parts _ _ c.with_digits-power.result c.if-parts.false
    (kept_digits c.args.text.now c.args.parts (10 ^ 37) c.with_digits-whole.result _ c.min.result c.min.ensures c.with_digits-whole.ensures.value c.with_digits-digits.ensures.value)
    (behind_length c.args.text.now c.args.parts.point c.args.parts.tail c.min.result c.min.ensures within)
    (omega arith)
    (c.with_digits-power.ensures.value [] (omega arith))
