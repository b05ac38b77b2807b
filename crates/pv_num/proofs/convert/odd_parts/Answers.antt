use Rattle.std.proofs.Common.{◌+◌, ◌*◌, ◌^◌, ◌<◌, true, false}
use Rattle.std.proofs.lemmas.Nat.{pow_pos}
use Rattle.std.proofs.Math.Nat.{mul-pos, pos_of_ne-zero}
use Rattle.pv_num.specs.Sizes.{size_of}
use Rattle.pv_num.proofs.Canonical.{parts_from, exponent_word, negative_word, positive_word, size_value, parts_with}
use Rattle.pv_num.proofs.convert.odd_parts.Goals as goal

pub returns-then-negative : goal.returns-then-negative
returns-then-negative c =
    let p : 0 < c.args.size.mantissa * 2 ^ c.args.size.exponent = mul-pos (pos_of_ne-zero c.if-size-eq0.false) (pow_pos c.args.size.exponent) in
    parts_with c.args.negative true (size_of c.args.size) _ c.if-negative.true
    (parts_from true (size_of c.args.size) c.odd_part-odd.result.0 (c.odd_part-odd.result.1 + c.args.size.exponent) _ _ p c.odd_part-odd.ensures.odd
    (size_value c.args.size.mantissa c.args.size.exponent c.odd_part-odd.result.0 c.odd_part-odd.result.1 c.odd_part-odd.ensures.value)
    (negative_word c.odd_part-odd.result.0 c.odd_part-odd.ensures.fits)
    (exponent_word c.args.size.exponent c.odd_part-odd.result.1 c.args.size.exponent_fits c.odd_part-odd.ensures.few))

pub returns-else-negative : goal.returns-else-negative
returns-else-negative c =
    let p : 0 < c.args.size.mantissa * 2 ^ c.args.size.exponent = mul-pos (pos_of_ne-zero c.if-size-eq0.false) (pow_pos c.args.size.exponent) in
    parts_with c.args.negative false (size_of c.args.size) _ c.if-negative.false
    (parts_from false (size_of c.args.size) c.odd_part-odd.result.0 (c.odd_part-odd.result.1 + c.args.size.exponent) _ _ p c.odd_part-odd.ensures.odd
    (size_value c.args.size.mantissa c.args.size.exponent c.odd_part-odd.result.0 c.odd_part-odd.result.1 c.odd_part-odd.ensures.value)
    (positive_word c.odd_part-odd.result.0 c.odd_part-odd.ensures.fits)
    (exponent_word c.args.size.exponent c.odd_part-odd.result.1 c.args.size.exponent_fits c.odd_part-odd.ensures.few))
