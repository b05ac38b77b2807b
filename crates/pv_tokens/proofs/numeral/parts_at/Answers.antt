use Rattle.std.proofs.Common.{◌≤◌, subst}
use Rattle.pv_tokens.proofs.Numerals.{exponent_on, longest_number}
use Rattle.pv_tokens.proofs.numeral.parts_at.Goals as goal

pub returns-clause-longest : goal.returns-clause-longest
returns-clause-longest c =
    let on = exponent_on c.args.text.now c.exponent_at.result c.exponent_at.ensures.exponent in
    longest_number _ _ _ _ _ c.digits_end-point.ensures.digits c.digits_end-point.ensures.no_more c.fraction_end-tail.ensures.fraction c.fraction_end-tail.ensures.longest (subst (λ n. n ≤ c.exponent_at.result.end) c.exponent_at.ensures.tail on) c.exponent_at.ensures.longest
