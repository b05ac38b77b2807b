use Rattle.std.proofs.Common.{◌<◌, ◌≤◌, ◌^◌, ◌*◌, ap, arith, subst, sym, ◌∙◌}
use Rattle.std.specs.Option.{MatchOption}
use Rattle.pv_tokens.specs.Numbers.{IsValue, TooWide}
use Rattle.pv_tokens.proofs.Decimals.{narrow_decimal, value_is, wide_decimal}
use Rattle.pv_tokens.proofs.number.value_of.Goals as goal

pub returns-in_err-above-clause-value : goal.returns-in_err-above-clause-value
returns-in_err-above-clause-value c =
    subst (λ r. MatchOption r (TooWide c.args.decimal) (λ v. (¬ TooWide c.args.decimal) × IsValue c.args.decimal v)) (sym c.from_residual.ensures)
    (wide_decimal c.args.decimal c.saturating_sub-zeros.result (omega arith) c.saturating_sub-zeros.ensures (subst (λ p. 10 ^ 37 ≤ c.args.decimal.digits * p) c.power_of_ten.ensures.value (omega (arith, c.in_err-above.ensures))))

pub returns-then-above-ge-LIMIT-clause-value : goal.returns-then-above-ge-LIMIT-clause-value
returns-then-above-ge-LIMIT-clause-value c =
    wide_decimal c.args.decimal c.saturating_sub-zeros.result (omega arith) c.saturating_sub-zeros.ensures
    (subst (λ n. 10 ^ 37 ≤ n) (c.in_ok-above.ensures.1 ∙ ap (λ p. c.args.decimal.digits * p) c.power_of_ten.ensures.value) c.if-above-ge-LIMIT.true)

pub returns-clause-value : goal.returns-clause-value
returns-clause-value c =
    let is = c.in_ok-above.ensures.1 ∙ ap (λ p. c.args.decimal.digits * p) c.power_of_ten.ensures.value in (
      narrow_decimal c.args.decimal c.saturating_sub-zeros.result (omega arith) (omega arith) c.saturating_sub-zeros.ensures (subst (λ n. n < 10 ^ 37) is c.if-above-ge-LIMIT.false),
      value_is c.args.decimal _ _ _ _ _ c.saturating_sub-zeros.ensures c.saturating_sub-places.ensures is c.power_of_ten-2.ensures.value c.in_lowest_terms.ensures.lowest,
    )
