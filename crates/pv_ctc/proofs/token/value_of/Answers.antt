use Rattle.std.proofs.Common.{◌≡◌, ℕ, ◌+◌, take, arith, Option, Some, None, IfNone}
use Rattle.std.specs.Str.Parse.{digits_value}
use Rattle.pv_ctc.proofs.Lexing.{digit_range, one_more, too_great}
use Rattle.pv_ctc.proofs.token.value_of.Goals as goal

pub next_value-requires-clause-low : goal.next_value-requires-clause-low
next_value-requires-clause-low c = (digit_range c.args.digits.now c.loop-digit.digit-index c.requires c.loop-digit-test.true).0

pub next_value-requires-clause-high : goal.next_value-requires-clause-high
next_value-requires-clause-high c = (digit_range c.args.digits.now c.loop-digit.digit-index c.requires c.loop-digit-test.true).1

told : (P : Type 0) (o : Option ℕ) → P → IfNone o P
told P None p = p
told P (Some x) p = tt

pub returns-in_err-value-clause-none : goal.returns-in_err-value-clause-none
returns-in_err-value-clause-none c = told _ c.from_residual.result (too_great c.args.digits.now c.loop-digit.digit-index c.loop-digit.value c.requires c.loop-digit-test.true c.loop-digit.invariant c.in_err-value.ensures.none)

pub loop-digit-preserved : goal.loop-digit-preserved
loop-digit-preserved c =
    let m = one_more c.args.digits.now c.loop-digit.digit-index c.loop-digit.value c.requires c.loop-digit-test.true c.loop-digit.invariant in
    let e = c.in_ok-value.ensures.value in
    let same : c.in_ok-value.value ≡ digits_value 10 (take (c.loop-digit.digit-index + 1) c.args.digits.now) = omega arith in
    same
