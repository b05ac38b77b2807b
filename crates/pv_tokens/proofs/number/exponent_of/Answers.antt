use Rattle.std.proofs.Common.{◌≤◌, ◌^◌, [], ℕ, arith, subst}
use Rattle.std.specs.Str.Parse.{digits_value}
use Rattle.pv_tokens.proofs.Decimals.{small_is, small_kept}
use Rattle.pv_tokens.proofs.number.exponent_of.Goals as goal

pub returns-then-n-le32 : goal.returns-then-n-le32
returns-then-n-le32 c = record {
  digits = c.if-not-are_digits.ensures;
  value = small_is (10 ^ 37) c.with_digits-n.result (digits_value 10 c.args.text.now) (omega arith) (c.with_digits-n.ensures.value [] (omega arith)) c.if-n-le32.true;
  most = c.if-n-le32.true;
}

pub returns-else-n-le32 : goal.returns-else-n-le32
returns-else-n-le32 c = λ x.
    let few : c.with_digits-n.result ≤ 32 =
    small_kept (10 ^ 37) c.with_digits-n.result (digits_value 10 c.args.text.now) (omega arith) (c.with_digits-n.ensures.value [] (omega arith)) (subst (λ (n : ℕ). n ≤ 32) x.1.value x.1.most) in
    omega (arith, few, c.if-n-le32.false)
