use Rattle.std.proofs.Common.{◌^◌, arith}
use Rattle.pv_tokens.proofs.Decimals.{kept_more}
use Rattle.pv_tokens.proofs.number.with_digits.Goals as goal

pub loop-digit-preserved : goal.loop-digit-preserved
loop-digit-preserved c = record {
  most = omega arith;
  so_far = λ before start. kept_more (10 ^ 37) c.loop-digit.value _ before c.args.digits.now c.loop-digit.digit-index (omega arith) (omega arith) (c.requires.digits _ (omega arith)) (c.loop-digit.invariant.so_far before start) (omega (arith, c.min-value.ensures, c.from.ensures));
}
