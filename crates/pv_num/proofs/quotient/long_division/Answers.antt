use Rattle.std.proofs.Common.{arith}
use Rattle.pv_num.proofs.Quotients.{digit_value, digit_fits}
use Rattle.pv_num.proofs.quotient.long_division.Goals as goal

pub loop-preserved : goal.loop-preserved
loop-preserved c = record {
  value = digit_value c.loop.q c.args.d c.loop.rest c.args.n c.loop.counter _ _ c.next_digit-more.ensures.value c.loop.invariant.value;
  less = c.next_digit-more.ensures.rest;
  fits = digit_fits c.loop.q c.loop.counter _ c.next_digit-more.ensures.fits c.loop.invariant.fits;
  short = omega arith;
}
