use Rattle.std.proofs.Common.{◌-◌, arith}
use Rattle.pv_num.proofs.UnlikeSums.{left_part, few_bits, left_fits, left_full}
use Rattle.pv_num.proofs.unlike.justified.Goals as goal

pub overflow_sub-free : goal.overflow_sub-free
overflow_sub-free c = few_bits c.bit_length-free.result c.args.word c.bit_length-free.ensures.below c.requires.fits

pub invariant_of-result-then-free-exponent : goal.invariant_of-result-then-free-exponent
invariant_of-result-then-free-exponent c =
    let few = few_bits c.bit_length-free.result c.args.word c.bit_length-free.ensures.below c.requires.fits in
    record {
      mantissa_fits = left_fits c.args.word c.bit_length-free.result (62 - c.bit_length-free.result) c.bit_length-free.ensures.above (omega (arith, few));
      exponent_fits = omega (arith, c.requires.exponent_fits);
      justified = λ _. left_full c.args.word c.bit_length-free.result (62 - c.bit_length-free.result) c.bit_length-free.ensures.above c.bit_length-free.ensures.below (omega (arith, few));
    }

pub returns-then-free-exponent : goal.returns-then-free-exponent
returns-then-free-exponent c =
    let few = few_bits c.bit_length-free.result c.args.word c.bit_length-free.ensures.below c.requires.fits in
    left_part c.args.word c.bit_length-free.result (62 - c.bit_length-free.result) (c.args.exponent - (62 - c.bit_length-free.result)) c.args.exponent c.bit_length-free.ensures.above (omega (arith, few)) (omega (arith, c.if-free-exponent.true))

pub invariant_of-result-2 : goal.invariant_of-result-2
invariant_of-result-2 c =
    let few = few_bits c.bit_length-free.result c.args.word c.bit_length-free.ensures.below c.requires.fits in
    record {
      mantissa_fits = left_fits c.args.word c.bit_length-free.result c.args.exponent c.bit_length-free.ensures.above (omega (arith, few, c.if-free-exponent.false));
      exponent_fits = omega arith;
      justified = λ p. absurd (omega (arith, p));
    }

pub returns : goal.returns
returns c =
    let few = few_bits c.bit_length-free.result c.args.word c.bit_length-free.ensures.below c.requires.fits in
    left_part c.args.word c.bit_length-free.result c.args.exponent 0 c.args.exponent c.bit_length-free.ensures.above (omega (arith, few, c.if-free-exponent.false)) (omega arith)
