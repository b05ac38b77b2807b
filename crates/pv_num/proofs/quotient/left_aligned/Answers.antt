use Rattle.std.proofs.Common.{◌*◌, ◌^◌, ◌<◌, ◌≤◌, sym, subst}
use Rattle.pv_num.proofs.Quotients.{length_fits, aligned_high, aligned_whole, aligned_low}
use Rattle.pv_num.proofs.quotient.left_aligned.Goals as goal

pub overflow_sub-shift : goal.overflow_sub-shift
overflow_sub-shift c = length_fits c.args.n c.args.bits c.bit_length.result c.requires.fits c.bit_length.ensures.below

pub returns-clause-value : goal.returns-clause-value
returns-clause-value c =
    let k = length_fits c.args.n c.args.bits c.bit_length.result c.requires.fits c.bit_length.ensures.below in
    aligned_whole c.args.n c.args.bits c.bit_length.result c.bit_length.ensures.above k c.requires.bits_fit

pub returns-clause-low : goal.returns-clause-low
returns-clause-low c =
    let k = length_fits c.args.n c.args.bits c.bit_length.result c.requires.fits c.bit_length.ensures.below in
    subst (λ x. 2 ^ c.args.bits ≤ 2 * x) (sym (aligned_whole c.args.n c.args.bits c.bit_length.result c.bit_length.ensures.above k c.requires.bits_fit))
    (aligned_low c.args.n c.args.bits c.bit_length.result c.bit_length.ensures.below k)

pub returns-clause-high : goal.returns-clause-high
returns-clause-high c =
    let k = length_fits c.args.n c.args.bits c.bit_length.result c.requires.fits c.bit_length.ensures.below in
    subst (λ x. x < 2 ^ c.args.bits) (sym (aligned_whole c.args.n c.args.bits c.bit_length.result c.bit_length.ensures.above k c.requires.bits_fit))
    (aligned_high c.args.n c.args.bits c.bit_length.result c.bit_length.ensures.above k)
