use Rattle.pv_num.proofs.Align.{bits_above, bits_below}
use Rattle.pv_num.proofs.round.bit_length.Goals as goal

pub returns-clause-above : goal.returns-clause-above
returns-clause-above c = bits_above c.args.parts c.requires c.ranges.parts.fits

pub returns-clause-below : goal.returns-clause-below
returns-clause-below c = bits_below c.args.parts c.requires c.ranges.parts.fits
