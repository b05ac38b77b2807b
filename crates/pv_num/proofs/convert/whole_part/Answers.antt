use Rattle.std.proofs.Common.{arith}
use Rattle.pv_num.proofs.Canonical.{high_shift, high_whole, low_whole, none_whole}
use Rattle.pv_num.proofs.convert.whole_part.Goals as goal

pub overflow_shl-result : goal.overflow_shl-result
overflow_shl-result c = high_shift c.args.size.mantissa c.args.size.exponent (omega arith) (c.args.size.justified (omega arith)) c.requires

pub returns-then-size-ge512 : goal.returns-then-size-ge512
returns-then-size-ge512 c = high_whole c.args.size.mantissa c.args.size.exponent (omega arith) c.requires

pub returns-then-dropped-lt64 : goal.returns-then-dropped-lt64
returns-then-dropped-lt64 c = low_whole c.args.size.mantissa c.args.size.exponent (omega arith)

pub returns-else-dropped-lt64 : goal.returns-else-dropped-lt64
returns-else-dropped-lt64 c = none_whole c.args.size.mantissa c.args.size.exponent c.args.size.mantissa_fits (omega arith)
