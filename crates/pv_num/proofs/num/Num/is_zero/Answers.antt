use Rattle.pv_num.proofs.Zeros.{zero_mantissa, never_zero}
use Rattle.pv_num.proofs.num.Num.is_zero.Goals as goal

pub returns-in-NonNegative : goal.returns-in-NonNegative
returns-in-NonNegative c = zero_mantissa c.self.inside.class c.self.inside.mantissa c.self.inside.exponent c.args.self c.in-NonNegative.is c.self.view_is

pub returns-in_default : goal.returns-in_default
returns-in_default c = never_zero c.self.inside.class c.self.inside.mantissa c.self.inside.exponent c.args.self c.in_default.not-NonNegative c.self.invariant.classed c.self.view_is
