use Rattle.pv_num.proofs.Classes.{resized, resized_is}
use Rattle.pv_num.proofs.num.Num.with_size.Goals as goal

pub invariant_of-result : goal.invariant_of-result
invariant_of-result c =
    resized c.self.inside.class c.self.inside.mantissa c.self.inside.exponent c.args.self c.args.size c.self.view_is c.self.invariant.classed c.requires.finite c.requires.not_zero

pub returns : goal.returns
returns c = resized_is c.self.inside.class c.self.inside.mantissa c.self.inside.exponent c.args.self c.args.size c.self.view_is c.self.invariant.classed c.requires.finite
