use Rattle.std.proofs.Common.{◌∙◌}
use Rattle.pv_code.proofs.Wide.{wide, wide_of}
use Rattle.pv_code.proofs.fraction.product.Goals as goal

pub returns : goal.returns
returns c = wide _ _ _ _ ∙ wide_of c.args.a c.args.b
