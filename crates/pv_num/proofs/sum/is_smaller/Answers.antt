use Rattle.std.proofs.Common.{arith, refl}
use Rattle.pv_num.proofs.Sizes.{exponent_orders}
use Rattle.pv_num.proofs.sum.is_smaller.Goals as goal

pub returns-then-x-y : goal.returns-then-x-y
returns-then-x-y c =
    let o = exponent_orders c.args.x.mantissa c.args.x.exponent c.args.y.mantissa c.args.y.exponent c.args.x.mantissa_fits c.args.y.justified (omega arith) in
    (λ _. o, λ _. refl)

pub returns-then-y-x : goal.returns-then-y-x
returns-then-y-x c =
    let o = exponent_orders c.args.y.mantissa c.args.y.exponent c.args.x.mantissa c.args.x.exponent c.args.y.mantissa_fits c.args.x.justified (omega arith) in
    (λ h. cc, λ h. absurd (omega (arith, o, h)))
