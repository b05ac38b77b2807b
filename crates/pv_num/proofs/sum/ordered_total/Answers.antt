use Rattle.std.proofs.Common.{◌≡◌, ◌+◌, ◌-◌, ◌*◌, ◌^◌, arith, subst}
use Rattle.pv_num.specs.Sizes.{IsSized, fine}
use Rattle.pv_num.proofs.Sums.{near_sum, far_sum}
use Rattle.pv_num.proofs.sum.ordered_total.Goals as goal

pub returns-then-distance-le-FAR : goal.returns-then-distance-le-FAR
returns-then-distance-le-FAR c =
    subst (λ v. IsSized c.args.toward v fine c.round.result)
    (near_sum c.args.x.mantissa c.args.x.exponent c.args.y.mantissa c.args.y.exponent (c.args.x.exponent - c.args.y.exponent) c.args.at c.args.x.mantissa_fits (omega arith) (omega arith))
    c.round.ensures

pub returns-else-distance-le-FAR : goal.returns-else-distance-le-FAR
returns-else-distance-le-FAR c =
    let e : c.args.x.exponent - 64 + 64 ≡ c.args.x.exponent = omega arith in
    subst (λ e. IsSized c.args.toward ((c.args.x.mantissa * 2 ^ e + c.args.y.mantissa * 2 ^ c.args.y.exponent) * 2 ^ c.args.at) fine c.round-else-distance-le-FAR.result) e
    (far_sum c.args.toward c.args.x.mantissa c.args.y.mantissa c.args.y.exponent (c.args.x.exponent - 64) c.args.at c.trace.result c.round-else-distance-le-FAR.result
    (c.args.x.justified (omega arith)) c.args.x.mantissa_fits c.args.y.mantissa_fits (omega arith) c.requires.at_high c.trace.ensures.none c.trace.ensures.some
    c.round-else-distance-le-FAR.ensures)
