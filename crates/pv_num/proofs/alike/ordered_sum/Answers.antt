use Rattle.std.proofs.Common.{◌≡◌, ◌+◌, ◌-◌, ◌*◌, ◌^◌, ◌<◌, ◌≤◌, Some, arith, refl, ap, sym, subst, ◌∙◌, mul-one}
use Rattle.std.proofs.Math.Nat.{mul-le-mul_right}
use Rattle.pv_num.specs.Sizes.{size_of, IsWhole, toward_of, is_negative_of}
use Rattle.pv_num.proofs.Fitted.{sum_whole, past_sized}
use Rattle.pv_num.proofs.Operations.{sum_rounded}
use Rattle.pv_num.proofs.alike.ordered_sum.Goals as goal

pub returns-then-x-eq-TOP_EXPONENT : goal.returns-then-x-eq-TOP_EXPONENT
returns-then-x-eq-TOP_EXPONENT c =
    let q : c.args.x.exponent - c.args.y.exponent + c.args.y.exponent ≡ c.args.x.exponent = omega (arith, c.requires.ordered) in
    c.signed.ensures
    ∙ sum_rounded c.args.side c.is_negative-negative.result _ c.toward-toward.result _ c.beyond.result c.is_negative-negative.ensures c.toward-toward.ensures
    (past_sized c.toward-toward.result _ c.args.x.exponent _ c.beyond.result c.if-x-eq-TOP_EXPONENT.true c.if-sum-ge4611686018427387904.true
    (sum_whole c.toward-toward.result c.args.x.mantissa c.args.y.mantissa c.whole.result (c.args.x.exponent - c.args.y.exponent) c.args.x.exponent c.args.y.exponent q c.whole.ensures.whole)
    c.beyond.ensures.largest c.beyond.ensures.none)

pub returns : goal.returns
returns c =
    let q : c.args.x.exponent - c.args.y.exponent + c.args.y.exponent ≡ c.args.x.exponent = omega (arith, c.requires.ordered) in
    let one : 0 < 1 = omega arith in
    let unit : 2 ^ c.args.x.exponent * 1 ≡ 2 ^ c.args.x.exponent = mul-one (2 ^ c.args.x.exponent) in
    let high : 0 < c.args.x.exponent → 2 ^ 61 * (2 ^ c.args.x.exponent * 1) ≤ size_of c.args.x + size_of c.args.y = λ p.
    let l : 2 ^ 61 * 2 ^ c.args.x.exponent ≤ size_of c.args.x = mul-le-mul_right (2 ^ c.args.x.exponent) (c.args.x.justified p) in
    omega (arith, l, unit) in
    c.with_size.ensures
    ∙ sum_rounded c.args.side (is_negative_of c.args.like) _ c.toward-toward.result _ (Some c.fitted.result) refl (c.toward-toward.ensures ∙ ap (λ z. toward_of c.args.side z) c.is_negative-negative.ensures)
    (c.fitted.ensures.sized (size_of c.args.x + size_of c.args.y) 1 one high
    (subst (λ u. IsWhole c.toward-toward.result (size_of c.args.x + size_of c.args.y) u (c.args.x.mantissa + c.whole.result)) (sym unit)
    (sum_whole c.toward-toward.result c.args.x.mantissa c.args.y.mantissa c.whole.result (c.args.x.exponent - c.args.y.exponent) c.args.x.exponent c.args.y.exponent q c.whole.ensures.whole)))
