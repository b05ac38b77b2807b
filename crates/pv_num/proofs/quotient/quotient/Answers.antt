use Rattle.std.proofs.Common.{◌≡◌, ◌+◌, ◌-◌, ◌*◌, ◌/◌, ◌^◌, ◌<◌, suc, arith, ap, subst, ◌∙◌, zero-mul}
use Rattle.pv_num.specs.Grid.{unit}
use Rattle.pv_num.specs.Sizes.{size_of, IsSized, fine}
use Rattle.pv_num.proofs.Divisions.{division_sized, large_quotient, quotient_rest, quotient_whole, quotient_sized, zero_sized_at, divisor_pos}
use Rattle.pv_num.proofs.quotient.quotient.Goals as goal

pub returns-then-x-eq0 : goal.returns-then-x-eq0
returns-then-x-eq0 c =
    zero_sized_at c.args.toward (size_of c.args.x * unit) (size_of c.args.y) c.round.result
    (ap (λ m. m * 2 ^ c.args.x.exponent * unit) c.if-x-eq0.true ∙ ap (λ m. m * unit) (zero-mul (2 ^ c.args.x.exponent)) ∙ zero-mul unit) c.requires c.round.ensures

pub returns : goal.returns
returns c =
    let p : 0 < c.args.y.mantissa = divisor_pos c.args.y.mantissa c.args.y.exponent c.requires in
    let shift : c.left_aligned-n.result.1 < 126 = c.left_aligned-n.ensures.shift in
    let at = c.args.x.exponent + 1535 - c.args.y.exponent - c.left_aligned-n.result.1 in
    let w : suc (c.args.x.exponent + 1535 - c.args.y.exponent - c.left_aligned-n.result.1) + c.left_aligned-n.result.1 + c.args.y.exponent ≡ c.args.x.exponent + 1536 = omega arith in
    quotient_sized c.args.toward c.args.x.mantissa c.args.x.exponent c.args.y.mantissa c.args.y.exponent c.left_aligned-n.result.1 (c.args.x.exponent + 1535 - c.args.y.exponent - c.left_aligned-n.result.1) c.round-2.result p w
    (subst (λ n. IsSized c.args.toward (n * 2 ^ suc (c.args.x.exponent + 1535 - c.args.y.exponent - c.left_aligned-n.result.1)) (fine * c.args.y.mantissa) c.round-2.result) c.left_aligned-n.ensures.value
    (division_sized c.args.toward c.left_aligned-n.result.0 c.args.y.mantissa (c.left_aligned-n.result.0 / c.args.y.mantissa) (c.left_aligned-n.result.0 - c.left_aligned-n.result.0 / c.args.y.mantissa * c.args.y.mantissa) c.inexact.result _ c.round-2.result
    (large_quotient c.left_aligned-n.result.0 c.args.y.mantissa c.left_aligned-n.ensures.low p c.args.y.mantissa_fits)
    (quotient_whole c.left_aligned-n.result.0 c.args.y.mantissa)
    (quotient_rest c.left_aligned-n.result.0 c.args.y.mantissa p)
    c.inexact.ensures.none c.inexact.ensures.some c.round-2.ensures))
