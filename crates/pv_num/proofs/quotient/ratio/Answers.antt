use Rattle.std.proofs.Common.{◌≡◌, ◌+◌, ◌-◌, ◌*◌, ◌^◌, ◌<◌, suc, arith, ap, subst, ◌∙◌, zero-mul}
use Rattle.pv_num.specs.Grid.{unit}
use Rattle.pv_num.specs.Sizes.{IsSized, fine}
use Rattle.pv_num.proofs.Divisions.{division_sized, large_ratio, ratio_sized, zero_sized_at}
use Rattle.pv_num.proofs.quotient.ratio.Goals as goal

pub returns-then-p-eq0 : goal.returns-then-p-eq0
returns-then-p-eq0 c = zero_sized_at c.args.toward (c.args.p * unit) c.args.q c.round.result (ap (λ m. m * unit) c.if-p-eq0.true ∙ zero-mul unit) c.requires.q_positive c.round.ensures

pub returns : goal.returns
returns c =
    let up : c.left_aligned-n.result.1 < 126 = c.left_aligned-n.ensures.shift in
    let along : c.left_aligned-d.result.1 < 120 = c.left_aligned-d.ensures.shift in
    let w : suc (1535 + c.left_aligned-d.result.1 - c.left_aligned-n.result.1 - 63) + 63 + c.left_aligned-n.result.1 ≡ c.left_aligned-d.result.1 + 1536 = omega arith in
    ratio_sized c.args.toward c.args.p c.args.q c.left_aligned-n.result.1 c.left_aligned-d.result.1 (1535 + c.left_aligned-d.result.1 - c.left_aligned-n.result.1 - 63) c.round-2.result c.requires.q_positive w
    (subst (λ d. IsSized c.args.toward (c.args.p * 2 ^ c.left_aligned-n.result.1 * 2 ^ 63 * 2 ^ suc (1535 + c.left_aligned-d.result.1 - c.left_aligned-n.result.1 - 63)) (fine * d) c.round-2.result) c.left_aligned-d.ensures.value
    (subst (λ n. IsSized c.args.toward (n * 2 ^ 63 * 2 ^ suc (1535 + c.left_aligned-d.result.1 - c.left_aligned-n.result.1 - 63)) (fine * c.left_aligned-d.result.0) c.round-2.result) c.left_aligned-n.ensures.value
    (division_sized c.args.toward (c.left_aligned-n.result.0 * 2 ^ 63) c.left_aligned-d.result.0 c.long_division-whole.result.0 c.long_division-whole.result.1 c.inexact.result _ c.round-2.result
    (large_ratio c.left_aligned-n.result.0 c.left_aligned-d.result.0 c.long_division-whole.result.0 c.long_division-whole.result.1 c.left_aligned-n.ensures.low c.left_aligned-d.ensures.high c.long_division-whole.ensures.rest c.long_division-whole.ensures.value)
    c.long_division-whole.ensures.value c.long_division-whole.ensures.rest c.inexact.ensures.none c.inexact.ensures.some c.round-2.ensures)))
