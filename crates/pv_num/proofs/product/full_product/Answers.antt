use Rattle.std.proofs.Common.{rules, ◌≡◌, ◌+◌, ◌-◌, arith, refl}
use Rattle.pv_num.specs.Grid.{unit}
use Rattle.pv_num.proofs.Fitted.{half_sized}
use Rattle.pv_num.proofs.Products.{cut_in_units, full_in_units}
use Rattle.pv_num.proofs.Scales.{unit_pos}
use Rattle.pv_num.proofs.product.full_product.Goals as goal

pub returns-then-parts-ge-LONG-clause-sized : goal.returns-then-parts-ge-LONG-clause-sized
returns-then-parts-ge-LONG-clause-sized c =
    let q : 61 + c.args.scale ≡ c.args.scale - 451 + 512 = omega (arith, c.requires.scale_high) in
    half_sized c.args.toward c.cut-word.result c.whole.result (c.args.scale - 451) _ unit _ refl unit_pos (c.cut-word.ensures.long c.if-parts-ge-LONG.true) (search rules) (search rules)
    (cut_in_units c.args.toward c.args.parts (c.args.scale - 451) c.args.scale c.cut-word.result q c.cut-word.ensures.whole) c.whole.ensures.whole

pub returns-clause-sized : goal.returns-clause-sized
returns-clause-sized c =
    let q : 61 + c.args.scale ≡ c.args.scale - 451 + 512 = omega (arith, c.requires.scale_high) in
    c.fitted.ensures.sized _ unit unit_pos (λ _. full_in_units c.args.parts (c.args.scale - 451) c.args.scale q c.requires.full)
    (cut_in_units c.args.toward c.args.parts (c.args.scale - 451) c.args.scale c.cut-word.result q c.cut-word.ensures.whole)
