use Rattle.std.proofs.Common.{◌≤◌, ◌∙◌, sym, subst}
use Rattle.pv_svg.proofs.Axes.{end_found, some_width, found}
use Rattle.pv_svg.proofs.pixel.lower_pixel.Goals as goal

pub div-share-requires : goal.div-share-requires
div-share-requires c = some_width c.args.axis.now c.args.v _ c.requires c.width.ensures

pub floor-requires-clause-low : goal.floor-requires-clause-low
floor-requires-clause-low c =
    (found c.args.axis.now c.args.v _ _ _ _ _ _ c.requires c.lo.ensures.value c.sub.ensures c.width.ensures c.div-share.ensures c.one_thousand.ensures c.mul.ensures).low

pub floor-requires-clause-high : goal.floor-requires-clause-high
floor-requires-clause-high c =
    (found c.args.axis.now c.args.v _ _ _ _ _ _ c.requires c.lo.ensures.value c.sub.ensures c.width.ensures c.div-share.ensures c.one_thousand.ensures c.mul.ensures).high

pub returns-then-eq-clause-pixel : goal.returns-then-eq-clause-pixel
returns-then-eq-clause-pixel c = end_found c.args.axis.now c.args.v _ _ c.hi.ensures.value c.eq.ensures.value c.if-eq.true

pub returns-clause-pixel : goal.returns-clause-pixel
returns-clause-pixel c =
    let f = found c.args.axis.now c.args.v _ _ _ _ _ _ c.requires c.lo.ensures.value c.sub.ensures c.width.ensures c.div-share.ensures c.one_thousand.ensures c.mul.ensures in
    c.floor.ensures ∙ f.pixel _ _ c.hi.ensures.value c.eq.ensures.value c.if-eq.false

pub returns-clause-few : goal.returns-clause-few
returns-clause-few c =
    let f = found c.args.axis.now c.args.v _ _ _ _ _ _ c.requires c.lo.ensures.value c.sub.ensures c.width.ensures c.div-share.ensures c.one_thousand.ensures c.mul.ensures in
    subst (λ n. n ≤ 1000) (sym c.floor.ensures) f.few
