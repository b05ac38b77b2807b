use Rattle.std.proofs.Common.{ap, ◌∙◌}
use Rattle.pv_num.specs.Order.{lesser, greater}
use Rattle.pv_hc4.proofs.Relating.{ordered_is}
use Rattle.pv_hc4.proofs.relate.ordered.Goals as goal

pub returns : goal.returns
returns c =
    ordered_is c.args.l c.args.r c.in_ok-low.low c.in_ok-high.high c.lo.result c.lesser.result c.greater.result c.hi-3.result c.new.result c.new-2.result
    c.lo.ensures.value
    (c.lesser.ensures ∙ ap (λ z. lesser z c.hi-2.result) c.hi.ensures.value ∙ ap (lesser c.args.l.hi) c.hi-2.ensures.value)
    (c.greater.ensures ∙ ap (λ z. greater z c.lo-3.result) c.lo-2.ensures.value ∙ ap (greater c.args.r.lo) c.lo-3.ensures.value)
    c.hi-3.ensures.value c.new.ensures c.in_ok-low.was c.new-2.ensures c.in_ok-high.was
