use Rattle.std.proofs.Common.{◌≡◌, sym, ◌∙◌, subst}
use Rattle.pv_num.specs.Arithmetic.{div_of}
use Rattle.pv_interval.specs.Bounds.{IsInterval, between}
use Rattle.pv_interval.specs.Tables.{of_ends}
use Rattle.pv_interval.proofs.Cases.{first_apart, second_apart, pick_apart, of_positive}
use Rattle.pv_interval.proofs.Picks.{quotient_up}
use Rattle.pv_interval.proofs.interval.Interval.over_positive.Goals as goal

pub div-lo-requires : goal.div-lo-requires
div-lo-requires c =
    pick_apart c.le.result c.hi-d.result c.lo-c.result c.pick-low.result c.pick-low.ensures
    (λ k. second_apart c.args.by c.lo-c.ensures.interval c.requires (sym c.hi-d.ensures.value ∙ k))
    (λ k. first_apart c.args.by c.requires (sym c.lo-c.ensures.value ∙ k))

pub div-hi-requires : goal.div-hi-requires
div-hi-requires c =
    pick_apart c.le-2.result c.lo-c.result c.hi-d.result c.pick-high.result c.pick-high.ensures
    (λ k. first_apart c.args.by c.requires (sym c.lo-c.ensures.value ∙ k))
    (λ k. second_apart c.args.by c.lo-c.ensures.interval c.requires (sym c.hi-d.ensures.value ∙ k))

pub of_ends-requires : goal.of_ends-requires
of_ends-requires c =
    let x = c.args.self in let y = c.args.by in
    let p = quotient_up x y c.lo.ensures.interval c.lo-c.ensures.interval c.requires in
    let e : between c.div-lo.result c.div-hi.result ≡ of_ends div_of x y = cc in
    subst IsInterval (sym e) (of_positive x y c.lo.ensures.interval c.lo-c.ensures.interval c.requires)

pub returns : goal.returns
returns c =
    let p = quotient_up c.args.self c.args.by c.lo.ensures.interval c.lo-c.ensures.interval c.requires in cc
