use Rattle.std.proofs.Common.{sym, ◌∙◌}
use Rattle.pv_box.proofs.Inside.{inside_of}
use Rattle.pv_box.proofs.Cuts.{cut_down, cut_up, cut_inner}
use Rattle.pv_box.proofs.choice.cut_of.Goals as goal

pub returns-then-eq-clause-cut : goal.returns-then-eq-clause-cut
returns-then-eq-clause-cut c = let p = cut_down c.args.part (sym c.lo-lo.ensures.value ∙ c.eq.ensures.same.0 c.if-eq.true) in cc

pub returns-then-eq-2-clause-cut : goal.returns-then-eq-2-clause-cut
returns-then-eq-2-clause-cut c = let p = cut_up c.args.part (sym c.hi-hi.ensures.value ∙ c.eq-2.ensures.same.0 c.if-eq-2.true) in cc

pub returns-clause-cut : goal.returns-clause-cut
returns-clause-cut c =
    let p = cut_inner c.args.part (λ q. let t = c.eq.ensures.same.1 (c.lo-lo.ensures.value ∙ q) in let f = c.if-eq.false in cc)
    (λ q. let t = c.eq-2.ensures.same.1 (c.hi-hi.ensures.value ∙ q) in let f = c.if-eq-2.false in cc) in cc

pub returns-clause-inside : goal.returns-clause-inside
returns-clause-inside c = inside_of _ _ _ c.args.part c.middle.ensures c.lo-lo.ensures.value c.hi-hi.ensures.value
