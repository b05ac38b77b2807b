use Rattle.std.proofs.Common.{length, subst, sym, refl}
use Rattle.pv_expr.specs.Systems.{IsOver}
use Rattle.pv_slope.specs.Centered.{Encloses}
use Rattle.pv_slope.specs.Flat.{term_in}
use Rattle.pv_slope.proofs.Enclosing.{encloses}
use Rattle.pv_slope.proofs.Ranging.{centered_none_of, centered_some_of, none_where}
use Rattle.pv_slope.proofs.slopes.Slopes.range.Goals as goal

pub returns-in-Some-clause-encloses : goal.returns-in-Some-clause-encloses
returns-in-Some-clause-encloses c =
    let b = c.args.bx.now in
    let t = term_in c.args.self.now in
    let over : IsOver (length b) t = subst (λ d. IsOver d t) (sym c.requires) c.learn.ensures in
    subst (Encloses t b) (centered_some_of b t c.in_ok-found.found c.in-Some.ranged c.in_ok-found.ensures c.in-Some.is).interval (encloses t b over c.dims-dims.ensures.is_box)

pub returns-in-None-clause-encloses : goal.returns-in-None-clause-encloses
returns-in-None-clause-encloses c =
    let b = c.args.bx.now in
    let t = term_in c.args.self.now in
    let over : IsOver (length b) t = subst (λ d. IsOver d t) (sym c.requires) c.learn.ensures in
    subst (Encloses t b) (centered_none_of b t c.in_ok-found.found c.in_ok-found.ensures c.in-None.is) (encloses t b over c.dims-dims.ensures.is_box)

pub returns-in-None-clause-none : goal.returns-in-None-clause-none
returns-in-None-clause-none c =
    let b = c.args.bx.now in
    let t = term_in c.args.self.now in
    let over : IsOver (length b) t = subst (λ d. IsOver d t) (sym c.requires) c.learn.ensures in
    let empty = centered_none_of b t c.in_ok-found.found c.in_ok-found.ensures c.in-None.is in
    (λ e. (none_where b t over c.dims-dims.ensures.is_box).0 empty, λ e. refl)
