use Rattle.std.proofs.Common.{◌≤◌, ◌+◌, ◌-◌, IsTrue, Bool, List, length, sym, ◌∙◌, ap, subst}
use Rattle.std.proofs.lemmas.Bool.{true≢false}
use Rattle.pv_tree.specs.Laws.{IsLawful}
use Rattle.pv_tree.specs.Holes.{settle_next, pass_next}
use Rattle.pv_least.specs.Objectives.{aim_of, admits}
use Rattle.pv_least.specs.Running.{IsSearch}
use Rattle.pv_least.proofs.Steps.{from_root, has_dims, settles, passes}
use Rattle.pv_least.proofs.search.Search.visit.Goals as goal
use Rattle.pv_least.proofs.search.Search.visit.Goals.{else-is_next-via-then-is_next+else-self-budget, else-is_next-via-else-is_next}

pub settle-requires-then-self-budget-clause-dims : goal.settle-requires-then-self-budget-clause-dims
settle-requires-then-self-budget-clause-dims g c =
    let s = c.args.settler.now in let m = g.met.S.Settler in
    let rule = g.S.Settler.settle_of s in let depth = g.S.Settler.depth_of s in
    let dims = g.S.Settler.dims s in let inside = g.S.Settler.inside s in
    let laws : IsLawful rule depth dims inside = record { deep = (m.depth_fits s).1; fits = m.fits s; keeps_box = m.keeps_box s; ends = m.ends s; sound = m.sound s } in
    has_dims rule depth dims inside laws c.args.self.now.grower.growth c.args.path c.requires.next c.dims-places.ensures.is_box c.requires.settler_dims c.look.new.workspace.scratch c.look.ensures.first
    c.in_ok-settled.settled.outcome (c.in_ok-settled.ensures.outcome ∙ ap (λ (q : List Bool). rule c.look.new.workspace.scratch (depth - (length q + length c.args.path)) (length q + length c.args.path)) c.requires.at ∙ from_root rule depth c.look.new.workspace.scratch c.args.path) c.args.objective.now.dims (sym c.requires.settler_dims ∙ c.requires.objective_dims)

pub returns-then-self-budget-clause-search : goal.returns-then-self-budget-clause-search
returns-then-self-budget-clause-search g c =
    let s = c.args.settler.now in let m = g.met.S.Settler in
    let rule = g.S.Settler.settle_of s in let depth = g.S.Settler.depth_of s in
    let dims = g.S.Settler.dims s in let inside = g.S.Settler.inside s in
    let laws : IsLawful rule depth dims inside = record { deep = (m.depth_fits s).1; fits = m.fits s; keeps_box = m.keeps_box s; ends = m.ends s; sound = m.sound s } in
    let growth = c.args.self.now.grower.growth in let found = c.args.self.now.found in
    let t = aim_of c.args.objective.now in let o = c.in_ok-settled.settled.outcome in
    subst (λ x. IsSearch rule depth t growth.root c.args.budget x c.settle-then-self-budget.new.self) (sym c.in_ok-lay.ensures.settled)
    (subst (λ x. IsSearch rule depth t growth.root c.args.budget (settle_next growth o) x) (sym c.in_ok-settle.ensures.found)
    (settles rule depth dims inside laws growth c.args.path c.requires.next c.dims-places.ensures.is_box c.requires.settler_dims c.look.new.workspace.scratch c.look.ensures.first
    t c.args.budget found c.requires.search c.in_ok-low.low c.in_ok-low.ensures o (c.in_ok-settled.ensures.outcome ∙ ap (λ (q : List Bool). rule c.look.new.workspace.scratch (depth - (length q + length c.args.path)) (length q + length c.args.path)) c.requires.at ∙ from_root rule depth c.look.new.workspace.scratch c.args.path)
    (sym (c.is_admitted-is_next.ensures ∙ ap (admits c.in_ok-low.low) c.upper.ensures) ∙ c.if-is_next.true) c.if-self-budget.true))

pub returns-clause-search : goal.returns-clause-search
returns-clause-search g c =
    let s = c.args.settler.now in let m = g.met.S.Settler in
    let rule = g.S.Settler.settle_of s in let depth = g.S.Settler.depth_of s in
    let dims = g.S.Settler.dims s in let inside = g.S.Settler.inside s in
    let laws : IsLawful rule depth dims inside = record { deep = (m.depth_fits s).1; fits = m.fits s; keeps_box = m.keeps_box s; ends = m.ends s; sound = m.sound s } in
    let growth = c.args.self.now.grower.growth in let found = c.args.self.now.found in
    let t = aim_of c.args.objective.now in let is_next = c.is_admitted-is_next.result in
    let spent : IsTrue is_next → c.args.budget ≤ found.settled = elim c.else-is_next.branch [
      | else-is_next-via-then-is_next+else-self-budget w ↦ λ h. w.if-self-budget.false
      | else-is_next-via-else-is_next w ↦ λ h. absurd (true≢false (sym h ∙ w.if-is_next.false))
    ] in
    subst (λ x. IsSearch rule depth t growth.root c.args.budget x c.pass.new.self) (sym c.pass-2.ensures.growth)
    (subst (λ x. IsSearch rule depth t growth.root c.args.budget (pass_next growth) x) (sym c.pass.ensures)
    (passes rule depth dims inside laws growth c.args.path c.requires.next c.dims-places.ensures.is_box c.requires.settler_dims c.look.new.workspace.scratch c.look.ensures.first
    t c.args.budget found c.requires.search c.in_ok-low.low c.in_ok-low.ensures is_next (c.is_admitted-is_next.ensures ∙ ap (admits c.in_ok-low.low) c.upper.ensures) spent))
