use Rattle.std.proofs.Common.{◌-◌, refl, sym, ◌∙◌, ap, subst, length}
use Rattle.std.specs.Prelude.{is_ok}
use Rattle.pv_tree.specs.Trees.{Fits, CutsAbove, graft, settled}
use Rattle.pv_tree.specs.Stages.{IsStage}
use Rattle.pv_tree.proofs.StageLaws.{step_stage, depth_from, stage_either}
use Rattle.pv_tree.proofs.paving.Paving.settle_leaf.Goals as goal

pub settle_at-requires : goal.settle_at-requires
settle_at-requires g c = c.box_at.ensures.places ∙ c.requires.scratch ∙ c.requires.dims

pub put-requires-clause-fits : goal.put-requires-clause-fits
put-requires-clause-fits g c =
    let s = c.args.settler.now in let m = g.met.S.Settler in let n = length c.args.path in let d = g.S.Settler.depth_of s - n in
    let size = c.box_at.ensures.places ∙ c.requires.scratch ∙ c.requires.dims in
    subst (λ b. Fits b c.in_ok-outcome.outcome) c.box_at.ensures.is
    (subst (Fits c.box_at.new.into) (sym c.in_ok-outcome.ensures) (m.fits s c.box_at.new.into d n c.dims-sides.ensures.is_box size))

pub put-requires-clause-depth : goal.put-requires-clause-depth
put-requires-clause-depth g c =
    let s = c.args.settler.now in let m = g.met.S.Settler in let n = length c.args.path in let d = g.S.Settler.depth_of s - n in
    let size = c.box_at.ensures.places ∙ c.requires.scratch ∙ c.requires.dims in
    depth_from c.args.path c.in_ok-outcome.outcome (g.S.Settler.depth_of s) d (m.depth_fits s).1 refl
    (subst (CutsAbove d) (sym c.in_ok-outcome.ensures) (m.ends s c.box_at.new.into d n c.dims-sides.ensures.is_box size))

pub returns-clause-stage : goal.returns-clause-stage
returns-clause-stage g c opening paves stage =
    let s = c.args.settler.now in let m = g.met.S.Settler in let n = length c.args.path in let d = g.S.Settler.depth_of s - n in
    let is = c.in_ok-outcome.ensures ∙ ap (λ b. g.S.Settler.settle_of s b d n) c.box_at.ensures.is in
    let next = subst (λ o. IsStage (g.S.Settler.settle_of s) (g.S.Settler.depth_of s) c.args.self.now.root opening (graft c.args.self.now.tree c.args.path (settled o))) (sym is)
    (step_stage (g.S.Settler.settle_of s) (g.S.Settler.depth_of s) (g.S.Settler.dims s) (g.S.Settler.inside s) (record { deep = (m.depth_fits s).1; fits = m.fits s; keeps_box = m.keeps_box s; ends = m.ends s; sound = m.sound s })
    opening c.args.self.now.tree c.args.self.now.root c.args.path c.dims-places.ensures.paving.box c.requires.dims paves stage c.requires.open) in
    stage_either (g.S.Settler.settle_of s) (g.S.Settler.depth_of s) c.args.self.now.root c.put.new.self.root opening c.args.self.now.tree c.put.new.self.tree _ (is_ok c.put.result) c.put.ensures.root c.put.ensures.tree next stage
