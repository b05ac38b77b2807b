use Rattle.std.proofs.Common.{◌≡◌, length, None, sym, ◌∙◌, subst}
use Rattle.pv_join.specs.Audits.{IsChecked, IsFirstDifference, due_at}
use Rattle.pv_join.specs.declared.verdict.Audit.TheVariants as verdict
use Rattle.pv_join.proofs.AuditFacts.{audit_goes_on, audit_ends, audit_differs, honest_stage, differs_verdict, honest_sound}
use Rattle.pv_join.proofs.check.audit.Goals as goal

pub loop-shape-preserved : goal.loop-shape-preserved
loop-shape-preserved g c =
    let s = c.args.settler.now in (
      audit_goes_on (g.S.Settler.settle_of s) (g.S.Settler.depth_of s) c.args.paving.now.root c.args.paving.now.tree c.loop-shape.walk c.next.new.self c.in-Some.shape
          c.loop-shape.invariant.0 c.in-Some.ensures.visit c.in-Some.ensures.root c.in-Some.ensures.tree c.in-Some.ensures.piece
          (subst (IsChecked (g.S.Settler.settle_of s) (g.S.Settler.depth_of s) c.next.new.self.here) c.in-None.is c.in_ok-differing.ensures.checked),
      c.differing.ensures.scratch ∙ c.loop-shape.invariant.1,
    )

pub returns-in-Some-2-clause-verdict : goal.returns-in-Some-2-clause-verdict
returns-in-Some-2-clause-verdict g c =
    let s = c.args.settler.now in let m = g.met.S.Settler in
    let d = audit_differs (g.S.Settler.settle_of s) (g.S.Settler.depth_of s) c.args.paving.now.root c.args.paving.now.tree c.loop-shape.walk c.next.new.self c.in-Some.shape
    c.loop-shape.invariant.0 c.in-Some.ensures.visit c.in-Some.ensures.root c.in-Some.ensures.tree c.in-Some.ensures.piece c.in-Some-2.outcome
    (subst (IsChecked (g.S.Settler.settle_of s) (g.S.Settler.depth_of s) c.next.new.self.here) c.in-Some-2.is c.in_ok-differing.ensures.checked) in
    differs_verdict (g.S.Settler.settle_of s) (g.S.Settler.depth_of s) (g.S.Settler.dims s) (g.S.Settler.inside s)
    (record { deep = (m.depth_fits s).1; fits = m.fits s; keeps_box = m.keeps_box s; ends = m.ends s; sound = m.sound s })
    c.args.paving.now.root c.args.paving.now.tree c.path-path.result c.in-Some-2.outcome c.dims.ensures.paving.box c.requires c.dims.ensures.paving.paves
    (subst (λ p. IsFirstDifference (g.S.Settler.settle_of s) (g.S.Settler.depth_of s) c.args.paving.now.root c.args.paving.now.tree p
    × (c.in-Some-2.outcome ≡ due_at (g.S.Settler.settle_of s) (g.S.Settler.depth_of s) c.args.paving.now.root c.args.paving.now.tree p)) (sym c.path-path.ensures) d)

pub returns-clause-verdict : goal.returns-clause-verdict
returns-clause-verdict g c =
    let s = c.args.settler.now in let m = g.met.S.Settler in
    honest_stage (g.S.Settler.settle_of s) (g.S.Settler.depth_of s) (g.S.Settler.dims s) (g.S.Settler.inside s)
    (record { deep = (m.depth_fits s).1; fits = m.fits s; keeps_box = m.keeps_box s; ends = m.ends s; sound = m.sound s })
    c.args.paving.now.root c.args.paving.now.tree c.dims.ensures.paving.box c.requires c.dims.ensures.paving.paves
    (audit_ends (g.S.Settler.settle_of s) (g.S.Settler.depth_of s) c.args.paving.now.root c.args.paving.now.tree c.loop-shape.walk c.loop-shape.invariant.0 (c.next.ensures.over c.in_default.is))

pub returns-clause-sound : goal.returns-clause-sound
returns-clause-sound g c =
    let s = c.args.settler.now in let m = g.met.S.Settler in
    honest_sound (g.S.Settler.settle_of s) (g.S.Settler.depth_of s) (g.S.Settler.dims s) (g.S.Settler.inside s)
    (record { deep = (m.depth_fits s).1; fits = m.fits s; keeps_box = m.keeps_box s; ends = m.ends s; sound = m.sound s })
    c.args.paving.now.root c.args.paving.now.tree verdict.Honest c.dims.ensures.paving.box c.requires
    (honest_stage (g.S.Settler.settle_of s) (g.S.Settler.depth_of s) (g.S.Settler.dims s) (g.S.Settler.inside s)
    (record { deep = (m.depth_fits s).1; fits = m.fits s; keeps_box = m.keeps_box s; ends = m.ends s; sound = m.sound s })
    c.args.paving.now.root c.args.paving.now.tree c.dims.ensures.paving.box c.requires c.dims.ensures.paving.paves
    (audit_ends (g.S.Settler.settle_of s) (g.S.Settler.depth_of s) c.args.paving.now.root c.args.paving.now.tree c.loop-shape.walk c.loop-shape.invariant.0 (c.next.ensures.over c.in_default.is)))
