use Rattle.std.proofs.Common.{◌∙◌, sym, subst}
use Rattle.pv_join.specs.Audits.{IsVerdict}
use Rattle.pv_join.specs.declared.verdict.Audit.TheVariants as verdict
use Rattle.pv_join.proofs.AuditFacts.{honest_stage, differs_verdict, honest_sound}
use Rattle.pv_audit.proofs.Findings.{all_due, first_differs}
use Rattle.pv_audit.proofs.workers.verdict_of.Goals as goal

pub returns-in-Some-clause-verdict : goal.returns-in-Some-clause-verdict
returns-in-Some-clause-verdict g c =
    let s = c.args.settler.now in let p = c.args.paving.now in let m = g.met.S.Settler in
    subst (IsVerdict (g.S.Settler.settle_of s) (g.S.Settler.depth_of s) p.root p.tree) (sym c.differs.ensures)
    (differs_verdict (g.S.Settler.settle_of s) (g.S.Settler.depth_of s) (g.S.Settler.dims s) (g.S.Settler.inside s)
    (record { deep = (m.depth_fits s).1; fits = m.fits s; keeps_box = m.keeps_box s; ends = m.ends s; sound = m.sound s })
    p.root p.tree c.in-Some.difference.path c.in-Some.difference.due c.dims-places.ensures.paving.box c.requires.dims c.dims-places.ensures.paving.paves
    (first_differs (g.S.Settler.settle_of s) (g.S.Settler.depth_of s) p.root p.tree _ c.in-Some.difference c.requires.report c.in-Some.is))

pub returns-then-checked-nodes_of-clause-verdict : goal.returns-then-checked-nodes_of-clause-verdict
returns-then-checked-nodes_of-clause-verdict g c =
    let s = c.args.settler.now in let p = c.args.paving.now in let m = g.met.S.Settler in
    honest_stage (g.S.Settler.settle_of s) (g.S.Settler.depth_of s) (g.S.Settler.dims s) (g.S.Settler.inside s)
    (record { deep = (m.depth_fits s).1; fits = m.fits s; keeps_box = m.keeps_box s; ends = m.ends s; sound = m.sound s })
    p.root p.tree c.dims-places.ensures.paving.box c.requires.dims c.dims-places.ensures.paving.paves
    (all_due (g.S.Settler.settle_of s) (g.S.Settler.depth_of s) p.root p.tree _ c.requires.report (c.if-checked-nodes_of.true ∙ c.nodes_of.ensures))

pub returns-then-checked-nodes_of-clause-sound : goal.returns-then-checked-nodes_of-clause-sound
returns-then-checked-nodes_of-clause-sound g c =
    let s = c.args.settler.now in let p = c.args.paving.now in let m = g.met.S.Settler in
    honest_sound (g.S.Settler.settle_of s) (g.S.Settler.depth_of s) (g.S.Settler.dims s) (g.S.Settler.inside s)
    (record { deep = (m.depth_fits s).1; fits = m.fits s; keeps_box = m.keeps_box s; ends = m.ends s; sound = m.sound s })
    p.root p.tree verdict.Honest c.dims-places.ensures.paving.box c.requires.dims
    (honest_stage (g.S.Settler.settle_of s) (g.S.Settler.depth_of s) (g.S.Settler.dims s) (g.S.Settler.inside s)
    (record { deep = (m.depth_fits s).1; fits = m.fits s; keeps_box = m.keeps_box s; ends = m.ends s; sound = m.sound s })
    p.root p.tree c.dims-places.ensures.paving.box c.requires.dims c.dims-places.ensures.paving.paves
    (all_due (g.S.Settler.settle_of s) (g.S.Settler.depth_of s) p.root p.tree _ c.requires.report (c.if-checked-nodes_of.true ∙ c.nodes_of.ensures)))
