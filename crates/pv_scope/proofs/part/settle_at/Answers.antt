use Rattle.std.proofs.Common.{◌≡◌, List, length, sym, ◌∙◌, ap, subst}
use Rattle.pv_interval.specs.Bounds.{Bounds}
use Rattle.pv_tree.specs.Trees.{Tree, leaf, box_of, graft}
use Rattle.pv_tree.specs.Stages.{IsStage, Grows, full_of}
use Rattle.pv_board.specs.Rules.{IsFitting}
use Rattle.pv_board.proofs.Fulls.{graft_stage, stage_height}
use Rattle.pv_scope.proofs.part.settle_at.Goals as goal

pub graft-requires-clause-depth : goal.graft-requires-clause-depth
graft-requires-clause-depth g c =
    let own = g.S.Settler in let m = g.met.S.Settler in let s = c.args.settler.now in
    let laws : IsFitting (own.settle_of s) (own.depth_of s) (own.dims s) = record { some = (m.depth_fits s).0; few = (m.depth_fits s).1; fits = m.fits s; keeps_box = m.keeps_box s; ends = m.ends s } in
    stage_height (own.settle_of s) (own.depth_of s) (own.dims s) laws c.box_at.new.into c.in_ok-part.part.stage.tree (length c.args.reach.at) c.dims-sides.ensures.is_box
    (c.box_at.ensures.places ∙ c.requires.scratch) c.len-steps.ensures.few c.in_ok-part.ensures.stage

pub returns-clause-stage : goal.returns-clause-stage
returns-clause-stage g c opening paves stage =
    let own = g.S.Settler in let m = g.met.S.Settler in let s = c.args.settler.now in let rule = own.settle_of s in let depth = own.depth_of s in
    let laws : IsFitting rule depth (own.dims s) = record { some = (m.depth_fits s).0; few = (m.depth_fits s).1; fits = m.fits s; keeps_box = m.keeps_box s; ends = m.ends s } in
    let b = c.args.paving.now.root in let t = c.args.paving.now.tree in let p = c.args.reach.at in let part = c.in_ok-part.part.stage.tree in
    let tree : c.graft.new.self.tree ≡ graft t p part = c.graft.ensures.tree ∙ ap (λ (x : Tree). graft x p part) c.reserve.ensures.tree in
    let root : c.graft.new.self.root ≡ b = c.graft.ensures.root ∙ c.reserve.ensures.root in
    let grows : Grows part (full_of rule depth (box_of b t p) leaf (length p)) = subst (λ (x : List Bounds). Grows part (full_of rule depth x leaf (length p))) c.box_at.ensures.is c.in_ok-part.ensures.stage in
    subst (λ (x : Tree). IsStage rule depth c.graft.new.self.root opening x) (sym tree)
    (subst (λ (x : List Bounds). IsStage rule depth x opening (graft t p part)) (sym root)
    (graft_stage rule depth (own.dims s) laws opening t b p part c.dims-places.ensures.paving.box c.requires.dims paves stage c.requires.open grows))

pub returns-clause-grown : goal.returns-clause-grown
returns-clause-grown g c =
    let t = c.args.paving.now.tree in let p = c.args.reach.at in let part = c.in_ok-part.part.stage.tree in
    record {
      stage = part;
      is = c.graft.ensures.tree ∙ ap (λ (x : Tree). graft x p part) c.reserve.ensures.tree;
      count = c.in_ok-part.ensures.count;
      short = c.in_ok-part.ensures.short;
      grown = c.in_ok-part.ensures.grown;
    }
