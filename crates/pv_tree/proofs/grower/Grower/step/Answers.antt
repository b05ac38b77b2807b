use Rattle.std.proofs.Common.{◌≡◌, ◌+◌, ◌-◌, List, length, sym, ◌∙◌, ap, subst}
use Rattle.pv_interval.specs.Bounds.{Bounds}
use Rattle.pv_tree.specs.Trees.{Tree, box_of, graft, settled, counts_of, settled_of}
use Rattle.pv_tree.specs.Holes.{Growing}
use Rattle.pv_tree.specs.Stages.{IsStageFrom}
use Rattle.pv_tree.proofs.KnownLeaves.{next_tree, next_is_leaf, next_box_of}
use Rattle.pv_tree.proofs.StageLaws.{step_from}
use Rattle.pv_tree.proofs.TreeFacts.{settled_more}
use Rattle.pv_tree.proofs.grower.Grower.step.Goals as goal

pub returns-clause-more : goal.returns-clause-more
returns-clause-more g c =
    let now = c.args.self.now.growth in let p = c.args.path in let o = c.in_ok-settled.settled.outcome in let n = c.requires.next in
    ap (λ (x : Growing). settled_of (counts_of x.tree)) c.in_ok-lay.ensures.settled ∙ ap (λ (t : Tree). settled_of (counts_of t)) (next_tree now p o n)
    ∙ settled_more now.tree p o (next_is_leaf now p n)

pub returns-clause-stage : goal.returns-clause-stage
returns-clause-stage g c opening paves stage =
    let s = c.args.settler.now in let m = g.met.S.Settler in let rule = g.S.Settler.settle_of s in let depth = g.S.Settler.depth_of s in
    let now = c.args.self.now.growth in let p = c.args.path in let o = c.in_ok-settled.settled.outcome in let n = c.requires.next in
    let at = length c.args.self.now.at in let k = at + length p in let b = c.look.new.workspace.scratch in
    let due : o ≡ rule (box_of now.root now.tree p) (depth - k) k = c.in_ok-settled.ensures.outcome ∙ ap (λ (x : List Bounds). rule x (depth - k) k) (sym (next_box_of now p b n c.look.ensures.first)) in
    let tree : c.lay.new.self.growth.tree ≡ graft now.tree p (settled (rule (box_of now.root now.tree p) (depth - k) k)) =
    ap (λ (x : Growing). x.tree) c.in_ok-lay.ensures.settled ∙ next_tree now p o n ∙ ap (λ x. graft now.tree p (settled x)) due in
    let next = step_from rule depth (g.S.Settler.dims s) (g.S.Settler.inside s) (record { deep = (m.depth_fits s).1; fits = m.fits s; keeps_box = m.keeps_box s; ends = m.ends s; sound = m.sound s })
    opening now.tree now.root p at c.dims-places.ensures.is_box c.requires.dims paves stage (next_is_leaf now p n) in
    subst (λ (b : List Bounds). IsStageFrom rule depth b opening at c.lay.new.self.growth.tree) (sym c.lay.ensures.root)
    (subst (IsStageFrom rule depth now.root opening at) (sym tree) next)
