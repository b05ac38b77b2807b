use Rattle.std.proofs.Common.{◌≡◌, List, length, sym, ◌∙◌, ap, subst}
use Rattle.pv_interval.specs.Bounds.{Bounds}
use Rattle.pv_tree.specs.Trees.{Tree, leaf}
use Rattle.pv_tree.specs.Holes.{Growing}
use Rattle.pv_tree.specs.Stages.{Grows, full_of}
use Rattle.pv_tree.proofs.StageLaws.{grows_leaf}
use Rattle.pv_board.specs.Rules.{settled_in}
use Rattle.pv_scope.specs.Parts.{AreShort, IsGrown}
use Rattle.pv_scope.proofs.Going.{first_to_come, first_short}
use Rattle.pv_scope.proofs.part.grow_at.Goals as goal

pub grow_on-requires-clause-stage : goal.grow_on-requires-clause-stage
grow_on-requires-clause-stage g c =
    let s = c.args.settler.now in let gr = c.in_ok-grower.grower.growth in
    let full = full_of (g.S.Settler.settle_of s) (g.S.Settler.depth_of s) gr.root leaf (length c.args.reach.now.at) in
    subst (λ (t : Tree). Grows t full) (sym (ap (λ (x : Growing). x.tree) c.in_ok-grower.ensures.growth)) (grows_leaf full)

pub grow_on-requires-clause-none : goal.grow_on-requires-clause-none
grow_on-requires-clause-none g c = ap (λ (x : Growing). settled_in x.tree) c.in_ok-grower.ensures.growth

pub grow_on-requires-clause-to_come : goal.grow_on-requires-clause-to_come
grow_on-requires-clause-to_come g c =
    first_to_come c.args.reach.now.steps (length c.args.reach.now.at) c.args.workspace.now.scratch c.in_ok-grower.grower.growth c.in_ok-grower.ensures.growth

pub grow_on-requires-clause-short : goal.grow_on-requires-clause-short
grow_on-requires-clause-short g c =
    first_short c.args.reach.now.steps (length c.args.reach.now.at) c.args.workspace.now.scratch c.in_ok-grower.grower.growth c.in_ok-grower.ensures.growth

pub returns-clause-root : goal.returns-clause-root
returns-clause-root g c = c.finish.ensures.root ∙ c.in_ok-came.ensures.root ∙ ap (λ (x : Growing). x.root) c.in_ok-grower.ensures.growth

pub returns-clause-stage : goal.returns-clause-stage
returns-clause-stage g c =
    let s = c.args.settler.now in let k = length c.args.reach.now.at in let new = c.grow_on.new.grower.growth in
    let root : new.root ≡ c.args.workspace.now.scratch = c.in_ok-came.ensures.root ∙ ap (λ (x : Growing). x.root) c.in_ok-grower.ensures.growth in
    subst (λ (x : Tree). Grows x (full_of (g.S.Settler.settle_of s) (g.S.Settler.depth_of s) c.args.workspace.now.scratch leaf k)) (sym c.finish.ensures.tree)
    (subst (λ (b : List Bounds). Grows new.tree (full_of (g.S.Settler.settle_of s) (g.S.Settler.depth_of s) b leaf k)) root c.in_ok-came.ensures.stage)

pub returns-clause-short : goal.returns-clause-short
returns-clause-short g c = subst (AreShort c.args.reach.now.steps (length c.args.reach.now.at)) (sym c.finish.ensures.tree) c.in_ok-came.ensures.short

pub returns-clause-grown : goal.returns-clause-grown
returns-clause-grown g c =
    subst (IsGrown c.args.reach.now.steps (length c.args.reach.now.at) c.args.most c.in_ok-came.came.settled c.in_ok-came.came.done) (sym c.finish.ensures.tree) c.in_ok-came.ensures.grown
