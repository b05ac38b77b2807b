use Rattle.std.proofs.Common.{◌≡◌, ◌∙◌, sym, ap, subst}
use Rattle.pv_tree.specs.Trees.{leaf, box_of}
use Rattle.pv_tree.specs.Stages.{IsStage}
use Rattle.pv_workers.specs.Pavings.{IsSpent}
use Rattle.pv_workers.proofs.GrownLeaves.{Grown, grown}
use Rattle.pv_workers.proofs.growing.grow.Goals as goal

pub returns-clause-root : goal.returns-clause-root
returns-clause-root g c =
    let same : c.box_at.new.into ≡ c.args.opening.now.root = c.box_at.ensures.is ∙ ap (box_of c.args.opening.now.root c.args.opening.now.tree) c.root-at.ensures in
    c.finish.ensures.root ∙ c.grow_all.ensures.root ∙ ap (λ x. x.root) c.in_ok-grower.ensures.growth ∙ same

pub returns-clause-stage : goal.returns-clause-stage
returns-clause-stage g c =
    let s = c.args.settler.now in let rule = g.S.Settler.settle_of s in let depth = g.S.Settler.depth_of s in
    let b = c.box_at.new.into in let t = c.args.opening.now.tree in
    let same : b ≡ c.args.opening.now.root = c.box_at.ensures.is ∙ ap (box_of c.args.opening.now.root t) c.root-at.ensures in
    let made : Grown rule depth b c.args.budget c.grow_all.new.grower.growth =
    grown rule depth b c.args.budget c.in_ok-grower.grower.growth c.grow_all.new.grower.growth c.in_ok-grower.ensures.growth c.grow_all.ensures.root
    c.in_ok-own.ensures.stage c.in_ok-own.ensures.spent in
    subst (λ x. IsStage rule depth x t c.finish.result.tree) same
    (subst (λ x. IsStage rule depth b x c.finish.result.tree) (sym c.requires.leaf)
    (subst (IsStage rule depth b leaf) (sym c.finish.ensures.tree) made.stage))

pub returns-clause-paved : goal.returns-clause-paved
returns-clause-paved g c =
    let s = c.args.settler.now in let rule = g.S.Settler.settle_of s in let depth = g.S.Settler.depth_of s in
    let b = c.box_at.new.into in
    let made : Grown rule depth b c.args.budget c.grow_all.new.grower.growth =
    grown rule depth b c.args.budget c.in_ok-grower.grower.growth c.grow_all.new.grower.growth c.in_ok-grower.ensures.growth c.grow_all.ensures.root
    c.in_ok-own.ensures.stage c.in_ok-own.ensures.spent in
    subst (λ x. IsSpent c.args.budget x c.finish.result.tree) (sym c.requires.leaf)
    (subst (IsSpent c.args.budget leaf) (sym c.finish.ensures.tree) made.spent)
