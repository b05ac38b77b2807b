use Rattle.std.proofs.Common.{sym, subst}
use Rattle.pv_tree.specs.Trees.{Paves}
use Rattle.pv_tree.specs.Stages.{IsStage}
use Rattle.pv_workers.specs.Pavings.{IsPaved}
use Rattle.pv_workers.proofs.paving.pave_knowing.Goals as goal

pub returns-clause-paved : goal.returns-clause-paved
returns-clause-paved g c =
    let s = c.args.settler.now in let rule = g.S.Settler.settle_of s in let depth = g.S.Settler.depth_of s in
    let o = c.args.opening.tree in let t = c.in_ok-paved.paved.paving.tree in let same = c.in_ok-paved.ensures.root in
    subst (λ b. IsPaved rule depth b o c.args.budget.nodes t) same
    (c.learn_paved.ensures.paved o c.args.budget.nodes (subst (λ b. Paves b o) (sym same) c.dims-places.ensures.paving.paves)
    (subst (λ b. IsStage rule depth b o t) (sym same) c.in_ok-paved.ensures.stage) c.in_ok-paved.ensures.paved)

pub returns-clause-stages : goal.returns-clause-stages
returns-clause-stages g c = λ earlier paves before.
    let s = c.args.settler.now in let rule = g.S.Settler.settle_of s in let depth = g.S.Settler.depth_of s in
    let o = c.args.opening.tree in let t = c.in_ok-paved.paved.paving.tree in let same = c.in_ok-paved.ensures.root in
    subst (λ b. IsStage rule depth b earlier t) same
    (c.learn_paved.ensures.stages earlier o (subst (λ b. Paves b earlier) (sym same) paves)
    (subst (λ b. IsStage rule depth b earlier o) (sym same) before) (subst (λ b. IsStage rule depth b o t) (sym same) c.in_ok-paved.ensures.stage))
