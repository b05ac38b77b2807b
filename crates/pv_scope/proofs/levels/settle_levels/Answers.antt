use Rattle.std.proofs.Common.{sym, subst}
use Rattle.pv_tree.specs.Trees.{Paves}
use Rattle.pv_tree.specs.Stages.{IsStage}
use Rattle.pv_workers.specs.Pavings.{IsPaved}
use Rattle.pv_scope.proofs.levels.settle_levels.Goals as goal

pub returns-clause-paved : goal.returns-clause-paved
returns-clause-paved g c =
    let s = c.args.settler.now in let rule = g.S.Settler.settle_of s in let depth = g.S.Settler.depth_of s in
    let o = c.args.opening.tree in let t = c.in_ok-levelled.levelled.paving.tree in let same = c.in_ok-levelled.ensures.root in
    subst (λ b. IsPaved rule depth b o c.args.budget t) same
    (c.learn_spent.ensures o c.args.budget (subst (λ b. Paves b o) (sym same) c.dims-places.ensures.paving.paves)
    (subst (λ b. IsStage rule depth b o t) (sym same) c.in_ok-levelled.ensures.stage) c.in_ok-levelled.ensures.spent)
