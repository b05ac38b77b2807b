use Rattle.std.proofs.Common.{List, sym, subst}
use Rattle.pv_interval.specs.Bounds.{Bounds}
use Rattle.pv_tree.specs.Trees.{leaf}
use Rattle.pv_tree.specs.Stages.{IsStage}
use Rattle.pv_slope.specs.Methods.{method_of, settle_by}
use Rattle.pv_rule.specs.Pavings.{IsPaved}
use Rattle.pv_resume.proofs.resume.go_on.Goals as goal

pub returns-clause-resumed : goal.returns-clause-resumed
returns-clause-resumed g c =
    let o = c.args.opening.tree in
    let rule = method_of c.args.settler.now in
    let t = c.in_ok-paving.paving.tree in
    record {
      run = subst (λ (b : List Bounds). IsPaved (settle_by rule) rule.parts.depth b o c.args.effort.now.budget.nodes t) c.requires.root c.in_ok-paving.ensures.paved;
      ordered = c.in_ok-paving.ensures.ordered;
      honest = λ system s is stage. c.learn_honest.ensures.honest system s is
          (subst (λ (b : List Bounds). IsStage (settle_by rule) rule.parts.depth b leaf t) c.requires.root
          (c.in_ok-paving.ensures.stages leaf tt (subst (λ (b : List Bounds). IsStage (settle_by rule) rule.parts.depth b leaf o) (sym c.requires.root) stage)));
    }
