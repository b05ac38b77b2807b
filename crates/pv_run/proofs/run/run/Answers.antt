use Rattle.std.proofs.Common.{◌∙◌, List, ℕ, ap₂, subst}
use Rattle.pv_interval.specs.Bounds.{Bounds}
use Rattle.pv_tree.specs.Trees.{leaf}
use Rattle.pv_slope.specs.Methods.{method_of, settle_by}
use Rattle.pv_rule.specs.Pavings.{IsPaved}
use Rattle.pv_product.specs.Products.{paved}
use Rattle.pv_run.proofs.run.run.Goals as goal

pub returns-clause-comes : goal.returns-clause-comes
returns-clause-comes g c =
    let rule = method_of c.in-Ok.settler in
    let read = c.in-Ok.ensures.rule in
    let t = c.in_ok-paving.paving.tree in
    let box = c.in_ok-root.ensures.intervals in
    let run = subst (λ (b : List Bounds). IsPaved (settle_by rule) rule.parts.depth b leaf c.args.effort.now.budget.nodes t) box c.in_ok-paving.ensures.paved in
    record {
      rule = rule;
      read = read;
      tree = t;
      run = run;
      ordered = c.in_ok-paving.ensures.ordered;
      honest = c.learn_honest.ensures.honest read.system c.args.settings.now read.is run.stage;
      is = c.of_paving.ensures ∙ ap₂ (λ (i : List ℕ) (b : List Bounds). paved i b t) c.in_ok-identity.ensures (c.in_ok-paving.ensures.root ∙ box);
    }
