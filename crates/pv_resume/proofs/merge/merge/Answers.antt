use Rattle.std.proofs.Common.{◌≤◌, ◌∙◌, List, ℕ, rules, ap₂, subst}
use Rattle.pv_interval.specs.Bounds.{Bounds}
use Rattle.pv_tree.specs.Trees.{IsPaving}
use Rattle.pv_slope.specs.Methods.{method_of}
use Rattle.pv_request.specs.Requests.{names_in}
use Rattle.pv_rule.specs.Pavings.{settled_in}
use Rattle.pv_product.specs.Products.{paved}
use Rattle.pv_resume.proofs.Refused.{opening_refused}
use Rattle.pv_opening.proofs.Joined.{join_stage}
use Rattle.pv_resume.proofs.merge.merge.Goals as goal

pub returns-in-Err-clause-refused : goal.returns-in-Err-clause-refused
returns-in-Err-clause-refused g c =
    opening_refused _ _ c.args.system.now (names_in c.args.names.now) c.args.settings.now c.args.limit 0 c.in-Err.refusal c.in-Err.ensures.refused

pub returns-then-settled-nodes-clause-refused : goal.returns-then-settled-nodes-clause-refused
returns-then-settled-nodes-clause-refused g c =
    let o = c.in-Ok.ensures.opened in
    record {
      rule = method_of c.in-Ok.opening.settler;
      trees = o.trees;
      opening = c.in-Ok.opening.paving.tree;
      opened = o.opening;
      settled = search rules;
      many = search rules;
    }

pub returns-clause-comes : goal.returns-clause-comes
returns-clause-comes g c =
    let o = c.in-Ok.ensures.opened in
    let t = c.in-Ok.opening.paving.tree in
    let few : settled_in t ≤ c.args.limit = search rules in
    record {
      rule = method_of c.in-Ok.opening.settler;
      trees = o.trees;
      tree = t;
      opened = o.opening;
      few = few;
      paving = subst (λ (b : List Bounds). IsPaving b t) o.root c.learn_honest.ensures.paving;
      honest = λ stages. c.learn_honest.ensures.honest o.opening.read.system c.args.settings.now o.opening.read.is (join_stage _ _ _ o.trees t o.opening.join stages);
      is = c.of_paving.ensures ∙ ap₂ (λ (i : List ℕ) (b : List Bounds). paved i b t) c.in_ok-identity.ensures o.root;
    }
