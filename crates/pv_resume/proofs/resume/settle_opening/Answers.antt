use Rattle.std.proofs.Common.{◌∙◌, List, ℕ, refl, sym, ap₂, subst}
use Rattle.std.specs.Prelude.{Option}
use Rattle.pv_interval.specs.Bounds.{Bounds}
use Rattle.pv_slope.specs.Methods.{method_of}
use Rattle.pv_scope.specs.declared.share.Share.{Share}
use Rattle.pv_product.specs.Campaigns.{is_done}
use Rattle.pv_product.specs.Products.{paved, paved_as, IsSettledSo}
use Rattle.pv_resume.proofs.resume.settle_opening.Goals as goal

pub returns-in-Some : goal.returns-in-Some
returns-in-Some g c =
    let t = c.in_ok-part-in-Some.part.paving.tree in
    let done = c.in_ok-part-in-Some.part.done in
    let rule = method_of c.args.opening.settler in
    record {
      tree = t;
      done = done;
      run = subst (λ (share : Option Share). IsSettledSo rule c.args.opening.paving.tree c.args.effort.now.order c.args.effort.now.budget.nodes share t done) (sym c.in-Some.is)
          c.in_ok-part-in-Some.ensures.resumed.run;
      honest = c.in_ok-part-in-Some.ensures.resumed.honest;
      is = ap₂ (λ (i : List ℕ) (b : List Bounds). paved_as i b t done) c.in_ok-identity.ensures c.in_ok-part-in-Some.ensures.root;
    }

pub returns : goal.returns
returns g c =
    let t = c.in_ok-paving-in-None.paving.tree in
    let rule = method_of c.args.opening.settler in
    let resumed = c.in_ok-paving-in-None.ensures.resumed in
    record {
      tree = t;
      done = is_done t;
      run = subst (λ (share : Option Share). IsSettledSo rule c.args.opening.paving.tree c.args.effort.now.order c.args.effort.now.budget.nodes share t (is_done t)) (sym c.in-None.is)
          (resumed.run, resumed.ordered, refl);
      honest = resumed.honest;
      is = c.of_paving.ensures ∙ ap₂ (λ (i : List ℕ) (b : List Bounds). paved i b t) c.in_ok-identity.ensures c.in_ok-paving-in-None.ensures.root;
    }
