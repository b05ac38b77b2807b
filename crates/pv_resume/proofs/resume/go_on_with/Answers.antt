use Rattle.std.proofs.Common.{List, rules, sym, subst}
use Rattle.pv_interval.specs.Bounds.{Bounds}
use Rattle.pv_tree.specs.Trees.{leaf}
use Rattle.pv_tree.specs.Stages.{IsStage}
use Rattle.pv_slope.specs.Methods.{method_of, settle_by}
use Rattle.pv_scope.specs.Settlings.{IsFullThere}
use Rattle.pv_resume.proofs.resume.go_on_with.Goals as goal

pub returns-clause-resumed : goal.returns-clause-resumed
returns-clause-resumed g c =
    let o = c.args.opening.tree in
    let rule = method_of c.args.settler.now in
    let share = c.args.share in
    let done = c.in_ok-shared.ensures in
    let t = c.in_ok-shared.shared.paving.tree in
    record {
      run = record {
        stage = subst (λ (b : List Bounds). IsStage (settle_by rule) rule.parts.depth b o t) c.requires.root done.stage;
        others = done.others;
        closed = search rules;
        full = λ flag. subst (λ (b : List Bounds). IsFullThere (settle_by rule) rule.parts.depth b share.number share.of o t) c.requires.root (search rules);
        few = search rules;
        spent = search rules;
      };
      honest = λ system s is stage. c.learn_honest.ensures.honest system s is
          (subst (λ (b : List Bounds). IsStage (settle_by rule) rule.parts.depth b leaf t) c.requires.root
          (done.stages leaf tt (subst (λ (b : List Bounds). IsStage (settle_by rule) rule.parts.depth b leaf o) (sym c.requires.root) stage)));
    }
