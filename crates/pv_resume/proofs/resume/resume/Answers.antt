use Rattle.std.proofs.Common.{◌≤◌, ◌+◌, rules}
use Rattle.pv_slope.specs.Methods.{method_of}
use Rattle.pv_request.specs.Requests.{names_in}
use Rattle.pv_rule.specs.Pavings.{settled_in}
use Rattle.pv_resume.proofs.Refused.{opening_refused}
use Rattle.pv_opening.proofs.Joined.{join_stage}
use Rattle.pv_resume.proofs.resume.resume.Goals as goal

pub returns-in-Err-clause-refused : goal.returns-in-Err-clause-refused
returns-in-Err-clause-refused g c =
    opening_refused _ _ c.args.system.now (names_in c.args.names.now) c.args.settings.now c.args.effort.now.budget.limit c.args.effort.now.budget.nodes c.in-Err.refusal c.in-Err.ensures.refused

pub returns-then-settled-effort-clause-refused : goal.returns-then-settled-effort-clause-refused
returns-then-settled-effort-clause-refused g c =
    let o = c.in-Ok.ensures.opened in
    record {
      rule = method_of c.in-Ok.opening.settler;
      trees = o.trees;
      opening = c.in-Ok.opening.paving.tree;
      opened = o.opening;
      settled = search rules;
      many = search rules;
    }

pub returns-clause-comes : goal.returns-clause-comes
returns-clause-comes g c =
    let o = c.in-Ok.ensures.opened in
    let rule = method_of c.in-Ok.opening.settler in
    let first = c.in-Ok.opening.paving.tree in
    let done = c.in_ok-settle_opening.ensures in
    let few : settled_in first + c.args.effort.now.budget.nodes ≤ c.args.effort.now.budget.limit = search rules in
    record {
      rule = rule;
      trees = o.trees;
      opening = first;
      opened = o.opening;
      few = few;
      tree = done.tree;
      done = done.done;
      run = done.run;
      honest = λ stages. done.honest o.opening.read.system c.args.settings.now o.opening.read.is (join_stage _ _ _ o.trees first o.opening.join stages);
      is = done.is;
    }
