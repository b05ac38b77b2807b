use Rattle.std.proofs.Common.{inl, List, ap, subst}
use Rattle.pv_interval.specs.Bounds.{Bounds}
use Rattle.pv_tree.specs.Trees.{leaf}
use Rattle.pv_tree.specs.Stages.{IsStage}
use Rattle.pv_join.specs.Audits.{IsVerdict}
use Rattle.pv_join.specs.declared.verdict.Audit.TheVariants.{DiffersAt}
use Rattle.pv_slope.specs.Methods.{method_of, settle_by}
use Rattle.pv_product.specs.Products.{text}
use Rattle.pv_resume.proofs.audit.audited.Goals as goal

pub returns-in_ok-from_slice-in-Honest-clause-honest : goal.returns-in_ok-from_slice-in-Honest-clause-honest
returns-in_ok-from_slice-in-Honest-clause-honest g c =
    let s = c.args.settler.now in
    let t = c.args.paving.now.tree in
    let verdict = subst (IsVerdict (settle_by (method_of s)) (method_of s).parts.depth c.args.paving.now.root t) c.in-Honest.is c.in_ok-audit_by_workers.ensures.verdict in
    record {
      honest = λ system settings is. c.learn_honest.ensures.honest system settings is
          (subst (λ (b : List Bounds). IsStage (settle_by (method_of s)) (method_of s).parts.depth b leaf t) c.requires.root verdict);
      is = ap text c.in_ok-from_slice-in-Honest.ensures.items;
    }

pub returns-in-DiffersAt-clause-other : goal.returns-in-DiffersAt-clause-other
returns-in-DiffersAt-clause-other g c =
    let s = c.args.settler.now in
    let t = c.args.paving.now.tree in
    let path = c.in-DiffersAt.path in
    let due = c.in-DiffersAt.outcome in
    inl (record {
      path = path;
      due = due;
      verdict = subst (λ (b : List Bounds). IsVerdict (settle_by (method_of s)) (method_of s).parts.depth b t (DiffersAt path due)) c.requires.root
          (subst (IsVerdict (settle_by (method_of s)) (method_of s).parts.depth c.args.paving.now.root t) c.in-DiffersAt.is c.in_ok-audit_by_workers.ensures.verdict);
      told = c.differs.ensures;
    })
