use Rattle.std.proofs.Common.{◌≡◌, ◌∙◌, List, subst}
use Rattle.std.proofs.lemmas.Result.{IfOk-weaker}
use Rattle.pv_interval.specs.Bounds.{Bounds}
use Rattle.pv_tree.specs.Trees.{leaf}
use Rattle.pv_slope.specs.Methods.{method_of, settle_by}
use Rattle.pv_rule.specs.Pavings.{IsPaved}
use Rattle.pv_product.specs.Products.{IsHonest, full_by, report_of}
use Rattle.pv_run.proofs.Sampled.{is_full, on_ok}
use Rattle.pv_run.proofs.sample.report_full.Goals as goal

pub returns-clause-report : goal.returns-clause-report
returns-clause-report g c =
    let rule = method_of c.args.settler.now in
    let t = c.in_ok-paving.paving.tree in
    let box = c.in_ok-root.ensures.intervals in
    let paved = subst (λ (b : List Bounds). IsPaved (settle_by rule) rule.parts.depth b leaf 100000 t) box c.in_ok-paving.ensures.paved in
    let full : t ≡ full_by rule leaf = is_full rule t c.requires paved in
    let root = c.in_ok-paving.ensures.root ∙ box in
    IfOk-weaker c.report.result _ _
    (λ text e. e ∙ (λ i. report_of c.args.circles.now (c.in_ok-identity.ensures i) (root i) (full i))) c.report.ensures

pub returns-clause-honest : goal.returns-clause-honest
returns-clause-honest g c =
    let rule = method_of c.args.settler.now in
    let t = c.in_ok-paving.paving.tree in
    let paved = subst (λ (b : List Bounds). IsPaved (settle_by rule) rule.parts.depth b leaf 100000 t) c.in_ok-root.ensures.intervals c.in_ok-paving.ensures.paved in
    let full : t ≡ full_by rule leaf = is_full rule t c.requires paved in
    on_ok c.report.result
    (λ system s is. subst (IsHonest s rule) full (c.learn_honest.ensures.honest system s is paved.stage))
