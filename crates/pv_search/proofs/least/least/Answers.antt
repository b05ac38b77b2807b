use Rattle.std.proofs.Common.{ℕ, List, ◌∙◌, ap}
use Rattle.pv_slope.specs.Methods.{method_of}
use Rattle.pv_least.specs.Objectives.{aim_of}
use Rattle.pv_rule.specs.Systems.{files}
use Rattle.pv_product.specs.Products.{report_as}
use Rattle.pv_search.proofs.Searched.{objective_refused, least_comes}
use Rattle.pv_search.proofs.least.least.Goals as goal

pub returns-in-Err-objective_of-clause-refused : goal.returns-in-Err-objective_of-clause-refused
returns-in-Err-objective_of-clause-refused g c =
    let before = (files (g.F.Folder.content c.args.folder.now) (g.F.Folder.fetch_faults c.args.folder.now) (g.F.Folder.store_faults c.args.folder.now)) in
    let after = (files (g.F.Folder.content c.settler_in.new.folder) (g.F.Folder.fetch_faults c.settler_in.new.folder) (g.F.Folder.store_faults c.settler_in.new.folder)) in
    objective_refused before after c.args.system.now c.args.settings.now c.args.search.now.of.now (method_of c.in-Ok.settler) c.in-Err-objective_of.refusal c.in-Ok.ensures.rule
    c.in-Err-objective_of.ensures.refused

pub returns-clause-comes : goal.returns-clause-comes
returns-clause-comes g c =
    least_comes _ c.args.system.now c.args.settings.now c.args.search.now (method_of c.in-Ok.settler) (aim_of c.in-Ok-objective_of.objective) c.in_ok-found.found _
    c.in-Ok.ensures.rule c.in-Ok-objective_of.ensures.means c.in_ok-found.ensures
    (c.told.ensures ∙ ap (λ (t : List ℕ). report_as t c.in_ok-found.found.done) c.in_ok-report.ensures)
