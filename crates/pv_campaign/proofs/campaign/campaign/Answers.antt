use Rattle.pv_slope.specs.Methods.{method_of}
use Rattle.pv_rule.specs.Systems.{files}
use Rattle.pv_product.specs.Campaigns.{stock}
use Rattle.pv_campaign.proofs.Campaigned.{rounds_come, rounds_refused}
use Rattle.pv_campaign.proofs.campaign.campaign.Goals as goal

pub returns-clause-comes : goal.returns-clause-comes
returns-clause-comes g c =
    let before = (files (g.F.Folder.content c.args.folder.now) (g.F.Folder.fetch_faults c.args.folder.now) (g.F.Folder.store_faults c.args.folder.now)) in
    let u = (stock (g.P.Keeper.kept c.args.keeper.now) (g.P.Keeper.faults c.args.keeper.now)) in
    let v = (stock (g.P.Keeper.kept c.continue_campaign.new.keeper) (g.P.Keeper.faults c.continue_campaign.new.keeper)) in
    rounds_come before u v c.args.system.now c.args.settings.now c.args.effort.now.budget.limit c.args.effort.now.order c.args.effort.now.budget.nodes c.args.rounds.now (method_of c.in-Ok.settler) c.in-Ok.ensures.rule c.continue_campaign.result
    c.continue_campaign.ensures.comes

pub returns-clause-refused : goal.returns-clause-refused
returns-clause-refused g c =
    let before = (files (g.F.Folder.content c.args.folder.now) (g.F.Folder.fetch_faults c.args.folder.now) (g.F.Folder.store_faults c.args.folder.now)) in
    let after = (files (g.F.Folder.content c.settler_in.new.folder) (g.F.Folder.fetch_faults c.settler_in.new.folder) (g.F.Folder.store_faults c.settler_in.new.folder)) in
    let u = (stock (g.P.Keeper.kept c.args.keeper.now) (g.P.Keeper.faults c.args.keeper.now)) in
    let v = (stock (g.P.Keeper.kept c.continue_campaign.new.keeper) (g.P.Keeper.faults c.continue_campaign.new.keeper)) in
    rounds_refused before after u v c.args.system.now c.args.settings.now c.args.effort.now.budget.limit c.args.effort.now.order c.args.effort.now.budget.nodes c.args.rounds.now (method_of c.in-Ok.settler) c.in-Ok.ensures.rule c.continue_campaign.result
    c.continue_campaign.ensures.refused
