use Rattle.pv_slope.specs.Methods.{method_of}
use Rattle.pv_product.specs.Campaigns.{stock}
use Rattle.pv_request.specs.declared.refusal.Refusal.TheVariants.{Memory}
use Rattle.pv_product.proofs.Ends.{passed}
use Rattle.pv_campaign.proofs.Campaigned.{memory_behind}
use Rattle.pv_campaign.proofs.campaign.continue_campaign.Goals as goal

pub returns-in_err-report_on-in-Ok-clause-refused : goal.returns-in_err-report_on-in-Ok-clause-refused
returns-in_err-report_on-in-Ok-clause-refused g c =
    passed c.from_residual-in_err-report_on-in-Ok.result Memory _ c.from_residual-in_err-report_on-in-Ok.ensures.1
    (memory_behind (method_of c.args.settler.now) (stock (g.P.Keeper.kept c.args.keeper.now) (g.P.Keeper.faults c.args.keeper.now))
    (stock (g.P.Keeper.kept c.run_by_form-kept.new.keeper) (g.P.Keeper.faults c.run_by_form-kept.new.keeper)) c.args.effort.now.budget.limit c.args.effort.now.order c.args.effort.now.budget.nodes c.args.rounds.now c.in_ok-root.root
    c.in_ok-identity.identity c.in-Ok.campaign.tree c.in_ok-root.ensures.intervals c.in_ok-identity.ensures c.in-Ok.ensures.held)
