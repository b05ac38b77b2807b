use Rattle.std.proofs.Common.{◌∙◌, rules}
use Rattle.pv_rounds.proofs.Interrupted.{stopped_refuses}
use Rattle.pv_rounds.proofs.campaign.run_rounds.Goals as goal

pub returns-in-Ok-go_on-clause-others : goal.returns-in-Ok-go_on-clause-others
returns-in-Ok-go_on-clause-others g c = λ other n.
    c.in-Ok-go_on.ensures.others c.args.subject.name.now other c.in-Ok.ensures.begun n ∙ c.in-Ok.ensures.others other n

pub returns-in-Err-go_on-clause-refused : goal.returns-in-Err-go_on-clause-refused
returns-in-Err-go_on-clause-refused g c =
    stopped_refuses c.args.plan.now.budget.limit (g.S.Settler.settle_of c.args.settler.now) (g.S.Settler.depth_of c.args.settler.now) c.args.subject.root c.in-Ok.campaign.root c.args.plan.now.order c.args.subject.identity c.args.plan.now.budget.nodes c.args.plan.now.count
    (g.P.Keeper.kept c.args.keeper.now c.args.subject.name.now) (g.P.Keeper.kept c.open_kept.new.keeper c.args.subject.name.now) (g.P.Keeper.kept c.go_on.new.keeper c.args.subject.name.now)
    c.in-Ok.campaign.tree c.in-Err-go_on.refused c.into.result c.in-Ok.ensures.root c.in-Ok.ensures.opened (search rules)
    (c.in-Err-go_on.ensures.stopped c.args.subject.name.now c.in-Ok.ensures.begun) c.into.ensures

pub returns-in-Err-go_on-clause-others : goal.returns-in-Err-go_on-clause-others
returns-in-Err-go_on-clause-others g c = λ other n.
    c.in-Err-go_on.ensures.others c.args.subject.name.now other c.in-Ok.ensures.begun n ∙ c.in-Ok.ensures.others other n
