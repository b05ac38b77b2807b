use Rattle.std.proofs.Common.{◌≡◌, ◌≤◌, ◌+◌, ◌∙◌, arith, sym, ap, subst}
use Rattle.pv_tree.specs.Trees.{Tree, Seen, opens}
use Rattle.pv_board.specs.Rules.{settled_in}
use Rattle.pv_workers.specs.Pavings.{IsPaved}
use Rattle.pv_scope.specs.Orders.{IsInOrder}
use Rattle.pv_rounds.proofs.Spending.{few_settled}
use Rattle.pv_rounds.proofs.rounds.round.Goals as goal

pub save_from-requires-clause-grown : goal.save_from-requires-clause-grown
save_from-requires-clause-grown g c =
    let settle = g.S.Settler.settle_of c.args.settler.now in
    let depth = g.S.Settler.depth_of c.args.settler.now in
    let grown = c.in_ok-grown.grown.tree in
    let paved : IsPaved settle depth c.args.campaign.root c.args.campaign.tree c.args.plan.now.budget.nodes grown =
    subst (λ (p : Seen). IsPaved settle depth p.root p.tree c.args.plan.now.budget.nodes grown) c.into_paving-opening.ensures.is c.in_ok-grown.ensures.paved in
    record {
      earlier = c.args.campaign.tree;
      leaves = c.in_ok-frontier.ensures ∙ ap (λ (p : Seen). opens p.tree) c.paving.ensures.is;
      grows = paved.stage.grown;
      keeps = c.requires.kept;
    }

pub save_from-requires-clause-few : goal.save_from-requires-clause-few
save_from-requires-clause-few g c =
    let settle = g.S.Settler.settle_of c.args.settler.now in
    let depth = g.S.Settler.depth_of c.args.settler.now in
    let b = c.args.campaign.root in
    let old = c.args.campaign.tree in
    let grown = c.in_ok-grown.grown.tree in
    let paved : IsPaved settle depth b old c.args.plan.now.budget.nodes grown =
    subst (λ (p : Seen). IsPaved settle depth p.root p.tree c.args.plan.now.budget.nodes grown) c.into_paving-opening.ensures.is c.in_ok-grown.ensures.paved in
    let few : settled_in grown ≤ settled_in old + c.args.plan.now.budget.nodes = few_settled settle depth b old grown c.args.plan.now.budget.nodes paved in
    let room : settled_in old + c.args.plan.now.budget.nodes ≤ c.args.plan.now.budget.limit = c.requires.few in
    let all : settled_in grown ≤ c.args.plan.now.budget.limit = omega arith in
    all

pub returns-in-Ok-clause-paved : goal.returns-in-Ok-clause-paved
returns-in-Ok-clause-paved g c =
    let settle = g.S.Settler.settle_of c.args.settler.now in
    let depth = g.S.Settler.depth_of c.args.settler.now in
    let b = c.args.campaign.root in
    let old = c.args.campaign.tree in
    let grown = c.in_ok-grown.grown.tree in
    let paved : IsPaved settle depth b old c.args.plan.now.budget.nodes grown =
    subst (λ (p : Seen). IsPaved settle depth p.root p.tree c.args.plan.now.budget.nodes grown) c.into_paving-opening.ensures.is c.in_ok-grown.ensures.paved in
    subst (λ (t : Tree). IsPaved settle depth b old c.args.plan.now.budget.nodes t) (sym c.in-Ok.ensures.taken) paved

pub returns-in-Ok-clause-ordered : goal.returns-in-Ok-clause-ordered
returns-in-Ok-clause-ordered g c =
    let old = c.args.campaign.tree in
    let grown = c.in_ok-grown.grown.tree in
    let order = c.args.plan.now.order in
    let ordered : IsInOrder order old grown = subst (λ (p : Seen). IsInOrder order p.tree grown) c.into_paving-opening.ensures.is c.in_ok-grown.ensures.ordered in
    subst (λ (t : Tree). IsInOrder order old t) (sym c.in-Ok.ensures.taken) ordered
