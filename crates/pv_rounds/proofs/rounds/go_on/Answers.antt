use Rattle.std.proofs.Common.{◌≡◌, ◌+◌, ◌*◌, ℕ, List, [], None, rules, arith, ◌∙◌, ap, subst}
use Rattle.std.specs.Prelude.{◌≢◌}
use Rattle.pv_interval.specs.Bounds.{Bounds}
use Rattle.pv_tree.specs.Trees.{Seen, opens, first}
use Rattle.pv_workers.specs.Pavings.{IsPaved}
use Rattle.pv_rounds.specs.Going.{AddUp}
use Rattle.pv_rounds.proofs.Spending.{saved_on}
use Rattle.pv_rounds.proofs.rounds.go_on.Goals as goal

pub returns-in-Err-clause-others : goal.returns-in-Err-clause-others
returns-in-Err-clause-others g c = λ name other begun n.
    c.in-Err.ensures.others name other (c.loop.invariant.begun ∙ begun) n ∙ c.loop.invariant.others name other begun n

pub loop-preserved : goal.loop-preserved
loop-preserved g c =
    let settle = g.S.Settler.settle_of c.args.settler.now in
    let depth = g.S.Settler.depth_of c.args.settler.now in
    let b = c.args.campaign.root in
    let opening = c.args.campaign.tree in
    let middle = c.loop.held.tree in
    let t = c.in-Ok.next.tree in
    let spent = c.loop.counter * c.args.plan.now.budget.nodes in
    let up : AddUp settle depth b = subst (λ (p : Seen). AddUp settle depth p.root) c.paving.ensures.is c.learn_rounds.ensures.further in
    let nothing : IsPaved settle depth b opening 0 opening = subst (λ (p : Seen). IsPaved settle depth p.root p.tree 0 p.tree) c.paving.ensures.is c.learn_rounds.ensures.none in
    let found : c.first_open.result ≡ None → ⊥ = search rules in
    let open_left : opens middle ≢ [] =
    λ e. found (c.first_open.ensures.first ∙ ap (λ (p : Seen). first (opens p.tree)) c.paving-in-loop.ensures.is ∙ ap first e) in
    let step : IsPaved settle depth b middle c.args.plan.now.budget.nodes t =
    subst (λ (r : List Bounds). IsPaved settle depth r middle c.args.plan.now.budget.nodes t) c.loop.invariant.root c.in-Ok.ensures.paved in
    let both : IsPaved settle depth b opening (spent + c.args.plan.now.budget.nodes) t = up.paved opening middle t spent c.args.plan.now.budget.nodes nothing.paving.paves c.loop.invariant.run open_left step in
    let sum : spent + c.args.plan.now.budget.nodes ≡ (c.loop.counter + 1) * c.args.plan.now.budget.nodes = omega arith in
    record {
      root = c.in-Ok.ensures.root ∙ c.loop.invariant.root;
      limit = c.in-Ok.ensures.limit ∙ c.loop.invariant.limit;
      run = subst (λ (n : ℕ). IsPaved settle depth b opening n t) sum both;
      ordered = up.ordered c.args.plan.now.order opening middle t step.stage c.loop.invariant.ordered c.in-Ok.ensures.ordered;
      begun = c.in-Ok.ensures.begun ∙ c.loop.invariant.begun;
      kept = λ name begun. c.in-Ok.ensures.kept name (c.loop.invariant.begun ∙ begun);
      saved = λ name begun. saved_on _ _ _ middle t (c.loop.invariant.saved name begun) (c.in-Ok.ensures.saved name (c.loop.invariant.begun ∙ begun));
      others = λ name other begun n. c.in-Ok.ensures.others name other (c.loop.invariant.begun ∙ begun) n ∙ c.loop.invariant.others name other begun n;
      faults = let one = c.loop.invariant.faults in let two = c.in-Ok.ensures.counts_on in omega arith;
    }
