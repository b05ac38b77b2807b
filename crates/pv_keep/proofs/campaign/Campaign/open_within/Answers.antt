use Rattle.std.proofs.Common.{ap, ◌∙◌, subst, ℕ}
use Rattle.std.specs.Prelude.{Err}
use Rattle.pv_keep.specs.Keeping.{AreAll}
use Rattle.pv_keep.proofs.Opening.{bad_row_now, same_refusal}
use Rattle.pv_keep.proofs.campaign.Campaign.open_within.Goals as goal

pub returns-in-Err-clause-bad_row : goal.returns-in-Err-clause-bad_row
returns-in-Err-clause-bad_row g c = λ n e.
    let known = c.in_ok-load.ensures.all c.args.name.now c.in_ok-begin.ensures.begun in
    let all : AreAll (g.P.Keeper.kept c.begin.new.self c.args.name.now) c.args.limit c.load.new.into =
    subst (λ (m : ℕ). AreAll (g.P.Keeper.kept c.begin.new.self c.args.name.now) m c.load.new.into) c.nodes.ensures.value known in
    bad_row_now c.args.limit (g.P.Keeper.kept c.args.keeper.now c.args.name.now) (g.P.Keeper.kept c.begin.new.self c.args.name.now) c.args.identity c.args.root c.load.new.into n
    c.in_ok-begin.ensures.there all (c.in_ok-load.ensures.ordered c.args.name.now c.in_ok-begin.ensures.begun)
    (λ o. c.rebuild.ensures.bad o n (c.in-Err.is ∙ ap Err (same_refusal _ _ e)))
