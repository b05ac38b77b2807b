use Rattle.std.proofs.Common.{sym, ◌∙◌, ◌≡◌, subst, ap}
use Rattle.std.specs.Prelude.{IfOk, List, Some, None}
use Rattle.pv_interval.specs.Bounds.{Bounds}
use Rattle.pv_hc4.specs.declared.revised.Revised.{Revised}
use Rattle.pv_ctc.specs.Contracting.{sides_in, contract_of}
use Rattle.pv_ctc.specs.GraphLists.{GraphList}
use Rattle.pv_ctc.specs.Plans.{plan_of}
use Rattle.pv_ctc.specs.Steps.{IsStep}
use Rattle.pv_ctc.specs.declared.program.Program.{Program}
use Rattle.pv_ctc.proofs.Turns.{step_empty, step_left}
use Rattle.pv_settle.specs.Settlers.{rule_of}
use Rattle.pv_slope.specs.Settling.{settle_centered, settle_contracted}
use Rattle.pv_slope.proofs.settler.CenteredSettler.settle_knowing.Goals as goal

-- the same step by the settler's own graphs and program
own_step : (g h : GraphList) (p q : Program) (r : Revised) (old new : List Bounds) → g ≡ h → p ≡ q
    → IsStep (contract_of (sides_in g) (plan_of p) old) r old new → IsStep (contract_of (sides_in h) (plan_of q) old) r old new
own_step g h p q r old new e f s =
    subst (λ x. IsStep (contract_of (sides_in h) (plan_of x) old) r old new) f
    (subst (λ x. IsStep (contract_of (sides_in x) (plan_of p) old) r old new) e s)

pub returns-in-Empty-clause-outcome : goal.returns-in-Empty-clause-outcome
unfolding settle_centered
returns-in-Empty-clause-outcome c =
    let r = rule_of c.args.self.now.settler in
    let left = contract_of (sides_in r.graphs) (plan_of r.program) in
    let o = left c.in_ok-to.to in
    let new = c.narrow_knowing.new.bx in
    let step = own_step c.graphs-graphs.result.now r.graphs c.program.result.now r.program c.in_ok-answer.answer c.in_ok-to.to new c.graphs-graphs.ensures c.program.ensures c.in_ok-answer.ensures.step in
    let none : o ≡ None = step_empty o c.in_ok-to.to new (subst (λ a. IsStep o a c.in_ok-to.to new) c.in-Empty.is step) in
    ap (λ p. settle_contracted r p c.args.depth_left c.args.path_len) (sym (ap left (sym c.in_ok-to.ensures) ∙ none))

pub returns-in-Kept : goal.returns-in-Kept
unfolding settle_centered
returns-in-Kept c =
    let r = rule_of c.args.self.now.settler in
    let left = contract_of (sides_in r.graphs) (plan_of r.program) in
    let new = c.narrow_knowing.new.bx in
    let step = own_step c.graphs-graphs.result.now r.graphs c.program.result.now r.program c.in_ok-answer.answer c.in_ok-to.to new c.graphs-graphs.ensures c.program.ensures c.in_ok-answer.ensures.step in
    let some : left c.args.bx.now ≡ Some new = ap left (sym c.in_ok-to.ensures) ∙ step_left (left c.in_ok-to.to) c.in_ok-answer.answer c.in_ok-to.to new c.in-Kept.is step in
    record {
      outcome = subst (λ p. IfOk c.settle_narrowed.result (λ s. s.outcome ≡ settle_contracted r p c.args.depth_left c.args.path_len)) (sym some) c.settle_narrowed.ensures.outcome;
      known = c.settle_narrowed.ensures.known;
    }
