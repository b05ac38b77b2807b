use Rattle.std.proofs.Common.{sym, ◌∙◌, ◌≡◌, subst, ap}
use Rattle.std.specs.Prelude.{IfOk, Some, None}
use Rattle.pv_ctc.specs.Contracting.{sides_in, contract_of}
use Rattle.pv_ctc.specs.Plans.{plan_of}
use Rattle.pv_ctc.specs.Steps.{IsStep}
use Rattle.pv_ctc.proofs.Turns.{step_empty, step_left}
use Rattle.pv_settle.specs.Settling.{settle_by, settle_contracted}
use Rattle.pv_settle.specs.Settlers.{rule_of}
use Rattle.pv_settle.proofs.settler.SystemSettler.settle_knowing.Goals as goal

pub returns-in-Empty-clause-outcome : goal.returns-in-Empty-clause-outcome
unfolding settle_by
returns-in-Empty-clause-outcome c =
    let r = rule_of c.args.self.now in
    let b = c.args.bx.now in
    let left = contract_of (sides_in r.graphs) (plan_of r.program) in
    let o = left c.in_ok-to.to in
    let none : o ≡ None = step_empty o c.in_ok-to.to c.narrow_knowing.new.bx (subst (λ a. IsStep o a c.in_ok-to.to c.narrow_knowing.new.bx) c.in-Empty.is c.in_ok-answer.ensures.step) in
    ap (λ p. settle_contracted r p c.args.depth_left c.args.path_len) (sym (ap left (sym c.in_ok-to.ensures) ∙ none))

pub returns-in-Kept : goal.returns-in-Kept
unfolding settle_by
returns-in-Kept c =
    let r = rule_of c.args.self.now in
    let b = c.args.bx.now in
    let left = contract_of (sides_in r.graphs) (plan_of r.program) in
    let new = c.narrow_knowing.new.bx in
    let some : left b ≡ Some new = ap left (sym c.in_ok-to.ensures) ∙ step_left (left c.in_ok-to.to) c.in_ok-answer.answer c.in_ok-to.to new c.in-Kept.is c.in_ok-answer.ensures.step in
    record {
      outcome = subst (λ p. IfOk c.settle_narrowed.result (λ s. s.outcome ≡ settle_contracted r p c.args.depth_left c.args.path_len)) (sym some) c.settle_narrowed.ensures.outcome;
      known = c.settle_narrowed.ensures.known;
    }
