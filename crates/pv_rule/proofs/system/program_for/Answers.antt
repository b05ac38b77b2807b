use Rattle.std.proofs.Common.{List, ℕ, length, subst}
use Rattle.pv_ctc.specs.Plans.{plan_of}
use Rattle.pv_ctc.specs.Refusals.{IsSpelling}
use Rattle.pv_rule.proofs.system.program_for.Goals as goal

pub returns-clause-program : goal.returns-clause-program
returns-clause-program c =
    let p = c.in_ok-read.ensures in
    let plan = plan_of c.in_ok-read.field-0 in
    let as_read : IsSpelling c.constraint_count.result c.as_bytes.result.now plan = record { fits = p.fits; few = p.few; short = p.short; spelled = p.spelled } in
    subst (λ (x : List ℕ). IsSpelling (length c.args.system.now.constraints) x plan) c.as_bytes.ensures.value
    (subst (λ (x : ℕ). IsSpelling x c.as_bytes.result.now plan) c.constraint_count.ensures.count as_read)
