use Rattle.std.proofs.Common.{subst, sym}
use Rattle.pv_ctc.specs.Symbols.{tokens_at}
use Rattle.pv_ctc.specs.Refusals.{a_number}
use Rattle.pv_ctc.specs.Taking.{Stopped}
use Rattle.std.proofs.Common.{[], ◌∷◌}
use Rattle.pv_ctc.proofs.Dues.{no_number, IsOut, too_low, too_high, other_kind}
use Rattle.pv_ctc.proofs.reading.Reader.number.Goals.{in_default-via-in-Number+then-low-n+else-n-limit, in_default-via-in-Number+else-low-n, in_default-via-in_default}
use Rattle.pv_ctc.proofs.reading.Reader.number.Goals as goal

pub returns-in_default-clause-stopped : goal.returns-in_default-clause-stopped
returns-in_default-clause-stopped c = λ k.
    let out : IsOut c.args.low c.args.limit c.token_at-found.result.0 =
    elim c.in_default.branch [
      | in_default-via-in-Number+then-low-n+else-n-limit w ↦ too_high c.args.low c.args.limit _ _ w.in-Number.is w.if-n-limit.false
      | in_default-via-in-Number+else-low-n w ↦ too_low c.args.low c.args.limit _ _ w.in-Number.is w.if-low-n.false
      | in_default-via-in_default w ↦ other_kind c.args.low c.args.limit _ w.in_default.not-Number
    ] in
    subst (Stopped c.args.self.now.count (a_number c.args.low c.args.limit k ∷ []) c.args.self.now.named (tokens_at c.args.self.now.text.now c.args.self.now.at)) (sym c.refusal.ensures)
    (no_number c.args.self.now.count c.args.self.now.named c.args.low c.args.limit k c.token_at-found.result.0 c.args.self.now.at _ _ c.token_at-found.ensures.first out)
