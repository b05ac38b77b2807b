use Rattle.std.proofs.Common.{subst, sym}
use Rattle.pv_ctc.specs.Symbols.{tokens_at}
use Rattle.pv_ctc.specs.Refusals.{a_program}
use Rattle.pv_ctc.specs.Taking.{Stopped}
use Rattle.std.proofs.Common.{[], ◌∷◌}
use Rattle.pv_ctc.proofs.Dues.{no_word, IsFull, full, no_name}
use Rattle.pv_ctc.proofs.reading.Reader.word.Goals.{in_default-via-in-Word+else-self-lt-MOST_PROGRAMS, in_default-via-in_default}
use Rattle.pv_ctc.proofs.reading.Reader.word.Goals as goal

pub returns-in_default-clause-stopped : goal.returns-in_default-clause-stopped
returns-in_default-clause-stopped c =
    let out : IsFull c.args.self.now.named c.token_at-found.result.0 =
    elim c.in_default.branch [
      | in_default-via-in-Word+else-self-lt-MOST_PROGRAMS w ↦ full c.args.self.now.named _ w.if-self-lt-MOST_PROGRAMS.false
      | in_default-via-in_default w ↦ no_name c.args.self.now.named _ w.in_default.not-Word
    ] in
    subst (Stopped c.args.self.now.count (a_program ∷ []) c.args.self.now.named (tokens_at c.args.self.now.text.now c.args.self.now.at)) (sym c.refusal.ensures)
    (no_word c.args.self.now.count c.args.self.now.named c.token_at-found.result.0 c.args.self.now.at _ _ c.token_at-found.ensures.first out)
