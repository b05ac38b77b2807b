use Rattle.std.proofs.Common.{[], ◌∷◌, arith, ap, sym, ◌∙◌}
use Rattle.pv_ctc.specs.declared.token.Token.TheVariants.{End}
use Rattle.pv_ctc.specs.Symbols.{tokens_at}
use Rattle.pv_ctc.specs.Refusals.{exactly, a_program, refusal}
use Rattle.pv_ctc.proofs.Dues.{passed, stops_more, stops_behind}
use Rattle.pv_ctc.proofs.Spelled.{read_refused, read_right, too_long}
use Rattle.pv_ctc.proofs.program.Program.read.Goals as goal

pub returns-clause-right : goal.returns-clause-right
returns-clause-right c =
    read_right c.args.count c.args.text.now (omega arith)
    (c.in_ok-program.ensures.took (exactly End ∷ []) ∙ ap (λ k. refusal (tokens_at c.program.new.self.text.now c.program.new.self.at) k c.program.new.self.named (exactly End ∷ [])) (sym c.program.ensures.count) ∙ c.in_ok-want.ensures.took [])

pub returns-then-text-gt-MOST_PROGRAM_TEXT-clause-refused : goal.returns-then-text-gt-MOST_PROGRAM_TEXT-clause-refused
returns-then-text-gt-MOST_PROGRAM_TEXT-clause-refused c = too_long c.args.count c.args.text.now c.if-text-gt-MOST_PROGRAM_TEXT.true

pub returns-in_err-program-clause-refused : goal.returns-in_err-program-clause-refused
returns-in_err-program-clause-refused c =
    let e = c.in_err-program.field-0.0 in
    passed _ e _ c.from_residual.ensures.1 (read_refused c.args.count c.args.text.now e (omega arith) (omega arith)
    (stops_more c.args.count (a_program ∷ []) (exactly End ∷ []) 0 (tokens_at c.args.text.now 0) e c.in_err-program.ensures.stopped))

pub returns-in_err-want-clause-refused : goal.returns-in_err-want-clause-refused
returns-in_err-want-clause-refused c =
    let e = c.in_err-want.field-0.0 in
    passed _ e _ c.from_residual-in_err-want.ensures.1 (read_refused c.args.count c.args.text.now e (omega arith) (omega arith)
    (stops_behind c.args.count c.program.new.self.count 0 c.program.new.self.named (a_program ∷ exactly End ∷ []) (exactly End ∷ []) (tokens_at c.args.text.now 0) (tokens_at c.program.new.self.text.now c.program.new.self.at) e
    c.program.ensures.count (λ rest. c.in_ok-program.ensures.took (exactly End ∷ rest)) c.in_err-want.ensures.stopped))
