use Rattle.std.proofs.Common.{take, drop, ◌-◌, arith, sym, ◌∙◌}
use Rattle.pv_ctc.proofs.Pieces.{cut_at, stands}
use Rattle.pv_ctc.proofs.Lexing.{name_here, number_here, mark_here, end_here, mark_stands, digits_at}
use Rattle.pv_ctc.proofs.token.token_at.Goals as goal

pub returns-then-at-text-clause-first : goal.returns-then-at-text-clause-first
returns-then-at-text-clause-first c = end_here c.args.text.now c.args.at c.if-at-text.true

pub returns-then-is_letter-clause-stands : goal.returns-then-is_letter-clause-stands
returns-then-is_letter-clause-stands c =
    stands c.word_of.result (take (c.name_end-end.result - c.args.at) (drop c.args.at c.args.text.now)) (drop c.args.at c.args.text.now) (drop c.name_end-end.result c.args.text.now)
    (cut_at c.args.text.now c.args.at c.name_end-end.result (let h = c.name_end-end.ensures.run in omega arith)) c.word_of.ensures.spells

pub returns-then-is_letter-clause-first : goal.returns-then-is_letter-clause-first
returns-then-is_letter-clause-first c =
    name_here c.args.text.now c.args.at c.name_end-end.result c.word_of.result (omega arith) (sym c.is_letter.ensures ∙ c.if-is_letter.true) c.name_end-end.ensures.run c.word_of.ensures.named c.word_of.ensures.spells

pub number_of-requires-clause-digits : goal.number_of-requires-clause-digits
number_of-requires-clause-digits c =
    digits_at c.args.text.now c.args.at c.digits_end-end.result (omega arith) (sym c.is_digit.ensures ∙ c.if-is_digit.true) c.digits_end-end.ensures.run

pub returns-then-is_digit-clause-stands : goal.returns-then-is_digit-clause-stands
returns-then-is_digit-clause-stands c =
    stands c.number_of.result (take (c.digits_end-end.result - c.args.at) (drop c.args.at c.args.text.now)) (drop c.args.at c.args.text.now) (drop c.digits_end-end.result c.args.text.now)
    (cut_at c.args.text.now c.args.at c.digits_end-end.result (let h = c.digits_end-end.ensures.run in omega arith)) c.number_of.ensures.spells

pub returns-then-is_digit-clause-first : goal.returns-then-is_digit-clause-first
returns-then-is_digit-clause-first c =
    number_here c.args.text.now c.args.at c.digits_end-end.result c.number_of.result (omega arith) (sym c.is_letter.ensures ∙ c.if-is_letter.false) (sym c.is_digit.ensures ∙ c.if-is_digit.true) c.digits_end-end.ensures.run c.number_of.ensures.number c.number_of.ensures.spells

pub returns-clause-stands : goal.returns-clause-stands
returns-clause-stands c = mark_stands c.args.text.now c.args.at c.mark_of.result (omega arith) c.mark_of.ensures.spells

pub returns-clause-first : goal.returns-clause-first
returns-clause-first c =
    mark_here c.args.text.now c.args.at c.mark_of.result (omega arith) (sym c.is_letter.ensures ∙ c.if-is_letter.false) (sym c.is_digit.ensures ∙ c.if-is_digit.false) c.mark_of.ensures.mark c.mark_of.ensures.spells
