use Rattle.std.proofs.Common.{arith, sym, ◌∙◌, ap}
use Rattle.std.specs.Prelude.{decimal}
use Rattle.pv_ctc.proofs.Lexing.{digits_spelled, small_digits, great_digits, zero_digits}
use Rattle.pv_ctc.proofs.token.number_of.Goals as goal

pub returns-then-leads_with_zero-clause-number : goal.returns-then-leads_with_zero-clause-number
returns-then-leads_with_zero-clause-number c = zero_digits c.args.digits.now ((sym c.leads_with_zero.ensures) ∙ c.if-leads_with_zero.true)

pub returns-in-Some-clause-spells : goal.returns-in-Some-clause-spells
returns-in-Some-clause-spells c =
    let e = c.in-Some.ensures.value in
    digits_spelled c.args.digits.now c.requires.digits c.requires.some ((sym c.leads_with_zero.ensures) ∙ c.if-leads_with_zero.false) (omega arith) ∙ ap decimal (sym e)

pub returns-in-Some-clause-number : goal.returns-in-Some-clause-number
returns-in-Some-clause-number c = small_digits c.args.digits.now c.in-Some.value ((sym c.leads_with_zero.ensures) ∙ c.if-leads_with_zero.false) c.in-Some.ensures.value (omega arith)

pub returns-in-None-clause-number : goal.returns-in-None-clause-number
returns-in-None-clause-number c = great_digits c.args.digits.now c.in-None.ensures.none
