use Rattle.std.proofs.Common.{◌<◌, ◌^◌, ap, sym, ◌∙◌, arith, rules}
use Rattle.std.specs.Prelude.{Some}
use Rattle.std.proofs.lemmas.Fmt.{decimal_injective}
use Rattle.pv_file.proofs.outcome_line.read_var.Goals as goal

pub returns-then-is_decimal-clause-complete : goal.returns-then-is_decimal-clause-complete
returns-then-is_decimal-clause-complete c = λ v below e.
    let small : v < 2 ^ 64 = omega (arith, below) in
    let here : c.likely_var-guess.result < 2 ^ 64 = search rules in
    ap Some (decimal_injective c.likely_var-guess.result v here small (sym (c.is_decimal.ensures.0 c.if-is_decimal.true) ∙ e))

pub returns-then-is_decimal-2-clause-complete : goal.returns-then-is_decimal-2-clause-complete
returns-then-is_decimal-2-clause-complete c = λ v below e.
    let small : v < 2 ^ 64 = omega (arith, below) in
    let here : c.loop-var.var < 2 ^ 64 = search rules in
    ap Some (decimal_injective c.loop-var.var v here small (sym (c.is_decimal-in-loop-var.ensures.0 c.if-is_decimal-2.true) ∙ e))
