use Rattle.std.proofs.Common.{sym, subst, ◌∙◌}
use Rattle.std.proofs.lemmas.Bool.{true≢false}
use Rattle.pv_num.specs.View.{IsJustified}
use Rattle.pv_num.proofs.Classes.{other_sign}
use Rattle.pv_num.proofs.num.Num.neg.Goals as goal

pub invariant_of-result-2 : goal.invariant_of-result-2
invariant_of-result-2 c =
    subst (λ k. IsJustified (record { class = k; exponent = c.self.inside.exponent; mantissa = c.self.inside.mantissa })) (sym c.opposite.ensures)
    (other_sign c.self.inside.class c.self.inside.mantissa c.self.inside.exponent c.args.self c.self.view_is
    (λ z. true≢false (sym (c.is_zero.ensures.1 z) ∙ c.if-is_zero.false))
    c.self.invariant.mantissa_fits c.self.invariant.exponent_fits c.self.invariant.justified c.self.invariant.classed)
