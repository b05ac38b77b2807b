use Rattle.std.proofs.Common.{rules, ap, refl, sym}
use Rattle.pv_parse.specs.Scopes.{declared, with_bracket}
use Rattle.pv_parse.proofs.Scopes.{changed_last}
use Rattle.pv_parse.proofs.variable.open.Goals as goal

pub returns-in-Some : goal.returns-in-Some
returns-in-Some c =
    let f = with_bracket c.args.start in
    changed_last f c.in-Some.last.now _ c.args.variables.now.items _ (search rules) (c.in-Some.ensures.variant.0 refl) (ap (λ x. f (declared x)) (sym c.in-Some.ensures.value))
