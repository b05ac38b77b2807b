use Rattle.std.proofs.Common.{◌<◌, ◌^◌, ◌/◌, arith, subst, sym}
use mir.Syntax.{w128}
use Rattle.std.proofs.lemmas.Int.{to_z_pos}
use Rattle.std.proofs.Math.Nat.{div-le_self}
use Rattle.pv_expr.specs.Systems.{IsFraction}
use Rattle.pv_tokens.specs.Numbers.{IsLowest}
use Rattle.pv_tokens.proofs.Powers.{divided, fraction_of}
use Rattle.pv_tokens.proofs.number.in_lowest_terms.Goals as goal

pub nonzero_div-result : goal.nonzero_div-result
nonzero_div-result c = (divided _ _ _ c.requires.below c.gcd-common.ensures).0

pub nonzero_div-result-2 : goal.nonzero_div-result-2
nonzero_div-result-2 c = (divided _ _ _ c.requires.below c.gcd-common.ensures).0

-- the numerator is small enough to be its own cast
pub returns-clause-lowest : goal.returns-clause-lowest
returns-clause-lowest c =
    let small : c.args.a / c.gcd-common.result < 2 ^ 127 = omega (arith, div-le_self c.args.a c.gcd-common.result, c.requires.above) in
    subst (λ z. IsLowest c.args.a c.args.b (z, c.args.b / c.gcd-common.result)) (sym (to_z_pos w128 _ small)) (divided _ _ _ c.requires.below c.gcd-common.ensures).1

pub returns-clause-fraction : goal.returns-clause-fraction
returns-clause-fraction c =
    let small : c.args.a / c.gcd-common.result < 2 ^ 127 = omega (arith, div-le_self c.args.a c.gcd-common.result, c.requires.above) in
    subst (λ z. IsFraction z (c.args.b / c.gcd-common.result)) (sym (to_z_pos w128 _ small)) (fraction_of _ _ _ c.requires.above c.requires.below c.requires.most c.gcd-common.ensures)
