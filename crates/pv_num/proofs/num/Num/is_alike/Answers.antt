use Rattle.std.proofs.Common.{rules, ◌≡◌}
use Rattle.pv_num.proofs.Classes.{one_class, two_classes}
use Rattle.pv_num.proofs.num.Num.is_alike.Goals as goal

pub returns-clause-alike : goal.returns-clause-alike
returns-clause-alike c = λ t.
    let q : c.self.inside.class ≡ c.other.inside.class = search rules in
    (one_class c.self.inside.class c.other.inside.class c.self.inside.mantissa c.self.inside.exponent c.other.inside.mantissa c.other.inside.exponent c.args.self c.args.other q
    c.self.view_is c.other.view_is c.self.invariant.classed c.other.invariant.classed c.requires.other_finite).1

pub returns-clause-unlike : goal.returns-clause-unlike
returns-clause-unlike c = λ f fa.
    let d : c.self.inside.class ≡ c.other.inside.class → ⊥ = search rules in
    two_classes c.self.inside.class c.other.inside.class c.self.inside.mantissa c.self.inside.exponent c.other.inside.mantissa c.other.inside.exponent c.args.self c.args.other d
    c.self.view_is c.other.view_is c.self.invariant.classed c.other.invariant.classed fa c.requires.other_finite
