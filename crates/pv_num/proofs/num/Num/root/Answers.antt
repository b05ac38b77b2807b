use Rattle.std.proofs.Common.{◌≡◌, ◌∙◌, sym, ap, refl}
use Rattle.pv_num.specs.Extended.{PosInf}
use Rattle.pv_num.specs.Arithmetic.{root_of}
use Rattle.pv_num.specs.declared.num.End.TheVariants.{Up}
use Rattle.pv_num.proofs.num.Num.root.Goals as goal

pub returns-then-eq : goal.returns-then-eq
unfolding root_of
returns-then-eq c =
    let e : c.args.self ≡ PosInf = c.if-eq.ensures.same.0 refl in
    e ∙ sym (ap (λ x. root_of Up x c.args.n) e) ∙ sym (ap (λ s. root_of s c.args.self c.args.n) c.in-Up.is)
