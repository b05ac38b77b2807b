use Rattle.std.proofs.Common.{◌/◌, ◌%◌, ◌-◌, ap, ◌∙◌, sym, get_or, false}
use Rattle.std.specs.Prelude.{nat_eq}
use Rattle.std.proofs.lemmas.Nat.Bits.{shr_and_one}
use Rattle.pv_tree.specs.Paths.{step_there}
use Rattle.pv_tree.proofs.path.Path.step.Goals as goal

pub returns : goal.returns
returns c =
    ap (λ b. nat_eq b 1) (shr_and_one (get_or c.self.inside.words (c.args.i / 64) 0) (63 - c.args.i % 64))
    ∙ sym (step_there c.self.inside c.self.invariant c.args.i) ∙ ap (λ p. get_or p c.args.i false) c.self.view_is
