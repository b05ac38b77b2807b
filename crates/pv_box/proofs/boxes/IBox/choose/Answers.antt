use Rattle.std.proofs.Common.{◌≡◌, ℕ, sym, subst}
use Rattle.std.specs.Prelude.{Some, None, IfSome, IfNone}
use Rattle.pv_box.specs.Choice.{cut_at, IsChosen}
use Rattle.pv_box.proofs.Chosen.{said}
use Rattle.pv_box.proofs.boxes.IBox.choose.Goals as goal

pub returns-clause-cut : goal.returns-clause-cut
returns-clause-cut c = subst (λ o. IfSome o (λ p. cut_at c.args.self.now p.0 ≡ Some p.1)) (sym c.chosen.ensures.choice)
    (said c.args.by c.args.path_len c.args.self.now).cut

pub returns-clause-chosen : goal.returns-clause-chosen
returns-clause-chosen c = subst (λ o. IfSome o (λ p. IsChosen c.args.by c.args.path_len c.args.self.now p.0)) (sym c.chosen.ensures.choice)
    (said c.args.by c.args.path_len c.args.self.now).chosen

pub returns-clause-none : goal.returns-clause-none
returns-clause-none c = subst (λ o. IfNone o ((k : ℕ) → cut_at c.args.self.now k ≡ None)) (sym c.chosen.ensures.choice)
    (said c.args.by c.args.path_len c.args.self.now).none
