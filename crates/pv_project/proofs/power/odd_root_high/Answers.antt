use Rattle.std.proofs.Common.{◌∙◌, sym, ap}
use Rattle.pv_num.specs.Arithmetic.{neg_of, root_of}
use Rattle.pv_num.specs.declared.num.End.TheVariants.{Down}
use Rattle.pv_project.proofs.Roots.{root_down_open, root_up_open, neg_not_neg}
use Rattle.pv_project.proofs.power.odd_root_high.Goals as goal

pub returns-then-le-clause-above : goal.returns-then-le-clause-above
returns-then-le-clause-above c = λ e. root_up_open c.args.e c.args.n (sym c.root.ensures ∙ e)

pub returns-else-le-clause-above : goal.returns-else-le-clause-above
returns-else-le-clause-above c = λ e.
    neg_not_neg (root_of Down c.neg.result c.args.n) (root_down_open c.neg.result c.args.n)
    (ap neg_of (sym c.root-else-le.ensures) ∙ sym c.neg-else-le.ensures ∙ e)
