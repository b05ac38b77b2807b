use Rattle.std.proofs.Common.{◌∙◌, sym, ap}
use Rattle.pv_num.specs.Arithmetic.{neg_of, root_of}
use Rattle.pv_num.specs.declared.num.End.TheVariants.{Up}
use Rattle.pv_project.proofs.Roots.{root_down_open, root_up_open, neg_not_pos}
use Rattle.pv_project.proofs.power.odd_root_low.Goals as goal

pub returns-then-le-clause-below : goal.returns-then-le-clause-below
returns-then-le-clause-below c = λ e. root_down_open c.args.e c.args.n (sym c.root.ensures ∙ e)

pub returns-else-le-clause-below : goal.returns-else-le-clause-below
returns-else-le-clause-below c = λ e.
    neg_not_pos (root_of Up c.neg.result c.args.n) (root_up_open c.neg.result c.args.n)
    (ap neg_of (sym c.root-else-le.ensures) ∙ sym c.neg-else-le.ensures ∙ e)
