use Rattle.std.proofs.Common.{◌≡◌, ◌<◌, Some, ◌∙◌, sym, arith, subst}
use Rattle.pv_tree.specs.Trees.{Tree, leaf, subtree}
use Rattle.pv_workers.specs.Pavings.{IsSpent}
use Rattle.pv_workers.proofs.Rests.{spent_all, stopped_over}
use Rattle.pv_workers.proofs.rest.close.Goals as goal

pub returns-then-left-eq0-clause-spent : goal.returns-then-left-eq0-clause-spent
returns-then-left-eq0-clause-spent g c =
    let n = g.N.Naming in
    subst (IsSpent n.budget n.opening) (sym c.into_paving-paving.ensures.tree)
    (spent_all n.rule n.depth n.root n.opening n.budget n.limit c.args.board c.left-left.ensures.core c.requires.recalled (sym c.left-left.ensures.left ∙ c.if-left-eq0.true))

pub returns-in-Some-clause-stopped : goal.returns-in-Some-clause-stopped
returns-in-Some-clause-stopped g c =
    let some : 0 < c.args.board.left = omega (arith, c.if-left-eq0.false, c.left-left.ensures.left) in
    stopped_over c.args.board c.in-Some.field-0 c.requires.over some
    (subst (λ (t : Tree). subtree t c.in-Some.field-0 ≡ Some leaf) c.into_paving-paving.ensures.tree c.in-Some.ensures.is_open)
