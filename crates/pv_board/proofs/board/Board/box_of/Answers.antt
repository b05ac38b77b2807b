use Rattle.std.proofs.Common.{◌∙◌, ap, rules}
use Rattle.pv_interval.specs.Bounds.{Bounds}
use Rattle.std.specs.Prelude.{List, IsSome}
use Rattle.pv_tree.specs.Trees.{subtree, box_of}
use Rattle.pv_tree.specs.Stages.{full_of}
use Rattle.pv_board.proofs.Fulls.{grows_box, grows_there}
use Rattle.pv_board.proofs.board.Board.box_of.Goals as goal

pub returns-clause-is : goal.returns-clause-is
returns-clause-is g c is_there =
    let n = g.N.Naming in let a = c.self.inside in let core = c.self.invariant.core in
    let there : IsSome (subtree a.paving.tree c.args.ticket.now.path) = search rules in
    c.box_at.ensures.is ∙ ap (box_of a.paving.root a.paving.tree) c.path-path.ensures ∙ ap (λ (b : List Bounds). box_of b a.paving.tree c.args.ticket.now.path) core.root_is ∙ grows_box n.root a.paving.tree (full_of n.rule n.depth n.root n.opening 0) c.args.ticket.now.path core.stage.grows there

pub returns-clause-in_full : goal.returns-clause-in_full
returns-clause-in_full g c is_there =
    let n = g.N.Naming in let a = c.self.inside in let core = c.self.invariant.core in
    let there : IsSome (subtree a.paving.tree c.args.ticket.now.path) = search rules in
    grows_there a.paving.tree (full_of n.rule n.depth n.root n.opening 0) c.args.ticket.now.path core.stage.grows there
