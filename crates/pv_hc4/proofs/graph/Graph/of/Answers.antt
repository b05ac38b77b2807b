use Rattle.pv_expr.specs.Terms.{term_of}
use Rattle.pv_hc4.proofs.Building.{made, same_sides}
use Rattle.pv_hc4.proofs.Numbering.{numbered_apart}
use Rattle.pv_hc4.proofs.graph.Graph.of.Goals as goal

pub invariant_of-result : goal.invariant_of-result
invariant_of-result c =
    (made c.new-builder.result.nodes.items c.add.new.self.nodes.items c.add-2.new.self.nodes.items c.in_ok-left.left c.in_ok-right.right c.args.constraint.now.relation (term_of c.args.constraint.now.left) (term_of c.args.constraint.now.right) c.args.dims c.in_ok-right.ensures.ordered (numbered_apart c.add-2.new.self.nodes.items c.add-2.new.self.numbers c.in_ok-right.ensures.numbered) c.new-builder.ensures.nodes c.in_ok-left.ensures.grows c.in_ok-right.ensures.grows c.requires.left c.requires.right, c.in_ok-right.ensures.ready)

pub returns-clause-sides : goal.returns-clause-sides
returns-clause-sides c =
    same_sides c.new-builder.result.nodes.items c.add.new.self.nodes.items c.add-2.new.self.nodes.items c.in_ok-left.left c.in_ok-right.right c.args.constraint.now.relation (term_of c.args.constraint.now.left) (term_of c.args.constraint.now.right) c.args.dims c.in_ok-left.ensures.grows c.in_ok-right.ensures.grows

pub returns-clause-over : goal.returns-clause-over
returns-clause-over c =
    let g = made c.new-builder.result.nodes.items c.add.new.self.nodes.items c.add-2.new.self.nodes.items c.in_ok-left.left c.in_ok-right.right c.args.constraint.now.relation (term_of c.args.constraint.now.left) (term_of c.args.constraint.now.right) c.args.dims c.in_ok-right.ensures.ordered (numbered_apart c.add-2.new.self.nodes.items c.add-2.new.self.numbers c.in_ok-right.ensures.numbered) c.new-builder.ensures.nodes c.in_ok-left.ensures.grows c.in_ok-right.ensures.grows c.requires.left c.requires.right in
    (g.left_over, g.right_over)
