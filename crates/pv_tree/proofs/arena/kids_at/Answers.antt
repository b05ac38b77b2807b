use Rattle.std.proofs.Common.{◌+◌, ◌<◌, length, ap, ◌∙◌, arith}
use Rattle.std.proofs.lemmas.List.{get_or_default}
use Rattle.pv_tree.specs.Arena.{open_node, kids_of}
use Rattle.pv_tree.proofs.arena.kids_at.Goals as goal

pub returns-in-Cut-clause-there : goal.returns-in-Cut-clause-there
returns-in-Cut-clause-there c =
    c.requires.kids.kids c.args.at c.in-Cut.kids (ap (λ n. kids_of n.cell) (get_or_default c.args.nodes.now c.args.at open_node _ c.requires.there) ∙ ap kids_of c.in-Cut.is)

pub prove-unreachable-requires : goal.prove-unreachable-requires
prove-unreachable-requires c =
    let h : c.in-Cut.kids + 1 < length c.args.nodes.now =
    c.requires.kids.kids c.args.at c.in-Cut.kids (ap (λ n. kids_of n.cell) (get_or_default c.args.nodes.now c.args.at open_node _ c.requires.there) ∙ ap kids_of c.in-Cut.is) in
    omega (arith, c.if-prove.true)
