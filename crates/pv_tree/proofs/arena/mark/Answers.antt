use Rattle.std.proofs.Common.{◌+◌, ◌<◌, length, ap, ◌∙◌, refl, arith}
use Rattle.std.proofs.lemmas.List.{get_or_default}
use Rattle.pv_tree.specs.Arena.{open_node}
use Rattle.pv_tree.proofs.Walks.{marked}
use Rattle.pv_tree.proofs.arena.mark.Goals as goal

pub returns-then-nodes-kids-2 : goal.returns-then-nodes-kids-2
returns-then-nodes-kids-2 c =
    let low : c.args.kids < length c.args.nodes.now = omega (arith, c.requires.kids_there) in
    marked c.args.nodes.now c.args.at c.args.kids _ c.requires.there c.requires.kids
    (ap (λ n. n.closed) (get_or_default c.args.nodes.now c.args.kids open_node c.index-nodes-kids.result low) ∙ c.if-nodes-kids.true)
    (ap (λ n. n.closed) (get_or_default c.args.nodes.now (c.args.kids + 1) open_node c.index-nodes-kids-then-nodes-kids.result c.requires.kids_there) ∙ c.if-nodes-kids-2.true)
    c.requires.marks
    (ap (λ n. n.cell) (get_or_default c.args.nodes.now c.args.at c.index-nodes-at.result open_node c.requires.there)) refl
