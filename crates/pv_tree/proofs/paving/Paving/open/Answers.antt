use Rattle.std.proofs.Common.{◌∷◌, [], length, sym, ap, ◌∙◌, subst, arith, ◌++◌}
use Rattle.pv_tree.specs.Trees.{leaf, counts_of}
use Rattle.pv_tree.specs.Arena.{whole_tree, IsWhole, open_node}
use Rattle.pv_tree.proofs.Wholes.{open_whole, open_tree}
use Rattle.pv_tree.proofs.paving.Paving.open.Goals as goal

pub invariant_of-result : goal.invariant_of-result
invariant_of-result c =
    let one = c.in_ok-push.ensures.items ∙ ap (λ l. l ++ open_node ∷ []) c.new-nodes.ensures.items in (
      subst (λ ns. IsWhole c.args.bx c.new.result.items ns (counts_of leaf)) (sym one) (open_whole c.args.bx c.new.result.items (ap length c.new.ensures.items) c.dims-places.ensures.is_box),
      record { for_nodes = omega (arith, c.push.new.self.small); for_ends = omega (arith, c.new.ensures.len); few = omega arith },
    )

pub returns-clause-tree : goal.returns-clause-tree
returns-clause-tree c =
    let one = c.in_ok-push.ensures.items ∙ ap (λ l. l ++ open_node ∷ []) c.new-nodes.ensures.items in
    ap (λ ns. whole_tree (length c.args.bx) c.new.result.items ns) one ∙ open_tree (length c.args.bx) c.new.result.items
