use Rattle.std.proofs.Common.{◌<◌, ◌++◌, ◌∷◌, [], length, sym, ap, ◌∙◌, subst, arith}
use Rattle.pv_tree.specs.Arena.{IsPlaced, is_cut, open_node}
use Rattle.pv_tree.proofs.Walks.{placed_cut}
use Rattle.pv_tree.proofs.arena.place.Goals as goal

pub returns-in-Cut-clause-placed : goal.returns-in-Cut-clause-placed
returns-in-Cut-clause-placed c =
    let size = c.args.nodes.now.ok.0 in
    let there : c.args.at < length c.args.nodes.now.items = omega (arith, size, c.requires.there) in
    subst (λ ms. IsPlaced c.args.nodes.now.items ms c.args.at c.args.cell)
    (sym (c.push_reserved-in-Cut.ensures.items ∙ ap (λ l. l ++ open_node ∷ []) c.push_reserved.ensures.items))
    (placed_cut c.args.nodes.now.items c.args.at c.args.cell there (ap is_cut c.in-Cut.is))
