use Rattle.std.proofs.Common.{◌≡◌, ◌∙◌, ap, rules, [], ◌++◌}
use Rattle.std.specs.Prelude.{reverse}
use Rattle.pv_tree.specs.Trees.{subtree}
use Rattle.pv_board.specs.Piles.{piled}
use Rattle.pv_board.proofs.Openings.{root_pile}
use Rattle.pv_board.proofs.Piling.{piled_back}
use Rattle.test_board.proofs.stages.leaves_of.Goals as goal

pub pile-requires : goal.pile-requires
pile-requires c = root_pile c.args.stage.now.tree c.root.result c.root-2.result _ _ c.root.ensures c.root-2.ensures c.dims-places.ensures.paving.depth (search rules) (search rules)

pub returns : goal.returns
returns c =
    let t = c.args.stage.now.tree in
    c.reverse.ensures.items
    ∙ ap reverse (c.pile.ensures.piled t (ap (subtree t) c.root.ensures) ∙ (λ i. c.in_ok-leaves.ensures.items i ++ piled (c.root-2.ensures i) t))
    ∙ piled_back [] t
