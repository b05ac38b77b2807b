use Rattle.std.proofs.Common.{length, sym, ◌∙◌, ap, subst, arith, vec_capacity, ◌∷◌, ◌++◌, []}
use Rattle.pv_tree.specs.Trees.{leaf, counts_of}
use Rattle.pv_tree.specs.Arena.{whole_tree, open_node}
use Rattle.pv_tree.specs.Stops.{IsGrowth, growing}
use Rattle.pv_tree.proofs.Growths.{open_growth, open_growing}
use Rattle.pv_tree.proofs.growth.Growth.open.Goals as goal

pub invariant_of-result : goal.invariant_of-result
invariant_of-result c =
    let one = c.in_ok-push.ensures.items ∙ ap (λ l. l ++ open_node ∷ []) c.new-nodes.ensures.items in
    let stack = c.push_reserved.ensures.items ∙ ap (λ l. l ++ record { at = 0; parent = 0; path = [] } ∷ []) c.in_ok-stops.ensures.items in
    subst (λ ns. IsGrowth c.args.bx c.new.result.items ns (counts_of leaf) c.push_reserved.new.self.items (vec_capacity c.push_reserved.new.self)) (sym one)
    (subst (λ ss. IsGrowth c.args.bx c.new.result.items (open_node ∷ []) (counts_of leaf) ss (vec_capacity c.push_reserved.new.self)) (sym stack)
    (open_growth c.args.bx c.new.result.items (vec_capacity c.push_reserved.new.self) (ap length c.new.ensures.items) c.dims-places.ensures.is_box (omega (arith, c.in_ok-stops.ensures.capacity, c.push_reserved.ensures.capacity))))

pub returns : goal.returns
returns c =
    let one = c.in_ok-push.ensures.items ∙ ap (λ l. l ++ open_node ∷ []) c.new-nodes.ensures.items in
    let stack = c.push_reserved.ensures.items ∙ ap (λ l. l ++ record { at = 0; parent = 0; path = [] } ∷ []) c.in_ok-stops.ensures.items in
    ap (λ ns. growing c.args.bx (whole_tree (length c.args.bx) c.new.result.items ns) c.push_reserved.new.self.items) one
    ∙ ap (growing c.args.bx (whole_tree (length c.args.bx) c.new.result.items (open_node ∷ []))) stack
    ∙ open_growing c.args.bx c.new.result.items
