use Rattle.std.proofs.Common.{◌≡◌, ◌<◌, ◌+◌, ◌++◌, ◌∷◌, [], sym, ◌∙◌, subst, length, length-append, ap, rules, true, false, List, Bool, Some}
use Rattle.std.specs.Prelude.{vec_len, vec_capacity}
use Rattle.std.proofs.Common.{arith}
use Rattle.pv_tree.specs.Trees.{subtree, opens}
use Rattle.pv_board.specs.Piles.{piled, is_cut_shape}
use Rattle.pv_board.proofs.Piling.{cut_node, node_shape, can_high, can_low, high_there, low_there, short_cut, append_count, pile_count, piled_cut, same_part, can_at}
use Rattle.pv_board.proofs.pile.+pile.Goals as goal

pub high-requires : goal.high-requires
high-requires t c =
    let tree = c.args.paving.now.tree in let h = c.requires in
    let k = cut_node h.part (sym (ap is_cut_shape (node_shape tree c.args.path h.part c.shape_at-shape.result h.is c.shape_at-shape.ensures)) ∙ sym c.is_cut_node.ensures ∙ c.if-not-is_cut_node.false) in
    short_cut tree c.args.path c.args.at (vec_len c.args.free.now) (vec_capacity c.args.free.now) h k c.dims-places.ensures.paving.depth

pub pile-requires : goal.pile-requires
pile-requires t c =
    let tree = c.args.paving.now.tree in let h = c.requires in
    let k = cut_node h.part (sym (ap is_cut_shape (node_shape tree c.args.path h.part c.shape_at-shape.result h.is c.shape_at-shape.ensures)) ∙ sym c.is_cut_node.ensures ∙ c.if-not-is_cut_node.false) in
    let short : length c.args.path < 200 = short_cut tree c.args.path c.args.at (vec_len c.args.free.now) (vec_capacity c.args.free.now) h k c.dims-places.ensures.paving.depth in
    let size : length c.high.result ≡ length c.args.path + 1 = ap length c.high.ensures ∙ length-append c.args.path (true ∷ []) in
    (search rules, can_at tree (c.args.path ++ true ∷ []) c.high.result (c.args.at ++ true ∷ []) c.high-2.result (vec_len c.args.free.now) (vec_capacity c.args.free.now) c.high.ensures c.high-2.ensures (can_high tree c.args.path c.args.at (vec_len c.args.free.now) (vec_capacity c.args.free.now) h k))

pub pile-requires-2 : goal.pile-requires-2
pile-requires-2 t c =
    let tree = c.args.paving.now.tree in let h = c.requires in
    let k = cut_node h.part (sym (ap is_cut_shape (node_shape tree c.args.path h.part c.shape_at-shape.result h.is c.shape_at-shape.ensures)) ∙ sym c.is_cut_node.ensures ∙ c.if-not-is_cut_node.false) in
    let short : length c.args.path < 200 = short_cut tree c.args.path c.args.at (vec_len c.args.free.now) (vec_capacity c.args.free.now) h k c.dims-places.ensures.paving.depth in
    let size : length c.low.result ≡ length c.args.path + 1 = ap length c.low.ensures ∙ length-append c.args.path (false ∷ []) in
    let part = subst (λ (q : List Bool). subtree tree q ≡ Some k.high) (sym c.high.ensures) (high_there tree c.args.path c.args.at (vec_len c.args.free.now) (vec_capacity c.args.free.now) h k) in
    let grown = append_count c.args.free.now.items (piled c.high-2.result k.high) c.pile.new.free.items (c.pile.ensures.piled k.high part) in
    let count = pile_count c.high-2.result k.high in
    let was : vec_len c.args.free.now ≡ length c.args.free.now.items = search rules in
    let is : vec_len c.pile.new.free ≡ length c.pile.new.free.items = search rules in
    let more : vec_len c.pile.new.free ≡ vec_len c.args.free.now + length (opens k.high) = omega (arith, grown, count, was, is) in
    (search rules, can_at tree (c.args.path ++ false ∷ []) c.low.result (c.args.at ++ false ∷ []) c.low-2.result (vec_len c.pile.new.free) (vec_capacity c.pile.new.free) c.low.ensures c.low-2.ensures (can_low tree c.args.path c.args.at (vec_len c.args.free.now) (vec_capacity c.args.free.now) h k _ _ more c.pile.ensures.room))

pub returns-clause-piled : goal.returns-clause-piled
returns-clause-piled t c s is =
    let tree = c.args.paving.now.tree in let h = c.requires in
    let k = cut_node h.part (sym (ap is_cut_shape (node_shape tree c.args.path h.part c.shape_at-shape.result h.is c.shape_at-shape.ensures)) ∙ sym c.is_cut_node.ensures ∙ c.if-not-is_cut_node.false) in
    let short : length c.args.path < 200 = short_cut tree c.args.path c.args.at (vec_len c.args.free.now) (vec_capacity c.args.free.now) h k c.dims-places.ensures.paving.depth in
    let high = subst (λ (q : List Bool). subtree tree q ≡ Some k.high) (sym c.high.ensures) (high_there tree c.args.path c.args.at (vec_len c.args.free.now) (vec_capacity c.args.free.now) h k) in
    let low = subst (λ (q : List Bool). subtree tree q ≡ Some k.low) (sym c.low.ensures) (low_there tree c.args.path c.args.at (vec_len c.args.free.now) (vec_capacity c.args.free.now) h k) in
    piled_cut c.args.at c.high-2.result c.low-2.result c.args.free.now.items c.pile.new.free.items c.pile-2.new.free.items h.part s k (same_part (subtree tree c.args.path) s h.part is h.is) c.high-2.ensures c.low-2.ensures (c.pile.ensures.piled k.high high) (c.pile-2.ensures.piled k.low low)
