use Rattle.std.proofs.Common.{◌<◌, sym, ◌∙◌, ap, subst, length, arith}
use Rattle.std.proofs.lemmas.List.{get_or_read}
use Rattle.pv_tree.specs.Arena.{open_node, shape_of_cell, whole_tree}
use Rattle.pv_tree.specs.Pieces.{IsVisit}
use Rattle.pv_tree.specs.Stops.{walked}
use Rattle.pv_tree.proofs.Wholes.{whole_kids}
use Rattle.pv_tree.proofs.Stacks.{top_stop, top_short, top_room, next_walk, next_visit, next_piece, here_piece}
use Rattle.pv_tree.proofs.walk.Walk.next.Goals as goal

pub returns-in_err-here-clause-piece : goal.returns-in_err-here-clause-piece
returns-in_err-here-clause-piece c = here_piece c.self.inside.root.now c.self.inside.ends.now c.self.inside.nodes.now c.self.inside.here c.self.inside.stops.items _ c.self.invariant

pub push_kids-requires-clause-kids : goal.push_kids-requires-clause-kids
push_kids-requires-clause-kids c = whole_kids _ _ _ _ c.self.invariant.whole

pub push_kids-requires-clause-there : goal.push_kids-requires-clause-there
push_kids-requires-clause-there c = (top_stop c.self.inside.root.now c.self.inside.ends.now c.self.inside.nodes.now c.self.inside.here c.self.inside.stops.items c.pop.new.self.items c.in_ok-here.here _ c.self.invariant c.in_ok-here.ensures.items).there

pub push_kids-requires-clause-short : goal.push_kids-requires-clause-short
push_kids-requires-clause-short c = top_short c.self.inside.root.now c.self.inside.ends.now c.self.inside.nodes.now c.self.inside.here c.self.inside.stops.items c.pop.new.self.items c.in_ok-here.here _ c.self.invariant c.in_ok-here.ensures.items

pub push_kids-requires-clause-room : goal.push_kids-requires-clause-room
push_kids-requires-clause-room c = λ k e. top_room c.self.inside.root.now c.self.inside.ends.now c.self.inside.nodes.now c.self.inside.here c.self.inside.stops.items c.pop.new.self.items c.in_ok-here.here _ c.self.invariant c.in_ok-here.ensures.items k _ _ e c.pop.new.self.ok.0 c.pop.ensures.capacity

pub offset_bounds-self-inside-here : goal.offset_bounds-self-inside-here
offset_bounds-self-inside-here c =
    let there : c.in_ok-here.here.at < length c.self.inside.nodes.now = (top_stop c.self.inside.root.now c.self.inside.ends.now c.self.inside.nodes.now c.self.inside.here c.self.inside.stops.items c.pop.new.self.items c.in_ok-here.here _ c.self.invariant c.in_ok-here.ensures.items).there in
    omega (arith, there)

pub bounds-self-inside-here : goal.bounds-self-inside-here
bounds-self-inside-here c = (top_stop c.self.inside.root.now c.self.inside.ends.now c.self.inside.nodes.now c.self.inside.here c.self.inside.stops.items c.pop.new.self.items c.in_ok-here.here _ c.self.invariant c.in_ok-here.ensures.items).there

pub invariant_of-self-2 : goal.invariant_of-self-2
invariant_of-self-2 c = next_walk c.self.inside.root.now c.self.inside.ends.now c.self.inside.nodes.now c.self.inside.here c.self.inside.stops.items c.pop.new.self.items c.in_ok-here.here _ c.self.invariant c.in_ok-here.ensures.items _ _ c.push_kids.ensures.items (c.push_kids.ensures.capacity ∙ c.pop.ensures.capacity)

pub returns-clause-visit : goal.returns-clause-visit
returns-clause-visit c =
    let there : c.in_ok-here.here.at < length c.self.inside.nodes.now = (top_stop c.self.inside.root.now c.self.inside.ends.now c.self.inside.nodes.now c.self.inside.here c.self.inside.stops.items c.pop.new.self.items c.in_ok-here.here _ c.self.invariant c.in_ok-here.ensures.items).there in
    let cell = get_or_read c.self.inside.nodes.now c.in_ok-here.here.at c.index-self-here.result there c.index-self-here.is open_node in
    subst (λ w. IsVisit w (walked c.self.inside.root.now (whole_tree (length c.self.inside.root.now) c.self.inside.ends.now c.self.inside.nodes.now) c.in_ok-here.here c.push_kids.new.stops.items) c.cell_shape.result) c.self.view_is
    (next_visit c.self.inside.root.now c.self.inside.ends.now c.self.inside.nodes.now c.self.inside.here c.self.inside.stops.items c.pop.new.self.items c.in_ok-here.here _ c.self.invariant c.in_ok-here.ensures.items c.push_kids.new.stops.items c.cell_shape.result c.push_kids.ensures.items (c.cell_shape.ensures ∙ ap (λ n. shape_of_cell n.cell) (sym c.index-self-here.is ∙ cell)))

pub returns-clause-piece : goal.returns-clause-piece
returns-clause-piece c = next_piece c.self.inside.root.now c.self.inside.ends.now c.self.inside.nodes.now c.self.inside.here c.self.inside.stops.items c.pop.new.self.items c.in_ok-here.here _ c.self.invariant c.in_ok-here.ensures.items
