use Rattle.std.proofs.Common.{◌≡◌, ◌∙◌, ◌++◌, ◌-◌, ◌+◌, sym, ap, subst, arith, length, List, Bool}
use Rattle.std.specs.Prelude.{option_to_list}
use Rattle.pv_tree.specs.Trees.{subtree, settled, box_of}
use Rattle.pv_tree.specs.Stages.{full_of}
use Rattle.pv_board.specs.Core.{Core}
use Rattle.pv_board.specs.Events.{IsSettling, HasRisen, next_step}
use Rattle.pv_board.specs.Leaves.{marks_of, seen}
use Rattle.pv_board.proofs.Takes.{held_open, few_free, current_issued}
use Rattle.pv_board.proofs.Settling.{is_equal, same_mark, due_is, was_settled, one_board, one_is, one_risen, cut_depth}
use Rattle.pv_board.proofs.board.Board.settle.Goals as goal

pub put_in_room-requires-clause-open : goal.put_in_room-requires-clause-open
put_in_room-requires-clause-open g c =
    let a = c.self.inside in
    ap (subtree a.paving.tree) c.path-path.ensures ∙ held_open a.leaves a.paving.tree c.args.ticket.path c.args.ticket.grant c.self.invariant.leaves (is_equal _ _ c.in-Some.ensures.current)

pub put_in_room-requires-clause-fits : goal.put_in_room-requires-clause-fits
put_in_room-requires-clause-fits g c =
    let n = g.N.Naming in let a = c.self.inside in
    let due = due_is n.rule n.depth n.dims n.root n.opening n.budget n.limit a.paving a.leaves a.used a.steps c.path-path.result c.args.outcome c.self.invariant c.dims-places.ensures.paving
    (ap (subtree a.paving.tree) c.path-path.ensures ∙ held_open a.leaves a.paving.tree c.args.ticket.path c.args.ticket.grant c.self.invariant.leaves (is_equal _ _ c.in-Some.ensures.current))
    (subst (λ (q : List Bool). c.args.outcome ≡ n.rule (box_of n.root (full_of n.rule n.depth n.root n.opening 0) q) (n.depth - length q) (length q)) (sym c.path-path.ensures) c.requires.due) in due.fits

pub put_in_room-requires-clause-depth : goal.put_in_room-requires-clause-depth
put_in_room-requires-clause-depth g c =
    let n = g.N.Naming in let a = c.self.inside in
    let due = due_is n.rule n.depth n.dims n.root n.opening n.budget n.limit a.paving a.leaves a.used a.steps c.path-path.result c.args.outcome c.self.invariant c.dims-places.ensures.paving
    (ap (subtree a.paving.tree) c.path-path.ensures ∙ held_open a.leaves a.paving.tree c.args.ticket.path c.args.ticket.grant c.self.invariant.leaves (is_equal _ _ c.in-Some.ensures.current))
    (subst (λ (q : List Bool). c.args.outcome ≡ n.rule (box_of n.root (full_of n.rule n.depth n.root n.opening 0) q) (n.depth - length q) (length q)) (sym c.path-path.ensures) c.requires.due) in due.depth_is

pub put_in_room-requires-clause-room : goal.put_in_room-requires-clause-room
put_in_room-requires-clause-room g c =
    let a = c.self.inside in let held = is_equal _ _ c.in-Some.ensures.current in
    let some = current_issued (marks_of a.leaves) c.args.ticket.path (omega (arith, held)) in
    let room = c.self.invariant.core.room in omega (arith, some, room)

pub offer_children-low-requires-clause-depth : goal.offer_children-low-requires-clause-depth
offer_children-low-requires-clause-depth g c is_cut =
    let n = g.N.Naming in let a = c.self.inside in
    let due = due_is n.rule n.depth n.dims n.root n.opening n.budget n.limit a.paving a.leaves a.used a.steps c.path-path.result c.args.outcome c.self.invariant c.dims-places.ensures.paving
    (ap (subtree a.paving.tree) c.path-path.ensures ∙ held_open a.leaves a.paving.tree c.args.ticket.path c.args.ticket.grant c.self.invariant.leaves (is_equal _ _ c.in-Some.ensures.current))
    (subst (λ (q : List Bool). c.args.outcome ≡ n.rule (box_of n.root (full_of n.rule n.depth n.root n.opening 0) q) (n.depth - length q) (length q)) (sym c.path-path.ensures) c.requires.due) in
    cut_depth c.path-path.result c.args.outcome due.depth_is (sym c.is_cut-cuts.ensures ∙ is_cut)

pub offer_children-low-requires-clause-few : goal.offer_children-low-requires-clause-few
offer_children-low-requires-clause-few g c =
    let n = g.N.Naming in let a = c.self.inside in
    let held = is_equal _ _ c.in-Some.ensures.current in
    let some = current_issued (marks_of a.leaves) c.args.ticket.path (omega (arith, held)) in
    let few = few_free n.rule n.depth n.dims n.root n.opening n.budget n.limit a.paving a.leaves a.used a.steps c.self.invariant in
    let most = c.self.invariant.for_free in let room = c.close.ensures.closed.for_free in
    let same : length c.close.new.self.free.items ≡ length a.leaves.free.items = ap length c.close.ensures.closed.free in
    omega (arith, some, few, most, room, same)

pub invariant_of-self : goal.invariant_of-self
invariant_of-self g c =
    let n = g.N.Naming in let a = c.self.inside in
    let due = due_is n.rule n.depth n.dims n.root n.opening n.budget n.limit a.paving a.leaves a.used a.steps c.path-path.result c.args.outcome c.self.invariant c.dims-places.ensures.paving
    (ap (subtree a.paving.tree) c.path-path.ensures ∙ held_open a.leaves a.paving.tree c.args.ticket.path c.args.ticket.grant c.self.invariant.leaves (is_equal _ _ c.in-Some.ensures.current))
    (subst (λ (q : List Bool). c.args.outcome ≡ n.rule (box_of n.root (full_of n.rule n.depth n.root n.opening 0) q) (n.depth - length q) (length q)) (sym c.path-path.ensures) c.requires.due) in
    let was = was_settled n.rule n.depth n.dims n.root n.opening n.budget n.limit a.paving c.put_in_room.new.self a.leaves c.close.new.self c.offer_children-low.new.self a.used a.steps c.args.ticket c.close.result c.path-path.result c.args.outcome c.is_cut-cuts.result
    c.path-path.ensures (same_mark c.close.result c.args.ticket _ c.close.ensures.mark c.in-Some.ensures.found) c.is_cut-cuts.ensures due (is_equal _ _ c.in-Some.ensures.current) c.close.ensures.closed c.put_in_room.ensures.root c.put_in_room.ensures.tree c.put_in_room.ensures.spare c.offer_children-low.ensures.offered in
    one_board n.rule n.depth n.dims n.root n.opening n.budget n.limit a.paving c.put_in_room.new.self a.leaves c.close.new.self c.offer_children-low.new.self a.used a.steps c.args.ticket c.args.outcome c.self.invariant was _

pub returns-clause-settled : goal.returns-clause-settled
returns-clause-settled g c is_fresh =
    let n = g.N.Naming in let a = c.self.inside in
    let due = due_is n.rule n.depth n.dims n.root n.opening n.budget n.limit a.paving a.leaves a.used a.steps c.path-path.result c.args.outcome c.self.invariant c.dims-places.ensures.paving
    (ap (subtree a.paving.tree) c.path-path.ensures ∙ held_open a.leaves a.paving.tree c.args.ticket.path c.args.ticket.grant c.self.invariant.leaves (is_equal _ _ c.in-Some.ensures.current))
    (subst (λ (q : List Bool). c.args.outcome ≡ n.rule (box_of n.root (full_of n.rule n.depth n.root n.opening 0) q) (n.depth - length q) (length q)) (sym c.path-path.ensures) c.requires.due) in
    let was = was_settled n.rule n.depth n.dims n.root n.opening n.budget n.limit a.paving c.put_in_room.new.self a.leaves c.close.new.self c.offer_children-low.new.self a.used a.steps c.args.ticket c.close.result c.path-path.result c.args.outcome c.is_cut-cuts.result
    c.path-path.ensures (same_mark c.close.result c.args.ticket _ c.close.ensures.mark c.in-Some.ensures.found) c.is_cut-cuts.ensures due (is_equal _ _ c.in-Some.ensures.current) c.close.ensures.closed c.put_in_room.ensures.root c.put_in_room.ensures.tree c.put_in_room.ensures.spare c.offer_children-low.ensures.offered in
    subst (λ (o : Core). IsSettling o (seen c.put_in_room.new.self c.offer_children-low.new.self (a.used + 1) (next_step a.steps)) c.args.ticket (settled c.args.outcome) (option_to_list c.offer_children-low.result.0 ++ option_to_list c.offer_children-low.result.1)) c.self.view_is
    (one_is n.rule n.depth n.dims n.root n.opening n.budget n.limit a.paving c.put_in_room.new.self a.leaves c.close.new.self c.offer_children-low.new.self a.used a.steps c.args.ticket c.args.outcome c.path-path.result c.is_cut-cuts.result
    (option_to_list c.offer_children-low.result.0 ++ option_to_list c.offer_children-low.result.1) c.self.invariant was c.path-path.ensures c.is_cut-cuts.ensures c.offer_children-low.ensures.tickets)

pub returns-clause-rose : goal.returns-clause-rose
returns-clause-rose g c =
    let n = g.N.Naming in let a = c.self.inside in
    let due = due_is n.rule n.depth n.dims n.root n.opening n.budget n.limit a.paving a.leaves a.used a.steps c.path-path.result c.args.outcome c.self.invariant c.dims-places.ensures.paving
    (ap (subtree a.paving.tree) c.path-path.ensures ∙ held_open a.leaves a.paving.tree c.args.ticket.path c.args.ticket.grant c.self.invariant.leaves (is_equal _ _ c.in-Some.ensures.current))
    (subst (λ (q : List Bool). c.args.outcome ≡ n.rule (box_of n.root (full_of n.rule n.depth n.root n.opening 0) q) (n.depth - length q) (length q)) (sym c.path-path.ensures) c.requires.due) in
    let was = was_settled n.rule n.depth n.dims n.root n.opening n.budget n.limit a.paving c.put_in_room.new.self a.leaves c.close.new.self c.offer_children-low.new.self a.used a.steps c.args.ticket c.close.result c.path-path.result c.args.outcome c.is_cut-cuts.result
    c.path-path.ensures (same_mark c.close.result c.args.ticket _ c.close.ensures.mark c.in-Some.ensures.found) c.is_cut-cuts.ensures due (is_equal _ _ c.in-Some.ensures.current) c.close.ensures.closed c.put_in_room.ensures.root c.put_in_room.ensures.tree c.put_in_room.ensures.spare c.offer_children-low.ensures.offered in
    subst (λ (o : Core). HasRisen o (seen c.put_in_room.new.self c.offer_children-low.new.self (a.used + 1) (next_step a.steps)) 1) c.self.view_is
    (one_risen n.rule n.depth n.dims n.root n.opening n.budget n.limit a.paving c.put_in_room.new.self a.leaves c.close.new.self c.offer_children-low.new.self a.used a.steps (next_step a.steps) c.args.ticket c.args.outcome c.self.invariant was)
