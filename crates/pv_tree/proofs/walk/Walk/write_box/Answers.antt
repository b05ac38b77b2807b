use Rattle.std.proofs.Common.{◌≡◌, length, sym, ◌∙◌, ap}
use Rattle.pv_tree.proofs.Stacks.{stop_halves, stop_box, here_piece}
use Rattle.pv_tree.proofs.walk.Walk.write_box.Goals as goal
use Rattle.pv_tree.proofs.walk.Walk.write_box.Goals.{After-write_stop_box}

written : (c : After-write_stop_box) → c.write_stop_box.new.into ≡ c.args.self.now.here.box
written c =
    let dims : length c.args.into.now ≡ length c.self.inside.root.now = c.requires ∙ sym (ap (λ w. length w.root) c.self.view_is) in
    stop_box c.self.inside.root.now c.self.inside.ends.now c.self.inside.nodes.now c.self.invariant.counts c.self.invariant.whole c.self.inside.here c.self.invariant.here
    (length c.args.into.now) dims c.write_stop_box.new.into c.write_stop_box.ensures.root c.write_stop_box.ensures.half
    ∙ ap (λ w. w.here.box) c.self.view_is

pub write_stop_box-requires-clause-halves : goal.write_stop_box-requires-clause-halves
write_stop_box-requires-clause-halves c =
    stop_halves c.self.inside.root.now c.self.inside.ends.now c.self.inside.nodes.now c.self.invariant.counts c.self.invariant.whole c.self.inside.here c.self.invariant.here
    (length c.args.into.now) (c.requires ∙ sym (ap (λ w. length w.root) c.self.view_is))

pub returns-clause-is : goal.returns-clause-is
returns-clause-is c = written c

pub returns-clause-places : goal.returns-clause-places
returns-clause-places c =
    let piece = here_piece c.self.inside.root.now c.self.inside.ends.now c.self.inside.nodes.now c.self.inside.here c.self.inside.stops.items _ c.self.invariant in
    ap length (written c) ∙ sym (ap (λ w. length w.here.box) c.self.view_is) ∙ piece.dims ∙ ap (λ w. length w.root) c.self.view_is ∙ sym c.requires
