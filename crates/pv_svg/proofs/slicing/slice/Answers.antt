use Rattle.std.proofs.Common.{rules, ◌∙◌, ap}
use Rattle.pv_svg.specs.Rectangles.{rectangles_of}
use Rattle.pv_svg.proofs.Showing.{one_shown, all_shown, root_box, place_is, good_picture}
use Rattle.pv_svg.proofs.slicing.slice.Goals as goal

pub loop-shape-preserved : goal.loop-shape-preserved
loop-shape-preserved c =
    let visit = c.in-Some.ensures.visit in record {
      root = search rules;
      plane = search rules;
      bx = search rules;
      to = search rules;
      shown = one_shown c.of-plane.result c.next.new.self.here _ _ visit.rest _ _ _ c.in-Some.ensures.piece.paves visit.was visit.pending c.loop-shape.invariant.shown
          c.in_ok-push_node.ensures.seen;
    }

pub invariant_of-result : goal.invariant_of-result
invariant_of-result c =
    let shown = all_shown c.of-plane.result _ _ _ (c.next.ensures.over c.in_default.is) c.loop-shape.invariant.shown in
    let root = root_box c.args.p.now.root _ c.args.p.now.tree _ c.box_at.ensures.is c.root.ensures in
    good_picture (record { x = c.args.x; y = c.args.y; at = c.args.at.now }) c.args.p.now.root c.args.p.now.tree _ _ _ c.dims.ensures.paving.paves c.requires.x_finite
    c.requires.y_finite (place_is c.args.p.now.root _ c.args.x _ c.requires.x root c.get.ensures.value)
    (place_is c.args.p.now.root _ c.args.y _ c.requires.y root c.get-2.ensures.value)
    (shown ∙ ap (λ p. rectangles_of p c.args.p.now.root c.args.p.now.tree) c.of-plane.ensures)
