use Rattle.std.proofs.Common.{◌≡◌, ◌++◌, length}
use Rattle.pv_tree.specs.Pieces.{to_come}
use Rattle.pv_svg.specs.Rectangles.{rectangles_of}
use Rattle.pv_svg.specs.Pieces.{still_to_show}
use Rattle.pv_svg.proofs.slicing.slice.Given as goal

abbrev pub invariant-loop-shape : goal.invariant-loop-shape
invariant-loop-shape l = record {
  root : l.walk.root ≡ l.fn.p.root;
  plane : l.plane ≡ record { x = l.fn.x; y = l.fn.y; at = l.fn.at };
  bx : length l.bx ≡ length l.fn.p.root;
  to : length l.to ≡ length l.fn.p.root;
  shown : rectangles_of l.plane l.fn.p.root l.fn.p.tree ≡ l.rectangles.items ++ still_to_show l.plane l.walk.pending;
}

abbrev pub decreases-loop-shape : goal.decreases-loop-shape
decreases-loop-shape l = to_come l.walk.pending
