-- The rectangles that a walk is still to show.
use Rattle.std.specs.Prelude.{List, [], ◌∷◌, ◌++◌}
use Rattle.pv_tree.specs.Pieces.{Piece}
use Rattle.pv_svg.specs.Planes.{Plane}
use Rattle.pv_svg.specs.Rectangles.{rectangles_of}
use Rattle.pv_svg.specs.declared.rectangle.Rectangle.{Rectangle}

abbrev pub still_to_show : Plane → List Piece → List Rectangle
still_to_show plane [] = []
still_to_show plane (piece ∷ pieces) = rectangles_of plane piece.box piece.tree ++ still_to_show plane pieces
