-- The rectangles that a paving shows on a plane.
use Rattle.std.specs.Prelude.{Bool, ◌&&◌, if◌then◌else◌, IsTrue, List, [], ◌∷◌, ◌++◌, All}
use Rattle.std.specs.Ordering.{eq_by_cmp}
use Rattle.pv_num.specs.Order.{order_of, le}
use Rattle.pv_interval.specs.Bounds.{Bounds}
use Rattle.pv_box.specs.Boxes.{lower_half, upper_half}
use Rattle.pv_tree.specs.Trees.{Tree, leaf, removed, inner, small, cut}
use Rattle.pv_svg.specs.Planes.{Plane, place, meets}
use Rattle.pv_svg.specs.Pixels.{IsFinite}
use Rattle.pv_svg.specs.declared.rectangle.Class.{Class}
use Rattle.pv_svg.specs.declared.rectangle.Class.TheVariants.{Removed, Inner, Small, OpenLeaf}
use Rattle.pv_svg.specs.declared.rectangle.Rectangle.{Rectangle}

-- The part of a plane that a box takes up.
abbrev pub rectangle_of : Plane → List Bounds → Class → Rectangle
rectangle_of plane b class = record { x = place b plane.x; y = place b plane.y; class = class }

abbrev pub same_bounds : Bounds → Bounds → Bool
same_bounds a b = eq_by_cmp order_of a.lo b.lo && eq_by_cmp order_of a.hi b.hi

-- A part of a box is seen, and takes up all that the box does of the plane.
abbrev pub fills : Plane → List Bounds → List Bounds → Bool
fills plane to b = meets plane to && (same_bounds (place to plane.x) (place b plane.x) && same_bounds (place to plane.y) (place b plane.y))

-- A box, as removed, unless what is kept of it fills it.
abbrev pub cast_off : Plane → List Bounds → List Bounds → List Rectangle
cast_off plane b to = if fills plane to b then [] else rectangle_of plane b Removed ∷ []

-- What is kept of a box, where it is seen.
abbrev pub kept : Plane → List Bounds → Class → List Rectangle
kept plane to class = if meets plane to then rectangle_of plane to class ∷ [] else []

-- What a node shows whose box is seen, without what its children show.
abbrev pub shown : Plane → List Bounds → Tree → List Rectangle
shown plane b leaf = rectangle_of plane b OpenLeaf ∷ []
shown plane b removed = rectangle_of plane b Removed ∷ []
shown plane b (inner to) = cast_off plane b to ++ kept plane to Inner
shown plane b (small to) = cast_off plane b to ++ kept plane to Small
shown plane b (cut to var at low high) = cast_off plane b to

-- What a node shows, without what its children show.
abbrev pub seen : Plane → List Bounds → Tree → List Rectangle
seen plane b t = if meets plane b then shown plane b t else []

-- What a tree over a box shows: its nodes in preorder, where a node whose box isn't seen is left out with all below it.
abbrev pub rectangles_of : Plane → List Bounds → Tree → List Rectangle
rectangles_of plane b leaf = seen plane b leaf
rectangles_of plane b removed = seen plane b removed
rectangles_of plane b (inner to) = seen plane b (inner to)
rectangles_of plane b (small to) = seen plane b (small to)
rectangles_of plane b (cut to var at low high) =
    if meets plane b
    then shown plane b (cut to var at low high)
    ++ (rectangles_of plane (lower_half to var at) low ++ rectangles_of plane (upper_half to var at) high)
    else []

-- What contracts see of a picture: the axes and the rectangles, of which a later one is painted over the earlier ones.
pub record Drawn : Type 0 where
  pub x : Bounds
  pub y : Bounds
  pub rectangles : List Rectangle

-- The picture of a tree over a box on a plane.
abbrev pub picture_of : Plane → List Bounds → Tree → Drawn
picture_of plane b t = record { x = place b plane.x; y = place b plane.y; rectangles = rectangles_of plane b t }

-- An interval lies in another one.
abbrev pub LiesWithin : Bounds → Bounds → Type 0
LiesWithin axis part = IsTrue (le axis.lo part.lo) × IsTrue (le part.hi axis.hi)

abbrev pub IsOnAxes : Bounds → Bounds → Rectangle → Type 0
IsOnAxes x y r = LiesWithin x r.x × LiesWithin y r.y

-- A picture's axes are finite, and its rectangles lie between their ends.
pub record IsPicture (d : Drawn) : Type 0 where
  pub x : IsFinite d.x
  pub y : IsFinite d.y
  pub rectangles : All (IsOnAxes d.x d.y) d.rectangles
