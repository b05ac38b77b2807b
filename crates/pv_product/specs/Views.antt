-- Planes of a system's pavings, and what their pictures say.
use Rattle.std.specs.Prelude.{◌≡◌, ◌≢◌, ◌+◌, ℕ, List, Some, length, map, slice_get}
use Rattle.clap.specs.Words.{Text}
use Rattle.pv_num.specs.Extended.{Extended}
use Rattle.pv_interval.specs.Bounds.{Bounds}
use Rattle.pv_interval.specs.Points.{Point}
use Rattle.pv_expr.specs.Searches.{search_bounds}
use Rattle.pv_expr.specs.Systems.{Parts, HasNoName}
use Rattle.pv_tree.specs.Trees.{Tree}
use Rattle.pv_svg.specs.Planes.{Plane, IsPlane, place}
use Rattle.pv_svg.specs.Pixels.{IsFinite}
use Rattle.pv_svg.specs.Rectangles.{rectangles_of}
use Rattle.pv_svg.specs.Paints.{IsPointOf, IsOffEdges, Says, spot_of, paint_of}

-- the variable of a name, whose domain is bounded
pub record IsAxis (system : Parts) (name : Text) (i : ℕ) : Type 0 where
  pub named : slice_get system.names i ≡ Some name
  pub bounded : IsFinite (place (map search_bounds system.domains) i)

-- there is no variable of this name, or its domain is unbounded
pub data HasNoAxis (system : Parts) (name : Text) : Type 0 where
  unknown : HasNoName name system.names → HasNoAxis system name
  unbounded : (i : ℕ) → slice_get system.names i ≡ Some name → (IsFinite (place (map search_bounds system.domains) i) → ⊥) → HasNoAxis system name

-- the plane of two different variables, with a number for each of the others
pub record IsPlaneOf (system : Parts) (x y : Text) (at : List Extended) (plane : Plane) : Type 0 where
  pub x_is : IsAxis system x plane.x
  pub y_is : IsAxis system y plane.y
  pub at_is : plane.at ≡ at
  pub fits : IsPlane plane (length system.names)

-- why there is no such plane
pub data HasNoPlane (system : Parts) (x y : Text) (at : List Extended) : Type 0 where
  no_x : HasNoAxis system x → HasNoPlane system x y at
  no_y : HasNoAxis system y → HasNoPlane system x y at
  same : x ≡ y → HasNoPlane system x y at
  other_count : length at + 2 ≢ length system.names → HasNoPlane system x y at

-- Off the rectangles' edges the picture speaks truly of the plane's points: where it is painted as inner, the point
-- is in the set, and where as removed, it isn't.
abbrev pub IsSoundFor : (Point → Type 0) → Plane → List Bounds → Tree → Type 0
IsSoundFor inside plane b t =
    (p : Point) → IsPointOf plane (length b) p → IsOffEdges (spot_of plane p) (rectangles_of plane b t)
    → Says (paint_of (spot_of plane p) (rectangles_of plane b t)) inside p
