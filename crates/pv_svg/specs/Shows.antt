-- What the text of a picture shows at each pixel, and what that says of the points there.
use Rattle.std.specs.Prelude.{◌≡◌, ◌⊎◌, ℕ, suc, ◌<◌, ℤ, pos, ◌*ℤ◌, ◌+ℤ◌, neg_ℤ, ◌≤ℤ◌, ◌<ℤ◌, Bool, ◌&&◌, IsTrue, Option, Some, None, List, [], ◌∷◌, length}
use Rattle.pv_num.specs.Extended.{Extended, Fin}
use Rattle.pv_num.specs.Grid.{unit}
use Rattle.pv_interval.specs.Bounds.{Bounds, IsInterval}
use Rattle.pv_interval.specs.Points.{Point, Lies}
use Rattle.pv_box.specs.Boxes.{IsBox, PointIn}
use Rattle.pv_tree.specs.Trees.{Tree, Paves}
use Rattle.pv_tree.specs.Sets.{IsSound}
use Rattle.pv_svg.specs.Planes.{Plane, IsPlane, place}
use Rattle.pv_svg.specs.Pixels.{IsFinite, has, side_of}
use Rattle.pv_svg.specs.Rectangles.{IsOnAxes, rectangles_of}
use Rattle.pv_svg.specs.Paints.{Spot, last_class, IsPointOf, spot_of}
use Rattle.pv_svg.specs.declared.rectangle.Class.{Class}
use Rattle.pv_svg.specs.declared.rectangle.Class.TheVariants.{Removed, Inner, Small, OpenLeaf}
use Rattle.pv_svg.specs.declared.rectangle.Rectangle.{Rectangle}
use Rattle.pv_svg.specs.declared.pixel.TheConstants.{PIXELS}

-- A pixel of the picture: its column from the left and its row from the bottom, from 0 to 999.
pub record Pixel : Type 0 where
  pub column : ℕ
  pub row : ℕ

-- The element of a rectangle has a pixel.
abbrev pub covers : Bounds → Bounds → Pixel → Rectangle → Bool
covers x y pixel r = has (side_of r.class x r.x) pixel.column && has (side_of r.class y r.y) pixel.row

-- What a pixel shows: the class of the last rectangle whose element has it.
abbrev pub shown_at : Bounds → Bounds → Pixel → List Rectangle → Option Class
shown_at x y pixel rs = last_class (covers x y pixel) rs

-- ---- Points in a pixel

-- How far n / d lies above a number, times d.
abbrev pub beyond : ℤ → ℤ → ℕ → ℤ
beyond l n d = (n *ℤ pos unit) +ℤ neg_ℤ (l *ℤ pos d)

-- 1000 times how far the lower edge of pixel k of an axis from l to h lies above l, times d.
abbrev pub edge : ℤ → ℤ → ℕ → ℕ → ℤ
edge l h k d = pos k *ℤ ((h +ℤ neg_ℤ l) *ℤ pos d)

-- How the lower edge of pixel k of an axis lies to n / d.
abbrev pub Compares : (ℤ → ℤ → Type 0) → Extended → Extended → ℕ → ℤ → ℕ → Type 0
Compares order (Fin l) (Fin h) k n d = order (edge l h k d) (pos PIXELS *ℤ beyond l n d)
Compares order lo hi k n d = ⊥

-- n / d lies in pixel k of an axis, edges included.
pub record LiesInPixel (axis : Bounds) (k : ℕ) (n : ℤ) (d : ℕ) : Type 0 where
  pub from : Compares (λ a b. a ≤ℤ b) axis.lo axis.hi k n d
  pub to : Compares (λ a b. b ≤ℤ a) axis.lo axis.hi (suc k) n d

-- n / d lies strictly between the edges of pixel k.
pub record LiesWithinPixel (axis : Bounds) (k : ℕ) (n : ℤ) (d : ℕ) : Type 0 where
  pub from : Compares (λ a b. a <ℤ b) axis.lo axis.hi k n d
  pub to : Compares (λ a b. b <ℤ a) axis.lo axis.hi (suc k) n d

abbrev pub SpotIn : Bounds → Bounds → Pixel → Spot → Type 0
SpotIn x y pixel spot = LiesInPixel x pixel.column spot.x spot.under × LiesInPixel y pixel.row spot.y spot.under

abbrev pub SpotWithin : Bounds → Bounds → Pixel → Spot → Type 0
SpotWithin x y pixel spot = LiesWithinPixel x pixel.column spot.x spot.under × LiesWithinPixel y pixel.row spot.y spot.under

-- ---- What a pixel says

-- Each inner rectangle in which a spot lies has the pixel.
abbrev pub InnerFill : Bounds → Bounds → Pixel → Spot → List Rectangle → Type 0
InnerFill x y pixel spot [] = Unit {0}
InnerFill x y pixel spot (r ∷ rs) =
    (r.class ≡ Inner → Lies spot.x spot.under r.x → Lies spot.y spot.under r.y → IsTrue (covers x y pixel r)) × InnerFill x y pixel spot rs

-- A point of a plane, and what the picture of a tree over a box shows at a pixel.
pub record IsPictured (plane : Plane) (b : List Bounds) (t : Tree) (p : Point) (pixel : Pixel) (shows : Option Class) : Type 0 where
  pub of_plane : IsPlane plane (length b)
  pub box : IsBox b
  pub x : IsFinite (place b plane.x)
  pub y : IsFinite (place b plane.y)
  pub paves : Paves b t
  pub point : IsPointOf plane (length b) p
  pub shown : shown_at (place b plane.x) (place b plane.y) pixel (rectangles_of plane b t) ≡ shows

-- All points of a plane in a pixel that shows inner are in the set.
abbrev pub InnerIsInside : (Point → Type 0) → Type 0
InnerIsInside inside =
    (plane : Plane) (b : List Bounds) (t : Tree) (p : Point) (pixel : Pixel) → IsPictured plane b t p pixel (Some Inner) → IsSound inside b t
    → SpotIn (place b plane.x) (place b plane.y) pixel (spot_of plane p) → inside p

-- A point within a pixel that shows removed, or nothing, is not in the set, unless it lies in an inner rectangle that
-- doesn't have the whole pixel.
abbrev pub RemovedIsOutside : (Point → Type 0) → Type 0
RemovedIsOutside inside =
    (plane : Plane) (b : List Bounds) (t : Tree) (p : Point) (pixel : Pixel) → IsPictured plane b t p pixel (Some Removed) → IsSound inside b t
    → SpotWithin (place b plane.x) (place b plane.y) pixel (spot_of plane p)
    → InnerFill (place b plane.x) (place b plane.y) pixel (spot_of plane p) (rectangles_of plane b t) → inside p → ⊥

abbrev pub BareIsOutside : (Point → Type 0) → Type 0
BareIsOutside inside =
    (plane : Plane) (b : List Bounds) (t : Tree) (p : Point) (pixel : Pixel) → IsPictured plane b t p pixel None → IsSound inside b t
    → SpotWithin (place b plane.x) (place b plane.y) pixel (spot_of plane p)
    → InnerFill (place b plane.x) (place b plane.y) pixel (spot_of plane p) (rectangles_of plane b t) → PointIn p b → inside p → ⊥

-- A rectangle between the ends of finite axes, of a class that says nothing of its points.
pub record IsUnsaid (x y : Bounds) (r : Rectangle) : Type 0 where
  pub x_axis : IsFinite x
  pub y_axis : IsFinite y
  pub on_axes : IsOnAxes x y r
  pub x_side : IsInterval r.x
  pub y_side : IsInterval r.y
  pub class : (r.class ≡ Small) ⊎ (r.class ≡ OpenLeaf)

-- A small or open rectangle has a pixel of the picture, and each pixel within which one of its points lies.
pub record HasPixel (x y : Bounds) (r : Rectangle) : Type 0 where
  pub pixel : Pixel
  pub column : pixel.column < PIXELS
  pub row : pixel.row < PIXELS
  pub covered : IsTrue (covers x y pixel r)

abbrev pub UnsaidHasPixel : Type 0
UnsaidHasPixel = (x y : Bounds) (r : Rectangle) → IsUnsaid x y r → HasPixel x y r

abbrev pub UnsaidIsCovered : Type 0
UnsaidIsCovered =
    (x y : Bounds) (r : Rectangle) (pixel : Pixel) (spot : Spot) → IsUnsaid x y r → Lies spot.x spot.under r.x → Lies spot.y spot.under r.y
    → SpotWithin x y pixel spot → IsTrue (covers x y pixel r)
