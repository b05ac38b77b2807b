-- What is painted at a place of a picture, and what that says of the points of a plane.
use Rattle.std.specs.Prelude.{◌≡◌, ℕ, suc, ◌<◌, ℤ, pos, ◌*ℤ◌, Bool, true, false, ◌&&◌, IsTrue, if◌then◌else◌, Option, Some, None, List, [], ◌∷◌, ◌++◌, length, slice_index_or, All}
use Rattle.std.specs.Ordering.{int_cmp, is_lt}
use Rattle.pv_num.specs.Extended.{Extended, NegInf, Fin, PosInf}
use Rattle.pv_num.specs.Grid.{unit}
use Rattle.pv_interval.specs.Bounds.{Bounds}
use Rattle.pv_interval.specs.Points.{Point, Lies}
use Rattle.pv_tree.specs.Trees.{Tree, Paves}
use Rattle.pv_tree.specs.Sets.{IsSound}
use Rattle.pv_svg.specs.Planes.{Plane, IsPlane, number_of}
use Rattle.pv_svg.specs.Rectangles.{rectangles_of}
use Rattle.pv_svg.specs.declared.rectangle.Class.{Class}
use Rattle.pv_svg.specs.declared.rectangle.Class.TheVariants.{Removed, Inner, Small, OpenLeaf}
use Rattle.pv_svg.specs.declared.rectangle.Rectangle.{Rectangle}

-- A rational place of a plane: two numerators over one denominator.
pub record Spot : Type 0 where
  pub x : ℤ
  pub y : ℤ
  pub under : ℕ

-- n / d is greater than an end.
abbrev pub is_above : Extended → ℤ → ℕ → Bool
is_above NegInf n d = true
is_above (Fin e) n d = is_lt (int_cmp (e *ℤ pos d) (n *ℤ pos unit))
is_above PosInf n d = false

-- n / d is less than an end.
abbrev pub is_below : Extended → ℤ → ℕ → Bool
is_below NegInf n d = false
is_below (Fin e) n d = is_lt (int_cmp (n *ℤ pos unit) (e *ℤ pos d))
is_below PosInf n d = true

abbrev pub strictly_in : Bounds → ℤ → ℕ → Bool
strictly_in b n d = is_above b.lo n d && is_below b.hi n d

-- A rectangle contains a place strictly.
abbrev pub contains : Rectangle → Spot → Bool
contains r spot = strictly_in r.x spot.x spot.under && strictly_in r.y spot.y spot.under

-- What is painted later covers what was painted before.
abbrev pub over : Option Class → Option Class → Option Class
over (Some later) before = Some later
over None before = before

-- The class of the last rectangle of some.
abbrev pub last_class : (Rectangle → Bool) → List Rectangle → Option Class
last_class of_some [] = None
last_class of_some (r ∷ rs) = over (last_class of_some rs) (if of_some r then Some r.class else None)

-- The paint at a place: the class of the last rectangle that contains it strictly.
abbrev pub paint_of : Spot → List Rectangle → Option Class
paint_of spot rs = last_class (λ r. contains r spot) rs

-- The same in words.
abbrev pub NoneContains : Spot → List Rectangle → Type 0
NoneContains spot rs = All (λ r. contains r spot ≡ false) rs

pub record IsLast (spot : Spot) (rs : List Rectangle) (class : Class) : Type 0 where
  pub before : List Rectangle
  pub last : Rectangle
  pub behind : List Rectangle
  pub is : rs ≡ before ++ last ∷ behind
  pub inside : IsTrue (contains last spot)
  pub none : NoneContains spot behind
  pub class_is : class ≡ last.class

abbrev pub PaintIsLast : Type 0
PaintIsLast = (spot : Spot) (rs : List Rectangle) (class : Class) → paint_of spot rs ≡ Some class → IsLast spot rs class

abbrev pub LastIsPaint : Type 0
LastIsPaint = (spot : Spot) (rs : List Rectangle) (class : Class) → IsLast spot rs class → paint_of spot rs ≡ Some class

abbrev pub BareIsUnpainted : Type 0
BareIsUnpainted = (spot : Spot) (rs : List Rectangle) → paint_of spot rs ≡ None → NoneContains spot rs

-- ---- Points of a plane

-- n / d is a finite number.
abbrev pub IsRatio : Extended → ℤ → ℕ → Type 0
IsRatio NegInf n d = ⊥
IsRatio (Fin e) n d = n *ℤ pos unit ≡ e *ℤ pos d
IsRatio PosInf n d = ⊥

-- From place i on, each coordinate over d that is on no axis is the plane's number.
abbrev pub LieOn : Plane → ℕ → List ℤ → ℕ → Type 0
LieOn plane i [] d = Unit {0}
LieOn plane i (n ∷ ns) d = ((i ≡ plane.x → ⊥) → (i ≡ plane.y → ⊥) → IsRatio (number_of plane i) n d) × LieOn plane (suc i) ns d

-- A point of a plane, with so many places.
pub record IsPointOf (plane : Plane) (places : ℕ) (p : Point) : Type 0 where
  pub count : length p.places ≡ places
  pub some : 0 < p.under
  pub numbers : LieOn plane 0 p.places p.under

-- Where a point of a plane lies on it.
abbrev pub spot_of : Plane → Point → Spot
spot_of plane p = record { x = slice_index_or p.places plane.x (pos 0); y = slice_index_or p.places plane.y (pos 0); under = p.under }

-- A place lies on no edge: a rectangle in which it lies contains it strictly.
abbrev pub IsOffEdges : Spot → List Rectangle → Type 0
IsOffEdges spot [] = Unit {0}
IsOffEdges spot (r ∷ rs) =
    (Lies spot.x spot.under r.x → Lies spot.y spot.under r.y → IsTrue (contains r spot)) × IsOffEdges spot rs

-- What a paint says of a point and a set.
abbrev pub Says : Option Class → (Point → Type 0) → Point → Type 0
Says None inside p = Unit {0}
Says (Some Removed) inside p = inside p → ⊥
Says (Some Inner) inside p = inside p
Says (Some Small) inside p = Unit {0}
Says (Some OpenLeaf) inside p = Unit {0}

-- The picture of a sound paving is sound for a set.
abbrev pub PicturesAreSound : (Point → Type 0) → Type 0
PicturesAreSound inside =
    (plane : Plane) (b : List Bounds) (t : Tree) (p : Point) → IsPlane plane (length b) → Paves b t → IsSound inside b t → IsPointOf plane (length b) p
    → IsOffEdges (spot_of plane p) (rectangles_of plane b t) → Says (paint_of (spot_of plane p) (rectangles_of plane b t)) inside p
