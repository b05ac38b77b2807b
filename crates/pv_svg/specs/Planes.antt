-- Planes that cut a box in two of its places.
use Rattle.std.specs.Prelude.{◌≢◌, ◌≡◌, ℕ, suc, ◌+◌, ◌-◌, ◌<◌, ◌==◌, nat_lt, pos, Bool, true, ◌&&◌, ◌||◌, if◌then◌else◌, List, [], ◌∷◌, length, slice_index_or}
use Rattle.pv_num.specs.Extended.{Extended, Fin}
use Rattle.pv_interval.specs.Bounds.{Bounds, everything}
use Rattle.pv_interval.specs.Tables.{holds}

-- Two places are a plane's axes, and each other place has a number, in the places' order.
pub record Plane : Type 0 where
  pub x : ℕ
  pub y : ℕ
  pub at : List Extended

-- A plane of boxes with so many places.
pub record IsPlane (plane : Plane) (places : ℕ) : Type 0 where
  pub x : plane.x < places
  pub y : plane.y < places
  pub two : plane.x ≢ plane.y
  pub others : length plane.at + 2 ≡ places

-- The interval of a place.
abbrev pub place : List Bounds → ℕ → Bounds
place b i = slice_index_or b i everything

-- How many axes stand before a place.
abbrev pub axes_before : Plane → ℕ → ℕ
axes_before plane i = (if nat_lt plane.x i then 1 else 0) + (if nat_lt plane.y i then 1 else 0)

-- The number of a place that is no axis.
abbrev pub number_of : Plane → ℕ → Extended
number_of plane i = slice_index_or plane.at (i - axes_before plane i) (Fin (pos 0))

-- A place is an axis, or its number lies in an interval, ends included.
abbrev pub meets_place : Plane → ℕ → Bounds → Bool
meets_place plane i b = (i == plane.x) || ((i == plane.y) || holds b (number_of plane i))

-- The same of each place from place i on.
abbrev pub meets_from : Plane → ℕ → List Bounds → Bool
meets_from plane i [] = true
meets_from plane i (b ∷ bs) = meets_place plane i b && meets_from plane (suc i) bs

-- The plane goes through a box.
abbrev pub meets : Plane → List Bounds → Bool
meets plane b = meets_from plane 0 b
