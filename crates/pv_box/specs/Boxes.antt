-- Boxes: a list of intervals, place by place.
use Rattle.std.specs.Prelude.{◌≡◌, ℕ, zero, suc, ◌<◌, ◌≤◌, ℤ, Some, None, IsSome, IsTrue, List, [], ◌∷◌, length, slice_index_or, All}
use Rattle.pv_num.specs.Extended.{Extended}
use Rattle.pv_num.specs.Order.{le, lt}
use Rattle.pv_interval.specs.Bounds.{Bounds, IsInterval}
use Rattle.pv_interval.specs.Points.{Lies, Point}
use Rattle.pv_interval.specs.Tables.{hull_of, meet_of}
use Rattle.pv_box.specs.declared.boxes.TheConstants.{MOST_PLACES}

-- some places, but not too many, each an interval
pub record IsBox (b : List Bounds) : Type 0 where
  pub some : 0 < length b
  pub few : length b ≤ MOST_PLACES
  pub intervals : All IsInterval b

abbrev pub LieIn : List ℤ → ℕ → List Bounds → Type 0
LieIn [] d [] = Unit {0}
LieIn [] d (x ∷ xs) = ⊥
LieIn (n ∷ ns) d [] = ⊥
LieIn (n ∷ ns) d (x ∷ xs) = Lies n d x × LieIn ns d xs

-- each coordinate of the point lies in its place of the box
abbrev pub PointIn : Point → List Bounds → Type 0
PointIn p b = LieIn p.places p.under b

-- the box with place v cut off above a number
abbrev pub lower_half : List Bounds → ℕ → Extended → List Bounds
lower_half [] v a = []
lower_half (x ∷ xs) zero a = record { lo = x.lo; hi = a } ∷ xs
lower_half (x ∷ xs) (suc v) a = x ∷ lower_half xs v a

-- the box with place v cut off below a number
abbrev pub upper_half : List Bounds → ℕ → Extended → List Bounds
upper_half [] v a = []
upper_half (x ∷ xs) zero a = record { lo = a; hi = x.hi } ∷ xs
upper_half (x ∷ xs) (suc v) a = x ∷ upper_half xs v a

-- a finite number strictly between the ends
pub record IsInside (a : Extended) (x : Bounds) : Type 0 where
  pub above : IsTrue (lt x.lo a)
  pub below : IsTrue (lt a x.hi)

-- a finite number strictly between the ends of place v
abbrev pub IsInsidePlace : Extended → ℕ → List Bounds → Type 0
IsInsidePlace a v b = IsInside a (slice_index_or b v (record { lo = a; hi = a }))

-- c is what lies in a and in b, place by place
pub record IsMeet (a b c : List Bounds) : Type 0 where
  pub dims : length c ≡ length a
  pub place : (k : ℕ) (d : Bounds) → k < length a → meet_of (slice_index_or a k d) (slice_index_or b k d) ≡ Some (slice_index_or c k d)

-- in each place something lies in both
abbrev pub MeetEachOther : List Bounds → List Bounds → Type 0
MeetEachOther a b = (k : ℕ) (d : Bounds) → k < length a → IsSome (meet_of (slice_index_or a k d) (slice_index_or b k d))

-- in some place nothing lies in both
pub record IsApart (a b : List Bounds) : Type 0 where
  pub at : ℕ
  pub within : at < length a
  pub empty : (d : Bounds) → meet_of (slice_index_or a at d) (slice_index_or b at d) ≡ None

-- a box lies in another, place by place
abbrev pub IsWithin : List Bounds → List Bounds → Type 0
IsWithin [] [] = Unit {0}
IsWithin [] (y ∷ ys) = ⊥
IsWithin (x ∷ xs) [] = ⊥
IsWithin (x ∷ xs) (y ∷ ys) = IsTrue (le y.lo x.lo) × IsTrue (le x.hi y.hi) × IsWithin xs ys

-- the hull of two boxes, place by place
abbrev pub hull_boxes : List Bounds → List Bounds → List Bounds
hull_boxes [] b = []
hull_boxes (x ∷ a) [] = x ∷ a
hull_boxes (x ∷ a) (y ∷ b) = hull_of x y ∷ hull_boxes a b
