-- Which points halves, hulls, meets and q-hulls of boxes keep.
use Rattle.std.specs.Prelude.{◌≡◌, ℕ, zero, suc, ◌<◌, ◌≤◌, ◌⊎◌, All, Option, Some, None, IsSome, List, [], ◌∷◌, length, slice_index_or}
use Rattle.pv_num.specs.Extended.{Extended}
use Rattle.pv_interval.specs.Bounds.{Bounds}
use Rattle.pv_interval.specs.Points.{Point}
use Rattle.pv_box.specs.Boxes.{IsBox, PointIn, lower_half, upper_half, hull_boxes, IsMeet, IsApart}
use Rattle.pv_box.specs.QHull.{column, count_holding, q_hull_of}

-- the point lies in at least q of the boxes
abbrev pub InAtLeast : ℕ → Point → List (List Bounds) → Type 0
InAtLeast zero p bs = Unit {0}
InAtLeast (suc q) p [] = ⊥
InAtLeast (suc q) p (b ∷ bs) = (PointIn p b × InAtLeast q p bs) ⊎ InAtLeast (suc q) p bs

-- the point lies in the box of an answer that is there
abbrev pub PointInSome : Point → Option (List Bounds) → Type 0
PointInSome p None = ⊥
PointInSome p (Some b) = PointIn p b

-- each point of at least q of some boxes with equally many places lies in their q-hull
abbrev pub HullKeepsMembers : Type 0
HullKeepsMembers =
    (q : ℕ) (boxes : List (List Bounds)) (p : Point) → 1 ≤ q
    → All (λ b. length b ≡ length (slice_index_or boxes 0 [])) boxes
    → InAtLeast q p boxes → PointInSome p (q_hull_of q boxes)

-- e is an end of one of the intervals
abbrev pub IsEnd : Extended → List Bounds → Type 0
IsEnd e [] = ⊥
IsEnd e (x ∷ xs) = (e ≡ x.lo) ⊎ ((e ≡ x.hi) ⊎ IsEnd e xs)

-- one of the ends lies in at least q of the intervals
pub record HasEnd (q : ℕ) (xs : List Bounds) : Type 0 where
  pub at : Extended
  pub is : IsEnd at xs
  pub enough : q ≤ count_holding xs at

-- the q-hull is there where each place has such an end
abbrev pub HullIsThere : Type 0
HullIsThere =
    (q : ℕ) (boxes : List (List Bounds)) → 1 ≤ q → All IsBox boxes
    → All (λ b. length b ≡ length (slice_index_or boxes 0 [])) boxes
    → ((k : ℕ) → k < length (slice_index_or boxes 0 []) → HasEnd q (column k boxes)) → IsSome (q_hull_of q boxes)

-- and nowhere else
abbrev pub HullIsMissing : Type 0
HullIsMissing =
    (q : ℕ) (boxes : List (List Bounds)) (k : ℕ) → k < length (slice_index_or boxes 0 [])
    → (HasEnd q (column k boxes) → ⊥) → q_hull_of q boxes ≡ None

-- the halves of a box, wherever it is cut, cover it
abbrev pub HalvesCover : Type 0
HalvesCover =
    (b : List Bounds) (v : ℕ) (a : Extended) (p : Point) → PointIn p b
    → PointIn p (lower_half b v a) ⊎ PointIn p (upper_half b v a)

-- each point of one of two boxes lies in their hull
abbrev pub HullKeepsEither : Type 0
HullKeepsEither =
    (a b : List Bounds) (p : Point) → length a ≡ length b → PointIn p a ⊎ PointIn p b → PointIn p (hull_boxes a b)

-- the meet of two boxes has the points of both, and no other
abbrev pub MeetKeepsCommon : Type 0
MeetKeepsCommon = (a b c : List Bounds) (p : Point) → IsMeet a b c → PointIn p a → PointIn p b → PointIn p c

abbrev pub MeetIsCommon : Type 0
MeetIsCommon =
    (a b c : List Bounds) (p : Point) → length a ≡ length b → IsMeet a b c → PointIn p c → PointIn p a × PointIn p b

-- two boxes that are apart in some place have no point in common
abbrev pub ApartHaveNone : Type 0
ApartHaveNone = (a b : List Bounds) (p : Point) → length a ≡ length b → IsApart a b → PointIn p a → PointIn p b → ⊥
