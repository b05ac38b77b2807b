-- The q-hull of boxes: in each place, from the least lower end to the greatest upper end that lie in at least q of the
-- intervals.
use Rattle.std.specs.Prelude.{ℕ, zero, suc, ◌+◌, Bool, true, false, nat_le, Option, Some, None, option_and_then, List, [], ◌∷◌, length, slice_index_or, if◌then◌else◌}
use Rattle.pv_num.specs.Extended.{Extended}
use Rattle.pv_num.specs.Order.{lesser, greater}
use Rattle.pv_interval.specs.Bounds.{Bounds, everything, interval_from}
use Rattle.pv_interval.specs.Tables.{holds}

-- the interval that each box has in place k
abbrev pub column : ℕ → List (List Bounds) → List Bounds
column k [] = []
column k (b ∷ bs) = slice_index_or b k everything ∷ column k bs

-- how many of the intervals hold e
abbrev pub count_holding : List Bounds → Extended → ℕ
count_holding [] e = 0
count_holding (x ∷ xs) e = (if holds x e then 1 else 0) + count_holding xs e

-- e lies in at least q of the intervals
abbrev pub is_in_enough : ℕ → List Bounds → Extended → Bool
is_in_enough q xs e = nat_le q (count_holding xs e)

abbrev pub lower_of : Bool → Extended → Option Extended → Option Extended
lower_of false e best = best
lower_of true e None = Some e
lower_of true e (Some f) = Some (lesser e f)

abbrev pub upper_of : Bool → Extended → Option Extended → Option Extended
upper_of false e best = best
upper_of true e None = Some e
upper_of true e (Some f) = Some (greater e f)

-- the least of the lower ends of some intervals that lies in at least q of all
abbrev pub least_end : ℕ → List Bounds → List Bounds → Option Extended
least_end q all [] = None
least_end q all (x ∷ xs) = lower_of (is_in_enough q all x.lo) x.lo (least_end q all xs)

-- the greatest of the upper ends of some intervals that lies in at least q of all
abbrev pub greatest_end : ℕ → List Bounds → List Bounds → Option Extended
greatest_end q all [] = None
greatest_end q all (x ∷ xs) = upper_of (is_in_enough q all x.hi) x.hi (greatest_end q all xs)

-- the q-hull of intervals; None where no end lies in at least q of them
unfoldable pub place_hull_of : ℕ → List Bounds → Option Bounds
place_hull_of q xs = option_and_then (λ l. option_and_then (λ h. interval_from l h) (greatest_end q xs xs)) (least_end q xs xs)

-- the q-hulls of n places from place k on
abbrev pub places_from : ℕ → ℕ → ℕ → List (List Bounds) → Option (List Bounds)
places_from q k zero boxes = Some []
places_from q k (suc n) boxes =
    option_and_then (λ x. option_and_then (λ xs. Some (x ∷ xs)) (places_from q (k + 1) n boxes)) (place_hull_of q (column k boxes))

-- None where a place has no such end
unfoldable pub q_hull_of : ℕ → List (List Bounds) → Option (List Bounds)
q_hull_of q boxes = places_from q 0 (length (slice_index_or boxes 0 [])) boxes
