-- The rule of the settler whose set is all points with a first coordinate of at least a limit.
use Rattle.std.specs.Prelude.{ℕ, zero, suc, Bool, false, ◌&&◌, if◌then◌else◌, nat_lt, Option, Some, None, List, [], ◌∷◌}
use Rattle.pv_num.specs.Extended.{Extended}
use Rattle.pv_num.specs.Order.{le, lt}
use Rattle.pv_interval.specs.Bounds.{Bounds}
use Rattle.pv_interval.specs.Points.{Point, IsBelow}
use Rattle.pv_box.specs.Choice.{choose_of}
use Rattle.pv_box.specs.declared.choice.Bisector.TheVariants.{Round}
use Rattle.pv_tree.specs.declared.outcome.Outcome.{Outcome}
use Rattle.pv_tree.specs.declared.outcome.Outcome.TheVariants.{Removed, Inner, Small, Cut}

-- some number of the first place is at least the limit
abbrev pub reaches : Extended → List Bounds → Bool
reaches limit [] = false
reaches limit (x ∷ b) = le limit x.hi

-- each number of the first place is at least the limit
abbrev pub is_above : Extended → List Bounds → Bool
is_above limit [] = false
is_above limit (x ∷ b) = le limit x.lo

-- a number is strictly inside a place
abbrev pub cuts_at : Extended → ℕ → List Bounds → Bool
cuts_at a v [] = false
cuts_at a zero (x ∷ b) = lt x.lo a && lt a x.hi
cuts_at a (suc v) (x ∷ b) = cuts_at a v b

abbrev pub cut_if : Bool → List Bounds → ℕ → Extended → Outcome
cut_if inside b v a = if inside then Cut b v a else Small b

abbrev pub cut_at : List Bounds → Option (ℕ × Extended) → Outcome
cut_at b None = Small b
cut_at b (Some c) = cut_if (cuts_at c.1 c.0 b) b c.0 c.1

-- the first so many cuts of a path go to place 1
abbrev pub turn_of : ℕ → ℕ → ℕ
turn_of wide k = if nat_lt k wide then 1 else 0

abbrev pub cut_below : ℕ → ℕ → List Bounds → ℕ → Outcome
cut_below wide zero b k = Small b
cut_below wide (suc d) b k = cut_at b (choose_of Round (turn_of wide k) b)

abbrev pub settle_by : Extended → ℕ → List Bounds → ℕ → ℕ → Outcome
settle_by limit wide b d k = if reaches limit b then (if is_above limit b then Inner b else cut_below wide d b k) else Removed

-- the first coordinate is at least the limit
abbrev pub IsAtLeast : Extended → Point → Type 0
IsAtLeast limit p = elim p.places [ [] ↦ ⊥ | n ∷ ns ↦ IsBelow limit n p.under ]
