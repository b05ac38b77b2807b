-- Which constraints have a variable.
use Rattle.std.specs.Prelude.{◌≡◌, ℕ, ◌<◌, Bool, false, List, [], length, slice_index_or}
use Rattle.pv_hc4.specs.MarkSets.{is_marked}
use Rattle.pv_hc4.specs.declared.marks.Marks.{Marks}
use Rattle.pv_hc4.specs.Revise.{Sides}
use Rattle.pv_ctc.specs.Contracting.{side_at}
use Rattle.pv_ctc.specs.Uses.{has_variable}
use Rattle.pv_box.specs.declared.boxes.TheConstants.{MOST_PLACES}

abbrev pub no_marks : Marks
no_marks = record { word = 0 }

-- constraint k is among the marked ones of variable v
abbrev pub has_user : List Marks → ℕ → ℕ → Bool
has_user users v k = is_marked (slice_index_or users v no_marks) k

-- the constraints' variables, turned round
abbrev pub AreTurned : List Marks → List (List Bool) → Type 0
AreTurned users uses = (v k : ℕ) → v < MOST_PLACES → k < length uses → has_user users v k ≡ slice_index_or (slice_index_or uses k []) v false

-- of each of the first 12 variables the constraints that have it
abbrev pub AreUsers : List Marks → List Sides → Type 0
AreUsers users ss = (v k : ℕ) → v < MOST_PLACES → k < length ss → has_user users v k ≡ has_variable v (side_at ss k)
