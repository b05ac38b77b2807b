-- Marks of constraints: what they say, and what a turn over the constraints makes of them.
use Rattle.std.specs.Prelude.{◌≡◌, ◌⊎◌, ℕ, ◌<◌, Bool, true, false, List, length, Option, Some, slice_index_or}
use Rattle.pv_interval.specs.Bounds.{Bounds}
use Rattle.pv_hc4.specs.Revise.{Sides, revised}
use Rattle.pv_hc4.specs.declared.revised.Revised.{Revised}
use Rattle.pv_hc4.specs.declared.revised.Revised.TheVariants.{Empty}
use Rattle.pv_ctc.specs.Contracting.{side_at}
use Rattle.pv_ctc.specs.Counters.{raised}
use Rattle.pv_ctc.specs.Revisions.{Revision, Passage, is_clean}
use Rattle.pv_ctc.specs.Steps.{IsStep}

-- a revision by each marked constraint would keep the box
abbrev pub AreClean : List Sides → List Bool → List Bounds → Type 0
AreClean ss marks b = (k : ℕ) → k < length ss → slice_index_or marks k false ≡ true → revised (side_at ss k) b ≡ Some b

-- the marked constraints are those that are clean after some revisions
abbrev pub AreMarks : List Sides → List Revision → List Bool → Type 0
AreMarks ss made marks = (k : ℕ) → k < length ss → slice_index_or marks k false ≡ is_clean ss made k

-- a turn that came to t was answered by r: the box is what is left, and marks and count are those of the revisions made
pub record IsTurn (ss : List Sides) (start : Option ℕ) (t : Passage) (r : Revised) (old new : List Bounds) (marks : List Bool) (now : Option ℕ) : Type 0 where
  pub step : IsStep t.left r old new
  pub count : now ≡ raised start (length t.made)
  pub marked : (r ≡ Empty) ⊎ AreMarks ss t.made marks
