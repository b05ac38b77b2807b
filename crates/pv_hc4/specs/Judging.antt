-- What a revision that tells what it saw answers.
use Rattle.std.specs.Prelude.{◌≡◌, ◌↔◌, ℕ, ◌<◌, Bool, true, false, IsFalse, List, length}
use Rattle.pv_interval.specs.Bounds.{Bounds}
use Rattle.pv_hc4.specs.Chain.{at}
use Rattle.pv_hc4.specs.MarkSets.{is_marked}
use Rattle.pv_hc4.specs.declared.marks.Marks.{Marks}
use Rattle.pv_hc4.specs.declared.judge.Judged.{Judged}
use Rattle.pv_hc4.specs.declared.judge.Judged.TheVariants.{Sure, Kept, Changed, Empty}
use Rattle.pv_hc4.specs.declared.revised.Revised.{Revised}
use Rattle.pv_hc4.specs.declared.revised.Revised.TheVariants as done

-- what it did to the box
abbrev pub revised_by : Judged → Revised
revised_by Sure = done.Kept
revised_by Kept = done.Kept
revised_by (Changed m) = done.Changed
revised_by Empty = done.Empty

-- the constraint was found to be sure
abbrev pub is_sure_by : Judged → Bool
is_sure_by Sure = true
is_sure_by Kept = false
is_sure_by (Changed m) = false
is_sure_by Empty = false

-- the places without a mark are those that are as they were
abbrev pub AreChanged : Marks → List Bounds → List Bounds → Type 0
AreChanged m old new = (i : ℕ) → i < length old → IsFalse (is_marked m i) ↔ (at new i ≡ at old i)

abbrev pub MarksChanged : Judged → List Bounds → List Bounds → Type 0
MarksChanged Sure old new = Unit {0}
MarksChanged Kept old new = Unit {0}
MarksChanged (Changed m) old new = AreChanged m old new
MarksChanged Empty old new = Unit {0}
