-- What kept rows open as.
use Rattle.std.specs.Prelude.{◌≡◌, ℕ, List, [], ◌∷◌}
use Rattle.pv_interval.specs.Bounds.{Bounds}
use Rattle.pv_tree.specs.Trees.{Tree, leaf}
use Rattle.pv_tree.specs.Stages.{Rule, IsStage}
use Rattle.pv_file.specs.Readings.{IsPavingInFormat}
use Rattle.pv_keep.specs.declared.row.Row.{Row}
use Rattle.pv_keep.specs.Rows.{rows_of}
use Rattle.pv_keep.specs.Keeping.{Kept, untold, absent, holds}
use Rattle.pv_keep.specs.Rebuilding.{Make, IsFirstBad}
use Rattle.pv_keep.specs.Rounds.{Held, IsHeldStage, AreRounds}

-- Rows make a tree and no other, and none of them is bad.
pub record MakeOnly (b : List Bounds) (rows : List Row) (t : Tree) : Type 0 where
  pub made : Make b leaf rows t
  pub only : (s : Tree) → Make b leaf rows s → s ≡ t
  pub none_bad : (n : ℕ) → IsFirstBad b rows n → ⊥

-- The rows of a paving make that paving and no other.
abbrev pub RowsMakeTheirs : Type 0
RowsMakeTheirs = (b : List Bounds) (t : Tree) → IsPavingInFormat b t → MakeOnly b (rows_of t) t

-- the rows that are told make a tree and no other
abbrev pub KeptMakes : List Bounds → Kept → Tree → Type 0
KeptMakes b untold t = Unit {0}
KeptMakes b absent t = ⊥
KeptMakes b (holds identity rows) t = MakeOnly b rows t

abbrev pub AllKeptMake : List Bounds → List Held → Type 0
AllKeptMake b [] = Unit {0}
AllKeptMake b (held ∷ later) = KeptMakes b held.kept held.tree × AllKeptMake b later

-- Let the stages of an opening be pavings in numbers of the format. Behind each of a list of rounds the rows that are kept make the campaign's tree and no other.
abbrev pub RoundsKeepTheirTrees : Type 0
RoundsKeepTheirTrees = (rule : Rule) (depth : ℕ) (b : List Bounds) (opening : Tree) (held : Held) (later : List Held)
    → ((t : Tree) → IsStage rule depth b opening t → IsPavingInFormat b t)
    → IsHeldStage rule depth b opening held → AreRounds rule depth b opening held later → AllKeptMake b later
