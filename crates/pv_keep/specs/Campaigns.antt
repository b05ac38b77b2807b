-- What opening a campaign and saving a round leave of a name.
use Rattle.std.specs.Prelude.{◌≡◌, ◌⊎◌, ℕ, ◌<◌, ◌≤◌, Bool, List, [], length, Option, Some}
use Rattle.pv_interval.specs.Bounds.{Bounds}
use Rattle.pv_tree.specs.Trees.{Tree, leaf, opens}
use Rattle.pv_tree.specs.Stages.{Rule, Grows, IsStage}
use Rattle.pv_keep.specs.Rows.{rows_of}
use Rattle.pv_keep.specs.Keeping.{Kept, untold, absent, holds}
use Rattle.pv_keep.specs.Rebuilding.{Make, IsFirstBad}

-- A campaign was opened: an absent name is there with no rows and its tree is an open leaf, or the tree is that of the rows,
-- which are no more than the limit.
abbrev pub IsOpened : ℕ → Kept → Kept → List ℕ → List Bounds → Tree → Type 0
IsOpened limit untold after identity b t = after ≡ untold
IsOpened limit absent after identity b t = (after ≡ holds identity []) × (t ≡ leaf)
IsOpened limit (holds kept rows) after identity b t =
    (kept ≡ identity) × ((after ≡ holds kept rows) × ((rows ≡ rows_of t) × (Make b leaf rows t × (length rows ≤ limit))))

-- What a refused opening leaves: all as before, or an absent name that is there now with no rows.
abbrev pub IsLeft : Kept → Kept → List ℕ → Type 0
IsLeft untold after identity = after ≡ untold
IsLeft absent after identity = (after ≡ absent) ⊎ (after ≡ holds identity [])
IsLeft (holds kept rows) after identity = after ≡ holds kept rows

-- a name has this identity and more rows than the limit
abbrev pub HasTooMany : ℕ → Kept → List ℕ → Type 0
HasTooMany limit untold identity = Unit {0}
HasTooMany limit absent identity = ⊥
HasTooMany limit (holds kept rows) identity = (kept ≡ identity) × (limit < length rows)

-- a name has this identity and no more rows than the limit, of which row n is the first bad one
abbrev pub HasBadRow : ℕ → Kept → List ℕ → List Bounds → ℕ → Type 0
HasBadRow limit untold identity b n = Unit {0}
HasBadRow limit absent identity b n = ⊥
HasBadRow limit (holds kept rows) identity b n = (kept ≡ identity) × ((length rows ≤ limit) × IsFirstBad b rows n)

-- the rows that are told are those of a tree
abbrev pub KeepsTree : Kept → Tree → Type 0
KeepsTree untold t = Unit {0}
KeepsTree absent t = ⊥
KeepsTree (holds identity rows) t = rows ≡ rows_of t

-- the rows became those of a tree
abbrev pub IsSaved : Kept → Kept → Tree → Type 0
IsSaved untold after t = after ≡ untold
IsSaved absent after t = ⊥
IsSaved (holds identity rows) after t = after ≡ holds identity (rows_of t)

-- Two trees are stages of one opening, by one rule.
pub record AreStages (b : List Bounds) (s t : Tree) : Type 0 where
  pub rule : Rule
  pub depth : ℕ
  pub opening : Tree
  pub first : IsStage rule depth b opening s
  pub second : IsStage rule depth b opening t

-- A tree grew from one whose open leaves were these and whose rows are told of the name that is begun.
pub record HasGrown (begun : Option (List ℕ)) (kept : List ℕ → Kept) (open_leaves : List (List Bool)) (t : Tree) : Type 0 where
  pub earlier : Tree
  pub leaves : open_leaves ≡ opens earlier
  pub grows : Grows earlier t
  pub keeps : (name : List ℕ) → begun ≡ Some name → KeepsTree (kept name) earlier
