-- Which rows make a tree, and which row is the first bad one.
use Rattle.std.specs.Prelude.{◌≡◌, ◌⊎◌, ℕ, List, [], ◌∷◌, ◌++◌, length, Bool, true, false, Option, Some, None}
use Rattle.pv_interval.specs.Bounds.{Bounds}
use Rattle.pv_tree.specs.Trees.{Tree, leaf, subtree, box_of, graft, settled, HasDepth}
use Rattle.pv_tree.specs.Holes.{Hole, Growing, holes_below}
use Rattle.pv_tree.specs.declared.outcome.Outcome.{Outcome}
use Rattle.pv_file.specs.Lines.{outcome_line}
use Rattle.pv_file.specs.Readings.{IsRightFor}
use Rattle.pv_keep.specs.declared.row.Row.{Row}

-- An outcome may stand at a path of a box: its numbers and its geometry are right, and it is no cut behind 200 steps.
pub record MayStand (p : List Bool) (b : List Bounds) (o : Outcome) : Type 0 where
  pub right : IsRightFor b o
  pub depth : HasDepth p o

-- A row's path is an open leaf of a tree over a box, and its line is that of an outcome that may stand there.
pub record IsGoodRow (b : List Bounds) (t : Tree) (row : Row) (o : Outcome) : Type 0 where
  pub is_leaf : subtree t row.path ≡ Some leaf
  pub stands : MayStand row.path (box_of b t row.path) o
  pub line : row.line ≡ outcome_line o

abbrev pub IsBadRow : List Bounds → Tree → Row → Type 0
IsBadRow b t row = (o : Outcome) → IsGoodRow b t row o → ⊥

-- Rows, each settling an open leaf of what those before it made, make one tree of another.
abbrev pub Make : List Bounds → Tree → List Row → Tree → Type 0
Make b s [] t = t ≡ s
Make b s (row ∷ rows) t = (o : Outcome) × (IsGoodRow b s row o × Make b (graft s row.path (settled o)) rows t)

-- Row n, counted from 0, is the first that is bad for what those before it make.
pub record IsFirstBad (b : List Bounds) (rows : List Row) (n : ℕ) : Type 0 where
  pub front : List Row
  pub row : Row
  pub rest : List Row
  pub are : rows ≡ front ++ row ∷ rest
  pub number : length front ≡ n
  pub tree : Tree
  pub made : Make b leaf front tree
  pub bad : IsBadRow b tree row

-- a path is that of a leaf to come
abbrev pub IsToCome : List Bool → List Hole → Type 0
IsToCome p [] = ⊥
IsToCome p (hole ∷ holes) = (p ≡ hole.path) ⊎ IsToCome p holes

-- the line of an outcome that may stand at a path of a box, if it is one
abbrev pub IsReading : List Bool → List Bounds → List ℕ → Option Outcome → Type 0
IsReading p b line None = (o : Outcome) → MayStand p b o → line ≡ outcome_line o → ⊥
IsReading p b line (Some o) = MayStand p b o × (line ≡ outcome_line o)

-- the leaves to come before a path's were passed
abbrev pub IsPassed : List Hole → List Hole → Type 0
IsPassed old new = (passed : List Hole) × (old ≡ passed ++ new)

-- A row was put at its leaf, and the leaves to come before it were passed.
pub record IsPut (old new : Growing) (row : Row) : Type 0 where
  pub outcome : Outcome
  pub good : IsGoodRow old.root old.tree row outcome
  pub root : new.root ≡ old.root
  pub tree : new.tree ≡ graft old.tree row.path (settled outcome)
  pub hole : Hole
  pub path : hole.path ≡ row.path
  pub passed : List Hole
  pub others : List Hole
  pub was : old.holes ≡ passed ++ hole ∷ others
  pub holes : new.holes ≡ holes_below hole outcome ++ others

-- a row was put, or it is bad, if each open leaf at its path is still to come
abbrev pub IsPutOrBad : Growing → Growing → Row → Bool → Type 0
IsPutOrBad old new row true = IsPut old new row
IsPutOrBad old new row false = (subtree old.tree row.path ≡ Some leaf → IsToCome row.path old.holes) → IsBadRow old.root old.tree row
