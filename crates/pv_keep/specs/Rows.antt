-- Rows of a paving's settled nodes, and rows in preorder of their paths.
use Rattle.std.specs.Prelude.{◌≡◌, ◌≢◌, ◌⊎◌, ℕ, zero, suc, Bool, true, false, IsTrue, Option, Some, None, List, [], ◌∷◌, ◌++◌, if◌then◌else◌}
use Rattle.pv_tree.specs.Trees.{Tree, leaf, removed, inner, small, cut, top, precedes}
use Rattle.pv_tree.specs.declared.outcome.Outcome.{Outcome}
use Rattle.pv_file.specs.Lines.{outcome_line}
use Rattle.pv_keep.specs.declared.row.Row.{Row}

-- the row of a node with an outcome
abbrev pub row_at : List Bool → Outcome → Row
row_at p o = record { path = p; line = outcome_line o }

-- the row of a node, where it is settled
abbrev pub row_of : List Bool → Option Outcome → List Row
row_of p None = []
row_of p (Some o) = row_at p o ∷ []

-- the rows of the settled nodes of a tree that stands at a path, in preorder
abbrev pub rows_below : List Bool → Tree → List Row
rows_below p leaf = []
rows_below p removed = row_of p (top removed)
rows_below p (inner to) = row_of p (top (inner to))
rows_below p (small to) = row_of p (top (small to))
rows_below p (cut to var at low high) =
    row_of p (top (cut to var at low high)) ++ (rows_below (p ++ false ∷ []) low ++ rows_below (p ++ true ∷ []) high)

-- the rows of a paving's tree
abbrev pub rows_of : Tree → List Row
rows_of t = rows_below [] t

-- each row stands behind a path
abbrev pub AllBehind : List Bool → List Row → Type 0
AllBehind p [] = Unit {0}
AllBehind p (row ∷ rows) = IsTrue (precedes p row.path) × AllBehind p rows

-- rows in preorder of their paths, none of which comes twice
abbrev pub InPreorder : List Row → Type 0
InPreorder [] = Unit {0}
InPreorder (row ∷ rows) = AllBehind row.path rows × InPreorder rows

-- rows with one more, at its place in preorder
abbrev pub placed : Row → List Row → List Row
placed row [] = row ∷ []
placed row (other ∷ rows) = if precedes row.path other.path then row ∷ other ∷ rows else other ∷ placed row rows

-- rows with several more
abbrev pub all_placed : List Row → List Row → List Row
all_placed kept [] = kept
all_placed kept (row ∷ rows) = all_placed (placed row kept) rows

-- no row has a path
abbrev pub HasNoRow : List Bool → List Row → Type 0
HasNoRow p [] = Unit {0}
HasNoRow p (row ∷ rows) = (row.path ≢ p) × HasNoRow p rows

-- the paths of rows are distinct
abbrev pub AreDistinct : List Row → Type 0
AreDistinct [] = Unit {0}
AreDistinct (row ∷ rows) = HasNoRow row.path rows × AreDistinct rows

-- no path of rows is kept
abbrev pub AreNew : List Row → List Row → Type 0
AreNew kept [] = Unit {0}
AreNew kept (row ∷ rows) = HasNoRow row.path kept × AreNew kept rows

-- no row stands before a path
abbrev pub NoneBefore : List Bool → List Row → Type 0
NoneBefore p [] = Unit {0}
NoneBefore p (row ∷ rows) = (precedes row.path p ≡ false) × NoneBefore p rows

-- so many rows stand before a path, and the others do not
abbrev pub IsSplit : List Bool → List Row → ℕ → Type 0
IsSplit p rows zero = NoneBefore p rows
IsSplit p [] (suc n) = ⊥
IsSplit p (row ∷ rows) (suc n) = IsTrue (precedes row.path p) × IsSplit p rows n

-- a list that is two lists in one, each in its own order
abbrev pub IsShuffle : List Row → List Row → List Row → Type 0
IsShuffle xs ys [] = (xs ≡ []) × (ys ≡ [])
IsShuffle xs ys (z ∷ zs) =
    ((rest : List Row) × (xs ≡ z ∷ rest) × IsShuffle rest ys zs) ⊎ ((rest : List Row) × (ys ≡ z ∷ rest) × IsShuffle xs rest zs)
