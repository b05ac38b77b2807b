-- The rows of what stands at a path of a tree.
use Rattle.std.specs.Prelude.{Bool, true, false, Option, Some, None, List, [], ◌∷◌, ◌++◌}
use Rattle.pv_tree.specs.Trees.{Tree, subtree}
use Rattle.pv_tree.specs.declared.outcome.Shape.{Shape}
use Rattle.pv_tree.specs.declared.outcome.Shape.TheVariants.{Absent, OpenLeaf, Removed, Inner, Small, Cut}
use Rattle.pv_keep.specs.declared.row.Row.{Row}
use Rattle.pv_keep.specs.Rows.{rows_below}

abbrev pub is_a_cut : Shape → Bool
is_a_cut Absent = false
is_a_cut OpenLeaf = false
is_a_cut Removed = false
is_a_cut Inner = false
is_a_cut Small = false
is_a_cut (Cut var at) = true

-- the rows of a subtree that stands at a path, if it is there
abbrev pub rows_there : List Bool → Option Tree → List Row
rows_there p None = []
rows_there p (Some t) = rows_below p t

-- the rows of the settled nodes at and below a path, in preorder
abbrev pub rows_at : Tree → List Bool → List Row
rows_at t p = rows_there p (subtree t p)

-- the rows of a tree that stands at a path, at and below some paths in it
abbrev pub rows_from : List Bool → Tree → List (List Bool) → List Row
rows_from r t [] = []
rows_from r t (p ∷ ps) = rows_there (r ++ p) (subtree t p) ++ rows_from r t ps
