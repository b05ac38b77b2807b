-- The open leaves of a tree, the last first.
use Rattle.std.specs.Prelude.{◌≡◌, ℕ, ◌+◌, ◌≤◌, Bool, true, false, Some, List, [], ◌∷◌, ◌++◌, length}
use Rattle.pv_tree.specs.Trees.{Tree, leaf, removed, inner, small, cut, subtree, opens, height}
use Rattle.pv_tree.specs.declared.outcome.Shape.{Shape}
use Rattle.pv_tree.specs.declared.outcome.Shape.TheVariants as shape
use Rattle.pv_tree.specs.declared.path.TheConstants.{MOST_STEPS}

-- The paths of the open leaves where the tree's root stands at a path, the last in preorder first.
abbrev pub piled : List Bool → Tree → List (List Bool)
piled p leaf = p ∷ []
piled p removed = []
piled p (inner to) = []
piled p (small to) = []
piled p (cut to v a low high) = piled (p ++ true ∷ []) high ++ piled (p ++ false ∷ []) low

-- The node at a path is there, no path is too long where it stands at another path, and its open leaves have room in a list.
pub record CanPile (t : Tree) (path at : List Bool) (len room : ℕ) : Type 0 where
  pub part : Tree
  pub is : subtree t path ≡ Some part
  pub depth : length at + height part ≤ MOST_STEPS
  pub fits : len + length (opens part) ≤ room

abbrev pub is_cut_shape : Shape → Bool
is_cut_shape shape.Absent = false
is_cut_shape shape.OpenLeaf = false
is_cut_shape shape.Removed = false
is_cut_shape shape.Inner = false
is_cut_shape shape.Small = false
is_cut_shape (shape.Cut var at) = true
