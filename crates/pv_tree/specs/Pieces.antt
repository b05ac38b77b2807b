-- The nodes of a tree as a walk in preorder meets them, and the open leaves that a growing tree is still to be given.
use Rattle.std.specs.Prelude.{◌≡◌, ℕ, ◌+◌, ◌<◌, ◌≤◌, Bool, true, false, Some, List, [], ◌∷◌, ◌++◌, length}
use Rattle.pv_interval.specs.Bounds.{Bounds}
use Rattle.pv_box.specs.Boxes.{IsBox, lower_half, upper_half}
use Rattle.pv_tree.specs.Trees.{Tree, leaf, removed, inner, small, cut, subtree, box_of, height, Paves, counts_of, settled_of, shape_of}
use Rattle.pv_tree.specs.declared.outcome.Shape.{Shape}
use Rattle.pv_tree.specs.declared.path.TheConstants.{MOST_STEPS}

-- A node with the path that leads to it, its box, and its tree.
pub record Piece : Type 0 where
  pub path : List Bool
  pub box : List Bounds
  pub tree : Tree

-- The children of a node at a path, the low one first.
abbrev pub pieces_below : List Bool → Tree → List Piece
pieces_below p leaf = []
pieces_below p removed = []
pieces_below p (inner to) = []
pieces_below p (small to) = []
pieces_below p (cut to var at low high) =
    record { path = p ++ false ∷ []; box = lower_half to var at; tree = low }
    ∷ record { path = p ++ true ∷ []; box = upper_half to var at; tree = high } ∷ []

abbrev pub children_of : Piece → List Piece
children_of piece = pieces_below piece.path piece.tree

abbrev pub root_piece : List Bounds → Tree → Piece
root_piece b t = record { path = []; box = b; tree = t }

-- How many nodes a tree has, and how many the trees of a list have.
abbrev pub all_nodes : Tree → ℕ
all_nodes t = settled_of (counts_of t) + (counts_of t).open_leaves

abbrev pub to_come : List Piece → ℕ
to_come [] = 0
to_come (piece ∷ pieces) = all_nodes piece.tree + to_come pieces

-- What contracts see of a walk: the paving's root box and tree, the node just visited, and the nodes to come, each with all that is
-- below it. Before the first step the root counts as visited.
pub record Walked : Type 0 where
  pub root : List Bounds
  pub tree : Tree
  pub here : Piece
  pub pending : List Piece

abbrev pub walk_from : List Bounds → Tree → Walked
walk_from b t = record { root = b; tree = t; here = root_piece b t; pending = root_piece b t ∷ [] }

-- A walk took its next step: to the first node to come, whose children now come first.
pub record IsVisit (old new : Walked) (seen : Shape) : Type 0 where
  pub rest : List Piece
  pub was : old.pending ≡ new.here ∷ rest
  pub pending : new.pending ≡ children_of new.here ++ rest
  pub shape : seen ≡ shape_of (Some new.here.tree)
  pub falls : to_come new.pending < to_come old.pending

-- A node of a paving: its box is right, and so is all that is below it.
pub record IsPiece (b : List Bounds) (t : Tree) (piece : Piece) : Type 0 where
  pub found : subtree t piece.path ≡ Some piece.tree
  pub box : box_of b t piece.path ≡ piece.box
  pub dims : length piece.box ≡ length b
  pub is_box : IsBox piece.box
  pub paves : Paves piece.box piece.tree
  pub depth : length piece.path + height piece.tree ≤ MOST_STEPS
