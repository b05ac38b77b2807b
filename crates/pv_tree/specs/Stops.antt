-- Nodes that a walk is still to visit, on a stack whose last one comes next.
use Rattle.std.specs.Prelude.{◌≡◌, ℕ, suc, ◌+◌, ◌-◌, ◌<◌, ◌≤◌, Bool, true, false, Option, Some, None, List, [], ◌∷◌, ◌++◌, length, take}
use Rattle.pv_interval.specs.Bounds.{Bounds}
use Rattle.pv_tree.specs.Trees.{Tree, leaf, subtree, box_of}
use Rattle.pv_tree.specs.Arena.{reach, cell_at, IsWhole}
use Rattle.pv_tree.specs.Pieces.{Piece, Walked}
use Rattle.pv_tree.specs.Holes.{Hole, Growing}
use Rattle.pv_tree.specs.declared.cell.Node.{Node}
use Rattle.pv_tree.specs.declared.cell.Cell.TheVariants.{Open}
use Rattle.pv_tree.specs.declared.outcome.Counts.{Counts}
use Rattle.pv_tree.specs.declared.stop.Stop.{Stop}
use Rattle.pv_tree.specs.declared.path.TheConstants.{MOST_STEPS, MOST_LEVELS}

-- A node that is there, with the path that leads to it and the number of its parent.
pub record IsStop (ns : List Node) (stop : Stop) : Type 0 where
  pub leads : reach ns 0 stop.path ≡ Some stop.at
  pub few : length stop.path ≤ MOST_STEPS
  pub there : stop.at < length ns
  pub parent : 0 < length stop.path → reach ns 0 (take (length stop.path - 1) stop.path) ≡ Some stop.parent
  pub parent_there : stop.parent < length ns

abbrev pub low_stop : Stop → ℕ → Stop
low_stop stop kids = record { at = kids; parent = stop.at; path = stop.path ++ false ∷ [] }

abbrev pub high_stop : Stop → ℕ → Stop
high_stop stop kids = record { at = kids + 1; parent = stop.at; path = stop.path ++ true ∷ [] }

-- What comes on the stack in the place of a node.
abbrev pub stops_below : Stop → Option ℕ → List Stop
stops_below stop None = []
stops_below stop (Some kids) = high_stop stop kids ∷ low_stop stop kids ∷ []

-- Each stop of a stack is right, and has at least as many steps as there are stops under it.
abbrev pub AreStacked : (Stop → Type 0) → ℕ → List Stop → Type 0
AreStacked P n [] = Unit {0}
AreStacked P n (stop ∷ stops) = P stop × (n ≤ length stop.path) × AreStacked P (suc n) stops

abbrev pub found_tree : Option Tree → Tree
found_tree None = leaf
found_tree (Some t) = t

abbrev pub piece_at : List Bounds → Tree → List Bool → Piece
piece_at b t p = record { path = p; box = box_of b t p; tree = found_tree (subtree t p) }

abbrev pub pieces_at : List Bounds → Tree → List Stop → List Piece
pieces_at b t [] = []
pieces_at b t (stop ∷ stops) = pieces_at b t stops ++ piece_at b t stop.path ∷ []

abbrev pub walked : List Bounds → Tree → Stop → List Stop → Walked
walked b t here stops = record { root = b; tree = t; here = piece_at b t here.path; pending = pieces_at b t stops }

-- What is true of the parts of every walk.
pub record IsWalk (b es : List Bounds) (ns : List Node) (last : Stop) (stack : List Stop) (most : ℕ) : Type 0 where
  pub counts : Counts
  pub whole : IsWhole b es ns counts
  pub here : IsStop ns last
  pub stops : AreStacked (IsStop ns) 0 stack
  pub room : MOST_LEVELS ≤ most

-- An open leaf that is there.
pub record IsOpenStop (ns : List Node) (s : Stop) : Type 0 where
  pub stop : IsStop ns s
  pub is_open : cell_at ns s.at ≡ Open

-- No two stops are one node.
abbrev pub IsElsewhere : ℕ → List Stop → Type 0
IsElsewhere k [] = Unit {0}
IsElsewhere k (stop ∷ stops) = (stop.at ≡ k → ⊥) × IsElsewhere k stops

abbrev pub AreApart : List Stop → Type 0
AreApart [] = Unit {0}
AreApart (stop ∷ stops) = IsElsewhere stop.at stops × AreApart stops

abbrev pub holes_at : List Bounds → Tree → List Stop → List Hole
holes_at b t [] = []
holes_at b t (stop ∷ stops) = holes_at b t stops ++ record { path = stop.path; box = box_of b t stop.path } ∷ []

abbrev pub growing : List Bounds → Tree → List Stop → Growing
growing b t stops = record { root = b; tree = t; holes = holes_at b t stops }

-- What is true of the parts of every growth.
pub record IsGrowth (b es : List Bounds) (ns : List Node) (counts : Counts) (stack : List Stop) (most : ℕ) : Type 0 where
  pub whole : IsWhole b es ns counts
  pub stops : AreStacked (IsOpenStop ns) 0 stack
  pub apart : AreApart stack
  pub room : MOST_LEVELS ≤ most
