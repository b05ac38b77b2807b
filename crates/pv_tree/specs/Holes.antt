-- The open leaves that a growing tree is still to be given, in preorder.
use Rattle.std.specs.Prelude.{◌≡◌, ◌≤◌, Bool, true, false, Some, List, [], ◌∷◌, ◌++◌, length}
use Rattle.pv_interval.specs.Bounds.{Bounds}
use Rattle.pv_box.specs.Boxes.{IsBox, lower_half, upper_half}
use Rattle.pv_tree.specs.Trees.{Tree, leaf, subtree, graft, settled, box_of, Fits, HasDepth}
use Rattle.pv_tree.specs.declared.outcome.Outcome.{Outcome}
use Rattle.pv_tree.specs.declared.outcome.Outcome.TheVariants.{Removed, Inner, Small, Cut}
use Rattle.pv_tree.specs.declared.path.TheConstants.{MOST_STEPS}

-- An open leaf that is still to be given an outcome, or to be passed.
pub record Hole : Type 0 where
  pub path : List Bool
  pub box : List Bounds

-- What contracts see of a growth: its root box, its tree so far, and the open leaves to come.
pub record Growing : Type 0 where
  pub root : List Bounds
  pub tree : Tree
  pub holes : List Hole

abbrev pub growth_over : List Bounds → Growing
growth_over b = record { root = b; tree = leaf; holes = record { path = []; box = b } ∷ [] }

-- The leaves that come of a leaf's settling, the low one first.
abbrev pub holes_below : Hole → Outcome → List Hole
holes_below hole Removed = []
holes_below hole (Inner to) = []
holes_below hole (Small to) = []
holes_below hole (Cut to var at) =
    record { path = hole.path ++ false ∷ []; box = lower_half to var at } ∷ record { path = hole.path ++ true ∷ []; box = upper_half to var at } ∷ []

-- The growth after the next leaf was settled, or passed.
abbrev pub settle_first : List Bounds → Tree → List Hole → Outcome → Growing
settle_first b t [] o = record { root = b; tree = t; holes = [] }
settle_first b t (hole ∷ holes) o = record { root = b; tree = graft t hole.path (settled o); holes = holes_below hole o ++ holes }

abbrev pub settle_next : Growing → Outcome → Growing
settle_next g o = settle_first g.root g.tree g.holes o

abbrev pub rest_of : List Hole → List Hole
rest_of [] = []
rest_of (hole ∷ holes) = holes

abbrev pub pass_next : Growing → Growing
pass_next g = record { root = g.root; tree = g.tree; holes = rest_of g.holes }

-- The next leaf can be settled so.
abbrev pub Takes : List Hole → Outcome → Type 0
Takes [] o = ⊥
Takes (hole ∷ holes) o = Fits hole.box o × HasDepth hole.path o

-- The box of the first leaf to come.
abbrev pub IsFirstBox : List Hole → List Bounds → Type 0
IsFirstBox [] b = ⊥
IsFirstBox (hole ∷ holes) b = b ≡ hole.box

-- The leaf that comes next.
pub record IsNext (g : Growing) (p : List Bool) : Type 0 where
  pub hole : Hole
  pub rest : List Hole
  pub is : g.holes ≡ hole ∷ rest
  pub path : p ≡ hole.path
  pub is_leaf : subtree g.tree hole.path ≡ Some leaf
  pub box : box_of g.root g.tree hole.path ≡ hole.box
  pub dims : length hole.box ≡ length g.root
  pub is_box : IsBox hole.box
  pub few : length hole.path ≤ MOST_STEPS

-- The tree once the leaves to come have become given trees.
abbrev pub fill : Tree → List Hole → List Tree → Tree
fill t [] ss = t
fill t (hole ∷ holes) [] = t
fill t (hole ∷ holes) (s ∷ ss) = fill (graft t hole.path s) holes ss
