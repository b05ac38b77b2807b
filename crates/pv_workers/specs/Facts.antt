-- What is known of the boxes of leaves.
use Rattle.std.specs.Prelude.{◌≡◌, Bool, List, [], ◌∷◌, map}
use Rattle.pv_interval.specs.Bounds.{Bounds}
use Rattle.pv_tree.specs.Trees.{Tree, box_of}
use Rattle.pv_tree.specs.Holes.{Growing, Hole}
use Rattle.pv_board.specs.declared.mark.Mark.{Mark}
use Rattle.pv_workers.specs.Leaves.{AreOpen}

abbrev pub paths : List Mark → List (List Bool)
paths marks = map (λ (m : Mark). m.path) marks

-- each fact is true of the box of its path, in their order; further facts may follow
abbrev pub AreFacts : {K : Type 0} → (K → List Bounds → Type 0) → (List Bool → List Bounds) → List (List Bool) → List K → Type 0
AreFacts holds box [] ks = Unit {0}
AreFacts holds box (p ∷ ps) [] = ⊥
AreFacts holds box (p ∷ ps) (k ∷ ks) = holds k (box p) × AreFacts holds box ps ks

-- each leaf to come has the box that its path has in a tree
abbrev pub HaveBoxes : List Bounds → Tree → List Hole → Type 0
HaveBoxes b full [] = Unit {0}
HaveBoxes b full (hole ∷ holes) = (hole.box ≡ box_of b full hole.path) × HaveBoxes b full holes

-- The leaves to come are all that are open, and each has the box that its path has in a tree.
pub record AreLaid (full : Tree) (g : Growing) : Type 0 where
  pub are_open : AreOpen g
  pub boxes : HaveBoxes g.root full g.holes
