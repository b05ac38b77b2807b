-- The open leaves that a growth is still to be given, and what is known of them.
use Rattle.std.specs.Prelude.{◌≡◌, Bool, List, map}
use Rattle.pv_tree.specs.Trees.{opens}
use Rattle.pv_tree.specs.Holes.{Growing, Hole}

abbrev pub paths_of : List Hole → List (List Bool)
paths_of holes = map (λ h. h.path) holes

-- the leaves that are to come are all that are open
abbrev pub AreOpen : Growing → Type 0
AreOpen g = opens g.tree ≡ paths_of g.holes
