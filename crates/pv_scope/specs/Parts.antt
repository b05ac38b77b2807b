-- What is settled below one open leaf.
use Rattle.std.specs.Prelude.{◌≡◌, ℕ, ◌+◌, ◌<◌, ◌≤◌, Bool, true, false, Some, List, [], ◌∷◌, length}
use Rattle.pv_tree.specs.Trees.{Tree, leaf, subtree, outcome_at, graft}
use Rattle.pv_tree.specs.Holes.{Growing, Hole}
use Rattle.pv_tree.specs.declared.outcome.Outcome.{Outcome}
use Rattle.pv_board.specs.Rules.{settled_in}
use Rattle.pv_scope.specs.Scopes.{IsIn}

-- the paths of leaves that are to come
abbrev pub paths_of : List Hole → List (List Bool)
paths_of [] = []
paths_of (hole ∷ holes) = hole.path ∷ paths_of holes

-- Each open leaf with a short path is still to come; k steps lead to the growth's root.
abbrev pub AreToCome : ℕ → ℕ → Growing → Type 0
AreToCome cap k g = (q : List Bool) → subtree g.tree q ≡ Some leaf → k + length q < cap → IsIn q (paths_of g.holes)

-- Each settled node has a short path.
abbrev pub AreShort : ℕ → ℕ → Tree → Type 0
AreShort cap k t = (q : List Bool) (o : Outcome) → outcome_at t q ≡ Some o → k + length q < cap

-- No open leaf has a short path.
abbrev pub AreLong : ℕ → ℕ → Tree → Type 0
AreLong cap k t = (q : List Bool) → subtree t q ≡ Some leaf → cap ≤ k + length q

-- An open leaf has a short path.
pub record HasShort (cap k : ℕ) (t : Tree) : Type 0 where
  pub steps : List Bool
  pub is_open : subtree t steps ≡ Some leaf
  pub few : k + length steps < cap

-- A stage is done, or all that was allowed was settled.
abbrev pub IsGrown : ℕ → ℕ → ℕ → ℕ → Bool → Tree → Type 0
IsGrown cap k most own true t = (own ≤ most) × AreLong cap k t
IsGrown cap k most own false t = (own ≡ most) × HasShort cap k t

-- A stage of an open leaf was put in its place.
pub record IsGrownAt (old new : Tree) (p : List Bool) (cap most own : ℕ) (done : Bool) : Type 0 where
  pub stage : Tree
  pub is : new ≡ graft old p stage
  pub count : settled_in stage ≡ own
  pub short : AreShort cap (length p) stage
  pub grown : IsGrown cap (length p) most own done stage
