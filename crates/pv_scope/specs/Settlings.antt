-- What a call settles of an opening within a scope.
use Rattle.std.specs.Prelude.{◌≡◌, ◌⊎◌, ℕ, ◌+◌, ◌*◌, ◌-◌, ◌<◌, ◌≤◌, Bool, true, false, Some, List, [], ◌++◌, length}
use Rattle.pv_interval.specs.Bounds.{Bounds}
use Rattle.pv_tree.specs.Trees.{Tree, leaf, subtree, outcome_at, opens}
use Rattle.pv_tree.specs.Stages.{Rule, full_of}
use Rattle.pv_tree.specs.declared.outcome.Outcome.{Outcome}
use Rattle.pv_board.specs.Rules.{settled_in}
use Rattle.pv_scope.specs.Scopes.{IsIn, IsBelow, share_of}

-- No open leaf at or below a path has a short path.
abbrev pub IsOver : ℕ → Tree → List Bool → Type 0
IsOver cap t p = (r : List Bool) → subtree t (p ++ r) ≡ Some leaf → cap ≤ length p + length r

-- An open leaf at or below one of these paths has a short path.
pub record HasLeft (cap : ℕ) (ps : List (List Bool)) (t : Tree) : Type 0 where
  pub head : List Bool
  pub is_in : IsIn head ps
  pub steps : List Bool
  pub is_open : subtree t (head ++ steps) ≡ Some leaf
  pub few : length head + length steps < cap

-- All is settled that is to be, or the budget is spent.
abbrev pub IsEnded : ℕ → List (List Bool) → ℕ → ℕ → Bool → Tree → Type 0
IsEnded cap ps budget own true t = (own ≤ budget) × ((p : List Bool) → IsIn p ps → IsOver cap t p)
IsEnded cap ps budget own false t = (own ≡ budget) × HasLeft cap ps t

-- A tree was settled further at or below these paths alone.
pub record IsSettled (old new : Tree) (ps : List (List Bool)) (cap own : ℕ) : Type 0 where
  pub stays : (q : List Bool) → subtree old q ≡ Some leaf → (IsIn q ps → ⊥) → subtree new q ≡ Some leaf
  pub comes : (q : List Bool) → subtree new q ≡ Some leaf → (subtree old q ≡ Some leaf) ⊎ IsBelow ps q
  pub short : (q : List Bool) (o : Outcome) → outcome_at new q ≡ Some o → (outcome_at old q ≡ Some o) ⊎ (length q < cap)
  pub count : settled_in new ≡ settled_in old + own

-- The open leaves of an opening that are in the share k of n.
abbrev pub share_in : ℕ → ℕ → Tree → List (List Bool)
share_in k n opening = share_of k n (opens opening)

-- Each open leaf of an opening outside a share stays one.
abbrev pub LeavesOthers : ℕ → ℕ → Tree → Tree → Type 0
LeavesOthers k n opening t = (p : List Bool) → subtree opening p ≡ Some leaf → (IsIn p (share_in k n opening) → ⊥) → subtree t p ≡ Some leaf

-- No leaf at or below a share is open.
abbrev pub IsClosed : ℕ → ℕ → Tree → Tree → Type 0
IsClosed k n opening t = (p r : List Bool) → IsIn p (share_in k n opening) → subtree t (p ++ r) ≡ Some leaf → ⊥

-- At each leaf of a share stands what stands there in the full tree.
abbrev pub IsFullThere : Rule → ℕ → List Bounds → ℕ → ℕ → Tree → Tree → Type 0
IsFullThere rule depth b k n opening t =
    (p : List Bool) → IsIn p (share_in k n opening) → subtree t p ≡ subtree (full_of rule depth b opening 0) p

-- A run by levels ended in pass j: no path of an open leaf is shorter than 4 (j - 1), and each node that was settled has a path shorter than 4 j.
pub record IsLevel (opening t : Tree) (pass : ℕ) : Type 0 where
  pub open_below : (q : List Bool) → subtree t q ≡ Some leaf → 4 * (pass - 1) ≤ length q
  pub settled_above : (q : List Bool) (o : Outcome) → outcome_at t q ≡ Some o → (outcome_at opening q ≡ Some o) ⊎ (length q < 4 * pass)

-- What a pass did that settles the leaves with fewer than cap steps.
pub record IsPass (old new : Tree) (cap left own : ℕ) (done : Bool) : Type 0 where
  pub keeps : (n : ℕ) → ((q : List Bool) → subtree old q ≡ Some leaf → n ≤ length q) → (q : List Bool) → subtree new q ≡ Some leaf → n ≤ length q
  pub ends : done ≡ true → (q : List Bool) → subtree new q ≡ Some leaf → cap ≤ length q
  pub short : (q : List Bool) (o : Outcome) → outcome_at new q ≡ Some o → (outcome_at old q ≡ Some o) ⊎ (length q < cap)
  pub count : settled_in new ≡ settled_in old + own
  pub few : own ≤ left
  pub spent : done ≡ false → own ≡ left
