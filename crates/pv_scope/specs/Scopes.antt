-- Which open leaves of an opening are in a scope.
use Rattle.std.specs.Prelude.{◌≡◌, ◌⊎◌, ℕ, suc, ◌%◌, ◌≤◌, Bool, if◌then◌else◌, nat_eq, nat_lt, List, [], ◌∷◌, ◌++◌, length}
use Rattle.pv_scope.specs.declared.scope.Scope.{Scope}
use Rattle.pv_scope.specs.declared.scope.Scope.TheVariants.{Shared, Above}
use Rattle.pv_tree.specs.declared.path.TheConstants.{MOST_LEVELS}

-- a path is one of a list
abbrev pub IsIn : List Bool → List (List Bool) → Type 0
IsIn p [] = ⊥
IsIn p (q ∷ qs) = (p ≡ q) ⊎ IsIn p qs

-- whether the open leaf with a number and a path is in a scope
abbrev pub is_in_scope : Scope → ℕ → List Bool → Bool
is_in_scope (Shared number of) i p = nat_eq (i % of) number
is_in_scope (Above steps) i p = nat_lt (length p) steps

-- the paths of a list that pass a test, where the first one's number is i
abbrev pub picked : (ℕ → List Bool → Bool) → ℕ → List (List Bool) → List (List Bool)
picked test i [] = []
picked test i (p ∷ ps) = if test i p then p ∷ picked test (suc i) ps else picked test (suc i) ps

-- Of open leaves in preorder, numbered from 0, those whose number is k modulo n.
abbrev pub share_of : ℕ → ℕ → List (List Bool) → List (List Bool)
share_of k n ps = picked (λ i p. nat_eq (i % n) k) 0 ps

-- Paths below a scope are settled as long as they have fewer steps than this.
abbrev pub most_steps : Scope → ℕ
most_steps (Shared number of) = MOST_LEVELS
most_steps (Above steps) = steps

-- a scope deals its leaves in turn to at least one
abbrev pub IsScope : Scope → Type 0
IsScope (Shared number of) = 1 ≤ of
IsScope (Above steps) = Unit {0}

-- A path is at or below one of a list.
pub record IsBelow (ps : List (List Bool)) (q : List Bool) : Type 0 where
  pub head : List Bool
  pub is_in : IsIn head ps
  pub steps : List Bool
  pub is : q ≡ head ++ steps
