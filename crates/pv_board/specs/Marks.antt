-- Which paths are issued, and what each holds of the budget.
use Rattle.std.specs.Prelude.{◌≡◌, ℕ, suc, ◌+◌, Bool, true, false, List, [], ◌∷◌}
use Rattle.pv_board.specs.declared.mark.Mark.{Mark}

-- The weights of a list's items, added up.
abbrev pub weigh : {X : Type 0} → (X → ℕ) → List X → ℕ
weigh f [] = 0
weigh f (x ∷ xs) = f x + weigh f xs

-- So many units where two paths are the same, and none where they differ.
abbrev pub at : List Bool → List Bool → ℕ → ℕ
at [] [] n = n
at [] (c ∷ q) n = 0
at (b ∷ p) [] n = 0
at (false ∷ p) (false ∷ q) n = at p q n
at (false ∷ p) (true ∷ q) n = 0
at (true ∷ p) (false ∷ q) n = 0
at (true ∷ p) (true ∷ q) n = at p q n

-- How often a path stands in a list.
abbrev pub times : List Bool → List (List Bool) → ℕ
times q ps = weigh (λ p. at p q 1) ps

-- The units that a path holds: its own and its grant. It holds none where it is not issued.
abbrev pub holds : List Mark → List Bool → ℕ
holds ms q = weigh (λ m. at m.path q (suc m.grant)) ms

-- How many marks a path has.
abbrev pub marked : List Mark → List Bool → ℕ
marked ms q = weigh (λ m. at m.path q 1) ms

-- How many paths are issued.
abbrev pub issued : List Mark → ℕ
issued ms = weigh (λ m. 1) ms

-- The sum of the grants.
abbrev pub granted : List Mark → ℕ
granted ms = weigh (λ m. m.grant) ms

-- A list has one item more than another, in whatever order.
abbrev pub HasMore : {X : Type 0} → List X → X → List X → Type 0
HasMore {X} old x new = (f : X → ℕ) → weigh f new ≡ weigh f old + f x
