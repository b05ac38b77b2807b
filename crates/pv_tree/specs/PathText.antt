-- Paths as text.
use Rattle.std.specs.Prelude.{ℕ, Bool, true, false, List, [], ◌∷◌, map}

-- The text of a path: a digit a step, and a dot for the root.
abbrev pub digit : Bool → ℕ
digit false = 48
digit true = 49

abbrev pub path_text : List Bool → List ℕ
path_text [] = 46 ∷ []
path_text (b ∷ p) = map digit (b ∷ p)
