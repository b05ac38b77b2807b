-- Paths as the keys of a table.
use Rattle.std.specs.Prelude.{◌≡◌, ◌≤◌, ℕ, Bool, List, map, length}
use Rattle.pv_tree.specs.PathText.{digit}
use Rattle.pv_tree.specs.declared.path.TheConstants.{MOST_STEPS}

-- the digits of a path's steps
abbrev pub digits_of : List Bool → List ℕ
digits_of p = map digit p

-- these are the digits of no path that has at most 200 steps
abbrev pub NamesNoPath : List ℕ → Type 0
NamesNoPath digits = (p : List Bool) → length p ≤ MOST_STEPS → digits ≡ digits_of p → ⊥
