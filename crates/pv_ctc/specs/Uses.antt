-- Which variables a constraint has.
use Rattle.std.specs.Prelude.{◌≡◌, ℕ, ◌<◌, Bool, true, false, ◌||◌, nat_eq, List, [], ◌∷◌, length, slice_index_or}
use Rattle.pv_interval.specs.Bounds.{Bounds}
use Rattle.pv_hc4.specs.Chain.{at}
use Rattle.pv_expr.specs.Terms.{Term, constant, place, one, two}
use Rattle.pv_hc4.specs.Revise.{Sides}
use Rattle.pv_box.specs.declared.boxes.TheConstants.{MOST_PLACES}

-- variable i stands in the term
abbrev pub has_place : ℕ → Term → Bool
has_place i (constant p q) = false
has_place i (place j) = nat_eq j i
has_place i (one u t) = has_place i t
has_place i (two o t u) = has_place i t || has_place i u

abbrev pub has_variable : ℕ → Sides → Bool
has_variable i s = has_place i s.left || has_place i s.right

-- whether each of the first 12 variables stands in a constraint
abbrev pub AreUses : List Bool → Sides → Type 0
AreUses uses s = (i : ℕ) → i < MOST_PLACES → slice_index_or uses i false ≡ has_variable i s

-- the same for each constraint of a list
abbrev pub HaveUses : List (List Bool) → List Sides → Type 0
HaveUses [] [] = Unit {0}
HaveUses [] (s ∷ ss) = ⊥
HaveUses (uses ∷ more) [] = ⊥
HaveUses (uses ∷ more) (s ∷ ss) = AreUses uses s × HaveUses more ss

-- the places of the variables of a constraint are the same in two boxes
abbrev pub AreAlikeFor : List Bool → List Bounds → List Bounds → Type 0
AreAlikeFor uses b d = (i : ℕ) → i < length d → slice_index_or uses i false ≡ true → at b i ≡ at d i
