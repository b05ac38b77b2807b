-- Nodes of an arena with the paths that lead to them, and the open leaves below them.
use Rattle.std.specs.Prelude.{◌≡◌, ℕ, zero, suc, ◌+◌, ◌-◌, ◌<◌, ◌≤◌, Bool, true, false, Option, Some, None, List, [], ◌∷◌, ◌++◌, map, length}
use Rattle.std.specs.Option.{option_map}
use Rattle.pv_tree.specs.Trees.{first, behind}
use Rattle.pv_tree.specs.Arena.{cell_at, reach, kids_of, HasKids, MarksRight}
use Rattle.pv_tree.specs.declared.cell.Cell.TheVariants.{Open, Removed, Inner, Small, Cut}
use Rattle.pv_tree.specs.declared.cell.Node.{Node}
use Rattle.pv_tree.specs.declared.search.Spot.{Spot}
use Rattle.pv_tree.specs.declared.search.Pair.{Pair}
use Rattle.pv_tree.specs.declared.path.TheConstants.{MOST_STEPS, MOST_LEVELS}

-- What a search needs to know of the arena.
pub record IsSearchable (ns : List Node) : Type 0 where
  pub kids : HasKids ns
  pub marks : MarksRight ns
  pub short : (p : List Bool) (k c : ℕ) → reach ns 0 p ≡ Some k → kids_of (cell_at ns k) ≡ Some c → length p < MOST_STEPS

-- A node that is there, with the path that leads to it.
pub record IsSpot (ns : List Node) (spot : Spot) : Type 0 where
  pub searchable : IsSearchable ns
  pub there : spot.at < length ns
  pub leads : reach ns 0 spot.path ≡ Some spot.at
  pub few : length spot.path ≤ MOST_STEPS

pub record AreCutInto (ns : List Node) (spot : Spot) (kids : Pair) : Type 0 where
  pub low : IsSpot ns kids.low
  pub high : IsSpot ns kids.high
  pub low_path : kids.low.path ≡ spot.path ++ false ∷ []
  pub high_path : kids.high.path ≡ spot.path ++ true ∷ []
  pub low_at : kids_of (cell_at ns spot.at) ≡ Some kids.low.at
  pub high_at : kids.high.at ≡ kids.low.at + 1
  pub short : length spot.path < MOST_STEPS

-- None is a node that is no cut.
abbrev pub AreChildren : List Node → Spot → Option Pair → Type 0
AreChildren ns spot None = kids_of (cell_at ns spot.at) ≡ None
AreChildren ns spot (Some kids) = AreCutInto ns spot kids

-- The open leaves below a node, by the steps from the node, as far as so many levels.
unfoldable pub opens_below : List Node → ℕ → ℕ → List (List Bool)
opens_below ns zero k = []
opens_below ns (suc f) k = elim (cell_at ns k) [
  | Open ↦ [] ∷ []
  | Removed ↦ []
  | Inner s ↦ []
  | Small s ↦ []
  | Cut s var at c ↦ map (λ p. false ∷ p) (opens_below ns f c) ++ map (λ p. true ∷ p) (opens_below ns f (c + 1))
]

unfoldable pub first_below : List Node → Spot → Option (List Bool)
first_below ns spot = option_map (λ p. spot.path ++ p) (first (opens_below ns (MOST_LEVELS - length spot.path) spot.at))

abbrev pub either : Option (List Bool) → Option (List Bool) → Option (List Bool)
either None b = b
either (Some p) b = Some p

abbrev pub first_of_pair : List Node → Pair → Option (List Bool)
first_of_pair ns kids = either (first_below ns kids.low) (first_below ns kids.high)

-- The first open leaf below a node that stands behind a path in preorder, where both go by steps from the node.
unfoldable pub first_behind : List Node → Spot → List Bool → Option (List Bool)
first_behind ns spot after = option_map (λ p. spot.path ++ p) (first (behind after (opens_below ns (MOST_LEVELS - length spot.path) spot.at)))
