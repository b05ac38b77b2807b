-- What a board asks of a settling rule, and what a rule gives a path.
use Rattle.std.specs.Prelude.{◌≡◌, ℕ, ◌≤◌, List, length}
use Rattle.pv_interval.specs.Bounds.{Bounds}
use Rattle.pv_box.specs.Boxes.{IsBox}
use Rattle.pv_tree.specs.Trees.{Tree, leaf, Fits, KeepsBox, CutsAbove, counts_of, settled_of}
use Rattle.pv_tree.specs.Stages.{Rule, Grows, full_of}
use Rattle.pv_tree.specs.declared.path.TheConstants.{MOST_STEPS}

-- A rule for boxes of some places and for paths of some depth.
pub record IsFitting (rule : Rule) (depth dims : ℕ) : Type 0 where
  pub some : 1 ≤ depth
  pub few : depth ≤ MOST_STEPS
  pub fits : (b : List Bounds) (d k : ℕ) → IsBox b → length b ≡ dims → Fits b (rule b d k)
  pub keeps_box : (b : List Bounds) (d k : ℕ) → IsBox b → length b ≡ dims → KeepsBox (rule b d k)
  pub ends : (b : List Bounds) (d k : ℕ) → IsBox b → length b ≡ dims → CutsAbove d (rule b d k)

-- A tree is a stage of an open box whose path has so many steps.
abbrev pub IsStageBelow : Rule → ℕ → List Bounds → ℕ → Tree → Type 0
IsStageBelow rule depth b k t = Grows t (full_of rule depth b leaf k)

-- How many nodes of a tree are settled.
abbrev pub settled_in : Tree → ℕ
settled_in t = settled_of (counts_of t)
