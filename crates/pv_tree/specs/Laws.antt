-- What every settler's rule keeps to.
use Rattle.std.specs.Prelude.{◌≡◌, ℕ, ◌≤◌, List, length}
use Rattle.pv_interval.specs.Bounds.{Bounds}
use Rattle.pv_interval.specs.Points.{Point}
use Rattle.pv_box.specs.Boxes.{IsBox}
use Rattle.pv_tree.specs.Trees.{Tree, Fits, KeepsBox, CutsAbove, Paves}
use Rattle.pv_tree.specs.Stages.{Rule, IsStage}
use Rattle.pv_tree.specs.Sets.{IsSoundOutcome, IsSound}
use Rattle.pv_tree.specs.declared.path.TheConstants.{MOST_STEPS}

pub record IsLawful (rule : Rule) (depth dims : ℕ) (inside : Point → Type 0) : Type 0 where
  pub deep : depth ≤ MOST_STEPS
  pub fits : (b : List Bounds) (d k : ℕ) → IsBox b → length b ≡ dims → Fits b (rule b d k)
  pub keeps_box : (b : List Bounds) (d k : ℕ) → IsBox b → length b ≡ dims → KeepsBox (rule b d k)
  pub ends : (b : List Bounds) (d k : ℕ) → IsBox b → length b ≡ dims → CutsAbove d (rule b d k)
  pub sound : (b : List Bounds) (d k : ℕ) → IsBox b → length b ≡ dims → IsSoundOutcome inside b (rule b d k)

-- Each stage of a sound opening is sound.
abbrev pub StagesAreSound : Rule → ℕ → (Point → Type 0) → List Bounds → Type 0
StagesAreSound rule depth inside b =
    (opening t : Tree) → Paves b opening → IsSound inside b opening → IsStage rule depth b opening t → IsSound inside b t
