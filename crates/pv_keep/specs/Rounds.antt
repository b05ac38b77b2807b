-- A list of rounds on one campaign.
use Rattle.std.specs.Prelude.{◌≡◌, ◌⊎◌, ℕ, List, [], ◌∷◌}
use Rattle.pv_interval.specs.Bounds.{Bounds}
use Rattle.pv_tree.specs.Trees.{Tree}
use Rattle.pv_tree.specs.Stages.{Rule, IsStage}
use Rattle.pv_join.specs.Joins.{IsJoin}
use Rattle.pv_keep.specs.Keeping.{Kept}
use Rattle.pv_keep.specs.Campaigns.{KeepsTree, IsSaved}

-- What a keeper tells of a campaign's name, and the campaign's tree.
pub record Held : Type 0 where
  pub kept : Kept
  pub tree : Tree

-- The tree is a stage of an opening, and the rows that are told are the tree's.
pub record IsHeldStage (rule : Rule) (depth : ℕ) (b : List Bounds) (opening : Tree) (held : Held) : Type 0 where
  pub kept : KeepsTree held.kept held.tree
  pub stage : IsStage rule depth b opening held.tree

-- A stage of the opening was joined and saved.
pub record IsSavedRound (rule : Rule) (depth : ℕ) (b : List Bounds) (opening : Tree) (old new : Held) : Type 0 where
  pub stage : Tree
  pub is_stage : IsStage rule depth b opening stage
  pub joined : IsJoin old.tree stage new.tree
  pub saved : IsSaved old.kept new.kept new.tree

-- A round is saved, or it is refused and leaves all as it was.
abbrev pub IsRound : Rule → ℕ → List Bounds → Tree → Held → Held → Type 0
IsRound rule depth b opening old new = IsSavedRound rule depth b opening old new ⊎ ((new.kept ≡ old.kept) × (new.tree ≡ old.tree))

-- rounds, one after another
abbrev pub AreRounds : Rule → ℕ → List Bounds → Tree → Held → List Held → Type 0
AreRounds rule depth b opening held [] = Unit {0}
AreRounds rule depth b opening held (next ∷ later) = IsRound rule depth b opening held next × AreRounds rule depth b opening next later

abbrev pub AllHeldStages : Rule → ℕ → List Bounds → Tree → List Held → Type 0
AllHeldStages rule depth b opening [] = Unit {0}
AllHeldStages rule depth b opening (held ∷ later) = IsHeldStage rule depth b opening held × AllHeldStages rule depth b opening later

-- Behind each of a list of rounds the tree is a stage of the opening, and the rows that are kept are the tree's.
abbrev pub RoundsHoldStages : Type 0
RoundsHoldStages = (rule : Rule) (depth : ℕ) (b : List Bounds) (opening : Tree) (held : Held) (later : List Held) → IsHeldStage rule depth b opening held
    → AreRounds rule depth b opening held later → AllHeldStages rule depth b opening later
