-- Where a tree's outcomes are a rule's.
use Rattle.std.specs.Prelude.{◌≡◌, ◌≢◌, ◌-◌, ℕ, Option, Some, None, IsTrue, List, Bool, length}
use Rattle.pv_interval.specs.Bounds.{Bounds}
use Rattle.pv_tree.specs.Trees.{Tree, leaf, top, outcome_at, precedes, box_of}
use Rattle.pv_tree.specs.Pieces.{Piece}
use Rattle.pv_interval.specs.Points.{Point}
use Rattle.pv_tree.specs.Sets.{IsSound}
use Rattle.pv_tree.specs.Stages.{Rule, IsStage}
use Rattle.pv_tree.specs.declared.outcome.Outcome.{Outcome}
use Rattle.pv_join.specs.declared.verdict.Audit.{Audit}
use Rattle.pv_join.specs.declared.verdict.Audit.TheVariants as verdict

-- The rule's outcome for the box at a path.
abbrev pub due_at : Rule → ℕ → List Bounds → Tree → List Bool → Outcome
due_at rule depth b t p = rule (box_of b t p) (depth - length p) (length p)

-- A node that is settled has the rule's outcome.
abbrev pub IsDue : Rule → ℕ → List Bounds → Tree → List Bool → Type 0
IsDue rule depth b t p = (o : Outcome) → outcome_at t p ≡ Some o → o ≡ due_at rule depth b t p

-- A path is the first in preorder whose node is settled otherwise than by the rule.
pub record IsFirstDifference (rule : Rule) (depth : ℕ) (b : List Bounds) (t : Tree) (p : List Bool) : Type 0 where
  pub found : Outcome
  pub is : outcome_at t p ≡ Some found
  pub differ : found ≢ due_at rule depth b t p
  pub before : (q : List Bool) → IsTrue (precedes q p) → IsDue rule depth b t q

-- What an audit says: the tree is a stage of the open box, or which path comes first where it is not.
abbrev pub IsVerdict : Rule → ℕ → List Bounds → Tree → Audit → Type 0
IsVerdict rule depth b t verdict.Honest = IsStage rule depth b leaf t
IsVerdict rule depth b t (verdict.DiffersAt p o) =
    IsFirstDifference rule depth b t p × (o ≡ due_at rule depth b t p) × (IsStage rule depth b leaf t → ⊥)

-- The rule's outcome for a node that a walk meets.
abbrev pub due_of : Rule → ℕ → Piece → Outcome
due_of rule depth piece = rule piece.box (depth - length piece.path) (length piece.path)

-- What the check of a node found: nothing where it is open or settled by the rule, else the rule's outcome.
abbrev pub IsChecked : Rule → ℕ → Piece → Option Outcome → Type 0
IsChecked rule depth piece None = (o : Outcome) → top piece.tree ≡ Some o → o ≡ due_of rule depth piece
IsChecked rule depth piece (Some due) =
    (due ≡ due_of rule depth piece) × ((found : Outcome) × ((top piece.tree ≡ Some found) × (found ≢ due)))

abbrev pub IsSoundIfHonest : (Point → Type 0) → List Bounds → Tree → Audit → Type 0
IsSoundIfHonest inside b t verdict.Honest = IsSound inside b t
IsSoundIfHonest inside b t (verdict.DiffersAt p o) = Unit {0}
