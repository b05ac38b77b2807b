-- The join of two trees over one box.
use Rattle.pv_interval.specs.Bounds.{Bounds}
use Rattle.pv_tree.specs.Stages.{Rule, IsStage}
use Rattle.std.specs.Prelude.{ℕ, ◌≡◌, ◌≢◌, ◌⊎◌, ◌++◌, true, false, Option, Some, None, IsTrue, List, Bool}
use Rattle.std.specs.Option.{IsSome}
use Rattle.pv_tree.specs.Trees.{Tree, Seen, subtree, outcome_at, precedes, graft, settled, box_of}
use Rattle.pv_tree.specs.declared.outcome.Outcome.{Outcome}
use Rattle.pv_tree.specs.declared.outcome.Outcome.TheVariants.{Removed, Inner, Small, Cut}
use Rattle.pv_join.specs.declared.merge.JoinRefused.{JoinRefused}
use Rattle.pv_join.specs.declared.merge.JoinRefused.TheVariants as refused

-- The settled side of two; the left one, where both are.
abbrev pub settled_side : Option Outcome → Option Outcome → Option Outcome
settled_side None b = b
settled_side (Some o) b = Some o

-- Where two trees are both settled they are settled alike.
abbrev pub Agree : Tree → Tree → Type 0
Agree a b = (p : List Bool) (o u : Outcome) → outcome_at a p ≡ Some o → outcome_at b p ≡ Some u → o ≡ u

-- t takes at each path the settled side of a and b, which agree.
pub record IsJoin (a b t : Tree) : Type 0 where
  pub agree : Agree a b
  pub takes : (p : List Bool) → outcome_at t p ≡ settled_side (outcome_at a p) (outcome_at b p)

-- At a path both are settled, and differently.
pub record DisagreeAt (a b : Tree) (p : List Bool) : Type 0 where
  pub left : Outcome
  pub right : Outcome
  pub left_is : outcome_at a p ≡ Some left
  pub right_is : outcome_at b p ≡ Some right
  pub differ : left ≢ right

-- A path is the first in preorder at which they disagree.
pub record IsFirstDisagreement (a b : Tree) (p : List Bool) : Type 0 where
  pub here : DisagreeAt a b p
  pub before : (q : List Bool) → IsTrue (precedes q p) → DisagreeAt a b q → ⊥

-- A tree after another was laid over it from a path down: at the path stands the join of the two subtrees.
pub record HasPart (old new : Tree) (p : List Bool) (s t : Tree) : Type 0 where
  pub part : Tree
  pub is_join : IsJoin s t part
  pub new_is : new ≡ graft old p part

abbrev pub IsOverlaid : Tree → Tree → Tree → List Bool → Type 0
IsOverlaid old over new p = (s t : Tree) → subtree old p ≡ Some s → subtree over p ≡ Some t → HasPart old new p s t

abbrev pub IsRefusal : Tree → Tree → List Bool → JoinRefused → Type 0
IsRefusal old over p refused.Memory = Unit {0}
IsRefusal old over p (refused.Disagree q) =
    (s t : Tree) → subtree old p ≡ Some s → subtree over p ≡ Some t → (r : List Bool) × ((q ≡ p ++ r) × IsFirstDisagreement s t r)

-- Both trees have a path, and one box there.
pub record IsReady (old over : Seen) (p : List Bool) : Type 0 where
  pub mine : IsSome (subtree old.tree p)
  pub theirs : IsSome (subtree over.tree p)
  pub box : box_of old.root old.tree p ≡ box_of over.root over.tree p

-- A node was open and is settled now, or was settled so before.
abbrev pub IsSettledAs : Tree → Tree → List Bool → Outcome → Type 0
IsSettledAs old new p o = ((outcome_at old p ≡ None) × (new ≡ graft old p (settled o))) ⊎ ((outcome_at old p ≡ Some o) × (new ≡ old))

abbrev pub IsMismatch : Tree → List Bool → Outcome → JoinRefused → Type 0
IsMismatch old p o refused.Memory = Unit {0}
IsMismatch old p o (refused.Disagree q) = (q ≡ p) × ((u : Outcome) × ((outcome_at old p ≡ Some u) × (u ≢ o)))

abbrev pub is_a_cut : Outcome → Bool
is_a_cut Removed = false
is_a_cut (Inner to) = false
is_a_cut (Small to) = false
is_a_cut (Cut to var at) = true

-- What a refusal of a join says.
abbrev pub IsJoinRefusal : Tree → Tree → JoinRefused → Type 0
IsJoinRefusal a b refused.Memory = Unit {0}
IsJoinRefusal a b (refused.Disagree p) = IsFirstDisagreement a b p

-- A join is the exchanged join too, the only one, that of one tree with itself, and associative; and stages of one opening join to a stage.
pub record HasJoinLaws (a b t : Tree) : Type 0 where
  pub exchanged : IsJoin b a t
  pub alone : (u : Tree) → IsJoin a b u → u ≡ t
  pub same : a ≡ b → t ≡ a
  pub associates : (c u : Tree) → IsJoin t c u → (v : Tree) × (IsJoin b c v × IsJoin a v u)
  pub stages : (rule : Rule) (depth : ℕ) (root : List Bounds) (opening : Tree) → IsStage rule depth root opening a → IsStage rule depth root opening b → IsStage rule depth root opening t

-- Two trees that disagree are no stages of one opening.
abbrev pub AreNoStages : Tree → Tree → JoinRefused → Type 0
AreNoStages a b refused.Memory = Unit {0}
AreNoStages a b (refused.Disagree p) =
    (rule : Rule) (depth : ℕ) (root : List Bounds) (opening : Tree) → IsStage rule depth root opening a → IsStage rule depth root opening b → ⊥
