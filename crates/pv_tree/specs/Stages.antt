-- Full trees and stages, by one settling rule.
use Rattle.std.specs.Prelude.{◌≡◌, ℕ, zero, suc, ◌-◌, Bool, Some, List, [], length}
use Rattle.pv_interval.specs.Bounds.{Bounds}
use Rattle.pv_box.specs.Boxes.{lower_half, upper_half}
use Rattle.pv_tree.specs.Trees.{Tree, leaf, removed, inner, small, cut, outcome_at, settled, graft, box_of, opens, Paves, Seen}
use Rattle.pv_tree.specs.declared.outcome.Outcome.{Outcome}
use Rattle.pv_tree.specs.declared.outcome.Outcome.TheVariants.{Removed, Inner, Small, Cut}

-- How a box is settled, given how many further cuts are allowed and the length of its path.
abbrev pub Rule : Type 0
Rule = List Bounds → ℕ → ℕ → Outcome

-- A box is settled, and after a cut so are both halves.
unfoldable pub full : Rule → ℕ → List Bounds → ℕ → Tree
full rule zero b k = settled (rule b zero k)
full rule (suc d) b k = elim (rule b (suc d) k) [
  | Removed ↦ removed
  | Inner to ↦ inner to
  | Small to ↦ small to
  | Cut to var at ↦ cut to var at (full rule d (lower_half to var at) (suc k)) (full rule d (upper_half to var at) (suc k))
]

-- The full tree of an opening whose root stands at a path of k steps: each open leaf is settled, and what is below it.
unfoldable pub full_of : Rule → ℕ → List Bounds → Tree → ℕ → Tree
full_of rule depth b leaf k = full rule (depth - k) b k
full_of rule depth b removed k = removed
full_of rule depth b (inner to) k = inner to
full_of rule depth b (small to) k = small to
full_of rule depth b (cut to var at low high) k =
    cut to var at (full_of rule depth (lower_half to var at) low (suc k)) (full_of rule depth (upper_half to var at) high (suc k))

-- One tree is another with some open leaves replaced: what is settled in the first is settled so in the second.
abbrev pub Grows : Tree → Tree → Type 0
Grows s t = (p : List Bool) (o : Outcome) → outcome_at s p ≡ Some o → outcome_at t p ≡ Some o

-- A stage of an opening: the opening grew to it, and it grows to the opening's full tree.
pub record IsStage (rule : Rule) (depth : ℕ) (b : List Bounds) (opening t : Tree) : Type 0 where
  pub grown : Grows opening t
  pub grows : Grows t (full_of rule depth b opening 0)

-- The same of an opening whose root stands at a path of k steps.
abbrev pub IsStageFrom : Rule → ℕ → List Bounds → Tree → ℕ → Tree → Type 0
IsStageFrom rule depth b opening k t = Grows opening t × Grows t (full_of rule depth b opening k)

-- The tree of a paving in which the leaf at a path is settled by a rule, with the cuts that the depth leaves.
abbrev pub settled_by : Rule → ℕ → Seen → List Bool → Tree
settled_by rule depth p path = graft p.tree path (settled (rule (box_of p.root p.tree path) (depth - length path) (length path)))

-- What was a stage of an opening still is one.
abbrev pub KeepsStages : Rule → ℕ → Seen → Seen → Type 0
KeepsStages rule depth old new =
    (opening : Tree) → Paves old.root opening → IsStage rule depth old.root opening old.tree → IsStage rule depth new.root opening new.tree

-- Each stage of a paving is a paving.
abbrev pub StagesPave : Rule → ℕ → List Bounds → Type 0
StagesPave rule depth b = (opening t : Tree) → Paves b opening → IsStage rule depth b opening t → Paves b t

-- A stage with no open leaf is the full tree.
abbrev pub ClosedStagesAreFull : Rule → ℕ → List Bounds → Type 0
ClosedStagesAreFull rule depth b = (opening t : Tree) → IsStage rule depth b opening t → opens t ≡ [] → t ≡ full_of rule depth b opening 0
