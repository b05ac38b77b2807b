-- How far a paving has come from its opening.
use Rattle.std.specs.Prelude.{◌≡◌, ◌≢◌, ◌↔◌, ◌⊎◌, ℕ, ◌+◌, ◌≤◌, List, []}
use Rattle.pv_interval.specs.Bounds.{Bounds}
use Rattle.pv_tree.specs.Trees.{Tree, opens, IsPaving}
use Rattle.pv_tree.specs.Stages.{Rule, full_of, IsStage}
use Rattle.pv_tree.specs.Sets.{Covers}
use Rattle.pv_board.specs.Rules.{settled_in}

-- the full tree of an opening needs no more settlings than the budget has
abbrev pub FullFits : Rule → ℕ → List Bounds → Tree → ℕ → Type 0
FullFits rule depth b opening budget = settled_in (full_of rule depth b opening 0) ≤ settled_in opening + budget

-- the whole budget was spent, or no leaf is left open
abbrev pub IsSpent : ℕ → Tree → Tree → Type 0
IsSpent budget opening t =
    (settled_in t ≡ settled_in opening + budget)
    ⊎ ((opens t ≡ []) × (settled_in t ≤ settled_in opening + budget))

-- What was settled of an opening by a rule: a stage of it, and the full tree exactly where the budget is enough
-- for that. Else a leaf is open, and the whole budget was spent.
pub record IsPaved (rule : Rule) (depth : ℕ) (b : List Bounds) (opening : Tree) (budget : ℕ) (t : Tree) : Type 0 where
  pub paving : IsPaving b t
  pub covers : Covers b t
  pub stage : IsStage rule depth b opening t
  pub fits : (opens t ≡ []) ↔ FullFits rule depth b opening budget
  pub full : opens t ≡ [] → t ≡ full_of rule depth b opening 0
  pub spent : opens t ≢ [] → settled_in t ≡ settled_in opening + budget
