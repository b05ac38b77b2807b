-- How far a paving has come from its opening.
use Rattle.std.specs.Prelude.{◌≡◌, ◌↔◌, ◌+◌, ◌≤◌, ℕ, Bool, true, false, List}
use Rattle.pv_interval.specs.Bounds.{Bounds}
use Rattle.pv_tree.specs.Trees.{Tree}
use Rattle.pv_tree.specs.Stages.{Rule, IsStage}
use Rattle.pv_scope.specs.Settlings.{IsClosed, IsFullThere, LeavesOthers}
use Rattle.pv_scope.specs.declared.share.Share.{Share}
pub use Rattle.pv_board.specs.Rules.{settled_in}
pub use Rattle.pv_workers.specs.Pavings.{IsPaved, FullFits}

-- What was settled of a share of an opening's leaves, and whether it is done: that is so exactly where no leaf at or below the
-- share is open, and then what stands there is that of the full tree. Else exactly the budget was settled. All other leaves
-- stay as they were.
pub record IsSharePaved (rule : Rule) (depth : ℕ) (b : List Bounds) (opening : Tree) (share : Share) (budget : ℕ) (t : Tree) (done : Bool) : Type 0 where
  pub stage : IsStage rule depth b opening t
  pub others : LeavesOthers share.number share.of opening t
  pub closed : (done ≡ true) ↔ IsClosed share.number share.of opening t
  pub full : done ≡ true → IsFullThere rule depth b share.number share.of opening t
  pub few : settled_in t ≤ settled_in opening + budget
  pub spent : done ≡ false → settled_in t ≡ settled_in opening + budget
