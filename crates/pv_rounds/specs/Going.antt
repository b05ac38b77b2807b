-- What rounds make of a campaign, and what they leave of it where one is refused.
use Rattle.std.specs.Prelude.{◌≢◌, ◌+◌, ◌*◌, ◌≤◌, ℕ, List, []}
use Rattle.pv_interval.specs.Bounds.{Bounds}
use Rattle.pv_tree.specs.Trees.{Tree, opens, Paves}
use Rattle.pv_tree.specs.Stages.{Rule, IsStage}
use Rattle.pv_workers.specs.Pavings.{IsPaved}
use Rattle.pv_scope.specs.Orders.{IsInOrder}
use Rattle.pv_scope.specs.declared.order.Order.{Order}
use Rattle.pv_keep.specs.Keeping.{Kept}
use Rattle.pv_keep.specs.Campaigns.{IsSaved}

-- Stages of stages are stages, budgets that are spent one after another add up, and what is settled in an order on and on is
-- settled in that order.
pub record AddUp (rule : Rule) (depth : ℕ) (b : List Bounds) : Type 0 where
  pub stages : (earlier opening t : Tree) → Paves b earlier → IsStage rule depth b earlier opening → IsStage rule depth b opening t → IsStage rule depth b earlier t
  pub paved : (opening middle t : Tree) (spent budget : ℕ) → Paves b opening → IsPaved rule depth b opening spent middle → opens middle ≢ []
      → IsPaved rule depth b middle budget t → IsPaved rule depth b opening (spent + budget) t
  pub ordered : (order : Order) (opening middle t : Tree) → IsStage rule depth b middle t → IsInOrder order opening middle → IsInOrder order middle t
      → IsInOrder order opening t

-- A budget was settled of an opening in an order, and the rows of what came of it are kept.
pub record HasGoneOn (rule : Rule) (depth : ℕ) (b : List Bounds) (order : Order) (opening : Tree) (budget : ℕ) (before after : Kept) (t : Tree) : Type 0 where
  pub run : IsPaved rule depth b opening budget t
  pub ordered : IsInOrder order opening t
  pub saved : IsSaved before after t

-- So many rounds of a budget at most were saved: the rows that are kept are those of a stage of the opening, which
-- is the full tree, or has exactly a whole number of budgets more settled nodes.
pub record HasStopped (rule : Rule) (depth : ℕ) (b : List Bounds) (order : Order) (opening : Tree) (boxes count : ℕ) (before after : Kept) : Type 0 where
  pub rounds : ℕ
  pub few : rounds ≤ count
  pub tree : Tree
  pub gone : HasGoneOn rule depth b order opening (rounds * boxes) before after tree
