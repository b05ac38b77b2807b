-- Which tickets a shared board gives for a stage.
use Rattle.std.specs.Prelude.{◌≡◌, ℕ, Bool, List, [], map, take}
use Rattle.pv_tree.specs.Trees.{Tree}
use Rattle.pv_board.specs.declared.mark.Mark.{Mark}
use Rattle.pv_board.specs.declared.ticket.Handed.{Handed}
use Rattle.pv_board.specs.declared.ticket.Handed.TheVariants as handed
use Rattle.pv_board.specs.Events.{fresh, leaves_at}

-- Tickets with no grant of the first open leaves of a tree whose root stands at a path.
pub record AreFirst (p : List Bool) (s : Tree) (children : List Mark) : Type 0 where
  pub count : ℕ
  pub are : children ≡ map fresh (take count (leaves_at p s))

-- The tickets that are given for a stage: of its first open leaves where it was taken, and else none.
abbrev pub AreHandedOut : List Bool → Tree → List Mark → Handed → Type 0
AreHandedOut p s children handed.Taken = AreFirst p s children
AreHandedOut p s children handed.Stale = children ≡ []
AreHandedOut p s children handed.Short = children ≡ []
