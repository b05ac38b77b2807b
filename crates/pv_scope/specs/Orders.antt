-- What the order of settling says of how far the leaves of an opening were settled.
use Rattle.std.specs.Prelude.{ℕ}
use Rattle.pv_tree.specs.Trees.{Tree}
use Rattle.pv_scope.specs.Settlings.{IsLevel}
use Rattle.pv_scope.specs.declared.order.Order.{Order}
use Rattle.pv_scope.specs.declared.order.Order.TheVariants.{Depth, Level}

-- Leaves were settled by levels, and this ended in a pass.
pub record IsByLevels (opening t : Tree) : Type 0 where
  pub pass : ℕ
  pub level : IsLevel opening t pass

abbrev pub IsInOrder : Order → Tree → Tree → Type 0
IsInOrder Depth opening t = Unit {0}
IsInOrder Level opening t = IsByLevels opening t
