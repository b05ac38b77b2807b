-- An arena that takes in another in the place of an open node: the other's root stands there, its other nodes and its ends at the end.
use Rattle.std.specs.Prelude.{◌≢◌, ◌≡◌, ℕ, ◌+◌, ◌<◌, ◌^◌, Some, List, length, slice_index_or}
use Rattle.pv_tree.specs.Arena.{cell_at, open_node, kids_of, start_of}
use Rattle.pv_tree.specs.declared.cell.Cell.{Cell}
use Rattle.pv_tree.specs.declared.cell.Cell.TheVariants.{Open, Removed, Inner, Small, Cut}
use Rattle.pv_tree.specs.declared.cell.Node.{Node}

-- The cell after its children moved by `n` and its ends by `e`.
abbrev pub moved_cell : ℕ → ℕ → Cell → Cell
moved_cell n e Open = Open
moved_cell n e Removed = Removed
moved_cell n e (Inner s) = Inner (s + e)
moved_cell n e (Small s) = Small (s + e)
moved_cell n e (Cut s var at c) = Cut (s + e) var at (c + n)

abbrev pub moved : ℕ → ℕ → Node → Node
moved n e x = record { cell = moved_cell n e x.cell; closed = x.closed }

-- The numbers of moved nodes fit.
pub record CanMoveCell (x : Cell) (n e : ℕ) : Type 0 where
  pub kids : (c : ℕ) → kids_of x ≡ Some c → c + n < 2 ^ 64
  pub starts : (s : ℕ) → start_of x ≡ Some s → s + e < 2 ^ 64

pub record CanMove (ns : List Node) (n e : ℕ) : Type 0 where
  pub cells : (k : ℕ) → CanMoveCell (cell_at ns k) n e

pub record IsTakenIn (ns ms more : List Node) (j n e : ℕ) : Type 0 where
  pub here : slice_index_or ms j open_node ≡ moved n e (slice_index_or more 0 open_node)
  pub old : (k : ℕ) → k < length ns → k ≢ j → slice_index_or ms k open_node ≡ slice_index_or ns k open_node
  pub new : (k : ℕ) → 0 < k → slice_index_or ms (k + n) open_node ≡ moved n e (slice_index_or more k open_node)
  pub size : length ms + 1 ≡ length ns + length more
