-- What a board has come to, where nothing was absorbed.
use Rattle.std.specs.Prelude.{◌≡◌, ◌+◌}
use Rattle.pv_tree.specs.Trees.{Tree}
use Rattle.pv_board.specs.Rules.{settled_in}
use Rattle.pv_board.specs.Core.{Core}
use Rattle.pv_board.specs.Marks.{issued}

-- Nothing is issued, and the tree has as many more settled nodes than the opening as were settled.
pub record IsRecalled (opening : Tree) (c : Core) : Type 0 where
  pub none : issued c.marks ≡ 0
  pub settled : settled_in c.tree ≡ settled_in opening + c.used
