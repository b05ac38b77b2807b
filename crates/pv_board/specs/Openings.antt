-- A board as it is opened, and why it isn't.
use Rattle.std.specs.Prelude.{◌≡◌, ℕ, ◌+◌, ◌<◌, false, List, []}
use Rattle.pv_interval.specs.Bounds.{Bounds}
use Rattle.pv_tree.specs.Trees.{Tree, Seen}
use Rattle.pv_board.specs.Rules.{settled_in}
use Rattle.pv_board.specs.Core.{Core}
use Rattle.pv_board.specs.declared.opening.OpenRefused.{OpenRefused}
use Rattle.pv_board.specs.declared.opening.OpenRefused.TheVariants as refused

-- The opening, with nothing issued and the whole budget left.
pub record IsOpened (root : List Bounds) (opening : Tree) (budget : ℕ) (c : Core) : Type 0 where
  pub root_is : c.root ≡ root
  pub tree : c.tree ≡ opening
  pub marks : c.marks ≡ []
  pub used : c.used ≡ 0
  pub left : c.left ≡ budget
  pub stopped : c.stopped ≡ false
  pub steps : c.steps ≡ 0

-- The opening is handed back.
abbrev pub IsBack : Seen → Seen → Type 0
IsBack opening back = (back.root ≡ opening.root) × (back.tree ≡ opening.tree)

abbrev pub IsOpenRefusal : Seen → ℕ → ℕ → OpenRefused → Type 0
IsOpenRefusal opening budget limit (refused.Memory back) = IsBack opening back
IsOpenRefusal opening budget limit (refused.TreeLimit settled back) =
    IsBack opening back × (settled ≡ settled_in opening.tree) × (limit < settled + budget)
