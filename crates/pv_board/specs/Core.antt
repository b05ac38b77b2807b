-- The state of a board, and what holds of every board.
use Rattle.std.specs.Prelude.{◌≡◌, ℕ, ◌+◌, ◌<◌, ◌≤◌, Bool, Some, List, length, refl}
use Rattle.std.specs.Coded.{Coded, code_by, coded×, coded_ℕ, coded_bool, coded_list}
use Rattle.pv_interval.specs.Bounds.{Bounds}
use Rattle.pv_box.specs.Boxes.{IsBox}
use Rattle.pv_tree.specs.Trees.{Tree, leaf, subtree, Paves}
use Rattle.pv_tree.specs.Stages.{Rule, IsStage}
use Rattle.pv_tree.specs.Codes.{coded_box, coded_tree}
use Rattle.pv_board.specs.declared.mark.Mark.{Mark}
use Rattle.pv_board.specs.Marks.{holds, marked, issued, granted}
use Rattle.pv_board.specs.Rules.{IsFitting, settled_in}
use Rattle.pv_board.specs.declared.ticket.TheConstants.{MOST_GRANT}

-- The paving with its root box and its room, the marks of the issued paths, what is used and left of the budget, whether it was stopped, and a
-- number that changes where a worker might find something new.
pub record Core : Type 0 where
  pub root : List Bounds
  pub tree : Tree
  pub spare : ℕ
  pub marks : List Mark
  pub used : ℕ
  pub left : ℕ
  pub stopped : Bool
  pub steps : ℕ

-- What a board is opened on: a paving of a box that the rule is for.
pub record IsOpening (rule : Rule) (depth dims : ℕ) (root : List Bounds) (opening : Tree) : Type 0 where
  pub rule_fits : IsFitting rule depth dims
  pub box : IsBox root
  pub places : length root ≡ dims
  pub paves : Paves root opening

-- The paving is a stage of the opening, the issued paths are distinct open leaves, each grant is at most 15, nothing of the budget is lost, and all of it
-- keeps within the limit.
pub record IsCore (rule : Rule) (depth : ℕ) (root : List Bounds) (opening : Tree) (budget limit : ℕ) (c : Core) : Type 0 where
  pub root_is : c.root ≡ root
  pub stage : IsStage rule depth root opening c.tree
  pub distinct : (q : List Bool) → marked c.marks q ≤ 1
  pub are_open : (q : List Bool) → 0 < marked c.marks q → subtree c.tree q ≡ Some leaf
  pub grants : (q : List Bool) → holds c.marks q ≤ MOST_GRANT + 1
  pub conserved : c.used + issued c.marks + granted c.marks + c.left ≡ budget
  pub settled : settled_in opening + c.used ≤ settled_in c.tree
  pub few : settled_in c.tree + issued c.marks + granted c.marks + c.left ≤ limit
  pub room : issued c.marks + granted c.marks + c.left ≤ c.spare

abbrev pub coded_mark : Coded Mark
coded_mark = code_by (List Bool × ℕ) (coded× (coded_list coded_bool) coded_ℕ) (λ m. (m.path, m.grant)) (λ p. record { path = p.0; grant = p.1 }) (λ _. refl)

abbrev pub coded_core : Coded Core
coded_core =
    code_by (List Bounds × (Tree × (ℕ × (List Mark × (ℕ × (ℕ × (Bool × ℕ)))))))
    (coded× coded_box (coded× coded_tree (coded× coded_ℕ (coded× (coded_list coded_mark) (coded× coded_ℕ (coded× coded_ℕ (coded× coded_bool coded_ℕ)))))))
    (λ c. (c.root, (c.tree, (c.spare, (c.marks, (c.used, (c.left, (c.stopped, c.steps))))))))
    (λ p. record { root = p.0; tree = p.1.0; spare = p.1.1.0; marks = p.1.1.1.0; used = p.1.1.1.1.0; left = p.1.1.1.1.1.0; stopped = p.1.1.1.1.1.1.0; steps = p.1.1.1.1.1.1.1 })
    (λ _. refl)
