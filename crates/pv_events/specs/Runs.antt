-- What holds after every list of events, in whatever order they come.
use Rattle.std.specs.Prelude.{◌≡◌, ◌≢◌, ℕ, ◌+◌, ◌<◌, ◌≤◌, ◌↔◌, Bool, None, List}
use Rattle.pv_interval.specs.Bounds.{Bounds}
use Rattle.pv_tree.specs.Trees.{Tree, outcome_at}
use Rattle.pv_tree.specs.Stages.{Rule, Grows, full_of}
use Rattle.pv_join.specs.Joins.{Agree}
use Rattle.pv_board.specs.Marks.{weigh}
use Rattle.pv_board.specs.Rules.{settled_in}
use Rattle.pv_board.specs.Core.{Core, IsCore, IsOpening}
use Rattle.pv_board.specs.Events.{IsOver}
use Rattle.pv_board.specs.Openings.{IsOpened}
use Rattle.pv_events.specs.Steps.{Event, Run, settles, settles_at, absorbs, halts}

-- What holds of every board holds at the end; what was settled stays; used is what the events settled; and the tree has grown by that and by what they
-- absorbed.
pub record IsRight (rule : Rule) (depth : ℕ) (root : List Bounds) (opening : Tree) (budget limit : ℕ) (events : List Event) (old new : Core) : Type 0 where
  pub core : IsCore rule depth root opening budget limit new
  pub grown : Grows old.tree new.tree
  pub used : new.used ≡ old.used + weigh settles events
  pub settled : settled_in new.tree ≡ settled_in old.tree + weigh settles events + weigh absorbs events

-- Every list of events leads from a board to a board.
abbrev pub RunsAreRight : Type 0
RunsAreRight =
    (rule : Rule) (depth dims : ℕ) (root : List Bounds) (opening : Tree) (budget limit : ℕ) (events : List Event) (old new : Core)
    → IsOpening rule depth dims root opening → IsCore rule depth root opening budget limit old → Run rule depth root opening limit events old new
    → IsRight rule depth root opening budget limit events old new

-- No leaf is settled twice, whoever has tickets for it, and none that was settled before.
abbrev pub SettledOnce : Type 0
SettledOnce =
    (rule : Rule) (depth dims : ℕ) (root : List Bounds) (opening : Tree) (budget limit : ℕ) (events : List Event) (old new : Core) (p : List Bool)
    → IsOpening rule depth dims root opening → IsCore rule depth root opening budget limit old → Run rule depth root opening limit events old new
    → (weigh (settles_at p) events ≤ 1) × (outcome_at old.tree p ≢ None → weigh (settles_at p) events ≡ 0)

-- A board was opened within its limit, with room for its budget.
pub record IsBegun (root : List Bounds) (opening : Tree) (budget limit : ℕ) (c : Core) : Type 0 where
  pub is : IsOpened root opening budget c
  pub few : settled_in opening + budget ≤ limit
  pub room : budget ≤ c.spare

-- The same from a board that was just opened: used is what the events settled, and the tree has so many settled nodes more than the opening.
pub record IsRightOf (rule : Rule) (depth : ℕ) (root : List Bounds) (opening : Tree) (budget limit : ℕ) (events : List Event) (c : Core) : Type 0 where
  pub core : IsCore rule depth root opening budget limit c
  pub used : c.used ≡ weigh settles events
  pub settled : settled_in c.tree ≡ settled_in opening + c.used + weigh absorbs events

abbrev pub OpenedRunsAreRight : Type 0
OpenedRunsAreRight =
    (rule : Rule) (depth dims : ℕ) (root : List Bounds) (opening : Tree) (budget limit : ℕ) (events : List Event) (old new : Core)
    → IsOpening rule depth dims root opening → IsBegun root opening budget limit old → Run rule depth root opening limit events old new
    → IsRightOf rule depth root opening budget limit events new

-- Where nothing is issued and nothing can be taken, and nobody stopped the board, the tree is the full tree if anything is left. It is so exactly where
-- the budget is enough, beside what was absorbed.
pub record IsWhole (rule : Rule) (depth : ℕ) (root : List Bounds) (opening : Tree) (budget : ℕ) (events : List Event) (c : Core) : Type 0 where
  pub some_left : 0 < c.left → c.tree ≡ full_of rule depth root opening 0
  pub exactly : (c.tree ≡ full_of rule depth root opening 0) ↔ (settled_in (full_of rule depth root opening 0) ≤ settled_in opening + budget + weigh absorbs events)

abbrev pub OverRunsAreWhole : Type 0
OverRunsAreWhole =
    (rule : Rule) (depth dims : ℕ) (root : List Bounds) (opening : Tree) (budget limit : ℕ) (events : List Event) (old new : Core)
    → IsOpening rule depth dims root opening → IsBegun root opening budget limit old → Run rule depth root opening limit events old new
    → weigh halts events ≡ 0 → IsOver new → IsWhole rule depth root opening budget events new

-- Two lists of events on one opening, wherever they end, settle no node differently.
abbrev pub RunsAgree : Type 0
RunsAgree =
    (rule : Rule) (depth dims : ℕ) (root : List Bounds) (opening : Tree) (budget limit budget' limit' : ℕ) (xs ys : List Event) (a b c d : Core)
    → IsOpening rule depth dims root opening → IsBegun root opening budget limit a → IsBegun root opening budget' limit' c
    → Run rule depth root opening limit xs a b → Run rule depth root opening limit' ys c d → Agree b.tree d.tree

-- Some events, none of which stops the board, lead to where nothing is issued and nothing can be taken.
pub record CanEnd (rule : Rule) (depth : ℕ) (root : List Bounds) (opening : Tree) (limit : ℕ) (c : Core) : Type 0 where
  pub events : List Event
  pub last : Core
  pub run : Run rule depth root opening limit events c last
  pub goes : weigh halts events ≡ 0
  pub over : IsOver last

abbrev pub BoardsCanEnd : Type 0
BoardsCanEnd =
    (rule : Rule) (depth dims : ℕ) (root : List Bounds) (opening : Tree) (budget limit : ℕ) (c : Core)
    → IsOpening rule depth dims root opening → IsBegun root opening budget limit c → CanEnd rule depth root opening limit c
