-- What can happen to a board: its events, which step each of them is, and lists of them.
use Rattle.std.specs.Prelude.{◌≡◌, ℕ, ◌+◌, ◌≤◌, Bool, true, IsTrue, List, [], ◌∷◌, length}
use Rattle.pv_interval.specs.Bounds.{Bounds}
use Rattle.pv_tree.specs.Trees.{Tree, box_of}
use Rattle.pv_tree.specs.Stages.{Rule, IsStage, full_of}
use Rattle.pv_board.specs.declared.mark.Mark.{Mark}
use Rattle.pv_board.specs.Marks.{at, issued, granted}
use Rattle.pv_board.specs.Rules.{IsStageBelow, settled_in}
use Rattle.pv_board.specs.Core.{Core}
use Rattle.pv_board.specs.Events.{is_current, next_step, IsTake, IsExtend, IsSettling, IsGiveBack, IsRecall}
use Rattle.pv_board.specs.Absorbing.{IsAbsorbed}

pub data Event : Type 0 where
  -- A leaf was issued by a ticket.
  took : Mark → Event
  -- A ticket was granted so many units more.
  extended : Mark → ℕ → Event
  -- A ticket's leaf became a tree, of one node or of many, and some leaves of it were issued.
  became : Mark → Tree → List Mark → Event
  -- A ticket's leaf was given back.
  gave_back : Mark → Event
  -- The board was stopped.
  halted : Event
  -- The number that idle workers look at was changed.
  announced : Event
  -- All tickets' leaves were given back.
  recalled : Event
  -- What a stage of the opening has settled was taken in, which added so many nodes.
  absorbed : Tree → ℕ → Event

-- A ticket with so many units more.
abbrev pub raised : Mark → ℕ → Mark
raised t units = record { path = t.path; grant = t.grant + units }

-- A ticket is current, and its grant grows to at most 15.
pub record IsExtended (old new : Core) (t : Mark) (units : ℕ) : Type 0 where
  pub current : IsTrue (is_current old t)
  pub few : t.grant + units ≤ 15
  pub is : IsExtend old new t (raised t units) units

-- A ticket is current, and its leaf is settled: it becomes a stage of it by the rule. The units of the ticket and the board are enough.
pub record IsSettled (rule : Rule) (depth : ℕ) (root : List Bounds) (opening : Tree) (old new : Core) (t : Mark) (s : Tree) (children : List Mark) : Type 0 where
  pub current : IsTrue (is_current old t)
  pub due : IsStageBelow rule depth (box_of root (full_of rule depth root opening 0) t.path) (length t.path) s
  pub some : 1 ≤ settled_in s
  pub enough : settled_in s ≤ old.left + 1 + t.grant
  pub is : IsSettling old new t s children

-- A ticket is current, and its leaf is no longer issued.
pub record IsGivenBack (old new : Core) (t : Mark) : Type 0 where
  pub current : IsTrue (is_current old t)
  pub is : IsGiveBack old new t

-- A stage of the opening was absorbed within the limit, and the board has room for all that may yet be settled.
pub record IsTakenIn (rule : Rule) (depth : ℕ) (root : List Bounds) (opening : Tree) (limit : ℕ) (old new : Core) (stage : Tree) (added : ℕ) : Type 0 where
  pub due : IsStage rule depth root opening stage
  pub is : IsAbsorbed limit old new stage added
  pub room : issued new.marks + granted new.marks + new.left ≤ new.spare

-- An event leads from one state of a board to another, for a rule, an opening and a limit.
abbrev pub Step : Rule → ℕ → List Bounds → Tree → ℕ → Event → Core → Core → Type 0
Step rule depth root opening limit (took t) old new = IsTake old new t
Step rule depth root opening limit (extended t units) old new = IsExtended old new t units
Step rule depth root opening limit (became t s children) old new = IsSettled rule depth root opening old new t s children
Step rule depth root opening limit (gave_back t) old new = IsGivenBack old new t
Step rule depth root opening limit halted old new = new ≡ record old { stopped = true }
Step rule depth root opening limit announced old new = new ≡ record old { steps = next_step old.steps }
Step rule depth root opening limit recalled old new = IsRecall old new
Step rule depth root opening limit (absorbed stage added) old new = IsTakenIn rule depth root opening limit old new stage added

-- Events lead one after another from one state to another; none of them leaves it as it is.
abbrev pub Run : Rule → ℕ → List Bounds → Tree → ℕ → List Event → Core → Core → Type 0
Run rule depth root opening limit [] old new = new ≡ old
Run rule depth root opening limit (e ∷ es) old new = (mid : Core) × Step rule depth root opening limit e old mid × Run rule depth root opening limit es mid new

-- How many nodes were settled by an event's ticket.
abbrev pub settles : Event → ℕ
settles (took t) = 0
settles (extended t units) = 0
settles (became t s children) = settled_in s
settles (gave_back t) = 0
settles halted = 0
settles announced = 0
settles recalled = 0
settles (absorbed stage added) = 0

-- How many nodes an event absorbed.
abbrev pub absorbs : Event → ℕ
absorbs (took t) = 0
absorbs (extended t units) = 0
absorbs (became t s children) = 0
absorbs (gave_back t) = 0
absorbs halted = 0
absorbs announced = 0
absorbs recalled = 0
absorbs (absorbed stage added) = added

-- One where an event stops the board.
abbrev pub halts : Event → ℕ
halts (took t) = 0
halts (extended t units) = 0
halts (became t s children) = 0
halts (gave_back t) = 0
halts halted = 1
halts announced = 0
halts recalled = 0
halts (absorbed stage added) = 0

-- One where an event settles the leaf at a path.
abbrev pub settles_at : List Bool → Event → ℕ
settles_at p (took t) = 0
settles_at p (extended t units) = 0
settles_at p (became t s children) = at t.path p 1
settles_at p (gave_back t) = 0
settles_at p halted = 0
settles_at p announced = 0
settles_at p recalled = 0
settles_at p (absorbed stage added) = 0
