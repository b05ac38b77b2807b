-- The events of a board. What a record does not name stays.
use Rattle.std.specs.Prelude.{◌≡◌, ◌≢◌, ℕ, suc, ◌+◌, ◌-◌, ◌^◌, ◌%◌, ◌<◌, ◌≤◌, Bool, false, IsTrue, if◌then◌else◌, nat_eq, Some, List, [], ◌++◌, map, take, length}
use Rattle.pv_tree.specs.Trees.{Tree, leaf, subtree, graft, opens}
use Rattle.pv_board.specs.declared.mark.Mark.{Mark}
use Rattle.pv_board.specs.Marks.{weigh, holds, issued, granted, HasMore}
use Rattle.pv_board.specs.Rules.{settled_in}
use Rattle.pv_board.specs.Core.{Core}
use Rattle.pv_board.specs.declared.ticket.Handed.{Handed}
use Rattle.pv_board.specs.declared.ticket.Handed.TheVariants as handed
use Rattle.pv_board.specs.declared.ticket.Look.{Look}
use Rattle.pv_board.specs.declared.ticket.Look.TheVariants as look

-- A ticket is current where its path is issued with its grant.
abbrev pub is_current : Core → Mark → Bool
is_current c t = nat_eq (holds c.marks t.path) (suc t.grant)

-- How many paths may be issued.
abbrev pub free_units : Bool → ℕ → ℕ
free_units stopped left = if stopped then 0 else left

abbrev pub may_issue : Core → ℕ
may_issue c = free_units c.stopped c.left

-- Nothing can be taken: no path may be issued, or every open leaf is issued.
abbrev pub IsDry : Core → Type 0
IsDry c = 0 < may_issue c → (p : List Bool) → subtree c.tree p ≡ Some leaf → 0 < holds c.marks p

-- Nothing is issued, and nothing can be taken.
pub record IsOver (c : Core) : Type 0 where
  pub none : issued c.marks ≡ 0
  pub dry : IsDry c

-- One step more, as a word of 64 bits.
abbrev pub next_step : ℕ → ℕ
next_step n = (n + 1) % 2 ^ 64

-- A mark became another.
abbrev pub Swaps : List Mark → Mark → Mark → List Mark → Type 0
Swaps old m n new = (f : Mark → ℕ) → weigh f new + f m ≡ weigh f old + f n

-- An open leaf that was not issued is issued with no grant.
pub record IsTake (old new : Core) (t : Mark) : Type 0 where
  pub may : 0 < may_issue old
  pub is_open : subtree old.tree t.path ≡ Some leaf
  pub is_fresh : holds old.marks t.path ≡ 0
  pub grant : t.grant ≡ 0
  pub marks : HasMore old.marks t new.marks
  pub left : new.left + 1 ≡ old.left
  pub rest : new ≡ record old { marks = new.marks; left = new.left }

-- A ticket's grant grows.
pub record IsExtend (old new : Core) (t u : Mark) (units : ℕ) : Type 0 where
  pub path : u.path ≡ t.path
  pub grant : u.grant ≡ t.grant + units
  pub marks : Swaps old.marks t u new.marks
  pub left : new.left + units ≡ old.left
  pub rest : new ≡ record old { marks = new.marks; left = new.left }

abbrev pub fresh : List Bool → Mark
fresh p = record { path = p; grant = 0 }

-- The open leaves that a tree brings at a path, as paths from the root.
abbrev pub leaves_at : List Bool → Tree → List (List Bool)
leaves_at p s = map (λ q. p ++ q) (opens s)

-- The units that are left to a settled ticket's board before children are issued.
abbrev pub left_over : Core → Mark → Tree → ℕ
left_over c t s = c.left + 1 + t.grant - settled_in s

-- The ticket's leaf became a tree, and the first open leaves of it were issued with no grant, as many as may be.
pub record IsSettling (old new : Core) (t : Mark) (s : Tree) (children : List Mark) : Type 0 where
  pub tree : new.tree ≡ graft old.tree t.path s
  pub used : new.used ≡ old.used + settled_in s
  pub first : children ≡ map fresh (take (free_units old.stopped (left_over old t s)) (leaves_at t.path s))
  pub left : new.left + length children ≡ left_over old t s
  pub marks : (f : Mark → ℕ) → weigh f new.marks + f t ≡ weigh f old.marks + weigh f children
  pub steps : new.steps ≡ next_step old.steps
  pub root : new.root ≡ old.root
  pub stopped : new.stopped ≡ old.stopped
  pub spare : old.spare ≤ new.spare + settled_in s

-- A ticket's leaf is no longer issued.
pub record IsGiveBack (old new : Core) (t : Mark) : Type 0 where
  pub marks : HasMore new.marks t old.marks
  pub left : new.left ≡ old.left + 1 + t.grant
  pub steps : new.steps ≡ next_step old.steps
  pub rest : new ≡ record old { marks = new.marks; left = new.left; steps = new.steps }

-- A stage was handed in. It stands in the place of its ticket's leaf; or the ticket is not current; or the ticket and the board have too few units for
-- the stage, and the leaf was given back.
abbrev pub IsHandedIn : Core → Core → Mark → Tree → List Mark → Handed → Type 0
IsHandedIn old new t s children handed.Taken = IsTrue (is_current old t) × (settled_in s ≤ old.left + 1 + t.grant) × IsSettling old new t s children
IsHandedIn old new t s children handed.Stale = (is_current old t ≡ false) × (new ≡ old) × (children ≡ [])
IsHandedIn old new t s children handed.Short = IsTrue (is_current old t) × (old.left + 1 + t.grant < settled_in s) × IsGiveBack old new t × (children ≡ [])

-- How many nodes were settled by a stage of so many.
abbrev pub taken_by : Handed → ℕ → ℕ
taken_by handed.Taken n = n
taken_by handed.Stale n = 0
taken_by handed.Short n = 0

-- So many nodes more are settled and used.
pub record HasRisen (old new : Core) (n : ℕ) : Type 0 where
  pub used : new.used ≡ old.used + n
  pub settled : settled_in new.tree ≡ settled_in old.tree + n

-- Every issued path was given back.
pub record IsRecall (old new : Core) : Type 0 where
  pub none : new.marks ≡ []
  pub left : new.left ≡ old.left + issued old.marks + granted old.marks
  pub steps : new.steps ≡ (old.steps + issued old.marks) % 2 ^ 64
  pub rest : new ≡ record old { marks = new.marks; left = new.left; steps = new.steps }

-- A look issues a leaf as a take does. Where none can be, it says whether nothing is issued, and else whether the steps differ from those seen.
abbrev pub IsLook : Core → Core → ℕ → Look → Type 0
IsLook old new seen (look.Work t) = IsTake old new t
IsLook old new seen look.Done = IsDry old × (new ≡ old) × (issued old.marks ≡ 0)
IsLook old new seen (look.Changed n) = IsDry old × (new ≡ old) × (0 < issued old.marks) × (n ≡ old.steps) × (old.steps ≢ seen)
IsLook old new seen look.Same = IsDry old × (new ≡ old) × (0 < issued old.marks) × (old.steps ≡ seen)
