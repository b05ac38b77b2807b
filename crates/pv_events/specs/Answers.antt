-- Which events a call's answer tells of, one or none, and that the clauses of each call say so.
use Rattle.std.specs.Prelude.{◌≡◌, ℕ, ◌+◌, ◌-◌, ◌≤◌, min, Bool, true, false, IsTrue, if◌then◌else◌, Option, Some, None, Result, Ok, Err, IfSome, IfNone, IfOk, OnErr, List, [], ◌∷◌, ◌++◌, length}
use Rattle.pv_interval.specs.Bounds.{Bounds}
use Rattle.pv_tree.specs.Trees.{Tree, settled, box_of}
use Rattle.pv_tree.specs.Stages.{Rule, IsStage, full_of}
use Rattle.pv_tree.specs.declared.outcome.Outcome.{Outcome}
use Rattle.pv_board.specs.declared.mark.Mark.{Mark}
use Rattle.pv_board.specs.declared.ticket.Look.{Look}
use Rattle.pv_board.specs.declared.ticket.Look.TheVariants as look
use Rattle.pv_board.specs.declared.ticket.Handed.{Handed}
use Rattle.pv_board.specs.declared.ticket.Handed.TheVariants as handed
use Rattle.pv_board.specs.declared.absorbing.AbsorbRefused.{AbsorbRefused}
use Rattle.pv_board.specs.Rules.{IsStageBelow, settled_in}
use Rattle.pv_board.specs.Core.{Core, IsCore, IsOpening}
use Rattle.pv_board.specs.Events.{is_current, may_issue, next_step, IsTake, IsExtend, IsSettling, IsHandedIn, IsGiveBack, IsRecall, IsLook}
use Rattle.pv_board.specs.Absorbing.{IsAbsorbed}
use Rattle.pv_board.specs.Tallies.{IsDeskLook}
use Rattle.pv_events.specs.Steps.{Event, took, extended, became, gave_back, halted, announced, recalled, absorbed, Run}

-- An event where it is so, and else none.
abbrev pub one_where : Bool → Event → List Event
one_where so e = if so then e ∷ [] else []

abbrev pub taking : Option Mark → List Event
taking None = []
taking (Some t) = took t ∷ []

abbrev pub looking : Look → List Event
looking (look.Work t) = took t ∷ []
looking look.Done = []
looking (look.Changed n) = []
looking look.Same = []

abbrev pub handing_in : Mark → Tree → List Mark → Handed → List Event
handing_in t s children handed.Taken = became t s children ∷ []
handing_in t s children handed.Stale = []
handing_in t s children handed.Short = gave_back t ∷ []

abbrev pub absorbing : Tree → Result ℕ AbsorbRefused → List Event
absorbing stage (Ok added) = absorbed stage added ∷ []
absorbing stage (Err e) = []

-- Runs one after the other are a run.
abbrev pub RunsJoin : Type 0
RunsJoin =
    (rule : Rule) (depth : ℕ) (root : List Bounds) (opening : Tree) (limit : ℕ) (xs ys : List Event) (old mid new : Core)
    → Run rule depth root opening limit xs old mid → Run rule depth root opening limit ys mid new → Run rule depth root opening limit (xs ++ ys) old new

abbrev pub TakesAreEvents : Type 0
TakesAreEvents =
    (rule : Rule) (depth : ℕ) (root : List Bounds) (opening : Tree) (limit : ℕ) (old new : Core) (answer : Option Mark)
    → IfSome answer (λ t. IsTake old new t) → IfNone answer (new ≡ old) → Run rule depth root opening limit (taking answer) old new

abbrev pub LooksAreEvents : Type 0
LooksAreEvents =
    (rule : Rule) (depth : ℕ) (root : List Bounds) (opening : Tree) (limit : ℕ) (old new : Core) (seen : ℕ) (answer : Look)
    → IsLook old new seen answer → Run rule depth root opening limit (looking answer) old new

abbrev pub DeskLooksAreEvents : Type 0
DeskLooksAreEvents =
    (rule : Rule) (depth : ℕ) (root : List Bounds) (opening : Tree) (limit : ℕ) (old new : Core) (seen : ℕ) (answer : Look)
    → IsDeskLook old new seen answer → Run rule depth root opening limit (looking answer) old new

-- The outcome is the one that the rule gives for the box of the ticket's path.
abbrev pub SettlingsAreEvents : Type 0
SettlingsAreEvents =
    (rule : Rule) (depth dims : ℕ) (root : List Bounds) (opening : Tree) (limit : ℕ) (old new : Core) (t : Mark) (o : Outcome) (fresh : Bool) (children : List Mark)
    → IsOpening rule depth dims root opening → o ≡ rule (box_of root (full_of rule depth root opening 0) t.path) (depth - length t.path) (length t.path)
    → fresh ≡ is_current old t → (IsTrue fresh → IsSettling old new t (settled o) children) → (fresh ≡ false → (new ≡ old) × (children ≡ []))
    → Run rule depth root opening limit (one_where fresh (became t (settled o) children)) old new

-- The stage is one of the box of the ticket's path, and has a settled node.
abbrev pub StagesAreEvents : Type 0
StagesAreEvents =
    (rule : Rule) (depth : ℕ) (root : List Bounds) (opening : Tree) (limit : ℕ) (old new : Core) (t : Mark) (b : List Bounds) (s : Tree) (children : List Mark) (answer : Handed)
    → b ≡ box_of root (full_of rule depth root opening 0) t.path → IsStageBelow rule depth b (length t.path) s → 1 ≤ settled_in s
    → IsHandedIn old new t s children answer → Run rule depth root opening limit (handing_in t s children answer) old new

abbrev pub ExtensionsAreEvents : Type 0
ExtensionsAreEvents =
    (rule : Rule) (depth : ℕ) (root : List Bounds) (opening : Tree) (limit : ℕ) (old new : Core) (t u : Mark) (want units : ℕ)
    → t.grant + want ≤ 15 → units ≡ (if is_current old t then min want (may_issue old) else 0)
    → (IsTrue (is_current old t) → IsExtend old new t u units) → (is_current old t ≡ false → (new ≡ old) × (u ≡ t))
    → Run rule depth root opening limit (one_where (is_current old t) (extended t units)) old new

abbrev pub GivingsBackAreEvents : Type 0
GivingsBackAreEvents =
    (rule : Rule) (depth : ℕ) (root : List Bounds) (opening : Tree) (limit : ℕ) (old new : Core) (t : Mark)
    → (IsTrue (is_current old t) → IsGiveBack old new t) → (is_current old t ≡ false → new ≡ old)
    → Run rule depth root opening limit (one_where (is_current old t) (gave_back t)) old new

abbrev pub StopsAreEvents : Type 0
StopsAreEvents =
    (rule : Rule) (depth : ℕ) (root : List Bounds) (opening : Tree) (limit : ℕ) (old new : Core)
    → new ≡ record old { stopped = true } → Run rule depth root opening limit (halted ∷ []) old new

abbrev pub AnnouncementsAreEvents : Type 0
AnnouncementsAreEvents =
    (rule : Rule) (depth : ℕ) (root : List Bounds) (opening : Tree) (limit : ℕ) (old new : Core)
    → new ≡ record old { steps = next_step old.steps } → Run rule depth root opening limit (announced ∷ []) old new

abbrev pub RecallsAreEvents : Type 0
RecallsAreEvents =
    (rule : Rule) (depth : ℕ) (root : List Bounds) (opening : Tree) (limit : ℕ) (old new : Core)
    → IsRecall old new → Run rule depth root opening limit (recalled ∷ []) old new

-- Of every board it is known that it has room (`IsCore`).
abbrev pub AbsorptionsAreEvents : Type 0
AbsorptionsAreEvents =
    (rule : Rule) (depth : ℕ) (root : List Bounds) (opening : Tree) (budget limit : ℕ) (old new : Core) (stage : Tree) (answer : Result ℕ AbsorbRefused)
    → IsStage rule depth root opening stage → IsCore rule depth root opening budget limit new
    → IfOk answer (λ added. IsAbsorbed limit old new stage added) → OnErr answer (new ≡ old)
    → Run rule depth root opening limit (absorbing stage answer) old new
