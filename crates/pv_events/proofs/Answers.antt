-- The clauses of a board's calls make each of them one event or none.
use Rattle.std.proofs.Common.{◌≡◌, ℕ, ◌+◌, ◌-◌, ◌≤◌, min, Bool, true, false, Some, None, Ok, Err, List, [], ◌∷◌, length, refl, sym, ◌∙◌, ap, arith, subst}
use Rattle.std.specs.Prelude.{if◌then◌else◌}
use Rattle.pv_interval.specs.Bounds.{Bounds}
use Rattle.pv_tree.specs.Trees.{Tree, leaf, settled, box_of}
use Rattle.pv_tree.specs.Stages.{Rule, full_of}
use Rattle.pv_tree.specs.declared.outcome.Outcome.{Outcome}
use Rattle.pv_tree.proofs.TreeFacts.{settled_one}
use Rattle.pv_tree.proofs.StageLaws.{settled_grows}
use Rattle.pv_board.specs.declared.mark.Mark.{Mark}
use Rattle.pv_board.specs.declared.ticket.Look.TheVariants as look
use Rattle.pv_board.specs.declared.ticket.Handed.TheVariants as handed
use Rattle.pv_board.specs.Rules.{IsStageBelow}
use Rattle.pv_board.specs.Core.{Core, IsOpening}
use Rattle.pv_board.specs.Events.{is_current, may_issue, IsExtend}
use Rattle.pv_board.proofs.Fulls.{top_leaf}
use Rattle.pv_events.specs.Steps.{extended, gave_back, raised, IsExtended, IsSettled, IsGivenBack, Run}
use Rattle.pv_events.specs.Answers.{one_where, RunsJoin, TakesAreEvents, LooksAreEvents, DeskLooksAreEvents, SettlingsAreEvents, StagesAreEvents, ExtensionsAreEvents, GivingsBackAreEvents, StopsAreEvents, AnnouncementsAreEvents, RecallsAreEvents, AbsorptionsAreEvents}

pub runs_join : RunsJoin
runs_join rule depth root opening limit [] ys old mid new h k = subst (λ (c : Core). Run rule depth root opening limit ys c new) h k
runs_join rule depth root opening limit (x ∷ xs) ys old mid new h k = (h.0, h.1, runs_join rule depth root opening limit xs ys h.0 mid new h.2 k)

pub takes_are_events : TakesAreEvents
takes_are_events rule depth root opening limit old new None some none = none
takes_are_events rule depth root opening limit old new (Some t) some none = (new, some, refl)

pub looks_are_events : LooksAreEvents
looks_are_events rule depth root opening limit old new seen (look.Work t) h = (new, h, refl)
looks_are_events rule depth root opening limit old new seen look.Done h = h.1
looks_are_events rule depth root opening limit old new seen (look.Changed n) h = h.1
looks_are_events rule depth root opening limit old new seen look.Same h = h.1

pub desk_looks_are_events : DeskLooksAreEvents
desk_looks_are_events rule depth root opening limit old new seen (look.Work t) h = (new, h, refl)
desk_looks_are_events rule depth root opening limit old new seen look.Done h = h.1
desk_looks_are_events rule depth root opening limit old new seen (look.Changed n) h = h.1
desk_looks_are_events rule depth root opening limit old new seen look.Same h = h.1

-- what a rule gives for a box is a stage of it
pub outcome_due : (rule : Rule) (depth dims : ℕ) (root : List Bounds) (opening : Tree) (b : List Bounds) (k : ℕ) (o : Outcome) → IsOpening rule depth dims root opening → o ≡ rule b (depth - k) k → IsStageBelow rule depth b k (settled o)
outcome_due rule depth dims root opening b k o h e =
    settled_grows (full_of rule depth b leaf k) o (top_leaf rule depth dims h.rule_fits b k ∙ ap (λ (x : Outcome). Some x) (sym e))

pub settlings_are_events : SettlingsAreEvents
settlings_are_events rule depth dims root opening limit old new t o true children h due current is stale =
    let one = settled_one o in
    let step : IsSettled rule depth root opening old new t (settled o) children = record {
      current = sym current;
      due = outcome_due rule depth dims root opening (box_of root (full_of rule depth root opening 0) t.path) (length t.path) o h due;
      some = omega (arith, one);
      enough = omega (arith, one);
      is = is refl;
    } in
    (new, step, refl)
settlings_are_events rule depth dims root opening limit old new t o false children h due current is stale = (stale refl).0

pub stages_are_events : StagesAreEvents
stages_are_events rule depth root opening limit old new t b s children handed.Taken at_root due some h =
    let step : IsSettled rule depth root opening old new t s children = record {
      current = h.0;
      due = subst (λ (x : List Bounds). IsStageBelow rule depth x (length t.path) s) at_root due;
      some = some;
      enough = h.1;
      is = h.2;
    } in
    (new, step, refl)
stages_are_events rule depth root opening limit old new t b s children handed.Stale at_root due some h = h.1
stages_are_events rule depth root opening limit old new t b s children handed.Short at_root due some h =
    let step : IsGivenBack old new t = record { current = h.0; is = h.2 } in (new, step, refl)

-- what is granted is no more than what was wanted
within : (b : Bool) (want may units : ℕ) → b ≡ true → units ≡ (if b then min want may else 0) → units ≤ want
within true want may units e h = omega (arith, h)
within false want may units e h = cc

extension : (old new : Core) (t u : Mark) (want units : ℕ) → t.grant + want ≤ 15 → units ≡ (if is_current old t then min want (may_issue old) else 0) → is_current old t ≡ true → IsExtend old new t u units → IsExtended old new t units
extension old new t u want units few count current is =
    let same : u ≡ raised t units = λ i. record { path = is.path i; grant = is.grant i } in
    record {
      current = current;
      few = let w = within (is_current old t) want (may_issue old) units current count in omega (arith, w, few);
      is = subst (λ (m : Mark). IsExtend old new t m units) same is;
    }

pub extensions_are_events : ExtensionsAreEvents
extensions_are_events rule depth root opening limit old new t u want units few count is stale = go (is_current old t) refl
  where
    go : (b : Bool) → is_current old t ≡ b → Run rule depth root opening limit (one_where b (extended t units)) old new
    go true e = (new, extension old new t u want units few count e (is e), refl)
    go false e = (stale e).0

pub givings_back_are_events : GivingsBackAreEvents
givings_back_are_events rule depth root opening limit old new t is stale = go (is_current old t) refl
  where
    go : (b : Bool) → is_current old t ≡ b → Run rule depth root opening limit (one_where b (gave_back t)) old new
    go true e = (new, record { current = e; is = is e }, refl)
    go false e = stale e

pub stops_are_events : StopsAreEvents
stops_are_events rule depth root opening limit old new h = (new, h, refl)

pub announcements_are_events : AnnouncementsAreEvents
announcements_are_events rule depth root opening limit old new h = (new, h, refl)

pub recalls_are_events : RecallsAreEvents
recalls_are_events rule depth root opening limit old new h = (new, h, refl)

pub absorptions_are_events : AbsorptionsAreEvents
absorptions_are_events rule depth root opening budget limit old new stage (Ok added) due core is same = (new, record { due = due; is = is; room = core.room }, refl)
absorptions_are_events rule depth root opening budget limit old new stage (Err e) due core is same = same
