-- No leaf is settled twice.
use Rattle.std.proofs.Common.{◌≡◌, ◌≢◌, ℕ, zero, suc, ◌<◌, ◌≤◌, Bool, Some, None, List, [], ◌∷◌, refl, sym, ◌∙◌, ap, arith}
use Rattle.pv_interval.specs.Bounds.{Bounds}
use Rattle.pv_tree.specs.Trees.{Tree, leaf, removed, inner, small, cut, top, outcome_at, graft}
use Rattle.pv_tree.specs.Stages.{Rule}
use Rattle.pv_tree.specs.declared.outcome.Outcome.{Outcome}
use Rattle.pv_tree.specs.declared.outcome.Outcome.TheVariants.{Removed, Inner, Small, Cut}
use Rattle.pv_join.proofs.JoinFacts.{graft_at, top_is}
use Rattle.pv_board.specs.Marks.{weigh}
use Rattle.pv_board.specs.Rules.{settled_in}
use Rattle.pv_board.specs.Core.{Core, IsOpening, IsCore}
use Rattle.pv_board.proofs.Paths.{at_least, at_same}
use Rattle.pv_events.specs.Steps.{Event, took, extended, became, gave_back, halted, announced, recalled, absorbed, Step, Run, settles_at}
use Rattle.pv_events.specs.Runs.{SettledOnce}
use Rattle.pv_events.proofs.Keeping.{current_open}
use Rattle.pv_events.proofs.Runs.{step_kept}

-- the root of a tree with a settled node is settled
some_top : (s : Tree) → 1 ≤ settled_in s → (o : Outcome) × (top s ≡ Some o)
some_top leaf h = absurd (omega (arith, h))
some_top removed h = (Removed, refl)
some_top (inner to) h = (Inner to, refl)
some_top (small to) h = (Small to, refl)
some_top (cut to v a l r) h = (Cut to v a, refl)

module _ (rule : Rule) (depth dims : ℕ) (root : List Bounds) (opening : Tree) (budget limit : ℕ) (o : IsOpening rule depth dims root opening) where
  abbrev Is : Core → Type 0
  Is c = IsCore rule depth root opening budget limit c

  -- what an event settles was open, and is settled afterwards
  record Settles (old new : Core) (p : List Bool) : Type 0 where
    pub before : outcome_at old.tree p ≡ None
    pub outcome : Outcome
    pub after : outcome_at new.tree p ≡ Some outcome

  settles_leaf : (e : Event) (old new : Core) (p : List Bool) → Is old → Step rule depth root opening limit e old new → 0 < settles_at p e → Settles old new p
  settles_leaf (became t s children) old new p h k some =
      let is_open = current_open rule depth root opening budget limit old t h k.current in
      let e = at_same t.path p 1 some in
      let s_top = some_top s k.some in
      record {
        before = ap (outcome_at old.tree) (sym e) ∙ top_is old.tree t.path leaf is_open;
        outcome = s_top.0;
        after = ap (outcome_at new.tree) (sym e) ∙ ap (λ (z : Tree). outcome_at z t.path) k.is.tree ∙ top_is (graft old.tree t.path s) t.path s (graft_at old.tree t.path leaf s is_open) ∙ s_top.1;
      }
  settles_leaf (took t) old new p h k some = absurd (omega (arith, some))
  settles_leaf (extended t units) old new p h k some = absurd (omega (arith, some))
  settles_leaf (gave_back t) old new p h k some = absurd (omega (arith, some))
  settles_leaf halted old new p h k some = absurd (omega (arith, some))
  settles_leaf announced old new p h k some = absurd (omega (arith, some))
  settles_leaf recalled old new p h k some = absurd (omega (arith, some))
  settles_leaf (absorbed stage added) old new p h k some = absurd (omega (arith, some))

  most_one : (e : Event) (p : List Bool) → settles_at p e ≤ 1
  most_one (became t s children) p = at_least t.path p 1
  most_one (took t) p = omega arith
  most_one (extended t units) p = omega arith
  most_one (gave_back t) p = omega arith
  most_one halted p = omega arith
  most_one announced p = omega arith
  most_one recalled p = omega arith
  most_one (absorbed stage added) p = omega arith

  -- what is settled is not settled again
  step_none : (e : Event) (old new : Core) (p : List Bool) (u : Outcome) → Is old → Step rule depth root opening limit e old new → outcome_at old.tree p ≡ Some u → settles_at p e ≡ 0
  step_none e old new p u h k settled = go (settles_at p e) refl
    where
      go : (n : ℕ) → settles_at p e ≡ n → settles_at p e ≡ 0
      go zero z = z
      go (suc n) z =
          let s = settles_leaf e old new p h k (omega (arith, z)) in let w : None ≡ Some u = sym s.before ∙ settled in cc

  run_none : (es : List Event) (old new : Core) (p : List Bool) (u : Outcome) → Is old → Run rule depth root opening limit es old new → outcome_at old.tree p ≡ Some u → weigh (settles_at p) es ≡ 0
  run_none [] old new p u h k settled = refl
  run_none (e ∷ es) old new p u h k settled =
      let s = step_kept rule depth dims root opening budget limit o e old k.0 h k.1 in
      let a = step_none e old k.0 p u h k.1 settled in
      let b = run_none es k.0 new p u s.core k.2 (s.grown p u settled) in omega (arith, a, b)

  run_once : (es : List Event) (old new : Core) (p : List Bool) → Is old → Run rule depth root opening limit es old new → weigh (settles_at p) es ≤ 1
  run_once [] old new p h k = omega arith
  run_once (e ∷ es) old new p h k =
      let s = step_kept rule depth dims root opening budget limit o e old k.0 h k.1 in
      by_event (settles_at p e) refl (run_once es k.0 new p s.core k.2)
    where
      by_event : (n : ℕ) → settles_at p e ≡ n → weigh (settles_at p) es ≤ 1 → weigh (settles_at p) (e ∷ es) ≤ 1
      by_event zero z r = omega (arith, z, r)
      by_event (suc n) z r =
          let l = settles_leaf e old k.0 p h k.1 (omega (arith, z)) in let m = most_one e p in
          let s = step_kept rule depth dims root opening budget limit o e old k.0 h k.1 in
          let b = run_none es k.0 new p l.outcome s.core k.2 l.after in omega (arith, z, m, b)

by_outcome : (old : Tree) (p : List Bool) (n : ℕ) → ((u : Outcome) → outcome_at old p ≡ Some u → n ≡ 0) → outcome_at old p ≢ None → n ≡ 0
by_outcome old p n h some = elim (outcome_at old p) as (λ x. outcome_at old p ≡ x → n ≡ 0) [ None ↦ λ e. absurd (some e) | Some u ↦ h u ] refl

pub settled_once : SettledOnce
settled_once rule depth dims root opening budget limit events old new p o h k = (
  run_once rule depth dims root opening budget limit o events old new p h k,
  by_outcome old.tree p (weigh (settles_at p) events) (λ u e. run_none rule depth dims root opening budget limit o events old new p u h k e),
)
