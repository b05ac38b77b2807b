-- Where nothing can be taken the tree is the full tree, if the budget is enough.
use Rattle.std.proofs.Common.{◌≡◌, ℕ, zero, suc, ◌+◌, ◌<◌, ◌≤◌, Bool, false, Some, List, [], ◌∷◌, refl, sym, ◌∙◌, ap, arith, subst}
use Rattle.pv_interval.specs.Bounds.{Bounds}
use Rattle.pv_tree.specs.Trees.{Tree, leaf, removed, inner, small, cut, opens}
use Rattle.pv_tree.specs.Stages.{Rule, Grows, full_of}
use Rattle.pv_tree.specs.declared.outcome.Outcome.TheVariants.{Removed, Inner, Small, Cut}
use Rattle.pv_tree.proofs.StageLaws.{IsCut, top_removed, top_inner, top_small, top_cut, grows_low, grows_high, grown_whole}
use Rattle.pv_board.specs.Marks.{weigh, times}
use Rattle.pv_board.specs.Rules.{settled_in}
use Rattle.pv_board.specs.Core.{Core, IsOpening}
use Rattle.pv_board.specs.Events.{free_units, IsOver}
use Rattle.pv_board.proofs.Paths.{at_self}
use Rattle.pv_board.proofs.Growth.{once_open, grows_settled}
use Rattle.pv_events.specs.Steps.{Event, took, extended, became, gave_back, halted, announced, recalled, absorbed, Step, Run, absorbs, halts}
use Rattle.pv_join.specs.Joins.{Agree}
use Rattle.pv_events.specs.Runs.{IsBegun, IsRightOf, IsWhole, OverRunsAreWhole, RunsAgree}
use Rattle.pv_events.proofs.Runs.{opened_right}
use Rattle.pv_board.proofs.Openings.{none_held, none_granted}

-- a tree that grew and has no more settled nodes is the tree
none_settled : (t : Tree) → settled_in t ≤ 0 → leaf ≡ t
none_settled leaf h = refl
none_settled removed h = absurd (omega (arith, h))
none_settled (inner to) h = absurd (omega (arith, h))
none_settled (small to) h = absurd (omega (arith, h))
none_settled (cut to v a l r) h = absurd (omega (arith, h))

pub grown_same : (s t : Tree) → Grows s t → settled_in t ≤ settled_in s → s ≡ t
grown_same leaf t h n = none_settled t n
grown_same removed t h n = sym (top_removed t (h [] Removed refl))
grown_same (inner to) t h n = sym (top_inner t to (h [] (Inner to) refl))
grown_same (small to) t h n = sym (top_small t to (h [] (Small to) refl))
grown_same (cut to v a l r) t h n =
    let c : IsCut t to v a = top_cut t to v a (h [] (Cut to v a) refl) in
    let g : Grows (cut to v a l r) (cut to v a c.low c.high) = subst (Grows (cut to v a l r)) c.is h in
    let low = grows_low to to v v a a l r c.low c.high g in let high = grows_high to to v v a a l r c.low c.high g in
    let m = grows_settled l c.low low in let k = grows_settled r c.high high in
    let e = ap settled_in c.is in
    let x = grown_same l c.low low (omega (arith, n, m, k, e)) in let y = grown_same r c.high high (omega (arith, n, m, k, e)) in
    (λ i. cut to v a (x i) (y i)) ∙ sym c.is

-- an event that doesn't stop a board leaves it running
module _ (rule : Rule) (depth : ℕ) (root : List Bounds) (opening : Tree) (limit : ℕ) where
  step_runs : (e : Event) (old new : Core) → Step rule depth root opening limit e old new → halts e ≡ 0 → new.stopped ≡ old.stopped
  step_runs (took t) old new k z = ap (λ (c : Core). c.stopped) k.rest
  step_runs (extended t units) old new k z = ap (λ (c : Core). c.stopped) k.is.rest
  step_runs (became t s children) old new k z = k.is.stopped
  step_runs (gave_back t) old new k z = ap (λ (c : Core). c.stopped) k.is.rest
  step_runs halted old new k z = absurd (omega (arith, z))
  step_runs announced old new k z = ap (λ (c : Core). c.stopped) k
  step_runs recalled old new k z = ap (λ (c : Core). c.stopped) k.rest
  step_runs (absorbed stage added) old new k z = ap (λ (c : Core). c.stopped) k.is.rest

  run_runs : (es : List Event) (old new : Core) → Run rule depth root opening limit es old new → weigh halts es ≡ 0 → new.stopped ≡ old.stopped
  run_runs [] old new k z = ap (λ (c : Core). c.stopped) k
  run_runs (e ∷ es) old new k z = run_runs es k.0 new k.2 (omega (arith, z)) ∙ step_runs e old k.0 k.1 (omega (arith, z))

-- a tree without an open leaf
no_opens : (ps : List (List Bool)) → ((q : List Bool) → 0 < times q ps → ⊥) → ps ≡ []
no_opens [] h = refl
no_opens (p ∷ ps) h = absurd (h p (let s = at_self p 1 in omega (arith, s)))

pub running : (stopped : Bool) (left : ℕ) → stopped ≡ false → 0 < left → 0 < free_units stopped left
running stopped left e h = subst (λ (b : Bool). 0 < free_units b left) (sym e) h

-- where something is left and nothing can be taken, no leaf is open
pub none_open : (c : Core) → IsOver c → c.stopped ≡ false → 0 < c.left → opens c.tree ≡ []
none_open c over e some = no_opens (opens c.tree) (λ q h.
    let d = over.dry (running c.stopped c.left e some) q (once_open c.tree q h) in
    let z = none_held c.marks q over.none in omega (arith, d, z))

module _ (rule : Rule) (depth dims : ℕ) (root : List Bounds) (opening : Tree) (budget limit : ℕ) (o : IsOpening rule depth dims root opening)
    (events : List Event) (old new : Core) (begun : IsBegun root opening budget limit old) (run : Run rule depth root opening limit events old new) (goes : weigh halts events ≡ 0) (over : IsOver new) where
  abbrev whole : Tree
  whole = full_of rule depth root opening 0

  right : IsRightOf rule depth root opening budget limit events new
  right = opened_right rule depth dims root opening budget limit o events old new begun run

  some_left : 0 < new.left → new.tree ≡ whole
  some_left some =
      let e : new.stopped ≡ false = run_runs rule depth root opening limit events old new run goes ∙ begun.is.stopped in
      grown_whole new.tree whole right.core.stage.grows (none_open new over e some)

  enough : settled_in whole ≤ settled_in opening + budget + weigh absorbs events → new.tree ≡ whole
  enough few = go new.left refl
    where
      go : (n : ℕ) → new.left ≡ n → new.tree ≡ whole
      go zero z =
          let c = right.core.conserved in let s = right.settled in let i = over.none in let g = none_granted new.marks over.none in
          grown_same new.tree whole right.core.stage.grows (omega (arith, few, z, c, s, i, g))
      go (suc n) z = some_left (omega (arith, z))

  whole_few : new.tree ≡ whole → settled_in whole ≤ settled_in opening + budget + weigh absorbs events
  whole_few e = let w = ap settled_in e in let c = right.core.conserved in let s = right.settled in omega (arith, w, c, s)

  pub over_whole : IsWhole rule depth root opening budget events new
  over_whole = record { some_left = some_left; exactly = (whole_few, enough) }

pub over_runs_are_whole : OverRunsAreWhole
over_runs_are_whole rule depth dims root opening budget limit events old new o begun run goes over = over_whole rule depth dims root opening budget limit o events old new begun run goes over

-- stages of one full tree agree
both_within : (a b f : Tree) → Grows a f → Grows b f → Agree a b
both_within a b f h k p o u e w = let x : Some o ≡ Some u = sym (h p o e) ∙ k p u w in cc

pub runs_agree : RunsAgree
runs_agree rule depth dims root opening budget limit budget' limit' xs ys a b c d o h k run run' =
    let x = opened_right rule depth dims root opening budget limit o xs a b h run in let y = opened_right rule depth dims root opening budget' limit' o ys c d k run' in
    both_within b.tree d.tree (full_of rule depth root opening 0) x.core.stage.grows y.core.stage.grows
