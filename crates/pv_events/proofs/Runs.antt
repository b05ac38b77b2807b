-- What holds after every list of events.
use Rattle.std.proofs.Common.{◌≡◌, ℕ, ◌+◌, List, [], ◌∷◌, sym, ap, arith, subst}
use Rattle.pv_interval.specs.Bounds.{Bounds}
use Rattle.pv_tree.specs.Trees.{Tree}
use Rattle.pv_tree.specs.Stages.{Rule, IsStage, Grows}
use Rattle.pv_tree.proofs.StageLaws.{grows_self, grows_on}
use Rattle.pv_board.specs.declared.mark.Mark.{Mark}
use Rattle.pv_board.specs.Marks.{holds, marked, issued, granted}
use Rattle.pv_board.specs.Rules.{settled_in}
use Rattle.pv_board.specs.Core.{Core, IsOpening, IsCore}
use Rattle.pv_board.proofs.Fulls.{full_grows}
use Rattle.pv_events.specs.Steps.{Event, took, extended, became, gave_back, halted, announced, recalled, absorbed, Step, Run, settles, absorbs}
use Rattle.pv_events.specs.Runs.{IsRight, RunsAreRight, IsBegun, IsRightOf, OpenedRunsAreRight}
use Rattle.pv_events.proofs.Keeping.{took_core, extended_core, given_back_core, recalled_core, became_core, became_grown, became_settled}
use Rattle.pv_events.proofs.Absorbing.{absorbed_core, absorbed_grown}

module _ (rule : Rule) (depth dims : ℕ) (root : List Bounds) (opening : Tree) (budget limit : ℕ) (o : IsOpening rule depth dims root opening) where
  abbrev Is : Core → Type 0
  Is c = IsCore rule depth root opening budget limit c

  -- what one event keeps and counts
  pub record IsKept (n m : ℕ) (old new : Core) : Type 0 where
    pub core : Is new
    pub grown : Grows old.tree new.tree
    pub used : new.used ≡ old.used + n
    pub settled : settled_in new.tree ≡ settled_in old.tree + n + m

  -- of an event that leaves the tree and what is used
  same_tree : (old new : Core) → Is new → new.tree ≡ old.tree → new.used ≡ old.used → IsKept 0 0 old new
  same_tree old new h t u = record {
    core = h;
    grown = subst (Grows old.tree) (sym t) (grows_self old.tree);
    used = omega (arith, u);
    settled = let e = ap settled_in t in omega (arith, e);
  }

  pub step_kept : (e : Event) (old new : Core) → Is old → Step rule depth root opening limit e old new → IsKept (settles e) (absorbs e) old new
  step_kept (took t) old new h k =
      same_tree old new (took_core rule depth root opening budget limit old new t h k) (ap (λ (c : Core). c.tree) k.rest) (ap (λ (c : Core). c.used) k.rest)
  step_kept (extended t units) old new h k =
      same_tree old new (extended_core rule depth root opening budget limit old new t units h k) (ap (λ (c : Core). c.tree) k.is.rest) (ap (λ (c : Core). c.used) k.is.rest)
  step_kept (became t s children) old new h k =
      let e = became_settled rule depth root opening budget limit dims o old new t s children h k in
      record {
        core = became_core rule depth root opening budget limit dims o old new t s children h k;
        grown = became_grown rule depth root opening budget limit dims o old new t s children h k;
        used = k.is.used;
        settled = omega (arith, e);
      }
  step_kept (gave_back t) old new h k =
      same_tree old new (given_back_core rule depth root opening budget limit old new t h k.is) (ap (λ (c : Core). c.tree) k.is.rest) (ap (λ (c : Core). c.used) k.is.rest)
  step_kept halted old new h k =
      same_tree old new
      (subst Is (sym k) (record { root_is = h.root_is; stage = h.stage; distinct = h.distinct; are_open = h.are_open; grants = h.grants; conserved = h.conserved; settled = h.settled; few = h.few; room = h.room }))
      (ap (λ (c : Core). c.tree) k) (ap (λ (c : Core). c.used) k)
  step_kept announced old new h k =
      same_tree old new
      (subst Is (sym k) (record { root_is = h.root_is; stage = h.stage; distinct = h.distinct; are_open = h.are_open; grants = h.grants; conserved = h.conserved; settled = h.settled; few = h.few; room = h.room }))
      (ap (λ (c : Core). c.tree) k) (ap (λ (c : Core). c.used) k)
  step_kept recalled old new h k =
      same_tree old new (recalled_core rule depth root opening budget limit old new h k) (ap (λ (c : Core). c.tree) k.rest) (ap (λ (c : Core). c.used) k.rest)
  step_kept (absorbed stage added) old new h k =
      let u : new.used ≡ old.used = ap (λ (c : Core). c.used) k.is.rest in let a = k.is.added_is in
      record {
        core = absorbed_core rule depth root opening budget limit old new stage added h k;
        grown = absorbed_grown rule depth root opening budget limit old new stage added h k;
        used = omega (arith, u);
        settled = omega (arith, a);
      }

  pub run_right : (events : List Event) (old new : Core) → Is old → Run rule depth root opening limit events old new → IsRight rule depth root opening budget limit events old new
  run_right [] old new h k =
      let t : new.tree ≡ old.tree = ap (λ (c : Core). c.tree) k in let u : new.used ≡ old.used = ap (λ (c : Core). c.used) k in
      let e = ap settled_in t in
      record { core = subst Is (sym k) h; grown = subst (Grows old.tree) (sym t) (grows_self old.tree); used = omega (arith, u); settled = omega (arith, e) }
  run_right (e ∷ es) old new h k =
      let s = step_kept e old k.0 h k.1 in let r = run_right es k.0 new s.core k.2 in
      let su = s.used in let ss = s.settled in let ru = r.used in let rs = r.settled in
      record {
        core = r.core;
        grown = grows_on old.tree (k.0).tree new.tree s.grown r.grown;
        used = omega (arith, su, ru);
        settled = omega (arith, ss, rs);
      }

  pub begun_core : (c : Core) → IsBegun root opening budget limit c → Is c
  begun_core c h =
      let i : issued c.marks ≡ 0 = ap issued h.is.marks in let g : granted c.marks ≡ 0 = ap granted h.is.marks in
      let l = h.is.left in let u = h.is.used in let t = ap settled_in h.is.tree in let f = h.few in let r = h.room in
      record {
        root_is = h.is.root_is;
        stage = subst (IsStage rule depth root opening) (sym h.is.tree) (record { grown = grows_self opening; grows = full_grows rule depth root opening 0 });
        distinct = λ q. let m : marked c.marks q ≡ 0 = ap (λ (ms : List Mark). marked ms q) h.is.marks in omega (arith, m);
        are_open = λ q m. let z : marked c.marks q ≡ 0 = ap (λ (ms : List Mark). marked ms q) h.is.marks in absurd (omega (arith, z, m));
        grants = λ q. let m : holds c.marks q ≡ 0 = ap (λ (ms : List Mark). holds ms q) h.is.marks in omega (arith, m);
        conserved = omega (arith, i, g, l, u);
        settled = omega (arith, t, u);
        few = omega (arith, i, g, l, t, f);
        room = omega (arith, i, g, l, r);
      }

  pub opened_right : (events : List Event) (old new : Core) → IsBegun root opening budget limit old → Run rule depth root opening limit events old new → IsRightOf rule depth root opening budget limit events new
  opened_right events old new h k =
      let r = run_right events old new (begun_core old h) k in
      let u = h.is.used in let t = ap settled_in h.is.tree in let ru = r.used in let rs = r.settled in
      record { core = r.core; used = omega (arith, u, ru); settled = omega (arith, u, t, ru, rs) }

pub runs_are_right : RunsAreRight
runs_are_right rule depth dims root opening budget limit events old new o h k = run_right rule depth dims root opening budget limit o events old new h k

pub opened_runs_are_right : OpenedRunsAreRight
opened_runs_are_right rule depth dims root opening budget limit events old new o h k = opened_right rule depth dims root opening budget limit o events old new h k
