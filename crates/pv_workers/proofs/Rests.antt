-- What the caller finds on a board.
use Rattle.std.proofs.Common.{◌≡◌, inl, inr, ℕ, suc, ◌+◌, ◌<◌, ◌≤◌, Bool, true, false, Some, List, [], refl, sym, arith, subst}
use Rattle.std.specs.Prelude.{nat_eq}
use Rattle.std.proofs.lemmas.Bool.Decides.{eqb_tells}
use Rattle.pv_interval.specs.Bounds.{Bounds}
use Rattle.pv_tree.specs.Trees.{Tree, leaf, subtree, opens}
use Rattle.pv_tree.specs.Stages.{Rule}
use Rattle.pv_board.specs.declared.mark.Mark.{Mark}
use Rattle.pv_board.specs.Marks.{at, holds, issued}
use Rattle.pv_board.specs.Core.{Core, IsCore}
use Rattle.pv_board.specs.Events.{is_current, free_units, IsOver, IsTake}
use Rattle.pv_board.proofs.Paths.{at_self}
use Rattle.pv_workers.specs.Pavings.{IsSpent}
use Rattle.pv_workers.specs.Boards.{IsRecalled}
use Rattle.pv_board.proofs.Openings.{none_held, none_granted}

nat_equal : (m n : ℕ) → m ≡ n → nat_eq m n ≡ true
nat_equal m n e = elim (eqb_tells m n) [ inl h ↦ h.0 | inr h ↦ absurd (h.1 e) ]

-- a ticket that was just taken is current
pub taken_current : (old new : Core) (t : Mark) → IsTake old new t → is_current new t ≡ true
taken_current old new t h =
    let m = h.marks (λ (m : Mark). at m.path t.path (suc m.grant)) in
    let s = at_self t.path (suc t.grant) in
    let z = h.is_fresh in
    nat_equal (holds new.marks t.path) (suc t.grant) (omega (arith, m, s, z))

module _ (rule : Rule) (depth : ℕ) (root : List Bounds) (opening : Tree) (budget limit : ℕ) (c : Core) (h : IsCore rule depth root opening budget limit c) (r : IsRecalled opening c) where
  -- where nothing is left the budget is spent
  pub spent_all : c.left ≡ 0 → IsSpent budget opening c.tree
  spent_all z = let g = none_granted c.marks r.none in let n = r.none in let k = h.conserved in let s = r.settled in inl (omega (arith, g, n, k, s, z))

  -- and else no leaf may be open
  pub spent_some : opens c.tree ≡ [] → IsSpent budget opening c.tree
  spent_some none = let k = h.conserved in let s = r.settled in inr (none, omega (arith, k, s))

  pub used_few : c.used ≤ budget
  used_few = let k = h.conserved in omega (arith, k)

  -- what is left
  pub left_is : c.used + c.left ≡ budget
  left_is = let g = none_granted c.marks r.none in let n = r.none in let k = h.conserved in omega (arith, g, n, k)

-- where a leaf is open and something left, a board on which nothing can be taken was stopped
may_all : (stopped : Bool) (left : ℕ) → stopped ≡ false → 0 < left → 0 < free_units stopped left
may_all stopped left e h = subst (λ (b : Bool). 0 < free_units b left) (sym e) h

by_cases : (stopped : Bool) → (stopped ≡ false → ⊥) → stopped ≡ true
by_cases true h = refl
by_cases false h = absurd (h refl)

pub stopped_over : (c : Core) (p : List Bool) → IsOver c → 0 < c.left → subtree c.tree p ≡ Some leaf → c.stopped ≡ true
stopped_over c p over h e = by_cases c.stopped (λ s.
    let d = over.dry (may_all c.stopped c.left s h) p e in
    let z = none_held c.marks p over.none in
    absurd (omega (arith, d, z)))

no_units : (stopped : Bool) (left : ℕ) → left ≡ 0 → 0 < free_units stopped left → ⊥
no_units true left e h = absurd (omega (arith, h))
no_units false left e h = absurd (omega (arith, e, h))

-- where all that was left was settled, nothing can be taken
pub over_spent : (rule : Rule) (depth : ℕ) (root : List Bounds) (opening : Tree) (budget limit : ℕ) (old new : Core) → IsCore rule depth root opening budget limit old → IsCore rule depth root opening budget limit new
    → issued old.marks ≡ 0 → issued new.marks ≡ 0 → new.used ≡ old.used + old.left → IsOver new
over_spent rule depth root opening budget limit old new h k none gone used =
    let a = h.conserved in let b = k.conserved in let g = none_granted old.marks none in
    let z : new.left ≡ 0 = omega (arith, a, b, none, gone, g, used) in
    record { none = gone; dry = λ may q e. absurd (no_units new.stopped new.left z may) }
