-- What is true of a board's parts after an event.
use Rattle.std.proofs.Common.{◌≡◌, ℕ, ◌+◌, ◌-◌, ◌<◌, ◌≤◌, Bool, Some, List, [], ◌∷◌, ◌++◌, sym, ap, arith, subst}
use Rattle.pv_interval.specs.Bounds.{Bounds}
use Rattle.pv_tree.specs.Trees.{Tree, leaf, subtree}
use Rattle.pv_tree.specs.Stages.{Rule, IsStage}
use Rattle.pv_board.specs.declared.mark.Mark.{Mark}
use Rattle.pv_board.specs.declared.leaves.Leaves.{Leaves}
use Rattle.pv_board.specs.Marks.{weigh, at, times, holds, marked, issued, granted}
use Rattle.pv_board.specs.Rules.{settled_in}
use Rattle.pv_board.specs.Core.{Core, IsCore}
use Rattle.pv_board.specs.Events.{may_issue, IsDry}
use Rattle.pv_board.specs.Leaves.{marks_of, AreOpen, IsIssued}
use Rattle.pv_board.proofs.Paths.{at_self, weigh-append}
use Rattle.pv_board.proofs.Growth.{once_most, once_open, open_once}
use Rattle.pv_board.proofs.Marked.{unmarked, marked_holds, few_held}

-- issued paths are distinct open leaves
pub open_distinct : (l : Leaves) (t : Tree) (q : List Bool) → AreOpen l t → marked (marks_of l) q ≤ 1
open_distinct l t q h = let a = h (λ p. at p q 1) in let m = once_most t q in omega (arith, a, m)

pub marked_open : (l : Leaves) (t : Tree) (q : List Bool) → AreOpen l t → 0 < marked (marks_of l) q → subtree t q ≡ Some leaf
marked_open l t q h m = let a = h (λ p. at p q 1) in once_open t q (omega (arith, a, m))

pub grants_few : (l : Leaves) (t : Tree) (q : List Bool) → AreOpen l t → weigh (λ m. m.grant - 15) (marks_of l) ≡ 0 → holds (marks_of l) q ≤ 16
grants_few l t q h e = let d = open_distinct l t q h in let f = few_held (marks_of l) q e in omega (arith, d, f)

-- a free leaf is open and not issued
pub free_open : (l : Leaves) (t : Tree) (q : List Bool) → AreOpen l t → 0 < times q l.free.items → subtree t q ≡ Some leaf
free_open l t q h m = let a = h (λ p. at p q 1) in once_open t q (omega (arith, a, m))

pub free_unheld : (l : Leaves) (t : Tree) (q : List Bool) → AreOpen l t → 0 < times q l.free.items → holds (marks_of l) q ≡ 0
free_unheld l t q h m = let a = h (λ p. at p q 1) in let o = once_most t q in unmarked (marks_of l) q (omega (arith, a, m, o))

-- an open leaf that holds nothing is free
pub unheld_free : (l : Leaves) (t : Tree) (q : List Bool) → AreOpen l t → subtree t q ≡ Some leaf → holds (marks_of l) q ≡ 0 → 0 < times q l.free.items
unheld_free l t q h e z = let a = h (λ p. at p q 1) in let o = open_once t q e in let m = marked_holds (marks_of l) q in omega (arith, a, o, m, z)

pub last_times : (xs : List (List Bool)) (p : List Bool) → 0 < times p (xs ++ p ∷ [])
last_times xs p = let a = weigh-append (λ (q : List Bool). at q p 1) xs (p ∷ []) in let s = at_self p 1 in omega (arith, a, s)

pub core_of : (rule : Rule) (depth : ℕ) (root : List Bounds) (opening : Tree) (budget limit : ℕ) (c : Core) (l : Leaves) → c.root ≡ root → IsStage rule depth root opening c.tree
    → c.marks ≡ marks_of l → AreOpen l c.tree → weigh (λ m. m.grant - 15) (marks_of l) ≡ 0
    → c.used + issued c.marks + granted c.marks + c.left ≡ budget → settled_in opening + c.used ≤ settled_in c.tree
    → settled_in c.tree + issued c.marks + granted c.marks + c.left ≤ limit → issued c.marks + granted c.marks + c.left ≤ c.spare → IsCore rule depth root opening budget limit c
core_of rule depth root opening budget limit c l e stage m are g n s f r = record {
  root_is = e;
  stage = stage;
  distinct = λ q. subst (λ (ms : List Mark). marked ms q ≤ 1) (sym m) (open_distinct l c.tree q are);
  are_open = λ q h. marked_open l c.tree q are (subst (λ (ms : List Mark). 0 < marked ms q) m h);
  grants = λ q. subst (λ (ms : List Mark). holds ms q ≤ 16) (sym m) (grants_few l c.tree q are g);
  conserved = n;
  settled = s;
  few = f;
  room = r;
}

-- a board on which nothing can be taken
pub dry_of : (l : Leaves) (c : Core) → c.marks ≡ marks_of l → AreOpen l c.tree → (0 < may_issue c → l.free.items ≡ []) → IsDry c
dry_of l c m are none = λ may q e.
    let a = are (λ p. at p q 1) in let o = open_once c.tree q e in
    let z : times q l.free.items ≡ 0 = ap (times q) (none may) in
    let h = marked_holds (marks_of l) q in
    let w : holds c.marks q ≡ holds (marks_of l) q = ap (λ (ms : List Mark). holds ms q) m in
    omega (arith, a, o, z, h, w)

-- an issue keeps what holds of the parts
pub issued_open : (old new : Leaves) (t : Mark) (tree : Tree) → IsIssued old new t → AreOpen old tree → AreOpen new tree
issued_open old new t tree h are f =
    let a = are f in
    let b : weigh f old.free.items ≡ weigh f (new.free.items ++ t.path ∷ []) = ap (weigh f) h.free in
    let c = weigh-append f new.free.items (t.path ∷ []) in
    let m = h.marks (λ (m : Mark). f m.path) in
    omega (arith, a, b, c, m)

pub issued_grants : (old new : Leaves) (t : Mark) → IsIssued old new t → weigh (λ m. m.grant - 15) (marks_of old) ≡ 0 → weigh (λ m. m.grant - 15) (marks_of new) ≡ 0
issued_grants old new t h e =
    let m = h.marks (λ (m : Mark). m.grant - 15) in
    let g : t.grant ≡ 0 = ap (λ (m : Mark). m.grant) h.ticket in omega (arith, m, g, e)
