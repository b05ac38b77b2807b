-- Takes, grants and returns: what they do to a board, and that they keep what holds of its parts.
use Rattle.std.proofs.Common.{◌≡◌, ℕ, zero, suc, ◌+◌, ◌-◌, ◌<◌, ◌≤◌, Bool, Option, Some, None, List, [], ◌∷◌, ◌++◌, length, refl, sym, ap, arith, subst}
use Rattle.std.specs.Prelude.{IfSome, IfNone}
use Rattle.pv_interval.specs.Bounds.{Bounds}
use Rattle.pv_tree.specs.Trees.{Tree, Seen, leaf, subtree}
use Rattle.pv_tree.specs.Stages.{Rule}
use Rattle.pv_board.specs.declared.mark.Mark.{Mark}
use Rattle.pv_board.specs.declared.leaves.Leaves.{Leaves}
use Rattle.pv_board.specs.Marks.{weigh, times, holds, marked, issued, granted}
use Rattle.pv_board.specs.Rules.{settled_in}
use Rattle.pv_board.specs.Core.{Core}
use Rattle.pv_board.specs.Events.{free_units, IsDry, IsOver, IsTake}
use Rattle.pv_board.specs.Leaves.{marks_of, AreOpen, IsIssued, IsFreed, IsRaised, IsBoard, seen}
use Rattle.pv_board.proofs.Paths.{at_least, weigh-append, weigh-ones}
use Rattle.pv_board.proofs.Growth.{few_opens}
use Rattle.pv_board.proofs.Marked.{unmarked}
use Rattle.pv_board.proofs.Boards.{core_of, free_open, free_unheld, marked_open, last_times, dry_of, issued_open, issued_grants}

times_as : (xs ys : List (List Bool)) (p : List Bool) → xs ≡ ys → 0 < times p ys → 0 < times p xs
times_as xs ys p e h = subst (λ (zs : List (List Bool)). 0 < times p zs) (sym e) h

-- a path that holds units is an open leaf
pub held_open : (l : Leaves) (t : Tree) (q : List Bool) (n : ℕ) → AreOpen l t → holds (marks_of l) q ≡ suc n → subtree t q ≡ Some leaf
held_open l t q n are e = by_marked (marked (marks_of l) q) refl
  where
    by_marked : (k : ℕ) → marked (marks_of l) q ≡ k → subtree t q ≡ Some leaf
    by_marked zero z = let h = unmarked (marks_of l) q z in absurd (omega (arith, h, e))
    by_marked (suc k) z = marked_open l t q are (omega (arith, z))

-- and so one is issued
pub held_issued : (ms : List Mark) (q : List Bool) → holds ms q ≤ issued ms + granted ms
held_issued [] q = omega arith
held_issued (m ∷ ms) q = let r = held_issued ms q in let a = at_least m.path q (suc m.grant) in omega (arith, r, a)

pub current_issued : (ms : List Mark) (q : List Bool) → 0 < holds ms q → 0 < issued ms
current_issued [] q h = absurd (omega (arith, h))
current_issued (m ∷ ms) q h = omega arith

module _ (rule : Rule) (depth dims : ℕ) (root : List Bounds) (opening : Tree) (budget limit : ℕ) where
  abbrev Is : Seen → Leaves → ℕ → ℕ → Type 0
  Is p l used steps = IsBoard rule depth dims root opening budget limit (seen p l used steps) l

  issued_board : (p : Seen) (old new : Leaves) (used steps : ℕ) (t : Mark) → Is p old used steps → IsIssued old new t → Is p new used steps
  issued_board p old new used steps t h i =
      let are = issued_open old new t p.tree i h.leaves in let g = issued_grants old new t i h.few_grants in
      let a = i.marks (λ (m : Mark). 1) in let b = i.marks (λ (m : Mark). m.grant) in
      let z : t.grant ≡ 0 = ap (λ (m : Mark). m.grant) i.ticket in
      let n = h.core.conserved in let f = h.core.few in let r = h.core.room in let l = i.left in
      record {
        opens_right = h.opens_right;
        core = core_of rule depth root opening budget limit (seen p new used steps) new h.core.root_is h.core.stage refl are g (omega (arith, a, b, z, n, l)) h.core.settled
            (omega (arith, a, b, z, f, l)) (omega (arith, a, b, z, r, l));
        leaves = are;
        few_grants = g;
        room = i.room;
        for_free = let s = h.for_free in let k = i.for_free in omega (arith, a, b, z, s, k, l);
      }

  pub taken_board : (p : Seen) (old new : Leaves) (used steps : ℕ) (o : Option Mark) → Is p old used steps → IfSome o (IsIssued old new) → IfNone o (new ≡ old) → Is p new used steps
  taken_board p old new used steps None h i n = subst (λ (l : Leaves). Is p l used steps) (sym n) h
  taken_board p old new used steps (Some t) h i n = issued_board p old new used steps t h i

  take_is : (p : Seen) (old new : Leaves) (used steps : ℕ) (t : Mark) → Is p old used steps → IsIssued old new t → IsTake (seen p old used steps) (seen p new used steps) t
  take_is p old new used steps t h i =
      let there = times_as old.free.items (new.free.items ++ t.path ∷ []) t.path i.free (last_times new.free.items t.path) in
      record {
        may = i.may;
        is_open = free_open old p.tree t.path h.leaves there;
        is_fresh = free_unheld old p.tree t.path h.leaves there;
        grant = ap (λ (m : Mark). m.grant) i.ticket;
        marks = i.marks;
        left = i.left;
        rest = λ k. record { root = p.root; tree = p.tree; spare = p.spare; marks = marks_of new; used = used; left = new.left; stopped = i.stopped k; steps = steps };
      }

  pub taken_is : (p : Seen) (old new : Leaves) (used steps : ℕ) (o : Option Mark) → Is p old used steps → IfSome o (IsIssued old new) → IfSome o (λ t. IsTake (seen p old used steps) (seen p new used steps) t)
  taken_is p old new used steps None h i = tt
  taken_is p old new used steps (Some t) h i = take_is p old new used steps t h i

  pub taken_none : (p : Seen) (old : Leaves) (used steps : ℕ) (o : Option Mark) → Is p old used steps → IfNone o (0 < free_units old.stopped old.left → old.free.items ≡ []) → IfNone o (IsDry (seen p old used steps))
  taken_none p old used steps None h n = dry_of old (seen p old used steps) refl h.leaves n
  taken_none p old used steps (Some t) h n = tt

  pub taken_over : (p : Seen) (old new : Leaves) (used steps : ℕ) (o : Option Mark) → Is p old used steps → IfSome o (IsIssued old new) → IfNone o (new ≡ old) → IsOver (seen p old used steps) → IsOver (seen p new used steps)
  taken_over p old new used steps None h i n over = subst (λ (l : Leaves). IsOver (seen p l used steps)) (sym n) over
  taken_over p old new used steps (Some t) h i n over =
      let w = take_is p old new used steps t h i in let d = over.dry w.may t.path w.is_open in let z = w.is_fresh in absurd (omega (arith, d, z))

  -- a ticket's leaf is freed
  pub freed_board : (p : Seen) (old new : Leaves) (used steps steps' : ℕ) (t : Mark) → Is p old used steps → IsFreed old new t → Is p new used steps'
  freed_board p old new used steps steps' t h i =
      let are : AreOpen new p.tree = λ f.
      let x = h.leaves f in let y : weigh f new.free.items ≡ weigh f (old.free.items ++ t.path ∷ []) = ap (weigh f) i.free in
      let z = weigh-append f old.free.items (t.path ∷ []) in let m = i.marks (λ (m : Mark). f m.path) in omega (arith, x, y, z, m) in
      let g : weigh (λ (m : Mark). m.grant - 15) (marks_of new) ≡ 0 = let m = i.marks (λ (m : Mark). m.grant - 15) in let e = h.few_grants in omega (arith, m, e) in
      let a = i.marks (λ (m : Mark). 1) in let b = i.marks (λ (m : Mark). m.grant) in
      let n = h.core.conserved in let f = h.core.few in let r = h.core.room in let l = i.left in
      record {
        opens_right = h.opens_right;
        core = core_of rule depth root opening budget limit (seen p new used steps') new h.core.root_is h.core.stage refl are g (omega (arith, a, b, n, l)) h.core.settled
            (omega (arith, a, b, f, l)) (omega (arith, a, b, r, l));
        leaves = are;
        few_grants = g;
        room = i.room;
        for_free = let s = h.for_free in let k = i.for_free in omega (arith, a, b, s, k, l);
      }

  -- a mark's grant grows
  pub raised_board : (p : Seen) (old new : Leaves) (used steps : ℕ) (t u : Mark) (units : ℕ) → Is p old used steps → IsRaised old new t u units → u.path ≡ t.path → u.grant ≡ t.grant + units → u.grant ≤ 15 → Is p new used steps
  raised_board p old new used steps t u units h i e gu few =
      let are : AreOpen new p.tree = λ f.
      let x = h.leaves f in let y : weigh f new.free.items ≡ weigh f old.free.items = ap (weigh f) i.free in
      let m = i.marks (λ (m : Mark). f m.path) in let z : f u.path ≡ f t.path = ap f e in omega (arith, x, y, m, z) in
      let g : weigh (λ (m : Mark). m.grant - 15) (marks_of new) ≡ 0 = let m = i.marks (λ (m : Mark). m.grant - 15) in let e = h.few_grants in omega (arith, m, e, few) in
      let a = i.marks (λ (m : Mark). 1) in let b = i.marks (λ (m : Mark). m.grant) in
      let n = h.core.conserved in let f = h.core.few in let r = h.core.room in let l = i.left in
      record {
        opens_right = h.opens_right;
        core = core_of rule depth root opening budget limit (seen p new used steps) new h.core.root_is h.core.stage refl are g (omega (arith, a, b, n, l, gu)) h.core.settled
            (omega (arith, a, b, f, l, gu)) (omega (arith, a, b, r, l, gu));
        leaves = are;
        few_grants = g;
        room = i.room;
        for_free = let s = h.for_free in let k = i.for_free in omega (arith, a, b, s, k, l, gu);
      }

  -- where a leaf is issued, few leaves are free
  pub few_free : (p : Seen) (l : Leaves) (used steps : ℕ) → Is p l used steps → length l.free.items + issued (marks_of l) ≤ suc (settled_in p.tree)
  few_free p l used steps h =
      let a = h.leaves (λ (q : List Bool). 1) in let b = few_opens p.tree in let c = weigh-ones l.free.items in omega (arith, a, b, c)

-- over a board that is over nothing is current
pub over_stale : (c : Core) (q : List Bool) (n : ℕ) → IsOver c → holds c.marks q ≡ suc n → ⊥
over_stale c q n h e = let i = current_issued c.marks q (omega (arith, e)) in let z = h.none in absurd (omega (arith, i, z))
