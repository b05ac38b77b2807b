-- What holds of every board holds after an event.
use Rattle.std.proofs.Common.{◌≡◌, ℕ, zero, suc, ◌+◌, ◌≤◌, Bool, IsTrue, Some, List, length, refl, sym, ◌∙◌, ap, arith, subst, inl, inr}
use Rattle.std.specs.Prelude.{IsSome}
use Rattle.pv_interval.specs.Bounds.{Bounds}
use Rattle.pv_tree.specs.Trees.{Tree, leaf, subtree, graft, opens}
use Rattle.pv_tree.specs.Stages.{Rule, IsStage, Grows, full_of}
use Rattle.pv_tree.proofs.StageLaws.{graft_grows}
use Rattle.pv_board.specs.declared.mark.Mark.{Mark}
use Rattle.pv_board.specs.Marks.{at, times, holds, marked, issued, granted}
use Rattle.pv_board.specs.Rules.{settled_in}
use Rattle.pv_board.specs.Core.{Core, IsOpening, IsCore}
use Rattle.pv_board.specs.Events.{is_current, free_units, left_over, IsTake, IsGiveBack, IsRecall}
use Rattle.pv_board.proofs.Paths.{at_none, at_least}
use Rattle.pv_board.proofs.Growth.{graft_opens, once_most, once_open, open_once}
use Rattle.pv_board.proofs.Fulls.{grows_box, graft_stage}
use Rattle.pv_board.proofs.Marked.{unmarked, marked_holds}
use Rattle.pv_board.proofs.Settling.{is_equal, graft_settled}
use Rattle.pv_events.specs.Steps.{IsExtended, IsSettled}
use Rattle.pv_events.proofs.Marked.{meet, at_is, held_marked, children_marked, children_hold, children_granted, children_issued}

module _ (rule : Rule) (depth : ℕ) (root : List Bounds) (opening : Tree) (budget limit : ℕ) where
  abbrev Is : Core → Type 0
  Is c = IsCore rule depth root opening budget limit c

  -- issued paths are among the open leaves
  few_marked : (c : Core) (q : List Bool) → Is c → marked c.marks q ≤ times q (opens c.tree)
  few_marked c q h = go (marked c.marks q) refl
    where
      go : (n : ℕ) → marked c.marks q ≡ n → marked c.marks q ≤ times q (opens c.tree)
      go zero e = omega (arith, e)
      go (suc n) e = let o = open_once c.tree q (h.are_open q (omega (arith, e))) in let d = h.distinct q in omega (arith, o, d)

  pub core_by : (c : Core) → c.root ≡ root → IsStage rule depth root opening c.tree → ((q : List Bool) → marked c.marks q ≤ times q (opens c.tree)) → ((q : List Bool) → holds c.marks q ≤ 16)
      → c.used + issued c.marks + granted c.marks + c.left ≡ budget → settled_in opening + c.used ≤ settled_in c.tree
      → settled_in c.tree + issued c.marks + granted c.marks + c.left ≤ limit → issued c.marks + granted c.marks + c.left ≤ c.spare → Is c
  core_by c r stage m g n s f o = record {
    root_is = r;
    stage = stage;
    distinct = λ q. let a = m q in let b = once_most c.tree q in omega (arith, a, b);
    are_open = λ q k. once_open c.tree q (let a = m q in omega (arith, a, k));
    grants = g;
    conserved = n;
    settled = s;
    few = f;
    room = o;
  }

  -- a current ticket's path is an open leaf
  pub current_held : (c : Core) (t : Mark) → IsTrue (is_current c t) → holds c.marks t.path ≡ suc t.grant
  current_held c t h = is_equal (holds c.marks t.path) (suc t.grant) (sym h)

  pub current_open : (c : Core) (t : Mark) → Is c → IsTrue (is_current c t) → subtree c.tree t.path ≡ Some leaf
  current_open c t h k = h.are_open t.path (held_marked c.marks t.path (let e = current_held c t k in omega (arith, e)))

  -- where only the marks and what is left change
  module _ (old new : Core) (h : Is old) (root_is : new.root ≡ old.root) (tree_is : new.tree ≡ old.tree) (used_is : new.used ≡ old.used) (spare_is : new.spare ≡ old.spare) where
    pub marks_core : ((q : List Bool) → marked new.marks q ≤ times q (opens old.tree)) → ((q : List Bool) → holds new.marks q ≤ 16)
        → issued new.marks + granted new.marks + new.left ≡ issued old.marks + granted old.marks + old.left → Is new
    marks_core m g n =
        let z : settled_in new.tree ≡ settled_in old.tree = ap settled_in tree_is in
        let c = h.conserved in let s = h.settled in let f = h.few in let o = h.room in
        core_by new (root_is ∙ h.root_is) (subst (IsStage rule depth root opening) (sym tree_is) h.stage)
        (λ q. subst (λ (t : Tree). marked new.marks q ≤ times q (opens t)) (sym tree_is) (m q)) g
        (omega (arith, c, n, used_is)) (omega (arith, s, z, used_is)) (omega (arith, f, n, z)) (omega (arith, o, n, spare_is))

  -- a leaf was issued
  module _ (old new : Core) (t : Mark) (h : Is old) (k : IsTake old new t) where
    took_marked : (q : List Bool) → marked new.marks q ≤ times q (opens old.tree)
    took_marked q =
        let m = k.marks (λ (m : Mark). at m.path q 1) in let f = few_marked old q h in
        elim (meet t.path q) [
          | inl z ↦ omega (arith, m, f, z)
          | inr e ↦
              let z : holds old.marks q ≡ 0 = ap (holds old.marks) (sym e) ∙ k.is_fresh in
              let w = marked_holds old.marks q in let a = at_least t.path q 1 in
              let o = open_once old.tree q (ap (subtree old.tree) (sym e) ∙ k.is_open) in
              omega (arith, m, z, w, a, o)
        ]

    took_holds : (q : List Bool) → holds new.marks q ≤ 16
    took_holds q =
        let m = k.marks (λ (m : Mark). at m.path q (suc m.grant)) in let f = h.grants q in let g = k.grant in
        elim (meet t.path q) [
          | inl z ↦ let n = at_none t.path q (suc t.grant) z in omega (arith, m, f, n)
          | inr e ↦
              let z : holds old.marks q ≡ 0 = ap (holds old.marks) (sym e) ∙ k.is_fresh in
              let a = at_least t.path q (suc t.grant) in omega (arith, m, z, a, g)
        ]

    pub took_core : Is new
    took_core =
        let a = k.marks (λ (m : Mark). 1) in let b = k.marks (λ (m : Mark). m.grant) in let g = k.grant in let l = k.left in
        marks_core old new h (ap (λ (c : Core). c.root) k.rest) (ap (λ (c : Core). c.tree) k.rest) (ap (λ (c : Core). c.used) k.rest) (ap (λ (c : Core). c.spare) k.rest)
        took_marked took_holds (omega (arith, a, b, g, l))

  -- a grant grew
  module _ (old new : Core) (t : Mark) (units : ℕ) (h : Is old) (k : IsExtended old new t units) where
    extended_marked : (q : List Bool) → marked new.marks q ≤ times q (opens old.tree)
    extended_marked q = let m = k.is.marks (λ (m : Mark). at m.path q 1) in let f = few_marked old q h in omega (arith, m, f)

    extended_holds : (q : List Bool) → holds new.marks q ≤ 16
    extended_holds q =
        let m = k.is.marks (λ (m : Mark). at m.path q (suc m.grant)) in let f = h.grants q in let few = k.few in
        elim (meet t.path q) [
          | inl z ↦ let a = at_none t.path q (suc t.grant) z in let b = at_none t.path q (suc (t.grant + units)) z in omega (arith, m, f, a, b)
          | inr e ↦
              let z : holds old.marks q ≡ suc t.grant = ap (holds old.marks) (sym e) ∙ current_held old t k.current in
              let a = at_is t.path q (suc t.grant) e in let b = at_is t.path q (suc (t.grant + units)) e in omega (arith, m, z, a, b, few)
        ]

    pub extended_core : Is new
    extended_core =
        let a = k.is.marks (λ (m : Mark). 1) in let b = k.is.marks (λ (m : Mark). m.grant) in let l = k.is.left in
        marks_core old new h (ap (λ (c : Core). c.root) k.is.rest) (ap (λ (c : Core). c.tree) k.is.rest) (ap (λ (c : Core). c.used) k.is.rest) (ap (λ (c : Core). c.spare) k.is.rest)
        extended_marked extended_holds (omega (arith, a, b, l))

  -- a leaf was given back
  pub given_back_core : (old new : Core) (t : Mark) → Is old → IsGiveBack old new t → Is new
  given_back_core old new t h k =
      let a = k.marks (λ (m : Mark). 1) in let b = k.marks (λ (m : Mark). m.grant) in let l = k.left in
      marks_core old new h (ap (λ (c : Core). c.root) k.rest) (ap (λ (c : Core). c.tree) k.rest) (ap (λ (c : Core). c.used) k.rest) (ap (λ (c : Core). c.spare) k.rest)
      (λ q. let m = k.marks (λ (m : Mark). at m.path q 1) in let f = few_marked old q h in omega (arith, m, f))
      (λ q. let m = k.marks (λ (m : Mark). at m.path q (suc m.grant)) in let f = h.grants q in omega (arith, m, f))
      (omega (arith, a, b, l))

  -- all leaves were given back
  pub recalled_core : (old new : Core) → Is old → IsRecall old new → Is new
  recalled_core old new h k =
      let i : issued new.marks ≡ 0 = ap issued k.none in let g : granted new.marks ≡ 0 = ap granted k.none in let l = k.left in
      marks_core old new h (ap (λ (c : Core). c.root) k.rest) (ap (λ (c : Core). c.tree) k.rest) (ap (λ (c : Core). c.used) k.rest) (ap (λ (c : Core). c.spare) k.rest)
      (λ q. let m : marked new.marks q ≡ 0 = ap (λ (ms : List Mark). marked ms q) k.none in omega (arith, m))
      (λ q. let m : holds new.marks q ≡ 0 = ap (λ (ms : List Mark). holds ms q) k.none in omega (arith, m))
      (omega (arith, i, g, l))

  -- a leaf became a tree
  module _ (dims : ℕ) (o : IsOpening rule depth dims root opening) (old new : Core) (t : Mark) (s : Tree) (children : List Mark) (h : Is old) (k : IsSettled rule depth root opening old new t s children) where
    is_open : subtree old.tree t.path ≡ Some leaf
    is_open = current_open old t h k.current

    pub became_grown : Grows old.tree new.tree
    became_grown = subst (Grows old.tree) (sym k.is.tree) (graft_grows old.tree t.path s is_open)

    pub became_settled : settled_in new.tree ≡ settled_in old.tree + settled_in s
    became_settled = ap settled_in k.is.tree ∙ graft_settled old.tree t.path s is_open

    became_stage : IsStage rule depth root opening new.tree
    became_stage =
        let there : IsSome (subtree old.tree t.path) = subst IsSome (sym is_open) refl in
        let same = grows_box root old.tree (full_of rule depth root opening 0) t.path h.stage.grows there in
        subst (IsStage rule depth root opening) (sym k.is.tree)
        (graft_stage rule depth dims o.rule_fits opening old.tree root t.path s o.box o.places o.paves h.stage is_open
        (subst (λ (b : List Bounds). Grows s (full_of rule depth b leaf (length t.path))) (sym same) k.due))

    abbrev most : ℕ
    most = free_units old.stopped (left_over old t s)

    became_marked : (q : List Bool) → marked new.marks q ≤ times q (opens new.tree)
    became_marked q =
        let m = k.is.marks (λ (m : Mark). at m.path q 1) in let f = few_marked old q h in
        let c = children_marked t.path s most children k.is.first q in
        let g = graft_opens (λ (r : List Bool). at r q 1) old.tree t.path s is_open in
        let e : times q (opens new.tree) ≡ times q (opens (graft old.tree t.path s)) = ap (λ (z : Tree). times q (opens z)) k.is.tree in
        omega (arith, m, f, c, g, e)

    became_holds : (q : List Bool) → holds new.marks q ≤ 16
    became_holds q =
        let a = k.is.marks (λ (m : Mark). at m.path q 1) in let b = k.is.marks (λ (m : Mark). at m.path q (suc m.grant)) in
        let c = children_hold t.path s most children k.is.first q in
        let f = became_marked q in let once = once_most new.tree q in let g = h.grants q in
        elim (meet t.path q) [
          | inl z ↦ apart z (marked children q) refl
          | inr e ↦
              let held : holds old.marks q ≡ suc t.grant = ap (holds old.marks) (sym e) ∙ current_held old t k.current in
              let some = held_marked old.marks q (omega (arith, held)) in
              let x = at_is t.path q 1 e in let y = at_is t.path q (suc t.grant) e in
              omega (arith, a, b, c, f, once, held, some, x, y)
        ]
      where
        apart : at t.path q 1 ≡ 0 → (n : ℕ) → marked children q ≡ n → holds new.marks q ≤ 16
        apart z zero e =
            let b = k.is.marks (λ (m : Mark). at m.path q (suc m.grant)) in
            let c = children_hold t.path s most children k.is.first q in
            let g = h.grants q in let y = at_none t.path q (suc t.grant) z in omega (arith, b, c, e, g, y)
        apart z (suc n) e =
            let a = k.is.marks (λ (m : Mark). at m.path q 1) in let b = k.is.marks (λ (m : Mark). at m.path q (suc m.grant)) in
            let c = children_hold t.path s most children k.is.first q in
            let f = became_marked q in let once = once_most new.tree q in let y = at_none t.path q (suc t.grant) z in
            let none = unmarked old.marks q (omega (arith, a, f, once, e, z)) in omega (arith, a, b, c, f, once, none, y)

    pub became_core : Is new
    became_core =
        let a = k.is.marks (λ (m : Mark). 1) in let b = k.is.marks (λ (m : Mark). m.grant) in
        let i = children_issued children in let g = children_granted t.path s most children k.is.first in
        let l = k.is.left in let enough = k.enough in let u = k.is.used in let z = became_settled in let sp = k.is.spare in
        let c = h.conserved in let e = h.settled in let f = h.few in let r = h.room in
        core_by new (k.is.root ∙ h.root_is) became_stage became_marked became_holds
        (omega (arith, a, b, i, g, l, enough, u, c)) (omega (arith, u, z, e)) (omega (arith, a, b, i, g, l, enough, z, f)) (omega (arith, a, b, i, g, l, enough, sp, r))
