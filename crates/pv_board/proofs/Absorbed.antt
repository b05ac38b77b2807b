-- What absorbing a stage does to a board.
use Rattle.std.proofs.Common.{◌≡◌, ℕ, zero, suc, ◌+◌, ◌-◌, ◌<◌, ◌≤◌, Bool, Some, List, [], ◌∷◌, ◌++◌, refl, sym, ◌∙◌, ap, arith, subst, append-nil}
use Rattle.std.specs.Prelude.{vec_capacity, if◌then◌else◌}
use Rattle.pv_interval.specs.Bounds.{Bounds}
use Rattle.pv_tree.specs.Trees.{Tree, Seen, leaf, subtree, outcome_at, opens, box_of}
use Rattle.pv_tree.specs.Stages.{Rule, IsStage, Grows, full_of}
use Rattle.pv_tree.specs.declared.outcome.Outcome.{Outcome}
use Rattle.pv_tree.proofs.StageLaws.{grows_on}
use Rattle.pv_join.specs.Joins.{Agree}
use Rattle.pv_join.proofs.Overlays.{some_is}
use Rattle.pv_board.specs.declared.mark.Mark.{Mark}
use Rattle.pv_board.specs.declared.leaves.Leaves.{Leaves}
use Rattle.pv_board.specs.Marks.{weigh, at, times, holds, marked, issued, granted}
use Rattle.pv_board.specs.Rules.{settled_in}
use Rattle.pv_board.specs.Events.{IsOver, may_issue}
use Rattle.pv_board.specs.Leaves.{marks_of, AreOpen, HasRoom, IsBoard, seen}
use Rattle.pv_board.specs.Absorbing.{IsJoinAside, IsAbsorbed, part_at, filled, if_some, filling, CanFill, CanPileAll}
use Rattle.pv_board.proofs.Growth.{once_most, few_opens, grows_settled}
use Rattle.pv_board.proofs.Fulls.{grows_box}
use Rattle.pv_board.proofs.Marked.{unmarked}
use Rattle.pv_board.proofs.Boards.{core_of, free_open, free_unheld, marked_open, unheld_free}
use Rattle.pv_board.proofs.Paths.{at_self}
use Rattle.pv_board.proofs.Filling.{filled_at, filled_opens, filled_grows, filled_within, filled_side, part_outcome, some_part, filling_in, filling_out, weigh_on}

held_marked : (ms : List Mark) (q : List Bool) → 0 < holds ms q → 0 < marked ms q
held_marked ms q h = go (marked ms q) refl
  where
    go : (n : ℕ) → marked ms q ≡ n → 0 < marked ms q
    go zero e = let z = unmarked ms q e in absurd (omega (arith, z, h))
    go (suc n) e = omega (arith, e)

marks_on : (f g : List Bool → ℕ) (ms : List Mark) → ((q : List Bool) → 0 < marked ms q → f q ≡ g q) → weigh (λ m. f m.path) ms ≡ weigh (λ m. g m.path) ms
marks_on f g [] h = refl
marks_on f g (m ∷ ms) h =
    let e = h m.path (let s = at_self m.path 1 in omega (arith, s)) in let r = marks_on f g ms (λ q k. h q (omega (arith, k))) in omega (arith, e, r)

filling_outcome : (stage : Tree) (ps : List (List Bool)) (x r : List Bool) (o : Outcome) → outcome_at (filling stage ps x) r ≡ Some o → outcome_at stage (x ++ r) ≡ Some o
filling_outcome stage ps x r o e = go (times x ps) r e
  where
    go : (n : ℕ) (r : List Bool) → outcome_at (if_some n (part_at stage x)) r ≡ Some o → outcome_at stage (x ++ r) ≡ Some o
    go zero [] e = cc
    go zero (b ∷ r) e = cc
    go (suc n) r e = sym (part_outcome stage x r) ∙ e

-- a board with an issued leaf or with none left to issue has no free leaf
none_free : (l : Leaves) (t : Tree) (ps : List (List Bool)) → l.free.items ≡ ps → AreOpen l t → ((p : List Bool) → subtree t p ≡ Some leaf → 0 < holds (marks_of l) p) → ps ≡ []
none_free l t [] e are h = refl
none_free l t (p ∷ ps) e are h =
    let some : 0 < times p l.free.items = let s = at_self p 1 in let w = ap (times p) e in omega (arith, s, w) in
    let x = h p (free_open l t p are some) in let y = free_unheld l t p are some in absurd (omega (arith, x, y))

module _ (rule : Rule) (depth dims : ℕ) (root : List Bounds) (opening : Tree) (budget limit : ℕ) where
  module _ (p st : Seen) (l : Leaves) (used steps : ℕ) (h : IsBoard rule depth dims root opening budget limit (seen p l used steps) l) (at_root : st.root ≡ root) (stage : IsStage rule depth root opening st.tree) where
    once : (q : List Bool) → times q l.free.items + marked (marks_of l) q ≤ 1
    once q = let a = h.leaves (λ (p : List Bool). at p q 1) in let m = once_most p.tree q in omega (arith, a, m)

    pub can_fill : (copy : Seen) → copy.root ≡ p.root → copy.tree ≡ p.tree → CanFill copy st l.free.items
    can_fill copy r e = record {
      are_open = λ q m. ap (λ (t : Tree). subtree t q) e ∙ free_open l p.tree q h.leaves m;
      distinct = λ q. let o = once q in omega (arith, o);
      box_is = λ q m there.
          let is_open = free_open l p.tree q h.leaves m in
          (λ i. box_of ((r ∙ h.core.root_is) i) (e i) q) ∙ grows_box root p.tree (full_of rule depth root opening 0) q h.core.stage.grows (some_is (subtree p.tree q) leaf is_open)
          ∙ sym (grows_box root st.tree (full_of rule depth root opening 0) q stage.grows there) ∙ ap (λ (b : List Bounds). box_of b st.tree q) (sym at_root);
    }

    agree : Agree p.tree st.tree
    agree x o u e f = let w : Some o ≡ Some u = sym (h.core.stage.grows x o e) ∙ stage.grows x u f in cc

    abbrev with : List Bool → Tree
    with = filling st.tree l.free.items

    module _ (t : Tree) (e : t ≡ filled p.tree (filling st.tree l.free.items)) where
      pub filled_stage : IsStage rule depth root opening t
      filled_stage = record {
        grown = grows_on opening p.tree t h.core.stage.grown (subst (Grows p.tree) (sym e) (filled_grows p.tree with));
        grows = subst (λ (z : Tree). Grows z (full_of rule depth root opening 0)) (sym e) (filled_within p.tree with (full_of rule depth root opening 0) h.core.stage.grows
            (λ x r o lf m. stage.grows (x ++ r) o (filling_outcome st.tree l.free.items x r o m)));
      }

      there : (q : List Bool) → subtree p.tree q ≡ Some leaf → subtree t q ≡ Some (with q)
      there q is_open = ap (λ (z : Tree). subtree z q) e ∙ filled_at p.tree with q is_open

      issued_open : (q : List Bool) → 0 < marked (marks_of l) q → with q ≡ leaf
      issued_open q m = filling_out st.tree l.free.items q (let o = once q in omega (arith, o, m))

      pub filled_aside : IsJoinAside (marks_of l) p.tree st.tree t
      filled_aside = record {
        issued = λ q held.
            let m = held_marked (marks_of l) q held in
            there q (marked_open l p.tree q h.leaves m) ∙ ap (λ (z : Tree). Some z) (issued_open q m);
        others = λ q apart. ap (λ (z : Tree). outcome_at z q) e
            ∙ filled_side p.tree st.tree with q agree (λ x r is is_open. filling_in st.tree l.free.items x (unheld_free l p.tree x h.leaves is_open (apart x r is)));
      }

      sums : (f : List Bool → ℕ) → weigh (λ x. weigh (λ q. f (x ++ q)) (opens (part_at t x))) l.free.items + weigh (λ m. f m.path) (marks_of l) ≡ weigh f (opens t)
      sums f =
          let a = h.leaves (λ (x : List Bool). weigh (λ (q : List Bool). f (x ++ q)) (opens (with x))) in
          let b = filled_opens f p.tree with in
          let c = ap (λ (z : Tree). weigh f (opens z)) e in
          let d = weigh_on (λ (x : List Bool). weigh (λ (q : List Bool). f (x ++ q)) (opens (part_at t x))) (λ (x : List Bool). weigh (λ (q : List Bool). f (x ++ q)) (opens (with x))) l.free.items
          (λ x m. ap (λ (z : Tree). weigh (λ (q : List Bool). f (x ++ q)) (opens z)) (some_part t x (with x) (there x (free_open l p.tree x h.leaves m)))) in
          let k = marks_on (λ (x : List Bool). weigh (λ (q : List Bool). f (x ++ q)) (opens (with x))) f (marks_of l)
          (λ x m. ap (λ (z : Tree). weigh (λ (q : List Bool). f (x ++ q)) (opens z)) (issued_open x m) ∙ (let n = ap f (append-nil x) in omega (arith, n))) in
          omega (arith, a, b, c, d, k)

      pub can_pile_all : (room : ℕ) → settled_in t < room → CanPileAll t l.free.items room
      can_pile_all room few = record {
        there = λ q m. some_is (subtree t q) (with q) (there q (free_open l p.tree q h.leaves m));
        few = let s = sums (λ (q : List Bool). 1) in let o = few_opens t in omega (arith, s, o, few);
      }

      pub added_is : settled_in p.tree ≤ settled_in t
      added_is = grows_settled p.tree t (subst (Grows p.tree) (sym e) (filled_grows p.tree with))

      module _ (q : Seen) (new : Leaves) (q_root : q.root ≡ p.root) (q_tree : q.tree ≡ t) (same_marks : marks_of new ≡ marks_of l) (same_left : new.left ≡ l.left) (same_stopped : new.stopped ≡ l.stopped)
          (free : (f : List Bool → ℕ) → weigh f new.free.items ≡ weigh (λ x. weigh (λ q. f (x ++ q)) (opens (part_at t x))) l.free.items) where
        are_open : AreOpen new q.tree
        are_open f =
            let a = sums f in let b = free f in let c = ap (weigh (λ (m : Mark). f m.path)) same_marks in
            let d = ap (λ (z : Tree). weigh f (opens z)) q_tree in omega (arith, a, b, c, d)

        pub absorbed_board : HasRoom new → settled_in t + (issued (marks_of l) + granted (marks_of l) + l.left) < vec_capacity new.free → issued (marks_of l) + granted (marks_of l) + l.left ≤ q.spare → settled_in t + (issued (marks_of l) + granted (marks_of l) + l.left) ≤ limit
            → IsBoard rule depth dims root opening budget limit (seen q new used steps) new
        absorbed_board room free_room spare few =
            let i = ap issued same_marks in let g = ap granted same_marks in
            let n : weigh (λ (m : Mark). m.grant - 15) (marks_of new) ≡ 0 = ap (weigh (λ (m : Mark). m.grant - 15)) same_marks ∙ h.few_grants in
            let k = h.core.conserved in let s = h.core.settled in let a = added_is in let z = ap settled_in q_tree in
            record {
              opens_right = h.opens_right;
              core = core_of rule depth root opening budget limit (seen q new used steps) new (q_root ∙ h.core.root_is) (subst (IsStage rule depth root opening) (sym q_tree) filled_stage) refl are_open n
                  (omega (arith, i, g, k, same_left)) (omega (arith, s, a, z)) (omega (arith, i, g, few, z, same_left)) (omega (arith, i, g, spare, same_left));
              leaves = are_open;
              few_grants = n;
              room = room;
              for_free = omega (arith, i, g, free_room, z, same_left);
            }

        pub absorbed_is : (added : ℕ) → settled_in q.tree ≡ settled_in p.tree + added → settled_in t + (issued (marks_of l) + granted (marks_of l) + l.left) ≤ limit → IsAbsorbed limit (seen p l used steps) (seen q new used steps) st.tree added
        absorbed_is added count few = record {
          tree = subst (IsJoinAside (marks_of l) p.tree st.tree) (sym q_tree) filled_aside;
          added_is = count;
          few = let z = ap settled_in q_tree in omega (arith, z, few);
          rest = λ k. record { root = q_root k; tree = q.tree; spare = q.spare; marks = same_marks k; used = used; left = same_left k; stopped = same_stopped k; steps = steps };
        }

        pub absorbed_over : IsOver (seen p l used steps) → IsOver (seen q new used steps)
        absorbed_over over = record {
          none = ap issued same_marks ∙ over.none;
          dry = λ may x is_open.
              let before : 0 < may_issue (seen p l used steps) = subst (λ (n : ℕ). 0 < n) (λ i. if same_stopped i then 0 else same_left i) may in
              let none = none_free l p.tree l.free.items refl h.leaves (over.dry before) in
              go (holds (marks_of new) x) x refl is_open none;
        }
          where
            go : (n : ℕ) → (x : List Bool) → n ≡ holds (marks_of new) x → subtree q.tree x ≡ Some leaf → l.free.items ≡ [] → 0 < holds (marks_of new) x
            go zero x z is_open none =
                let some = unheld_free new q.tree x are_open is_open (sym z) in
                let f = free (λ (y : List Bool). at y x 1) in
                let w = ap (weigh (λ (y : List Bool). weigh (λ (r : List Bool). at (y ++ r) x 1) (opens (part_at t y)))) none in
                absurd (omega (arith, some, f, w))
            go (suc n) x z is_open none = omega (arith, z)
