-- Each board that was opened can come to an end.
use Rattle.std.proofs.Common.{◌≡◌, ℕ, zero, suc, ◌+◌, ◌-◌, ◌%◌, ◌^◌, ◌<◌, ◌≤◌, Bool, true, false, Some, List, [], ◌∷◌, ◌++◌, map, take, length, refl, ap, arith, inl, inr}
use Rattle.std.specs.Prelude.{nat_eq}
use Rattle.std.proofs.lemmas.Bool.Decides.{eqb_tells}
use Rattle.pv_interval.specs.Bounds.{Bounds}
use Rattle.pv_tree.specs.Trees.{Tree, leaf, subtree, graft, settled, opens, box_of}
use Rattle.pv_tree.specs.Stages.{Rule, full_of}
use Rattle.pv_tree.proofs.TreeFacts.{settled_one}
use Rattle.pv_board.specs.declared.mark.Mark.{Mark}
use Rattle.pv_board.specs.Marks.{weigh, times, holds, issued, granted}
use Rattle.pv_board.specs.Rules.{settled_in}
use Rattle.pv_board.specs.Core.{Core, IsOpening, IsCore}
use Rattle.pv_board.specs.Events.{free_units, fresh, leaves_at, left_over, next_step, IsOver, IsTake, IsRecall}
use Rattle.pv_board.proofs.Paths.{at_self, weigh-append}
use Rattle.pv_board.proofs.Growth.{once_open, open_once}
use Rattle.pv_events.specs.Steps.{took, became, recalled, IsSettled}
use Rattle.pv_events.specs.Runs.{CanEnd, BoardsCanEnd}
use Rattle.pv_events.proofs.Answers.{outcome_due}
use Rattle.pv_events.proofs.Keeping.{took_core, recalled_core, became_core}
use Rattle.pv_events.proofs.Runs.{begun_core}
use Rattle.pv_events.proofs.Wholes.{running}

nat_equal : (m n : ℕ) → m ≡ n → nat_eq m n ≡ true
nat_equal m n e = elim (eqb_tells m n) [ inl h ↦ h.0 | inr h ↦ absurd (h.1 e) ]

-- no more children than units
few_free : (stopped : Bool) (n : ℕ) → free_units stopped n ≤ n
few_free true n = omega arith
few_free false n = omega arith

few_first : (n : ℕ) (ps : List (List Bool)) → length (map fresh (take n ps)) ≤ n
few_first zero ps = omega arith
few_first (suc n) [] = omega arith
few_first (suc n) (p ∷ ps) = let r = few_first n ps in omega (arith, r)

-- a board after a take, a settling and a recall
abbrev after_take : Core → Mark → ℕ → Core
after_take c t n = record c { marks = t ∷ c.marks; left = n }

abbrev children_of : Core → Mark → Tree → List Mark
children_of c t s = map fresh (take (free_units c.stopped (left_over c t s)) (leaves_at t.path s))

abbrev after_settling : Core → List Mark → Mark → Tree → Core
after_settling c ms t s = record c {
  tree = graft c.tree t.path s;
  marks = children_of c t s ++ ms;
  used = c.used + settled_in s;
  left = left_over c t s - length (children_of c t s);
  steps = next_step c.steps;
}

abbrev after_recall : Core → Core
after_recall c = record c { marks = []; left = c.left + issued c.marks + granted c.marks; steps = (c.steps + issued c.marks) % 2 ^ 64 }

take_is : (c : Core) (p : List Bool) (n : ℕ) → c.marks ≡ [] → c.stopped ≡ false → c.left ≡ suc n → subtree c.tree p ≡ Some leaf → IsTake c (after_take c (fresh p) n) (fresh p)
take_is c p n none goes some is_open = record {
  may = running c.stopped c.left goes (omega (arith, some));
  is_open = is_open;
  is_fresh = ap (λ (ms : List Mark). holds ms p) none;
  grant = refl;
  marks = λ f. omega arith;
  left = omega (arith, some);
  rest = refl;
}

recall_is : (c : Core) → IsRecall c (after_recall c)
recall_is c = record { none = refl; left = refl; steps = refl; rest = refl }

module _ (rule : Rule) (depth dims : ℕ) (root : List Bounds) (opening : Tree) (budget limit : ℕ) (o : IsOpening rule depth dims root opening) where
  abbrev Is : Core → Type 0
  Is c = IsCore rule depth root opening budget limit c

  abbrev due_at : List Bool → Tree
  due_at p = settled (rule (box_of root (full_of rule depth root opening 0) p) (depth - length p) (length p))

  settling_is : (c : Core) (p : List Bool) (ms : List Mark) → ms ≡ [] → c.marks ≡ fresh p ∷ ms
      → IsSettled rule depth root opening c (after_settling c ms (fresh p) (due_at p)) (fresh p) (due_at p) (children_of c (fresh p) (due_at p))
  settling_is c p ms none only =
      let one = settled_one (rule (box_of root (full_of rule depth root opening 0) p) (depth - length p) (length p)) in
      let few : length (children_of c (fresh p) (due_at p)) ≤ left_over c (fresh p) (due_at p) =
      let a = few_first (free_units c.stopped (left_over c (fresh p) (due_at p))) (leaves_at p (due_at p)) in
      let b = few_free c.stopped (left_over c (fresh p) (due_at p)) in omega (arith, a, b) in
      record {
        current = nat_equal (holds c.marks p) 1
            (let h : holds c.marks p ≡ holds (fresh p ∷ ms) p = ap (λ (xs : List Mark). holds xs p) only in
            let z : holds ms p ≡ 0 = ap (λ (xs : List Mark). holds xs p) none in
            let s = at_self p 1 in omega (arith, h, z, s));
        due = outcome_due rule depth dims root opening (box_of root (full_of rule depth root opening 0) p) (length p) (rule (box_of root (full_of rule depth root opening 0) p) (depth - length p) (length p)) o refl;
        some = omega (arith, one);
        enough = omega (arith, one);
        is = record {
          tree = refl;
          used = refl;
          first = refl;
          left = omega (arith, few);
          marks = λ f.
              let h : weigh f c.marks ≡ weigh f (fresh p ∷ ms) = ap (weigh f) only in
              let a = weigh-append f (children_of c (fresh p) (due_at p)) ms in omega (arith, h, a);
          steps = refl;
          root = refl;
          stopped = refl;
          spare = omega arith;
        };
      }

  abbrev End : Core → Type 0
  End c = CanEnd rule depth root opening limit c

  -- a leaf is taken and settled, and the rest given back
  one_more : (n : ℕ) → ((d : Core) → Is d → d.marks ≡ [] → d.stopped ≡ false → d.left ≡ n → End d)
      → (c : Core) (p : List Bool) → Is c → c.marks ≡ [] → c.stopped ≡ false → c.left ≡ suc n → subtree c.tree p ≡ Some leaf → End c
  one_more n ends c p h none goes some is_open =
      with_settling (settling_is (after_take c (fresh p) n) p c.marks none refl)
    where
      with_settling : IsSettled rule depth root opening (after_take c (fresh p) n) (after_settling (after_take c (fresh p) n) c.marks (fresh p) (due_at p)) (fresh p) (due_at p) (children_of (after_take c (fresh p) n) (fresh p) (due_at p)) → End c
      with_settling k =
          let t = take_is c p n none goes some is_open in
          let first = took_core rule depth root opening budget limit c (after_take c (fresh p) n) (fresh p) h t in
          let second = became_core rule depth root opening budget limit dims o (after_take c (fresh p) n) (after_settling (after_take c (fresh p) n) c.marks (fresh p) (due_at p)) (fresh p) (due_at p) (children_of (after_take c (fresh p) n) (fresh p) (due_at p)) first k in
          let third = recalled_core rule depth root opening budget limit (after_settling (after_take c (fresh p) n) c.marks (fresh p) (due_at p)) (after_recall (after_settling (after_take c (fresh p) n) c.marks (fresh p) (due_at p))) second (recall_is (after_settling (after_take c (fresh p) n) c.marks (fresh p) (due_at p))) in
          let one = settled_one (rule (box_of root (full_of rule depth root opening 0) p) (depth - length p) (length p)) in
          let i : issued c.marks ≡ 0 = ap issued none in let g : granted c.marks ≡ 0 = ap granted none in
          let a = h.conserved in let b = third.conserved in
          let r = ends (after_recall (after_settling (after_take c (fresh p) n) c.marks (fresh p) (due_at p))) third refl goes (omega (arith, one, i, g, a, b, some)) in
          record {
            events = took (fresh p) ∷ became (fresh p) (due_at p) (children_of (after_take c (fresh p) n) (fresh p) (due_at p)) ∷ recalled ∷ r.events;
            last = r.last;
            run = (after_take c (fresh p) n, t, (after_settling (after_take c (fresh p) n) c.marks (fresh p) (due_at p), k, (after_recall (after_settling (after_take c (fresh p) n) c.marks (fresh p) (due_at p)), recall_is (after_settling (after_take c (fresh p) n) c.marks (fresh p) (due_at p)), r.run)));
            goes = let z = r.goes in omega (arith, z);
            over = r.over;
          }

  no_units : (stopped : Bool) (left : ℕ) → left ≡ 0 → 0 < free_units stopped left → ⊥
  no_units true left e h = absurd (omega (arith, h))
  no_units false left e h = absurd (omega (arith, e, h))

  at_end : (c : Core) → IsOver c → End c
  at_end c over = record { events = []; last = c; run = refl; goes = refl; over = over }

  can_end : (n : ℕ) (c : Core) → Is c → c.marks ≡ [] → c.stopped ≡ false → c.left ≡ n → End c
  can_end zero c h none goes spent = at_end c (record { none = ap issued none; dry = λ may q e. absurd (no_units c.stopped c.left spent may) })
  can_end (suc n) c h none goes some = go (opens c.tree) refl (can_end n)
    where
      go : (ps : List (List Bool)) → opens c.tree ≡ ps → ((d : Core) → Is d → d.marks ≡ [] → d.stopped ≡ false → d.left ≡ n → End d) → End c
      go [] e ends = at_end c (record {
        none = ap issued none;
        dry = λ may q l. let w = open_once c.tree q l in let z : times q (opens c.tree) ≡ 0 = ap (times q) e in absurd (omega (arith, w, z));
      })
      go (p ∷ ps) e ends = one_more n ends c p h none goes some
          (once_open c.tree p (let w : times p (opens c.tree) ≡ times p (p ∷ ps) = ap (times p) e in let s = at_self p 1 in omega (arith, w, s)))

pub boards_can_end : BoardsCanEnd
boards_can_end rule depth dims root opening budget limit c o h =
    can_end rule depth dims root opening budget limit o c.left c (begun_core rule depth dims root opening budget limit o c h) h.is.marks h.is.stopped refl
