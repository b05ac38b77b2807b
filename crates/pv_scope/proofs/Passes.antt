-- Passes over an opening, each some levels further down than the one before it.
use Rattle.std.proofs.Common.{◌≡◌, inl, inr, ℕ, ◌+◌, ◌-◌, ◌*◌, ◌<◌, ◌≤◌, Bool, true, false, Option, Some, None, List, [], ◌∷◌, length, append-nil, length-append, refl, sym, ◌∙◌, ap, arith, subst}
use Rattle.std.specs.Prelude.{◌⊎◌, nat_lt}
use Rattle.std.proofs.lemmas.Bool.{lt-ltb}
use Rattle.pv_tree.specs.Trees.{Tree, leaf, subtree, outcome_at, opens, first, height}
use Rattle.pv_tree.specs.declared.outcome.Outcome.{Outcome}
use Rattle.pv_tree.proofs.Cells.{lt_or}
use Rattle.pv_tree.proofs.Stacks.{height_below}
use Rattle.pv_board.specs.Rules.{settled_in}
use Rattle.pv_scope.specs.Scopes.{IsIn, IsBelow, picked, is_in_scope}
use Rattle.pv_scope.specs.declared.scope.Scope.TheVariants.{Above}
use Rattle.pv_scope.specs.Settlings.{IsOver, IsEnded, IsSettled, IsPass, IsLevel}
use Rattle.pv_workers.specs.Pavings.{IsSpent}
use Rattle.pv_scope.proofs.Lists.{open_in, in_open, picked_in, picked_all, none_open}
use Rattle.pv_scope.proofs.Settled.{ended_few, ended_spent}

less_is : (m n : ℕ) → m < n → nat_lt m n ≡ true
less_is m n h = lt-ltb m n h

module _ (old new : Tree) (cap left own : ℕ) (done : Bool) (s : IsSettled old new (picked (is_in_scope (Above cap)) 0 (opens old)) cap own) (e : IsEnded cap (picked (is_in_scope (Above cap)) 0 (opens old)) left own done new) where
  abbrev ps : List (List Bool)
  ps = picked (is_in_scope (Above cap)) 0 (opens old)

  shallow : (q : List Bool) → subtree old q ≡ Some leaf → length q < cap → IsIn q ps
  shallow q f few = picked_all (is_in_scope (Above cap)) 0 (opens old) q (λ i. less_is (length q) cap few) (open_in old q f)

  over_itself : (q : List Bool) → IsOver cap new q → subtree new q ≡ Some leaf → cap ≤ length q
  over_itself q o f = let many = o [] (ap (subtree new) (append-nil q) ∙ f) in omega (arith, many)

  keeps_by : (n : ℕ) → ((q : List Bool) → subtree old q ≡ Some leaf → n ≤ length q) → (q : List Bool) → (subtree old q ≡ Some leaf) ⊎ IsBelow ps q → n ≤ length q
  keeps_by n h q (inl f) = h q f
  keeps_by n h q (inr w) =
      let low = h w.head (in_open old w.head (picked_in (is_in_scope (Above cap)) 0 (opens old) w.head w.is_in)) in
      let sum : length q ≡ length w.head + length w.steps = ap length w.is ∙ length-append w.head w.steps in omega (arith, low, sum)

  ends_by : ((p : List Bool) → IsIn p ps → IsOver cap new p) → (q : List Bool) → subtree new q ≡ Some leaf → (subtree old q ≡ Some leaf) ⊎ IsBelow ps q → cap ≤ length q
  ends_by over q f (inl g) = elim (lt_or (length q) cap) [ inl few ↦ over_itself q (over q (shallow q g few)) f | inr many ↦ many ]
  ends_by over q f (inr w) =
      let many = over w.head w.is_in w.steps (ap (subtree new) (sym w.is) ∙ f) in
      let sum : length q ≡ length w.head + length w.steps = ap length w.is ∙ length-append w.head w.steps in omega (arith, many, sum)

  all_over : (b : Bool) → b ≡ true → IsEnded cap ps left own b new → (p : List Bool) → IsIn p ps → IsOver cap new p
  all_over true h w = w.1
  all_over false h w = cc

  pub a_pass : IsPass old new cap left own done
  a_pass = record {
    keeps = λ n h q f. keeps_by n h q (s.comes q f);
    ends = λ d q f. ends_by (all_over done d e) q f (s.comes q f);
    short = s.short;
    count = s.count;
    few = ended_few cap ps left own done new e;
    spent = ended_spent cap ps left own done new e;
  }

-- where a pass begins
pub record IsBegun (opening t : Tree) (pass : ℕ) : Type 0 where
  pub open_below : (q : List Bool) → subtree t q ≡ Some leaf → 4 * (pass - 1) ≤ length q
  pub settled_above : (q : List Bool) (o : Outcome) → outcome_at t q ≡ Some o → (outcome_at opening q ≡ Some o) ⊎ (length q < 4 * (pass - 1))

pub begun_first : (opening : Tree) → IsBegun opening opening 1
begun_first opening = record { open_below = λ q e. omega arith; settled_above = λ q o e. inl e }

module _ (opening t u : Tree) (pass cap left own : ℕ) (done : Bool) (size : cap ≡ 4 * pass) (some : 1 ≤ pass) (b : IsBegun opening t pass) (p : IsPass t u cap left own done) where
  above_then : (q : List Bool) (o : Outcome) → (outcome_at opening q ≡ Some o) ⊎ (length q < 4 * (pass - 1)) → (outcome_at opening q ≡ Some o) ⊎ (length q < 4 * pass)
  above_then q o (inl e) = inl e
  above_then q o (inr h) = inr (omega (arith, h, some))

  above_by : (q : List Bool) (o : Outcome) → (outcome_at t q ≡ Some o) ⊎ (length q < cap) → (outcome_at opening q ≡ Some o) ⊎ (length q < 4 * pass)
  above_by q o (inl e) = above_then q o (b.settled_above q o e)
  above_by q o (inr h) = inr (omega (arith, h, size))

  pub level_here : IsLevel opening u pass
  level_here = record { open_below = p.keeps (4 * (pass - 1)) b.open_below; settled_above = λ q o e. above_by q o (p.short q o e) }

  pub begun_next : (next : ℕ) → next ≡ pass + 1 → done ≡ true → IsBegun opening u next
  begun_next next n d =
      let same : 4 * (next - 1) ≡ 4 * pass = omega (arith, n) in
      record {
        open_below = λ q e. let many = p.ends d q e in omega (arith, many, size, n);
        settled_above = λ q o e. subst (λ (m : ℕ). (outcome_at opening q ≡ Some o) ⊎ (length q < m)) (sym same) (above_by q o (p.short q o e));
      }

-- how a run ends
pub spent_here : (opening t u : Tree) (cap budget before own : ℕ) (done : Bool) → IsPass t u cap (budget - before) own done → before ≤ budget → settled_in t ≡ settled_in opening + before → done ≡ false → IsSpent budget opening u
spent_here opening t u cap budget before own done p few count d = let more = p.count in let same = p.spent d in inl (omega (arith, few, count, more, same))

pub no_first : (ps : List (List Bool)) (o : Option (List Bool)) → o ≡ None → o ≡ first ps → ps ≡ []
no_first [] o e f = refl
no_first (p ∷ ps) o e f = let w : None ≡ Some p = sym e ∙ f in cc

pub over_spent : (opening t u : Tree) (cap budget before own : ℕ) (done : Bool) → IsPass t u cap (budget - before) own done → before ≤ budget → settled_in t ≡ settled_in opening + before
    → (done ≡ false) ⊎ (opens u ≡ []) → IsSpent budget opening u
over_spent opening t u cap budget before own done p few count (inl d) = spent_here opening t u cap budget before own done p few count d
over_spent opening t u cap budget before own done p few count (inr e) = let more = p.count in let less = p.few in inr (e, omega (arith, few, count, more, less))

pub last_spent : (opening t u : Tree) (cap budget before own : ℕ) (done : Bool) → IsPass t u cap (budget - before) own done → before ≤ budget → settled_in t ≡ settled_in opening + before → 201 ≤ cap → height u ≤ 200 → IsSpent budget opening u
last_spent opening t u cap budget before own false p few count deep high = spent_here opening t u cap budget before own false p few count refl
last_spent opening t u cap budget before own true p few count deep high =
    let more = p.count in let less = p.few in
    inr (none_open u (λ q e. let many = p.ends refl q e in let low = height_below u q leaf e in omega (arith, many, low, deep, high)), omega (arith, few, count, more, less))
