-- Leaves that are settled in an order, on and on.
use Rattle.std.proofs.Common.{◌≡◌, ◌⊎◌, inl, inr, ℕ, ◌+◌, ◌*◌, ◌-◌, ◌<◌, ◌≤◌, Bool, true, false, Option, Some, None, List, [], ◌∷◌, length, refl, sym, ◌∙◌, subst, arith}
use Rattle.std.proofs.lemmas.Bool.Decides.{leb_tells}
use Rattle.pv_num.specs.Extended.{Extended}
use Rattle.pv_interval.specs.Bounds.{Bounds}
use Rattle.pv_tree.specs.Trees.{Tree, leaf, removed, inner, small, cut, subtree, outcome_at}
use Rattle.pv_tree.specs.declared.outcome.Outcome.{Outcome}
use Rattle.pv_tree.specs.declared.outcome.Outcome.TheVariants.{Removed, Inner, Small, Cut}
use Rattle.pv_tree.specs.Stages.{Grows}
use Rattle.pv_tree.proofs.StageLaws.{IsCut, top_removed, top_inner, top_small, top_cut, grows_low, grows_high}
use Rattle.pv_join.proofs.JoinFacts.{same_tree}
use Rattle.pv_scope.specs.Settlings.{IsLevel}
use Rattle.pv_scope.specs.Orders.{IsByLevels, IsInOrder}
use Rattle.pv_scope.specs.declared.order.Order.{Order}
use Rattle.pv_scope.specs.declared.order.Order.TheVariants.{Depth, Level}

-- ---- What a tree that grew has settled

-- an open leaf at or above a path
record HasOpen (s : Tree) (q : List Bool) : Type 0 where
  pub path : List Bool
  pub is_open : subtree s path ≡ Some leaf
  pub few : length path ≤ length q

abbrev IsOldOrBelow : Tree → List Bool → Outcome → Type 0
IsOldOrBelow s q o = (outcome_at s q ≡ Some o) ⊎ HasOpen s q

in_low : (to : List Bounds) (v : ℕ) (a : Extended) (l r : Tree) (q : List Bool) (o : Outcome) → IsOldOrBelow l q o → IsOldOrBelow (cut to v a l r) (false ∷ q) o
in_low to v a l r q o (inl e) = inl e
in_low to v a l r q o (inr h) = let n = h.few in inr (record { path = false ∷ h.path; is_open = h.is_open; few = omega arith })

in_high : (to : List Bounds) (v : ℕ) (a : Extended) (l r : Tree) (q : List Bool) (o : Outcome) → IsOldOrBelow r q o → IsOldOrBelow (cut to v a l r) (true ∷ q) o
in_high to v a l r q o (inl e) = inl e
in_high to v a l r q o (inr h) = let n = h.few in inr (record { path = true ∷ h.path; is_open = h.is_open; few = omega arith })

-- what is settled in it was settled before, or stands at or below a leaf that was open
old_or_below : (s t : Tree) → Grows s t → (q : List Bool) (o : Outcome) → outcome_at t q ≡ Some o → IsOldOrBelow s q o
old_or_below leaf t h q o e = inr (record { path = []; is_open = refl; few = omega arith })
old_or_below removed t h q o e = inl (subst (λ (u : Tree). outcome_at u q ≡ Some o) (top_removed t (h [] Removed refl)) e)
old_or_below (inner to) t h q o e = inl (subst (λ (u : Tree). outcome_at u q ≡ Some o) (top_inner t to (h [] (Inner to) refl)) e)
old_or_below (small to) t h q o e = inl (subst (λ (u : Tree). outcome_at u q ≡ Some o) (top_small t to (h [] (Small to) refl)) e)
old_or_below (cut to v a l r) t h [] o e = inl (sym (h [] (Cut to v a) refl) ∙ e)
old_or_below (cut to v a l r) t h (false ∷ q) o e =
    let c : IsCut t to v a = top_cut t to v a (h [] (Cut to v a) refl) in
    let g : Grows (cut to v a l r) (cut to v a c.low c.high) = subst (Grows (cut to v a l r)) c.is h in
    in_low to v a l r q o (old_or_below l c.low (grows_low to to v v a a l r c.low c.high g) q o (subst (λ (u : Tree). outcome_at u (false ∷ q) ≡ Some o) c.is e))
old_or_below (cut to v a l r) t h (true ∷ q) o e =
    let c : IsCut t to v a = top_cut t to v a (h [] (Cut to v a) refl) in
    let g : Grows (cut to v a l r) (cut to v a c.low c.high) = subst (Grows (cut to v a l r)) c.is h in
    in_high to v a l r q o (old_or_below r c.high (grows_high to to v v a a l r c.low c.high g) q o (subst (λ (u : Tree). outcome_at u (true ∷ q) ≡ Some o) c.is e))

-- ---- A tree whose open leaves have long paths, grown by nodes with short ones

module _ (s t : Tree) (n : ℕ) (grown : Grows s t) (long : (q : List Bool) → subtree s q ≡ Some leaf → n ≤ length q)
    (short : (q : List Bool) (o : Outcome) → outcome_at t q ≡ Some o → (outcome_at s q ≡ Some o) ⊎ (length q < n)) where
  was_settled : (q : List Bool) (o : Outcome) → IsOldOrBelow s q o → (outcome_at s q ≡ Some o) ⊎ (length q < n) → outcome_at s q ≡ Some o
  was_settled q o (inl e) k = e
  was_settled q o (inr h) (inl e) = e
  was_settled q o (inr h) (inr less) = let far : n ≤ length h.path = long h.path h.is_open in let few = h.few in absurd (omega arith)

  no_less : (q : List Bool) (x y : Option Outcome) → outcome_at s q ≡ x → outcome_at t q ≡ y → x ≡ y
  no_less q None None e f = refl
  no_less q None (Some o) e f = sym e ∙ was_settled q o (old_or_below s t grown q o f) (short q o f)
  no_less q (Some o) y e f = sym (grown q o e) ∙ f

  -- did not grow
  pub nothing_new : s ≡ t
  nothing_new = same_tree s t (λ q. no_less q (outcome_at s q) (outcome_at t q) refl refl)

-- ---- One order after another

module _ (opening middle t : Tree) (grown : Grows middle t) where
  above : (j k : ℕ) → j ≤ k → IsLevel opening middle j → IsLevel middle t k → (q : List Bool) (o : Outcome) → (outcome_at middle q ≡ Some o) ⊎ (length q < 4 * k)
      → (outcome_at opening q ≡ Some o) ⊎ (length q < 4 * k)
  above j k less first second q o (inr few) = inr few
  above j k less first second q o (inl e) = wider (first.settled_above q o e)
    where
      wider : (outcome_at opening q ≡ Some o) ⊎ (length q < 4 * j) → (outcome_at opening q ≡ Some o) ⊎ (length q < 4 * k)
      wider (inl old) = inl old
      wider (inr few) = inr (omega arith)

  further : (j k : ℕ) → j ≤ k → IsLevel opening middle j → IsLevel middle t k → IsByLevels opening t
  further j k less first second = record {
    pass = k;
    level = record {
      open_below = second.open_below;
      settled_above = λ q o e. above j k less first second q o (second.settled_above q o e);
    };
  }

  by_passes : (j k : ℕ) → (j ≤ k) ⊎ (k < j) → IsLevel opening middle j → IsLevel middle t k → IsByLevels opening t
  by_passes j k (inl less) first second = further j k less first second
  by_passes j k (inr less) first second =
      let same : middle ≡ t = nothing_new middle t (4 * (j - 1)) grown first.open_below (λ q o e. sooner q o (second.settled_above q o e)) in
      record { pass = j; level = subst (λ (u : Tree). IsLevel opening u j) same first }
    where
      sooner : (q : List Bool) (o : Outcome) → (outcome_at middle q ≡ Some o) ⊎ (length q < 4 * k) → (outcome_at middle q ≡ Some o) ⊎ (length q < 4 * (j - 1))
      sooner q o (inl e) = inl e
      sooner q o (inr few) = inr (omega arith)

compared : (j k : ℕ) → (j ≤ k) ⊎ (k < j)
compared j k = elim (leb_tells j k) [ inl less ↦ inl less.1 | inr more ↦ inr more.1 ]

-- what was settled in an order, and then on in that order, was settled in that order
pub ordered_on : (order : Order) (opening middle t : Tree) → Grows middle t → IsInOrder order opening middle → IsInOrder order middle t → IsInOrder order opening t
ordered_on Depth opening middle t grown first second = tt
ordered_on Level opening middle t grown first second =
    by_passes opening middle t grown first.pass second.pass (compared first.pass second.pass) first.level second.level

-- nothing was settled
pub in_order : (order : Order) (t : Tree) → IsInOrder order t t
in_order Depth t = tt
in_order Level t = record { pass = 0; level = record { open_below = λ q e. omega arith; settled_above = λ q o e. inl e } }
