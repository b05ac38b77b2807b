-- Trees that grew from stages in which shares are done.
use Rattle.std.proofs.Common.{◌≡◌, ◌⊎◌, inl, inr, ℕ, suc, ◌<◌, ◌≤◌, Bool, true, false, Option, Some, None, List, [], ◌∷◌, ◌++◌, length, refl, sym, ◌∙◌, ap, subst, arith}
use Rattle.std.specs.Prelude.{IsSome, nat_eq, ◌%◌}
use Rattle.std.proofs.lemmas.Nat.{mod_below}
use Rattle.std.proofs.lemmas.Cmp.{nat_eq_equiv}
use Rattle.pv_num.specs.Extended.{Extended}
use Rattle.pv_interval.specs.Bounds.{Bounds}
use Rattle.pv_tree.specs.Trees.{Tree, leaf, removed, inner, small, cut, top, subtree, opens}
use Rattle.pv_tree.specs.Stages.{Grows}
use Rattle.pv_tree.specs.declared.outcome.Outcome.{Outcome}
use Rattle.pv_tree.specs.declared.outcome.Outcome.TheVariants.{Removed, Inner, Small, Cut}
use Rattle.pv_tree.proofs.StageLaws.{IsCut, top_removed, top_inner, top_small, top_cut, grows_low, grows_high}
use Rattle.pv_board.proofs.Fulls.{grows_there}
use Rattle.pv_scope.specs.Scopes.{IsIn, IsBelow, picked, share_of}
use Rattle.pv_scope.specs.Settlings.{IsClosed}
use Rattle.pv_scope.proofs.Replaced.{subtree_below}
use Rattle.pv_scope.proofs.Lists.{in_open, open_in, picked_in, none_open, keep_head, keep_tail}
use Rattle.pv_scope.proofs.Whole.{there_whole, none_some}

-- ---- A share that is done stays done

module _ (opening s t : Tree) (k n : ℕ) (first : Grows opening s) (second : Grows s t) (closed : IsClosed k n opening s) where
  at_leaf : (p r : List Bool) (o : Option Tree) → IsIn p (share_of k n (opens opening)) → subtree s p ≡ o → IsSome (subtree s p) → subtree t (p ++ r) ≡ Some leaf → ⊥
  at_leaf p r None i e some is = none_some (subtree s p) e some
  at_leaf p r (Some u) i e some is =
      let none : opens u ≡ [] = none_open u (λ q f. closed p q i (subtree_below s p q u e ∙ f)) in
      let same : subtree t p ≡ Some u = there_whole s t p u second e none in
      closed p r i (subtree_below s p r u e ∙ (sym (subtree_below t p r u same) ∙ is))

  pub closed_on : IsClosed k n opening t
  closed_on p r i is =
      let here : subtree opening p ≡ Some leaf = in_open opening p (picked_in (λ j q. nat_eq (j % n) k) 0 (opens opening) p i) in
      at_leaf p r (subtree s p) i refl (grows_there opening s p first (subst IsSome (sym here) refl)) is

-- ---- Each open leaf is in some share

record IsInSome (n i : ℕ) (ps : List (List Bool)) (p : List Bool) : Type 0 where
  pub number : ℕ
  pub less : number < n
  pub is_in : IsIn p (picked (λ j q. nat_eq (j % n) number) i ps)

same_number : (m : ℕ) → nat_eq m m ≡ true
same_number m = nat_eq_equiv.refl m

in_some : (n i : ℕ) (ps : List (List Bool)) (p : List Bool) → 0 < n → IsIn p ps → IsInSome n i ps p
in_some n i [] p few h = absurd h
in_some n i (q ∷ ps) p few (inl e) =
    let test : ℕ → List Bool → Bool = λ j r. nat_eq (j % n) (i % n) in
    record {
      number = i % n;
      less = mod_below i n few;
      is_in = subst (λ (r : List Bool). IsIn r (picked test i (q ∷ ps))) (sym e) (keep_head (test i q) q (picked test (suc i) ps) (same_number (i % n)));
    }
in_some n i (q ∷ ps) p few (inr h) =
    let later : IsInSome n (suc i) ps p = in_some n (suc i) ps p few h in
    let test : ℕ → List Bool → Bool = λ j r. nat_eq (j % n) later.number in
    record { number = later.number; less = later.less; is_in = keep_tail (test i q) q p (picked test (suc i) ps) later.is_in }

-- ---- An open leaf of a tree that grew stands at or below one that was open

leaf_node : (o : Outcome) → top leaf ≡ Some o → ⊥
leaf_node o e = cc

further : (to : List Bounds) (v : ℕ) (a : Extended) (l r : Tree) (q : List Bool) → IsBelow (opens l) q → IsBelow (opens (cut to v a l r)) (false ∷ q)
further to v a l r q h = record {
  head = false ∷ h.head;
  is_in = open_in (cut to v a l r) (false ∷ h.head) (in_open l h.head h.is_in);
  steps = h.steps;
  is = ap (λ (p : List Bool). false ∷ p) h.is;
}

further_high : (to : List Bounds) (v : ℕ) (a : Extended) (l r : Tree) (q : List Bool) → IsBelow (opens r) q → IsBelow (opens (cut to v a l r)) (true ∷ q)
further_high to v a l r q h = record {
  head = true ∷ h.head;
  is_in = open_in (cut to v a l r) (true ∷ h.head) (in_open r h.head h.is_in);
  steps = h.steps;
  is = ap (λ (p : List Bool). true ∷ p) h.is;
}

no_leaf_in : (s : Tree) (o : Outcome) (q : List Bool) → top s ≡ Some o → ((b : Bool) (r : List Bool) → subtree s (b ∷ r) ≡ None) → subtree s q ≡ Some leaf → ⊥
no_leaf_in s o [] e none is = let w : s ≡ leaf = cc in leaf_node o (subst (λ (x : Tree). top x ≡ Some o) w e)
no_leaf_in s o (b ∷ r) e none is = let w : None ≡ Some leaf = sym (none b r) ∙ is in absurd (cc)

below_open : (s t : Tree) → Grows s t → (q : List Bool) → subtree t q ≡ Some leaf → IsBelow (opens s) q
below_open leaf t h q is = record { head = []; is_in = inl refl; steps = q; is = refl }
below_open removed t h q is =
    absurd (no_leaf_in removed Removed q refl (λ b r. refl) (subst (λ (u : Tree). subtree u q ≡ Some leaf) (top_removed t (h [] Removed refl)) is))
below_open (inner to) t h q is =
    absurd (no_leaf_in (inner to) (Inner to) q refl (λ b r. refl) (subst (λ (u : Tree). subtree u q ≡ Some leaf) (top_inner t to (h [] (Inner to) refl)) is))
below_open (small to) t h q is =
    absurd (no_leaf_in (small to) (Small to) q refl (λ b r. refl) (subst (λ (u : Tree). subtree u q ≡ Some leaf) (top_small t to (h [] (Small to) refl)) is))
below_open (cut to v a l r) t h [] is =
    let c : IsCut t to v a = top_cut t to v a (h [] (Cut to v a) refl) in
    let w : t ≡ leaf = cc in
    absurd (leaf_node (Cut to v a) (subst (λ (x : Tree). top x ≡ Some (Cut to v a)) w (h [] (Cut to v a) refl)))
below_open (cut to v a l r) t h (false ∷ q) is =
    let c : IsCut t to v a = top_cut t to v a (h [] (Cut to v a) refl) in
    let g : Grows (cut to v a l r) (cut to v a c.low c.high) = subst (Grows (cut to v a l r)) c.is h in
    further to v a l r q (below_open l c.low (grows_low to to v v a a l r c.low c.high g) q (subst (λ (u : Tree). subtree u (false ∷ q) ≡ Some leaf) c.is is))
below_open (cut to v a l r) t h (true ∷ q) is =
    let c : IsCut t to v a = top_cut t to v a (h [] (Cut to v a) refl) in
    let g : Grows (cut to v a l r) (cut to v a c.low c.high) = subst (Grows (cut to v a l r)) c.is h in
    further_high to v a l r q (below_open r c.high (grows_high to to v v a a l r c.low c.high g) q (subst (λ (u : Tree). subtree u (true ∷ q) ≡ Some leaf) c.is is))

-- where each share is done no leaf is open
pub all_closed : (opening t : Tree) (n : ℕ) → 0 < n → Grows opening t → ((k : ℕ) → k < n → IsClosed k n opening t) → opens t ≡ []
all_closed opening t n few grown closed = none_open t (λ q is. by q is (below_open opening t grown q is))
  where
    by : (q : List Bool) → subtree t q ≡ Some leaf → IsBelow (opens opening) q → ⊥
    by q is h =
        let share : IsInSome n 0 (opens opening) h.head = in_some n 0 (opens opening) h.head few h.is_in in
        closed share.number share.less h.head h.steps share.is_in (subst (λ (r : List Bool). subtree t r ≡ Some leaf) h.is is)
