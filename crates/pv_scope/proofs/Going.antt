-- A growth whose next leaf is settled or passed: what is still to come, and what is known of it.
use Rattle.std.proofs.Common.{◌≡◌, inl, inr, ℕ, ◌+◌, ◌<◌, ◌≤◌, Bool, true, false, Option, Some, None, List, [], ◌∷◌, ◌++◌, length, append-nil, refl, sym, ◌∙◌, ap, arith, subst}
use Rattle.std.specs.Prelude.{◌⊎◌, reverse, is_some, not, IfSome}
use Rattle.std.proofs.lemmas.List.{reverse-append}
use Rattle.pv_interval.specs.Bounds.{Bounds}
use Rattle.pv_tree.specs.Trees.{Tree, leaf, removed, inner, small, cut, subtree, outcome_at, graft, settled}
use Rattle.pv_tree.specs.Holes.{Growing, Hole, IsNext, growth_over, holes_below, settle_first, settle_next, pass_next, rest_of}
use Rattle.pv_tree.specs.KnownLeaves.{AreKnown}
use Rattle.pv_tree.specs.declared.outcome.Outcome.{Outcome}
use Rattle.pv_tree.specs.declared.outcome.Outcome.TheVariants.{Removed, Inner, Small, Cut}
use Rattle.pv_tree.proofs.KnownLeaves.{next_tree, next_is_leaf}
use Rattle.pv_tree.proofs.Cells.{lt_or}
use Rattle.pv_tree.proofs.TreeFacts.{settled_more}
use Rattle.pv_board.specs.Rules.{settled_in}
use Rattle.pv_scope.specs.Scopes.{IsIn}
use Rattle.pv_scope.specs.Parts.{paths_of, AreToCome, AreShort, AreLong, IsGrown}
use Rattle.pv_scope.proofs.Replaced.{IsFrom, IsMadeBy, leaf_after, made_after}

-- ---- A leaf is settled

holes_right : (hole : Hole) (o : Outcome) (rest : List Hole) (q : List Bool) → IsIn q (paths_of rest) → IsIn q (paths_of (holes_below hole o ++ rest))
holes_right hole Removed rest q h = h
holes_right hole (Inner to) rest q h = h
holes_right hole (Small to) rest q h = h
holes_right hole (Cut to v a) rest q h = inr (inr h)

kids_to_come : (s : List Bool) (to : List Bounds) (v : ℕ) (a : _) (hole : Hole) (rest : List Hole) (q : List Bool) → q ≡ hole.path ++ s → subtree (cut to v a leaf leaf) s ≡ Some leaf → IsIn q (paths_of (holes_below hole (Cut to v a) ++ rest))
kids_to_come [] to v a hole rest q e f = cc
kids_to_come (false ∷ []) to v a hole rest q e f = inl e
kids_to_come (true ∷ []) to v a hole rest q e f = inr (inl e)
kids_to_come (false ∷ c ∷ s) to v a hole rest q e f = cc
kids_to_come (true ∷ c ∷ s) to v a hole rest q e f = cc

none_removed : (s : List Bool) → subtree removed s ≡ Some leaf → ⊥
none_removed [] e = cc
none_removed (c ∷ s) e = cc

none_inner : (to : List Bounds) (s : List Bool) → subtree (inner to) s ≡ Some leaf → ⊥
none_inner to [] e = cc
none_inner to (c ∷ s) e = cc

none_small : (to : List Bounds) (s : List Bool) → subtree (small to) s ≡ Some leaf → ⊥
none_small to [] e = cc
none_small to (c ∷ s) e = cc

made_to_come : (hole : Hole) (o : Outcome) (rest : List Hole) (q : List Bool) → IsFrom (settled o) hole.path q → IsIn q (paths_of (holes_below hole o ++ rest))
made_to_come hole Removed rest q h = absurd (none_removed h.steps h.is_open)
made_to_come hole (Inner to) rest q h = absurd (none_inner to h.steps h.is_open)
made_to_come hole (Small to) rest q h = absurd (none_small to h.steps h.is_open)
made_to_come hole (Cut to v a) rest q h = kids_to_come h.steps to v a hole rest q h.is h.is_open

not_head : (q p : List Bool) (ps : List (List Bool)) → (q ≡ p → ⊥) → IsIn q (p ∷ ps) → IsIn q ps
not_head q p ps ne (inl e) = absurd (ne e)
not_head q p ps ne (inr h) = h

module _ (cap k : ℕ) where
  after_settling : (b : List Bounds) (t : Tree) (hole : Hole) (rest : List Hole) (o : Outcome) → subtree t hole.path ≡ Some leaf
      → AreToCome cap k (record { root = b; tree = t; holes = hole ∷ rest })
      → AreToCome cap k (record { root = b; tree = graft t hole.path (settled o); holes = holes_below hole o ++ rest })
  after_settling b t hole rest o l h q e few = by_case (leaf_after t hole.path (settled o) q l e)
    where
      by_case : ((subtree t q ≡ Some leaf) × (q ≡ hole.path → ⊥)) ⊎ IsFrom (settled o) hole.path q → IsIn q (paths_of (holes_below hole o ++ rest))
      by_case (inl w) = holes_right hole o rest q (not_head q hole.path (paths_of rest) w.1 (h q w.0 few))
      by_case (inr w) = made_to_come hole o rest q w

  -- the leaves that are to come once the next one was settled
  pub still_to_come : (g : Growing) (p : List Bool) (o : Outcome) → IsNext g p → AreToCome cap k g → AreToCome cap k (settle_next g o)
  still_to_come g p o n h =
      subst (λ (hs : List Hole). AreToCome cap k (settle_first g.root g.tree hs o)) (sym n.is)
      (after_settling g.root g.tree n.hole n.rest o n.is_leaf (subst (λ (hs : List Hole). AreToCome cap k (record { root = g.root; tree = g.tree; holes = hs })) n.is h))

  after_passing : (b : List Bounds) (t : Tree) (hole : Hole) (rest : List Hole) → cap ≤ k + length hole.path
      → AreToCome cap k (record { root = b; tree = t; holes = hole ∷ rest }) → AreToCome cap k (record { root = b; tree = t; holes = rest })
  after_passing b t hole rest many h q e few =
      not_head q hole.path (paths_of rest) (λ w. let z : length q ≡ length hole.path = ap length w in omega (arith, z, few, many)) (h q e few)

  -- and once it was passed
  pub passed_to_come : (g : Growing) (p : List Bool) → IsNext g p → cap ≤ k + length p → AreToCome cap k g → AreToCome cap k (pass_next g)
  passed_to_come g p n many h =
      let z : length p ≡ length n.hole.path = ap length n.path in
      subst (λ (hs : List Hole). AreToCome cap k (record { root = g.root; tree = g.tree; holes = rest_of hs })) (sym n.is)
      (after_passing g.root g.tree n.hole n.rest (omega (arith, z, many)) (subst (λ (hs : List Hole). AreToCome cap k (record { root = g.root; tree = g.tree; holes = hs })) n.is h))

  pub first_to_come : (b : List Bounds) (g : Growing) → g ≡ growth_over b → AreToCome cap k g
  first_to_come b g e = subst (AreToCome cap k) (sym e) at_leaf
    where
      at_leaf : AreToCome cap k (growth_over b)
      at_leaf [] e few = inl refl
      at_leaf (c ∷ q) e few = cc

  -- where none is to come, no open leaf has a short path
  pub none_to_come : (g : Growing) → g.holes ≡ [] → AreToCome cap k g → AreLong cap k g.tree
  none_to_come g e h q f = elim (lt_or (k + length q) cap) [
    | inl w ↦ absurd (subst (λ (hs : List Hole). IsIn q (paths_of hs)) e (h q f w))
    | inr w ↦ w
  ]

  pub first_short : (b : List Bounds) (g : Growing) → g ≡ growth_over b → AreShort cap k g.tree
  first_short b g e = subst (λ (g : Growing). AreShort cap k g.tree) (sym e) at_leaf
    where
      at_leaf : AreShort cap k leaf
      at_leaf [] o e = cc
      at_leaf (c ∷ q) o e = cc

  made_here : (o u : Outcome) (s : List Bool) → outcome_at (settled o) s ≡ Some u → s ≡ []
  made_here o u [] e = refl
  made_here Removed u (c ∷ s) e = cc
  made_here (Inner to) u (c ∷ s) e = cc
  made_here (Small to) u (c ∷ s) e = cc
  made_here (Cut to v a) u (false ∷ []) e = cc
  made_here (Cut to v a) u (true ∷ []) e = cc
  made_here (Cut to v a) u (false ∷ c ∷ s) e = cc
  made_here (Cut to v a) u (true ∷ c ∷ s) e = cc

  short_graft : (t : Tree) (p : List Bool) (o : Outcome) → subtree t p ≡ Some leaf → k + length p < cap → AreShort cap k t → AreShort cap k (graft t p (settled o))
  short_graft t p o l few h q u e = by_case (made_after t p (settled o) q u l e)
    where
      by_case : (outcome_at t q ≡ Some u) ⊎ IsMadeBy (settled o) p q u → k + length q < cap
      by_case (inl w) = h q u w
      by_case (inr w) = let z : length q ≡ length p = ap length (w.is ∙ ap (λ (s : List Bool). p ++ s) (made_here o u w.steps w.is_made) ∙ append-nil p) in omega (arith, z, few)

  -- the settled nodes still have short paths
  pub still_short : (g : Growing) (p : List Bool) (o : Outcome) → IsNext g p → k + length p < cap → AreShort cap k g.tree → AreShort cap k (settle_next g o).tree
  still_short g p o n few h = subst (AreShort cap k) (sym (next_tree g p o n)) (short_graft g.tree p o (next_is_leaf g p n) few h)

  -- how far a stage has come once all that was allowed was settled
  pub ended : (most : ℕ) (g : Growing) (t : Tree) (o : Option (List Bool)) (done : Bool) → t ≡ g.tree → is_some o ≡ not done → IfSome o (λ p. IsNext g p) → IfSome o (λ p. k + length p < cap)
      → (o ≡ None → AreLong cap k g.tree) → IsGrown cap k most most done t
  ended most g t None true e s n l h = (omega arith, subst (AreLong cap k) (sym e) (h refl))
  ended most g t None false e s n l h = cc
  ended most g t (Some p) true e s n l h = cc
  ended most g t (Some p) false e s n l h = (refl, record { steps = p; is_open = ap (λ (x : Tree). subtree x p) e ∙ next_is_leaf g p n; few = l })

-- one more node is settled
pub one_more : (g : Growing) (p : List Bool) (o : Outcome) → IsNext g p → settled_in (settle_next g o).tree ≡ settled_in g.tree + 1
one_more g p o n = ap settled_in (next_tree g p o n) ∙ settled_more g.tree p o (next_is_leaf g p n)

-- ---- What is known of the leaves to come

module _ {K : Type 0} (knows : K → List Bounds → Type 0) where
  last_first : (front : List K) (k : K) → reverse (front ++ k ∷ []) ≡ k ∷ reverse front
  last_first front k = reverse-append front (k ∷ [])

  pub passed_known : (items front : List K) (k : K) (g : Growing) (p : List Bool) → IsNext g p → items ≡ front ++ k ∷ [] → AreKnown knows (reverse items) g.holes → AreKnown knows (reverse front) (pass_next g).holes
  passed_known items front k g p n e h =
      subst (λ (hs : List Hole). AreKnown knows (reverse front) (rest_of hs)) (sym n.is)
      (subst (λ (ks : List K). AreKnown knows ks (n.hole ∷ n.rest)) (ap reverse e ∙ last_first front k) (subst (AreKnown knows (reverse items)) n.is h)).1
