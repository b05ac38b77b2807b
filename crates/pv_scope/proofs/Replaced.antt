-- Open leaves and settled nodes of a tree in which an open leaf was replaced.
use Rattle.std.proofs.Common.{◌≡◌, inl, inr, Bool, true, false, Some, List, [], ◌∷◌, ◌++◌, refl, ap}
use Rattle.std.specs.Prelude.{◌⊎◌}
use Rattle.pv_tree.specs.Trees.{Tree, leaf, removed, inner, small, cut, subtree, outcome_at, graft}
use Rattle.pv_tree.specs.declared.outcome.Outcome.{Outcome}

-- A path leads to an open leaf of what was put at another path.
pub record IsFrom (s : Tree) (p q : List Bool) : Type 0 where
  pub steps : List Bool
  pub is : q ≡ p ++ steps
  pub is_open : subtree s steps ≡ Some leaf

-- A path leads to a settled node of what was put at another path.
pub record IsMadeBy (s : Tree) (p q : List Bool) (o : Outcome) : Type 0 where
  pub steps : List Bool
  pub is : q ≡ p ++ steps
  pub is_made : outcome_at s steps ≡ Some o

abbrev Left : Tree → List Bool → List Bool → Type 0
Left t p q = (subtree t q ≡ Some leaf) × (q ≡ p → ⊥)

abbrev Comes : Tree → List Bool → Tree → List Bool → Type 0
Comes t p s q = Left t p q ⊎ IsFrom s p q

comes_under : (b : Bool) (t u : Tree) (p : List Bool) (s : Tree) (q : List Bool) → (subtree t q ≡ Some leaf → subtree u (b ∷ q) ≡ Some leaf) → Comes t p s q → Comes u (b ∷ p) s (b ∷ q)
comes_under b t u p s q f (inl h) = inl (f h.0, λ (e : b ∷ q ≡ b ∷ p). h.1 (cc))
comes_under b t u p s q f (inr h) = inr (record { steps = h.steps; is = ap (λ (x : List Bool). b ∷ x) h.is; is_open = h.is_open })

-- each open leaf was one before, or comes of the one that was replaced
pub leaf_after : (t : Tree) (p : List Bool) (s : Tree) (q : List Bool) → subtree t p ≡ Some leaf → subtree (graft t p s) q ≡ Some leaf → Comes t p s q
leaf_after leaf [] s q e f = inr (record { steps = q; is = refl; is_open = f })
leaf_after removed [] s q e f = cc
leaf_after (inner x) [] s q e f = cc
leaf_after (small x) [] s q e f = cc
leaf_after (cut x w a l r) [] s q e f = cc
leaf_after (cut x w a l r) (false ∷ p) s [] e f = cc
leaf_after (cut x w a l r) (true ∷ p) s [] e f = cc
leaf_after (cut x w a l r) (false ∷ p) s (false ∷ q) e f = comes_under false l (cut x w a l r) p s q (λ g. g) (leaf_after l p s q e f)
leaf_after (cut x w a l r) (false ∷ p) s (true ∷ q) e f = inl (f, λ (g : true ∷ q ≡ false ∷ p). cc)
leaf_after (cut x w a l r) (true ∷ p) s (false ∷ q) e f = inl (f, λ (g : false ∷ q ≡ true ∷ p). cc)
leaf_after (cut x w a l r) (true ∷ p) s (true ∷ q) e f = comes_under true r (cut x w a l r) p s q (λ g. g) (leaf_after r p s q e f)
leaf_after leaf (b ∷ p) s q e f = cc
leaf_after removed (b ∷ p) s q e f = cc
leaf_after (inner x) (b ∷ p) s q e f = cc
leaf_after (small x) (b ∷ p) s q e f = cc

abbrev Made : Tree → List Bool → Tree → List Bool → Outcome → Type 0
Made t p s q o = (outcome_at t q ≡ Some o) ⊎ IsMadeBy s p q o

made_under : (b : Bool) (t u : Tree) (p : List Bool) (s : Tree) (q : List Bool) (o : Outcome) → (outcome_at t q ≡ Some o → outcome_at u (b ∷ q) ≡ Some o) → Made t p s q o → Made u (b ∷ p) s (b ∷ q) o
made_under b t u p s q o f (inl h) = inl (f h)
made_under b t u p s q o f (inr h) = inr (record { steps = h.steps; is = ap (λ (x : List Bool). b ∷ x) h.is; is_made = h.is_made })

-- and each settled node too
pub made_after : (t : Tree) (p : List Bool) (s : Tree) (q : List Bool) (o : Outcome) → subtree t p ≡ Some leaf → outcome_at (graft t p s) q ≡ Some o → Made t p s q o
made_after leaf [] s q o e f = inr (record { steps = q; is = refl; is_made = f })
made_after removed [] s q o e f = cc
made_after (inner x) [] s q o e f = cc
made_after (small x) [] s q o e f = cc
made_after (cut x w a l r) [] s q o e f = cc
made_after (cut x w a l r) (false ∷ p) s [] o e f = inl f
made_after (cut x w a l r) (true ∷ p) s [] o e f = inl f
made_after (cut x w a l r) (false ∷ p) s (false ∷ q) o e f = made_under false l (cut x w a l r) p s q o (λ g. g) (made_after l p s q o e f)
made_after (cut x w a l r) (false ∷ p) s (true ∷ q) o e f = inl f
made_after (cut x w a l r) (true ∷ p) s (false ∷ q) o e f = inl f
made_after (cut x w a l r) (true ∷ p) s (true ∷ q) o e f = made_under true r (cut x w a l r) p s q o (λ g. g) (made_after r p s q o e f)
made_after leaf (b ∷ p) s q o e f = cc
made_after removed (b ∷ p) s q o e f = cc
made_after (inner x) (b ∷ p) s q o e f = cc
made_after (small x) (b ∷ p) s q o e f = cc

-- another open leaf stays
pub other_leaf : (t : Tree) (p : List Bool) (s : Tree) (q : List Bool) → subtree t p ≡ Some leaf → subtree t q ≡ Some leaf → (q ≡ p → ⊥) → subtree (graft t p s) q ≡ Some leaf
other_leaf leaf [] s [] e f ne = absurd (ne refl)
other_leaf leaf [] s (c ∷ q) e f ne = cc
other_leaf removed [] s q e f ne = cc
other_leaf (inner x) [] s q e f ne = cc
other_leaf (small x) [] s q e f ne = cc
other_leaf (cut x w a l r) [] s q e f ne = cc
other_leaf (cut x w a l r) (false ∷ p) s [] e f ne = cc
other_leaf (cut x w a l r) (true ∷ p) s [] e f ne = cc
other_leaf (cut x w a l r) (false ∷ p) s (false ∷ q) e f ne = other_leaf l p s q e f (λ g. ne (ap (λ (x : List Bool). false ∷ x) g))
other_leaf (cut x w a l r) (false ∷ p) s (true ∷ q) e f ne = f
other_leaf (cut x w a l r) (true ∷ p) s (false ∷ q) e f ne = f
other_leaf (cut x w a l r) (true ∷ p) s (true ∷ q) e f ne = other_leaf r p s q e f (λ g. ne (ap (λ (x : List Bool). true ∷ x) g))
other_leaf leaf (b ∷ p) s q e f ne = cc
other_leaf removed (b ∷ p) s q e f ne = cc
other_leaf (inner x) (b ∷ p) s q e f ne = cc
other_leaf (small x) (b ∷ p) s q e f ne = cc

-- what stands below the leaf is what was put there
pub leaf_below : (t : Tree) (p : List Bool) (s : Tree) (r : List Bool) → subtree t p ≡ Some leaf → subtree (graft t p s) (p ++ r) ≡ subtree s r
leaf_below leaf [] s r e = refl
leaf_below removed [] s r e = cc
leaf_below (inner x) [] s r e = cc
leaf_below (small x) [] s r e = cc
leaf_below (cut x w a l m) [] s r e = cc
leaf_below (cut x w a l m) (false ∷ p) s r e = leaf_below l p s r e
leaf_below (cut x w a l m) (true ∷ p) s r e = leaf_below m p s r e
leaf_below leaf (b ∷ p) s r e = cc
leaf_below removed (b ∷ p) s r e = cc
leaf_below (inner x) (b ∷ p) s r e = cc
leaf_below (small x) (b ∷ p) s r e = cc

-- what stands below a path of a tree
pub subtree_below : (t : Tree) (p r : List Bool) (s : Tree) → subtree t p ≡ Some s → subtree t (p ++ r) ≡ subtree s r
subtree_below t [] r s e = let w : t ≡ s = cc in ap (λ (x : Tree). subtree x r) w
subtree_below (cut x w a l m) (false ∷ p) r s e = subtree_below l p r s e
subtree_below (cut x w a l m) (true ∷ p) r s e = subtree_below m p r s e
subtree_below leaf (b ∷ p) r s e = cc
subtree_below removed (b ∷ p) r s e = cc
subtree_below (inner x) (b ∷ p) r s e = cc
subtree_below (small x) (b ∷ p) r s e = cc
