-- What grafting does to a tree.
use Rattle.std.proofs.Common.{refl, ◌+◌, ◌≡◌, Bool, true, false, Some, List, [], ◌∷◌, arith}
use Rattle.pv_interval.specs.Bounds.{Bounds}
use Rattle.pv_box.specs.Boxes.{lower_half, upper_half}
use Rattle.pv_tree.specs.Trees.{Tree, leaf, removed, inner, small, cut, subtree, graft, box_of, Paves, counts_of, settled_of, settled, Fits, KeepsBox, sum_of_counts}
use Rattle.pv_tree.specs.Arena.{Adds}
use Rattle.pv_tree.specs.declared.outcome.Outcome.{Outcome}
use Rattle.pv_tree.specs.declared.outcome.Outcome.TheVariants.{Removed, Inner, Small, Cut}
use Rattle.pv_tree.specs.declared.outcome.Counts.{Counts}

-- a paving stays one where an open leaf becomes a paving of its box
pub graft_paves : (b : List Bounds) (t : Tree) (p : List Bool) (s : Tree) → subtree t p ≡ Some leaf → Paves b t → Paves (box_of b t p) s → Paves b (graft t p s)
graft_paves b t [] s e h k = k
graft_paves b (cut to v a l r) (false ∷ p) s e h k = (h.0, h.1, h.2, graft_paves (lower_half to v a) l p s e h.3 k, h.4)
graft_paves b (cut to v a l r) (true ∷ p) s e h k = (h.0, h.1, h.2, h.3, graft_paves (upper_half to v a) r p s e h.4 k)
graft_paves b leaf (c ∷ p) s e h k = cc
graft_paves b removed (c ∷ p) s e h k = cc
graft_paves b (inner to) (c ∷ p) s e h k = cc
graft_paves b (small to) (c ∷ p) s e h k = cc

pub settled_paves : (b : List Bounds) (o : Outcome) → Fits b o → KeepsBox o → Paves b (settled o)
settled_paves b Removed f k = tt
settled_paves b (Inner to) f k = (k, f)
settled_paves b (Small to) f k = (k, f)
settled_paves b (Cut to v a) f k = (k, f.0, f.1, tt, tt)

-- each count after a graft at an open leaf
adds_low : (o l l' r s : Counts) → Adds l s l' → Adds (sum_of_counts o (sum_of_counts l r)) s (sum_of_counts o (sum_of_counts l' r))
adds_low o l l' r s h = record { cut = omega (arith, h.cut); removed = omega (arith, h.removed); inner = omega (arith, h.inner); small = omega (arith, h.small); open_leaves = omega (arith, h.open_leaves) }

adds_high : (o l r r' s : Counts) → Adds r s r' → Adds (sum_of_counts o (sum_of_counts l r)) s (sum_of_counts o (sum_of_counts l r'))
adds_high o l r r' s h = record { cut = omega (arith, h.cut); removed = omega (arith, h.removed); inner = omega (arith, h.inner); small = omega (arith, h.small); open_leaves = omega (arith, h.open_leaves) }

adds_here : (t s : Tree) → Some t ≡ Some leaf → Adds (counts_of t) (counts_of s) (counts_of s)
adds_here leaf s e = record { cut = omega arith; removed = omega arith; inner = omega arith; small = omega arith; open_leaves = omega arith }
adds_here removed s e = cc
adds_here (inner to) s e = cc
adds_here (small to) s e = cc
adds_here (cut to v a l r) s e = cc

pub graft_counts : (t : Tree) (p : List Bool) (s : Tree) → subtree t p ≡ Some leaf → Adds (counts_of t) (counts_of s) (counts_of (graft t p s))
graft_counts t [] s e = adds_here t s e
graft_counts (cut to v a l r) (false ∷ p) s e = adds_low _ (counts_of l) (counts_of (graft l p s)) (counts_of r) (counts_of s) (graft_counts l p s e)
graft_counts (cut to v a l r) (true ∷ p) s e = adds_high _ (counts_of l) (counts_of r) (counts_of (graft r p s)) (counts_of s) (graft_counts r p s e)
graft_counts leaf (c ∷ p) s e = cc
graft_counts removed (c ∷ p) s e = cc
graft_counts (inner to) (c ∷ p) s e = cc
graft_counts (small to) (c ∷ p) s e = cc

pub settled_one : (o : Outcome) → settled_of (counts_of (settled o)) ≡ 1
settled_one Removed = refl
settled_one (Inner to) = refl
settled_one (Small to) = refl
settled_one (Cut to v a) = refl

-- a settled leaf is one settled node more
pub settled_more : (t : Tree) (p : List Bool) (o : Outcome) → subtree t p ≡ Some leaf → settled_of (counts_of (graft t p (settled o))) ≡ settled_of (counts_of t) + 1
settled_more t p o e =
    let h : Adds (counts_of t) (counts_of (settled o)) (counts_of (graft t p (settled o))) = graft_counts t p (settled o) e in
    let one : settled_of (counts_of (settled o)) ≡ 1 = settled_one o in
    omega (arith, h.cut, h.removed, h.inner, h.small, one)
