-- A node of a kind that keeps something has its `to`.
use Rattle.std.proofs.Common.{◌≡◌, false, true, [], ◌∷◌, Some, None, List, Bool, ap, refl, sym, ◌∙◌, subst, IsTrue}
use Rattle.std.specs.Option.{IsSome}
use Rattle.pv_tree.specs.Trees.{Tree, leaf, removed, inner, small, cut, subtree, to_at, shape_of}
use Rattle.pv_tree.specs.declared.outcome.Shape.{Shape}
use Rattle.bench_trees.specs.Kept.{keeps_shape}

pub here_kept : (t : Tree) (s : Shape) → s ≡ shape_of (Some t) → keeps_shape s ≡ true → IsSome (to_at t [])
here_kept leaf s e k = let w : keeps_shape (shape_of (Some leaf)) ≡ true = ap keeps_shape (sym e) ∙ k in cc
here_kept removed s e k = let w : keeps_shape (shape_of (Some removed)) ≡ true = ap keeps_shape (sym e) ∙ k in cc
here_kept (inner to) s e k = refl
here_kept (small to) s e k = refl
here_kept (cut to v a l r) s e k = refl

pub path_kept : (t : Tree) (p : List Bool) (s : Shape) → s ≡ shape_of (subtree t p) → keeps_shape s ≡ true → IsSome (to_at t p)
path_kept t [] s e k = here_kept t s e k
path_kept (cut to v a l r) (false ∷ p) s e k = path_kept l p s e k
path_kept (cut to v a l r) (true ∷ p) s e k = path_kept r p s e k
path_kept leaf (b ∷ p) s e k = let w : keeps_shape (shape_of None) ≡ true = ap keeps_shape (sym e) ∙ k in cc
path_kept removed (b ∷ p) s e k = let w : keeps_shape (shape_of None) ≡ true = ap keeps_shape (sym e) ∙ k in cc
path_kept (inner to) (b ∷ p) s e k = let w : keeps_shape (shape_of None) ≡ true = ap keeps_shape (sym e) ∙ k in cc
path_kept (small to) (b ∷ p) s e k = let w : keeps_shape (shape_of None) ≡ true = ap keeps_shape (sym e) ∙ k in cc
