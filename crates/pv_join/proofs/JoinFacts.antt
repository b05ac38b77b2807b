-- Joins and first disagreements, node by node.
use Rattle.std.proofs.Common.{◌≡◌, ◌⊎◌, inl, inr, ℕ, suc, ◌<◌, ◌≤◌, max, Bool, true, false, Option, Some, None, List, [], ◌∷◌, ◌++◌, length, refl, sym, ◌∙◌, ap, arith, subst}
use Rattle.pv_num.specs.Extended.{Extended}
use Rattle.pv_interval.specs.Bounds.{Bounds}
use Rattle.pv_tree.specs.Trees.{Tree, leaf, removed, inner, small, cut, top, subtree, outcome_at, graft, settled, Paves, Fits, HasDepth, height, box_of}
use Rattle.pv_tree.specs.declared.outcome.Outcome.{Outcome}
use Rattle.pv_tree.specs.declared.outcome.Outcome.TheVariants.{Removed, Inner, Small, Cut}
use Rattle.std.specs.Option.{IsSome}
use Rattle.pv_tree.proofs.Halves.{paves_below}
use Rattle.pv_join.specs.Joins.{settled_side, IsJoin, is_a_cut}
use Rattle.pv_join.proofs.Shapes.{outcome_top, top_there}

-- trees that are settled alike are the same
pub same_tree : (s t : Tree) → ((p : List Bool) → outcome_at s p ≡ outcome_at t p) → s ≡ t
same_tree leaf leaf h = refl
same_tree removed removed h = refl
same_tree (inner x) (inner y) h = let w : Some (Inner x) ≡ Some (Inner y) = h [] in let e : x ≡ y = cc in ap inner e
same_tree (small x) (small y) h = let w : Some (Small x) ≡ Some (Small y) = h [] in let e : x ≡ y = cc in ap small e
same_tree (cut x v a l r) (cut y w b m n) h =
    let k : Some (Cut x v a) ≡ Some (Cut y w b) = h [] in
    let p : x ≡ y = cc in let q : v ≡ w = cc in let s : a ≡ b = cc in
    λ i. cut (p i) (q i) (s i) (same_tree l m (λ z. h (false ∷ z)) i) (same_tree r n (λ z. h (true ∷ z)) i)
same_tree leaf removed h = let w : None ≡ Some Removed = h [] in cc
same_tree leaf (inner y) h = let w : None ≡ Some (Inner y) = h [] in cc
same_tree leaf (small y) h = let w : None ≡ Some (Small y) = h [] in cc
same_tree leaf (cut y w b m n) h = let k : None ≡ Some (Cut y w b) = h [] in cc
same_tree removed leaf h = let w : Some Removed ≡ None = h [] in cc
same_tree removed (inner y) h = let w : Some Removed ≡ Some (Inner y) = h [] in cc
same_tree removed (small y) h = let w : Some Removed ≡ Some (Small y) = h [] in cc
same_tree removed (cut y w b m n) h = let k : Some Removed ≡ Some (Cut y w b) = h [] in cc
same_tree (inner x) leaf h = let w : Some (Inner x) ≡ None = h [] in cc
same_tree (inner x) removed h = let w : Some (Inner x) ≡ Some Removed = h [] in cc
same_tree (inner x) (small y) h = let w : Some (Inner x) ≡ Some (Small y) = h [] in cc
same_tree (inner x) (cut y w b m n) h = let k : Some (Inner x) ≡ Some (Cut y w b) = h [] in cc
same_tree (small x) leaf h = let w : Some (Small x) ≡ None = h [] in cc
same_tree (small x) removed h = let w : Some (Small x) ≡ Some Removed = h [] in cc
same_tree (small x) (inner y) h = let w : Some (Small x) ≡ Some (Inner y) = h [] in cc
same_tree (small x) (cut y w b m n) h = let k : Some (Small x) ≡ Some (Cut y w b) = h [] in cc
same_tree (cut x v a l r) leaf h = let k : Some (Cut x v a) ≡ None = h [] in cc
same_tree (cut x v a l r) removed h = let k : Some (Cut x v a) ≡ Some Removed = h [] in cc
same_tree (cut x v a l r) (inner y) h = let k : Some (Cut x v a) ≡ Some (Inner y) = h [] in cc
same_tree (cut x v a l r) (small y) h = let k : Some (Cut x v a) ≡ Some (Small y) = h [] in cc

-- the laws
pub join_unique : (a b s t : Tree) → IsJoin a b s → IsJoin a b t → s ≡ t
join_unique a b s t h k = same_tree s t (λ p. h.takes p ∙ sym (k.takes p))

side_swap : (x y : Option Outcome) → ((o u : Outcome) → x ≡ Some o → y ≡ Some u → o ≡ u) → settled_side x y ≡ settled_side y x
side_swap None None h = refl
side_swap None (Some u) h = refl
side_swap (Some o) None h = refl
side_swap (Some o) (Some u) h = ap (λ (z : Outcome). Some z) (h o u refl refl)

pub join_swap : (a b t : Tree) → IsJoin a b t → IsJoin b a t
join_swap a b t h = record { agree = λ p o u e f. sym (h.agree p u o f e); takes = λ p. h.takes p ∙ side_swap (outcome_at a p) (outcome_at b p) (h.agree p) }

side_self : (x : Option Outcome) → x ≡ settled_side x x
side_self None = refl
side_self (Some o) = refl

pub join_self : (t : Tree) → IsJoin t t t
join_self t = record { agree = λ p o u e f. let w : Some o ≡ Some u = sym e ∙ f in cc; takes = λ p. side_self (outcome_at t p) }

pub outcome_leaf : (p : List Bool) → outcome_at leaf p ≡ None
outcome_leaf [] = refl
outcome_leaf (b ∷ p) = refl

pub join_leaf_left : (t : Tree) → IsJoin leaf t t
join_leaf_left t = record { agree = λ p o u e f. let w : None ≡ Some o = sym (outcome_leaf p) ∙ e in cc; takes = λ p. ap (λ (x : Option Outcome). settled_side x (outcome_at t p)) (sym (outcome_leaf p)) }

pub join_leaf_right : (t : Tree) → IsJoin t leaf t
join_leaf_right t = join_swap leaf t t (join_leaf_left t)

pub join_cut : (to : List Bounds) (v : ℕ) (a : Extended) (l r m n x y : Tree) → IsJoin l m x → IsJoin r n y → IsJoin (cut to v a l r) (cut to v a m n) (cut to v a x y)
join_cut to v a l r m n x y h k = record {
  agree = λ p. elim p as (λ q. (o u : Outcome) → outcome_at (cut to v a l r) q ≡ Some o → outcome_at (cut to v a m n) q ≡ Some u → o ≡ u) [
    | [] ↦ λ o u e f. let w : Some o ≡ Some u = sym e ∙ f in cc
    | c ∷ q ↦ elim c as (λ d. (o u : Outcome) → outcome_at (cut to v a l r) (d ∷ q) ≡ Some o → outcome_at (cut to v a m n) (d ∷ q) ≡ Some u → o ≡ u) [ false ↦ h.agree q | true ↦ k.agree q ]
  ];
  takes = λ p. elim p as (λ q. outcome_at (cut to v a x y) q ≡ settled_side (outcome_at (cut to v a l r) q) (outcome_at (cut to v a m n) q)) [
    | [] ↦ refl
    | c ∷ q ↦ elim c as (λ d. outcome_at (cut to v a x y) (d ∷ q) ≡ settled_side (outcome_at (cut to v a l r) (d ∷ q)) (outcome_at (cut to v a m n) (d ∷ q))) [ false ↦ h.takes q | true ↦ k.takes q ]
  ];
}

-- of three trees
pub side_three : (x y z : Option Outcome) → settled_side (settled_side x y) z ≡ settled_side x (settled_side y z)
side_three None y z = refl
side_three (Some o) y z = refl

pub side_some : (x y : Option Outcome) (o : Outcome) → settled_side x y ≡ Some o → (x ≡ Some o) ⊎ (y ≡ Some o)
side_some None y o e = inr e
side_some (Some u) y o e = inl e

pub side_left : (x y : Option Outcome) (o : Outcome) → x ≡ Some o → settled_side x y ≡ Some o
side_left None y o e = cc
side_left (Some u) y o e = e

-- grafts and paths
pub graft_at : (t : Tree) (p : List Bool) (s u : Tree) → subtree t p ≡ Some s → subtree (graft t p u) p ≡ Some u
graft_at t [] s u e = refl
graft_at (cut to v a l r) (false ∷ p) s u e = graft_at l p s u e
graft_at (cut to v a l r) (true ∷ p) s u e = graft_at r p s u e
graft_at leaf (b ∷ p) s u e = cc
graft_at removed (b ∷ p) s u e = cc
graft_at (inner to) (b ∷ p) s u e = cc
graft_at (small to) (b ∷ p) s u e = cc

pub graft_same : (t : Tree) (p : List Bool) (s : Tree) → subtree t p ≡ Some s → graft t p s ≡ t
graft_same t [] s e = cc
graft_same (cut to v a l r) (false ∷ p) s e = ap (λ (x : Tree). cut to v a x r) (graft_same l p s e)
graft_same (cut to v a l r) (true ∷ p) s e = ap (λ (x : Tree). cut to v a l x) (graft_same r p s e)
graft_same leaf (b ∷ p) s e = refl
graft_same removed (b ∷ p) s e = refl
graft_same (inner to) (b ∷ p) s e = refl
graft_same (small to) (b ∷ p) s e = refl

pub graft_twice : (t : Tree) (p : List Bool) (u w : Tree) → graft (graft t p u) p w ≡ graft t p w
graft_twice t [] u w = refl
graft_twice (cut to v a l r) (false ∷ p) u w = ap (λ (x : Tree). cut to v a x r) (graft_twice l p u w)
graft_twice (cut to v a l r) (true ∷ p) u w = ap (λ (x : Tree). cut to v a l x) (graft_twice r p u w)
graft_twice leaf (b ∷ p) u w = refl
graft_twice removed (b ∷ p) u w = refl
graft_twice (inner to) (b ∷ p) u w = refl
graft_twice (small to) (b ∷ p) u w = refl

pub subtree_low : (t : Tree) (p : List Bool) (to : List Bounds) (v : ℕ) (a : Extended) (l r : Tree) → subtree t p ≡ Some (cut to v a l r) → subtree t (p ++ false ∷ []) ≡ Some l
subtree_low t [] to v a l r e = let w : t ≡ cut to v a l r = cc in ap (λ (x : Tree). subtree x (false ∷ [])) w
subtree_low (cut x w b m n) (false ∷ p) to v a l r e = subtree_low m p to v a l r e
subtree_low (cut x w b m n) (true ∷ p) to v a l r e = subtree_low n p to v a l r e
subtree_low leaf (b ∷ p) to v a l r e = cc
subtree_low removed (b ∷ p) to v a l r e = cc
subtree_low (inner x) (b ∷ p) to v a l r e = cc
subtree_low (small x) (b ∷ p) to v a l r e = cc

pub subtree_high : (t : Tree) (p : List Bool) (to : List Bounds) (v : ℕ) (a : Extended) (l r : Tree) → subtree t p ≡ Some (cut to v a l r) → subtree t (p ++ true ∷ []) ≡ Some r
subtree_high t [] to v a l r e = let w : t ≡ cut to v a l r = cc in ap (λ (x : Tree). subtree x (true ∷ [])) w
subtree_high (cut x w b m n) (false ∷ p) to v a l r e = subtree_high m p to v a l r e
subtree_high (cut x w b m n) (true ∷ p) to v a l r e = subtree_high n p to v a l r e
subtree_high leaf (b ∷ p) to v a l r e = cc
subtree_high removed (b ∷ p) to v a l r e = cc
subtree_high (inner x) (b ∷ p) to v a l r e = cc
subtree_high (small x) (b ∷ p) to v a l r e = cc

pub graft_low : (t : Tree) (p : List Bool) (to : List Bounds) (v : ℕ) (a : Extended) (l r x : Tree) → subtree t p ≡ Some (cut to v a l r) → graft t (p ++ false ∷ []) x ≡ graft t p (cut to v a x r)
graft_low t [] to v a l r x e = let w : t ≡ cut to v a l r = cc in ap (λ (y : Tree). graft y (false ∷ []) x) w
graft_low (cut y w b m n) (false ∷ p) to v a l r x e = ap (λ (z : Tree). cut y w b z n) (graft_low m p to v a l r x e)
graft_low (cut y w b m n) (true ∷ p) to v a l r x e = ap (λ (z : Tree). cut y w b m z) (graft_low n p to v a l r x e)
graft_low leaf (b ∷ p) to v a l r x e = cc
graft_low removed (b ∷ p) to v a l r x e = cc
graft_low (inner y) (b ∷ p) to v a l r x e = cc
graft_low (small y) (b ∷ p) to v a l r x e = cc

pub graft_high : (t : Tree) (p : List Bool) (to : List Bounds) (v : ℕ) (a : Extended) (l r x : Tree) → subtree t p ≡ Some (cut to v a l r) → graft t (p ++ true ∷ []) x ≡ graft t p (cut to v a l x)
graft_high t [] to v a l r x e = let w : t ≡ cut to v a l r = cc in ap (λ (y : Tree). graft y (true ∷ []) x) w
graft_high (cut y w b m n) (false ∷ p) to v a l r x e = ap (λ (z : Tree). cut y w b z n) (graft_high m p to v a l r x e)
graft_high (cut y w b m n) (true ∷ p) to v a l r x e = ap (λ (z : Tree). cut y w b m z) (graft_high n p to v a l r x e)
graft_high leaf (b ∷ p) to v a l r x e = cc
graft_high removed (b ∷ p) to v a l r x e = cc
graft_high (inner y) (b ∷ p) to v a l r x e = cc
graft_high (small y) (b ∷ p) to v a l r x e = cc

pub cut_height : (t : Tree) (p : List Bool) (to : List Bounds) (v : ℕ) (a : Extended) (l r : Tree) → subtree t p ≡ Some (cut to v a l r) → length p < height t
cut_height t [] to v a l r e = let w : t ≡ cut to v a l r = cc in let h : height t ≡ suc (max (height l) (height r)) = ap height w in omega arith
cut_height (cut x w b m n) (false ∷ p) to v a l r e = let h : length p < height m = cut_height m p to v a l r e in omega arith
cut_height (cut x w b m n) (true ∷ p) to v a l r e = let h : length p < height n = cut_height n p to v a l r e in omega arith
cut_height leaf (b ∷ p) to v a l r e = cc
cut_height removed (b ∷ p) to v a l r e = cc
cut_height (inner x) (b ∷ p) to v a l r e = cc
cut_height (small x) (b ∷ p) to v a l r e = cc

pub top_is : (t : Tree) (p : List Bool) (s : Tree) → subtree t p ≡ Some s → outcome_at t p ≡ top s
top_is t p s e = outcome_top t p ∙ ap top_there e

pub depth_there : (t : Tree) (p : List Bool) (s : Tree) (o : Outcome) → subtree t p ≡ Some s → top s ≡ Some o → height t ≤ 200 → HasDepth p o
depth_there t p s Removed e f h = tt
depth_there t p s (Inner to) e f h = tt
depth_there t p s (Small to) e f h = tt
depth_there t p (cut x w b m n) (Cut to v a) e f h = let k : length p < height t = cut_height t p x w b m n e in omega arith
depth_there t p leaf (Cut to v a) e f h = cc
depth_there t p removed (Cut to v a) e f h = cc
depth_there t p (inner x) (Cut to v a) e f h = cc
depth_there t p (small x) (Cut to v a) e f h = cc

pub top_fits : (b : List Bounds) (s : Tree) (o : Outcome) → Paves b s → top s ≡ Some o → Fits b o
top_fits b leaf o h e = cc
top_fits b removed o h e = let w : Removed ≡ o = cc in subst (Fits b) w tt
top_fits b (inner to) o h e = let w : Inner to ≡ o = cc in subst (Fits b) w h.1
top_fits b (small to) o h e = let w : Small to ≡ o = cc in subst (Fits b) w h.1
top_fits b (cut to v a l r) o h e = let w : Cut to v a ≡ o = cc in subst (Fits b) w (h.1, h.2)

pub fits_there : (b : List Bounds) (t : Tree) (p : List Bool) (s : Tree) (o : Outcome) → Paves b t → subtree t p ≡ Some s → top s ≡ Some o → Fits (box_of b t p) o
fits_there b t p s o h e f = top_fits (box_of b t p) s o (paves_below b t p s h e) f

pub some_there : (o : Option Tree) → IsSome o → (t : Tree) × (o ≡ Some t)
some_there None h = absurd (let w : false ≡ true = h in cc)
some_there (Some t) h = (t, refl)

pub open_top : (t : Tree) → top t ≡ None → t ≡ leaf
open_top leaf e = refl
open_top removed e = cc
open_top (inner to) e = cc
open_top (small to) e = cc
open_top (cut to v a l r) e = cc

pub record IsCutTree (t : Tree) (to : List Bounds) (v : ℕ) (a : Extended) : Type 0 where
  pub low : Tree
  pub high : Tree
  pub is : t ≡ cut to v a low high

pub cut_top : (t : Tree) (to : List Bounds) (v : ℕ) (a : Extended) → top t ≡ Some (Cut to v a) → IsCutTree t to v a
cut_top leaf to v a e = cc
cut_top removed to v a e = cc
cut_top (inner x) to v a e = cc
cut_top (small x) to v a e = cc
cut_top (cut x w b l r) to v a e = let p : x ≡ to = cc in let q : w ≡ v = cc in let s : b ≡ a = cc in record { low = l; high = r; is = λ i. cut (p i) (q i) (s i) l r }

pub end_top : (t : Tree) (o : Outcome) → top t ≡ Some o → is_a_cut o ≡ false → t ≡ settled o
end_top leaf o e c = cc
end_top removed o e c = let w : Removed ≡ o = cc in ap settled w
end_top (inner x) o e c = let w : Inner x ≡ o = cc in ap settled w
end_top (small x) o e c = let w : Small x ≡ o = cc in ap settled w
end_top (cut x w b l r) o e c = let p : Cut x w b ≡ o = cc in let q : true ≡ false = ap is_a_cut p ∙ c in cc

pub open_there : (t : Tree) (p : List Bool) → IsSome (subtree t p) → outcome_at t p ≡ None → subtree t p ≡ Some leaf
open_there t p h e =
    let s : (s : Tree) × (subtree t p ≡ Some s) = some_there (subtree t p) h in
    s.1 ∙ ap (λ (x : Tree). Some x) (open_top s.0 (sym (top_is t p s.0 s.1) ∙ e))
