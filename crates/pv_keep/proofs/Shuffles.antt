-- Rows that are two lists in one, and rows put at their places.
use Rattle.std.proofs.Common.{◌≡◌, Bool, false, cond, List, [], ◌∷◌, ◌++◌, refl, sym, ◌∙◌, ap, subst, inl, inr}
use Rattle.std.specs.Prelude.{IsTrue}
use Rattle.pv_tree.specs.Trees.{precedes}
use Rattle.pv_keep.specs.declared.row.Row.{Row}
use Rattle.pv_keep.specs.Rows.{AllBehind, InPreorder, placed, all_placed, HasNoRow, AreDistinct, AreNew, IsShuffle}
use Rattle.pv_keep.proofs.Orders.{not_back, unlike, turned}

abbrev head_of : List Row → Row → Row
head_of [] d = d
head_of (x ∷ xs) d = x

abbrev rest_of : List Row → List Row
rest_of [] = []
rest_of (x ∷ xs) = xs

same_head : (x y : Row) (xs ys : List Row) → x ∷ xs ≡ y ∷ ys → x ≡ y
same_head x y xs ys e = ap (λ (zs : List Row). head_of zs x) e

same_rest : (x y : Row) (xs ys : List Row) → x ∷ xs ≡ y ∷ ys → xs ≡ ys
same_rest x y xs ys e = ap rest_of e

no_cons : (x : Row) (xs : List Row) → x ∷ xs ≡ [] → ⊥
no_cons x xs e = cc

pub shuffle_first : (xs : List Row) → IsShuffle xs [] xs
shuffle_first [] = (refl, refl)
shuffle_first (x ∷ xs) = inl (xs, refl, shuffle_first xs)

pub shuffle_second : (ys : List Row) → IsShuffle [] ys ys
shuffle_second [] = (refl, refl)
shuffle_second (y ∷ ys) = inr (ys, refl, shuffle_second ys)

pub shuffle_append : (xs ys zs us vs ws : List Row) → IsShuffle xs ys zs → IsShuffle us vs ws → IsShuffle (xs ++ us) (ys ++ vs) (zs ++ ws)
shuffle_append xs ys [] us vs ws s t =
    subst (λ (x : List Row). IsShuffle (x ++ us) (ys ++ vs) ws) (sym s.0) (subst (λ (y : List Row). IsShuffle us (y ++ vs) ws) (sym s.1) t)
shuffle_append xs ys (z ∷ zs) us vs ws (inl s) t = inl (s.0 ++ us, ap (λ (x : List Row). x ++ us) s.1, shuffle_append s.0 ys zs us vs ws s.2 t)
shuffle_append xs ys (z ∷ zs) us vs ws (inr s) t = inr (s.0 ++ vs, ap (λ (y : List Row). y ++ vs) s.1, shuffle_append xs s.0 zs us vs ws s.2 t)

pub shuffle_alone : (xs zs : List Row) → IsShuffle xs [] zs → xs ≡ zs
shuffle_alone xs [] s = s.0
shuffle_alone xs (z ∷ zs) (inl s) = s.1 ∙ ap (λ (ws : List Row). z ∷ ws) (shuffle_alone s.0 zs s.2)
shuffle_alone xs (z ∷ zs) (inr s) = absurd (no_cons z s.0 (sym s.1))

-- ---- What stands behind a path

second_behind : (p : List Bool) (xs : List Row) (y : Row) (ys zs : List Row) → AllBehind p zs → IsShuffle xs (y ∷ ys) zs → IsTrue (precedes p y.path)
second_behind p xs y ys [] b s = absurd (no_cons y ys s.1)
second_behind p xs y ys (z ∷ zs) b (inl s) = second_behind p s.0 y ys zs b.1 s.2
second_behind p xs y ys (z ∷ zs) b (inr s) = subst (λ (w : Row). IsTrue (precedes p w.path)) (sym (same_head y z ys s.0 s.1)) b.0

first_behind : (p : List Bool) (x : Row) (xs ys zs : List Row) → AllBehind p zs → IsShuffle (x ∷ xs) ys zs → IsTrue (precedes p x.path)
first_behind p x xs ys [] b s = absurd (no_cons x xs s.0)
first_behind p x xs ys (z ∷ zs) b (inl s) = subst (λ (w : Row). IsTrue (precedes p w.path)) (sym (same_head x z xs s.0 s.1)) b.0
first_behind p x xs ys (z ∷ zs) b (inr s) = first_behind p x xs s.0 zs b.1 s.2

none_first : (p : List Bool) (xs ys zs : List Row) → AllBehind p zs → IsShuffle xs ys zs → HasNoRow p xs
none_first p xs ys [] b s = subst (HasNoRow p) (sym s.0) tt
none_first p xs ys (z ∷ zs) b (inl s) = subst (HasNoRow p) (sym s.1) (unlike p z.path b.0, none_first p s.0 ys zs b.1 s.2)
none_first p xs ys (z ∷ zs) b (inr s) = none_first p xs s.0 zs b.1 s.2

none_second : (p : List Bool) (xs ys zs : List Row) → AllBehind p zs → IsShuffle xs ys zs → HasNoRow p ys
none_second p xs ys [] b s = subst (HasNoRow p) (sym s.1) tt
none_second p xs ys (z ∷ zs) b (inl s) = none_second p s.0 ys zs b.1 s.2
none_second p xs ys (z ∷ zs) b (inr s) = subst (HasNoRow p) (sym s.1) (unlike p z.path b.0, none_second p xs s.0 zs b.1 s.2)

-- ---- One list in preorder is put together by placing the rows of one part into the other

placed_on : (y z : Row) (rest : List Row) → precedes y.path z.path ≡ false → placed y (z ∷ rest) ≡ z ∷ placed y rest
placed_on y z rest e = ap (λ (b : Bool). cond b (y ∷ z ∷ rest) (z ∷ placed y rest)) e

placed_here : (y z : Row) (rest : List Row) → IsTrue (precedes y.path z.path) → placed y (z ∷ rest) ≡ y ∷ z ∷ rest
placed_here y z rest e = ap (λ (b : Bool). cond b (y ∷ z ∷ rest) (z ∷ placed y rest)) e

placed_front : (z : Row) (xs ys zs : List Row) → AllBehind z.path zs → IsShuffle xs ys zs → placed z xs ≡ z ∷ xs
placed_front z [] ys zs b s = refl
placed_front z (x ∷ xs) ys zs b s = placed_here z x xs (first_behind z.path x xs ys zs b s)

pub placed_shuffle : (xs : List Row) (y : Row) (ys zs : List Row) → IsShuffle xs (y ∷ ys) zs → InPreorder zs → IsShuffle (placed y xs) ys zs
placed_shuffle xs y ys [] s o = absurd (no_cons y ys s.1)
placed_shuffle xs y ys (z ∷ zs) (inl s) o =
    let late : precedes y.path z.path ≡ false = not_back z.path y.path (second_behind z.path s.0 y ys zs o.0 s.2) in
    inl (placed y s.0, ap (placed y) s.1 ∙ placed_on y z s.0 late, placed_shuffle s.0 y ys zs s.2 o.1)
placed_shuffle xs y ys (z ∷ zs) (inr s) o =
    let head : y ≡ z = same_head y z ys s.0 s.1 in
    let rest : ys ≡ s.0 = same_rest y z ys s.0 s.1 in
    inl (xs, ap (λ (w : Row). placed w xs) head ∙ placed_front z xs s.0 zs o.0 s.2, subst (λ (ws : List Row). IsShuffle xs ws zs) (sym rest) s.2)

pub all_placed_shuffle : (xs ys zs : List Row) → IsShuffle xs ys zs → InPreorder zs → all_placed xs ys ≡ zs
all_placed_shuffle xs [] zs s o = shuffle_alone xs zs s
all_placed_shuffle xs (y ∷ ys) zs s o = all_placed_shuffle (placed y xs) ys zs (placed_shuffle xs y ys zs s o) o

-- ---- The parts of a list in preorder have no path in common

pub second_distinct : (xs ys zs : List Row) → IsShuffle xs ys zs → InPreorder zs → AreDistinct ys
second_distinct xs ys [] s o = subst AreDistinct (sym s.1) tt
second_distinct xs ys (z ∷ zs) (inl s) o = second_distinct s.0 ys zs s.2 o.1
second_distinct xs ys (z ∷ zs) (inr s) o = subst AreDistinct (sym s.1) (none_second z.path xs s.0 zs o.0 s.2, second_distinct xs s.0 zs s.2 o.1)

new_more : (x : Row) (xs ys : List Row) → HasNoRow x.path ys → AreNew xs ys → AreNew (x ∷ xs) ys
new_more x xs [] h n = tt
new_more x xs (y ∷ ys) h n = ((turned y.path x.path h.0, n.0), new_more x xs ys h.1 n.1)

pub second_new : (xs ys zs : List Row) → IsShuffle xs ys zs → InPreorder zs → AreNew xs ys
second_new xs ys [] s o = subst (AreNew xs) (sym s.1) tt
second_new xs ys (z ∷ zs) (inl s) o =
    subst (λ (ws : List Row). AreNew ws ys) (sym s.1) (new_more z s.0 ys (none_second z.path s.0 ys zs o.0 s.2) (second_new s.0 ys zs s.2 o.1))
second_new xs ys (z ∷ zs) (inr s) o = subst (AreNew xs) (sym s.1) (none_first z.path xs s.0 zs o.0 s.2, second_new xs s.0 zs s.2 o.1)
