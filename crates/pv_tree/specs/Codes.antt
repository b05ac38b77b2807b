-- How trees are told apart: each has a code, which no other tree has.
use Rattle.std.specs.Prelude.{◌≡◌, ℕ, Bool, List, ◌⊎◌, ℤ, refl}
use Rattle.std.proofs.Common.{ap, inl, inr}
use Rattle.std.specs.Coded.{Coded, code_by, coded×, coded⊎, coded_ℕ, coded_ℤ, coded_list, coded_bool}
use base.Stored.{Gv, gnil, gnum, gcons, coded_unit}
use Rattle.pv_num.specs.Extended.{Extended, NegInf, Fin, PosInf}
use Rattle.pv_interval.specs.Bounds.{Bounds}
use Rattle.pv_tree.specs.Trees.{Tree, leaf, removed, inner, small, cut, Seen}
use Rattle.pv_tree.specs.Pieces.{Piece, Walked}
use Rattle.pv_tree.specs.Holes.{Hole, Growing}

abbrev end_parts : Extended → Unit {0} ⊎ ℤ ⊎ Unit {0}
end_parts NegInf = inl tt
end_parts (Fin n) = inr (inl n)
end_parts PosInf = inr (inr tt)

abbrev end_from : Unit {0} ⊎ ℤ ⊎ Unit {0} → Extended
end_from (inl u) = NegInf
end_from (inr (inl n)) = Fin n
end_from (inr (inr u)) = PosInf

pub end_from-end_parts : (e : Extended) → end_from (end_parts e) ≡ e
end_from-end_parts NegInf = refl
end_from-end_parts (Fin n) = refl
end_from-end_parts PosInf = refl

abbrev pub coded_end : Coded Extended
coded_end = code_by (Unit {0} ⊎ ℤ ⊎ Unit {0}) (coded⊎ coded_unit (coded⊎ coded_ℤ coded_unit)) end_parts end_from end_from-end_parts

abbrev pub coded_bounds : Coded Bounds
coded_bounds = code_by (Extended × Extended) (coded× coded_end coded_end) (λ b. (b.lo, b.hi)) (λ p. record { lo = p.0; hi = p.1 }) (λ _. refl)

abbrev pub coded_box : Coded (List Bounds)
coded_box = coded_list coded_bounds

abbrev number : Gv → ℕ
number gnil = 0
number (gnum n) = n
number (gcons a b) = 0

abbrev front : Gv → Gv
front gnil = gnil
front (gnum n) = gnil
front (gcons a b) = a

abbrev back : Gv → Gv
back gnil = gnil
back (gnum n) = gnil
back (gcons a b) = b

abbrev pub code_tree : Tree → Gv
code_tree leaf = gcons (gnum 0) gnil
code_tree removed = gcons (gnum 1) gnil
code_tree (inner to) = gcons (gnum 2) (coded_box.code to)
code_tree (small to) = gcons (gnum 3) (coded_box.code to)
code_tree (cut to var at low high) =
    gcons (gnum 4) (gcons (coded_box.code to) (gcons (gnum var) (gcons (coded_end.code at) (gcons (code_tree low) (code_tree high)))))

pub code_tree-inj : (s t : Tree) → code_tree s ≡ code_tree t → s ≡ t
code_tree-inj leaf leaf p = refl
code_tree-inj removed removed p = refl
code_tree-inj (inner x) (inner y) p = ap inner (coded_box.inj x y (ap back p))
code_tree-inj (small x) (small y) p = ap small (coded_box.inj x y (ap back p))
code_tree-inj (cut x v a l h) (cut y w b m k) p = λ i.
    cut (coded_box.inj x y (ap (λ g. front (back g)) p) i)
    (ap (λ g. number (front (back (back g)))) p i)
    (coded_end.inj a b (ap (λ g. front (back (back (back g)))) p) i)
    (code_tree-inj l m (ap (λ g. front (back (back (back (back g))))) p) i)
    (code_tree-inj h k (ap (λ g. back (back (back (back (back g))))) p) i)
code_tree-inj leaf removed p = cc
code_tree-inj leaf (inner y) p = cc
code_tree-inj leaf (small y) p = cc
code_tree-inj leaf (cut y w b m k) p = cc
code_tree-inj removed leaf p = cc
code_tree-inj removed (inner y) p = cc
code_tree-inj removed (small y) p = cc
code_tree-inj removed (cut y w b m k) p = cc
code_tree-inj (inner x) leaf p = cc
code_tree-inj (inner x) removed p = cc
code_tree-inj (inner x) (small y) p = cc
code_tree-inj (inner x) (cut y w b m k) p = cc
code_tree-inj (small x) leaf p = cc
code_tree-inj (small x) removed p = cc
code_tree-inj (small x) (inner y) p = cc
code_tree-inj (small x) (cut y w b m k) p = cc
code_tree-inj (cut x v a l h) leaf p = cc
code_tree-inj (cut x v a l h) removed p = cc
code_tree-inj (cut x v a l h) (inner y) p = cc
code_tree-inj (cut x v a l h) (small y) p = cc

abbrev pub coded_tree : Coded Tree
coded_tree = record { code = code_tree; inj = code_tree-inj }

abbrev pub coded_seen : Coded Seen
coded_seen =
    code_by (List Bounds × (Tree × ℕ)) (coded× coded_box (coded× coded_tree coded_ℕ)) (λ s. (s.root, (s.tree, s.spare)))
    (λ p. record { root = p.0; tree = p.1.0; spare = p.1.1 }) (λ _. refl)

abbrev pub coded_path : Coded (List Bool)
coded_path = coded_list coded_bool

abbrev pub coded_piece : Coded Piece
coded_piece =
    code_by (List Bool × (List Bounds × Tree)) (coded× coded_path (coded× coded_box coded_tree)) (λ s. (s.path, (s.box, s.tree)))
    (λ p. record { path = p.0; box = p.1.0; tree = p.1.1 }) (λ _. refl)

abbrev pub coded_walked : Coded Walked
coded_walked =
    code_by (List Bounds × (Tree × (Piece × List Piece))) (coded× coded_box (coded× coded_tree (coded× coded_piece (coded_list coded_piece))))
    (λ s. (s.root, (s.tree, (s.here, s.pending))))
    (λ p. record { root = p.0; tree = p.1.0; here = p.1.1.0; pending = p.1.1.1 }) (λ _. refl)

abbrev pub coded_hole : Coded Hole
coded_hole = code_by (List Bool × List Bounds) (coded× coded_path coded_box) (λ s. (s.path, s.box)) (λ p. record { path = p.0; box = p.1 }) (λ _. refl)

abbrev pub coded_growing : Coded Growing
coded_growing =
    code_by (List Bounds × (Tree × List Hole)) (coded× coded_box (coded× coded_tree (coded_list coded_hole))) (λ s. (s.root, (s.tree, s.holes)))
    (λ p. record { root = p.0; tree = p.1.0; holes = p.1.1 }) (λ _. refl)
