-- Laws of the nodes that a walk meets and of the leaves that a growth is given.
use Rattle.std.proofs.Common.{◌≡◌, ℕ, ◌+◌, ◌<◌, Bool, true, false, Some, None, List, [], ◌∷◌, ◌++◌, refl, sym, ◌∙◌, ap, arith}
use Rattle.pv_num.specs.Extended.{Extended}
use Rattle.pv_interval.specs.Bounds.{Bounds}
use Rattle.pv_box.specs.Boxes.{lower_half, upper_half}
use Rattle.pv_tree.specs.Trees.{Tree, leaf, removed, inner, small, cut, subtree, graft, settled, box_of}
use Rattle.pv_tree.specs.Pieces.{Piece, pieces_below, all_nodes, to_come}
use Rattle.pv_tree.specs.Holes.{Hole, holes_below, fill}
use Rattle.pv_tree.specs.declared.outcome.Outcome.TheVariants.{Removed, Inner, Small, Cut}

pub some_nodes : (t : Tree) → 0 < all_nodes t
some_nodes leaf = omega arith
some_nodes removed = omega arith
some_nodes (inner to) = omega arith
some_nodes (small to) = omega arith
some_nodes (cut to v a l r) = omega arith

-- what is to come after a step
pub to_come-step : (p : List Bool) (t : Tree) (rest : List Piece) → to_come (pieces_below p t ++ rest) + 1 ≡ all_nodes t + to_come rest
to_come-step p leaf rest = omega arith
to_come-step p removed rest = omega arith
to_come-step p (inner to) rest = omega arith
to_come-step p (small to) rest = omega arith
to_come-step p (cut to v a l r) rest = omega arith

pub subtree_child : (t : Tree) (p : List Bool) (c : Bool) (to : List Bounds) (v : ℕ) (a : Extended) (l r : Tree) → subtree t p ≡ Some (cut to v a l r) → subtree t (p ++ c ∷ []) ≡ subtree (cut to v a l r) (c ∷ [])
subtree_child t [] c to v a l r e = let w : t ≡ cut to v a l r = cc in ap (λ (x : Tree). subtree x (c ∷ [])) w
subtree_child (cut x w b m n) (false ∷ p) c to v a l r e = subtree_child m p c to v a l r e
subtree_child (cut x w b m n) (true ∷ p) c to v a l r e = subtree_child n p c to v a l r e
subtree_child leaf (b ∷ p) c to v a l r e = cc
subtree_child removed (b ∷ p) c to v a l r e = cc
subtree_child (inner x) (b ∷ p) c to v a l r e = cc
subtree_child (small x) (b ∷ p) c to v a l r e = cc

-- a graft into what was grafted
pub graft_in : (t : Tree) (p : List Bool) (s : Tree) (q : List Bool) (u : Tree) → graft (graft t p s) (p ++ q) u ≡ graft t p (graft s q u)
graft_in t [] s q u = refl
graft_in (cut to v a l r) (false ∷ p) s q u = ap (λ (x : Tree). cut to v a x r) (graft_in l p s q u)
graft_in (cut to v a l r) (true ∷ p) s q u = ap (λ (x : Tree). cut to v a l x) (graft_in r p s q u)
graft_in leaf (b ∷ p) s q u = refl
graft_in removed (b ∷ p) s q u = refl
graft_in (inner to) (b ∷ p) s q u = refl
graft_in (small to) (b ∷ p) s q u = refl

pub graft_cut : (t : Tree) (p : List Bool) (to : List Bounds) (v : ℕ) (a : Extended) (l r : Tree) → graft (graft (graft t p (cut to v a leaf leaf)) (p ++ false ∷ []) l) (p ++ true ∷ []) r ≡ graft t p (cut to v a l r)
graft_cut t p to v a l r =
    ap (λ (x : Tree). graft x (p ++ true ∷ []) r) (graft_in t p (cut to v a leaf leaf) (false ∷ []) l) ∙ graft_in t p (cut to v a l leaf) (true ∷ []) r

-- what a growth fills is the same before and after a leaf is settled
pub fill_removed : (t : Tree) (hole : Hole) (holes : List Hole) (ss : List Tree) → fill t (hole ∷ holes) (removed ∷ ss) ≡ fill (graft t hole.path (settled Removed)) (holes_below hole Removed ++ holes) ss
fill_removed t hole holes ss = refl

pub fill_inner : (t : Tree) (hole : Hole) (holes : List Hole) (to : List Bounds) (ss : List Tree) → fill t (hole ∷ holes) (inner to ∷ ss) ≡ fill (graft t hole.path (settled (Inner to))) (holes_below hole (Inner to) ++ holes) ss
fill_inner t hole holes to ss = refl

pub fill_small : (t : Tree) (hole : Hole) (holes : List Hole) (to : List Bounds) (ss : List Tree) → fill t (hole ∷ holes) (small to ∷ ss) ≡ fill (graft t hole.path (settled (Small to))) (holes_below hole (Small to) ++ holes) ss
fill_small t hole holes to ss = refl

pub fill_cut : (t : Tree) (hole : Hole) (holes : List Hole) (to : List Bounds) (v : ℕ) (a : Extended) (l r : Tree) (ss : List Tree) → fill t (hole ∷ holes) (cut to v a l r ∷ ss) ≡ fill (graft t hole.path (settled (Cut to v a))) (holes_below hole (Cut to v a) ++ holes) (l ∷ r ∷ ss)
fill_cut t hole holes to v a l r ss = ap (λ (x : Tree). fill x holes ss) (sym (graft_cut t hole.path to v a l r))

-- a leaf that is there and open stays so when it is passed
pub graft_leaf : (t : Tree) (p : List Bool) → subtree t p ≡ Some leaf → graft t p leaf ≡ t
graft_leaf t [] e = let w : t ≡ leaf = cc in sym w
graft_leaf (cut to v a l r) (false ∷ p) e = ap (λ (x : Tree). cut to v a x r) (graft_leaf l p e)
graft_leaf (cut to v a l r) (true ∷ p) e = ap (λ (x : Tree). cut to v a l x) (graft_leaf r p e)
graft_leaf leaf (b ∷ p) e = cc
graft_leaf removed (b ∷ p) e = cc
graft_leaf (inner to) (b ∷ p) e = cc
graft_leaf (small to) (b ∷ p) e = cc

pub fill_open : (t : Tree) (hole : Hole) (holes : List Hole) (ss : List Tree) → subtree t hole.path ≡ Some leaf → fill t (hole ∷ holes) (leaf ∷ ss) ≡ fill t holes ss
fill_open t hole holes ss e = ap (λ (x : Tree). fill x holes ss) (graft_leaf t hole.path e)

-- the boxes of nodes stay where a leaf was grafted on
pub graft_box : (b : List Bounds) (t : Tree) (p q : List Bool) (s u : Tree) → subtree t p ≡ Some leaf → subtree t q ≡ Some u → box_of b (graft t p s) q ≡ box_of b t q
graft_box b t p [] s u e f = refl
graft_box b t [] (c ∷ q) s u e f = let w : t ≡ leaf = cc in let k : None ≡ Some u = sym (ap (λ (x : Tree). subtree x (c ∷ q)) w) ∙ f in cc
graft_box b (cut to v a l r) (false ∷ p) (false ∷ q) s u e f = graft_box (lower_half to v a) l p q s u e f
graft_box b (cut to v a l r) (false ∷ p) (true ∷ q) s u e f = refl
graft_box b (cut to v a l r) (true ∷ p) (false ∷ q) s u e f = refl
graft_box b (cut to v a l r) (true ∷ p) (true ∷ q) s u e f = graft_box (upper_half to v a) r p q s u e f
graft_box b leaf (x ∷ p) (c ∷ q) s u e f = refl
graft_box b removed (x ∷ p) (c ∷ q) s u e f = refl
graft_box b (inner to) (x ∷ p) (c ∷ q) s u e f = refl
graft_box b (small to) (x ∷ p) (c ∷ q) s u e f = refl
