-- Open leaves, the last first.
use Rattle.std.proofs.Common.{◌≡◌, ℕ, suc, ◌+◌, ◌<◌, ◌≤◌, Bool, true, false, Option, Some, List, [], ◌∷◌, ◌++◌, map, length, refl, sym, ◌∙◌, ap, arith, append_assoc, append-nil}
use Rattle.std.specs.Prelude.{reverse}
use Rattle.std.proofs.lemmas.List.{reverse-append}
use Rattle.pv_num.specs.Extended.{Extended}
use Rattle.pv_interval.specs.Bounds.{Bounds}
use Rattle.pv_tree.specs.Trees.{Tree, leaf, removed, inner, small, cut, subtree, opens, height, shape_of}
use Rattle.pv_tree.specs.declared.outcome.Shape.{Shape}
use Rattle.pv_tree.specs.declared.outcome.Shape.TheVariants as shape
use Rattle.pv_join.proofs.JoinFacts.{subtree_low, subtree_high, cut_height}
use Rattle.pv_board.specs.Marks.{weigh}
use Rattle.pv_board.specs.Events.{leaves_at}
use Rattle.pv_board.specs.Piles.{piled, CanPile, is_cut_shape}
use Rattle.pv_board.proofs.Paths.{weigh-append, weigh-ones}
use Rattle.pv_board.proofs.Growth.{weigh_cut}

pub record IsCutNode (t : Tree) : Type 0 where
  pub to : List Bounds
  pub var : ℕ
  pub at : Extended
  pub low : Tree
  pub high : Tree
  pub is : t ≡ cut to var at low high

pub cut_node : (t : Tree) → is_cut_shape (shape_of (Some t)) ≡ true → IsCutNode t
cut_node leaf e = cc
cut_node removed e = cc
cut_node (inner to) e = cc
cut_node (small to) e = cc
cut_node (cut to v a l r) e = record { to = to; var = v; at = a; low = l; high = r; is = refl }

pub open_node : (t : Tree) → shape_of (Some t) ≡ shape.OpenLeaf → t ≡ leaf
open_node leaf e = refl
open_node removed e = cc
open_node (inner to) e = cc
open_node (small to) e = cc
open_node (cut to v a l r) e = cc

pub same_part : (o : Option Tree) (s t : Tree) → o ≡ Some s → o ≡ Some t → s ≡ t
same_part o s t e f = let w : Some s ≡ Some t = sym e ∙ f in cc

pub node_shape : (t : Tree) (p : List Bool) (s : Tree) (x : Shape) → subtree t p ≡ Some s → x ≡ shape_of (subtree t p) → x ≡ shape_of (Some s)
node_shape t p s x e f = f ∙ ap shape_of e

pub length_app : (p : List Bool) (b : Bool) → length (p ++ b ∷ []) ≡ suc (length p)
length_app [] b = refl
length_app (c ∷ p) b = ap suc (length_app p b)

-- the leaves of a cut are those of its children
pub opens_count : (to : List Bounds) (v : ℕ) (a : Extended) (l r : Tree) → length (opens (cut to v a l r)) ≡ length (opens l) + length (opens r)
opens_count to v a l r =
    let w = weigh_cut (λ (q : List Bool). 1) l r in let x = weigh-ones (opens (cut to v a l r)) in let y = weigh-ones (opens l) in let z = weigh-ones (opens r) in omega (arith, w, x, y, z)

pub pile_count : (p : List Bool) (t : Tree) → length (piled p t) ≡ length (opens t)
pile_count p leaf = refl
pile_count p removed = refl
pile_count p (inner to) = refl
pile_count p (small to) = refl
pile_count p (cut to v a l r) =
    let x = pile_count (p ++ true ∷ []) r in let y = pile_count (p ++ false ∷ []) l in let c = opens_count to v a l r in
    let s = append_length (piled (p ++ true ∷ []) r) (piled (p ++ false ∷ []) l) in omega (arith, x, y, c, s)
  where
    append_length : (xs ys : List (List Bool)) → length (xs ++ ys) ≡ length xs + length ys
    append_length [] ys = omega arith
    append_length (x ∷ xs) ys = let r = append_length xs ys in omega (arith, r)

pub can_high : (t : Tree) (path at : List Bool) (len room : ℕ) (h : CanPile t path at len room) (k : IsCutNode h.part) → CanPile t (path ++ true ∷ []) (at ++ true ∷ []) len room
can_high t path at len room h k =
    let d = h.depth in let e = ap height k.is in let s = length_app at true in
    let f = h.fits in let n = ap (λ (z : Tree). length (opens z)) k.is ∙ opens_count k.to k.var k.at k.low k.high in
    record { part = k.high; is = subtree_high t path k.to k.var k.at k.low k.high (h.is ∙ ap (λ (z : Tree). Some z) k.is); depth = omega (arith, d, e, s); fits = omega (arith, f, n) }

pub can_low : (t : Tree) (path at : List Bool) (len room : ℕ) (h : CanPile t path at len room) (k : IsCutNode h.part) (len' room' : ℕ) → len' ≡ len + length (opens k.high) → room' ≡ room → CanPile t (path ++ false ∷ []) (at ++ false ∷ []) len' room'
can_low t path at len room h k len' room' el er =
    let d = h.depth in let e = ap height k.is in let s = length_app at false in
    let f = h.fits in let n = ap (λ (z : Tree). length (opens z)) k.is ∙ opens_count k.to k.var k.at k.low k.high in
    record { part = k.low; is = subtree_low t path k.to k.var k.at k.low k.high (h.is ∙ ap (λ (z : Tree). Some z) k.is); depth = omega (arith, d, e, s); fits = omega (arith, f, n, el, er) }

pub high_there : (t : Tree) (path at : List Bool) (len room : ℕ) (h : CanPile t path at len room) (k : IsCutNode h.part) → subtree t (path ++ true ∷ []) ≡ Some k.high
high_there t path at len room h k = subtree_high t path k.to k.var k.at k.low k.high (h.is ∙ ap (λ (z : Tree). Some z) k.is)

pub low_there : (t : Tree) (path at : List Bool) (len room : ℕ) (h : CanPile t path at len room) (k : IsCutNode h.part) → subtree t (path ++ false ∷ []) ≡ Some k.low
low_there t path at len room h k = subtree_low t path k.to k.var k.at k.low k.high (h.is ∙ ap (λ (z : Tree). Some z) k.is)

pub short_cut : (t : Tree) (path at : List Bool) (len room : ℕ) (h : CanPile t path at len room) (k : IsCutNode h.part) → height t ≤ 200 → length path < 200
short_cut t path at len room h k few = let c = cut_height t path k.to k.var k.at k.low k.high (h.is ∙ ap (λ (z : Tree). Some z) k.is) in omega (arith, c, few)

pub short_at : (t : Tree) (path at : List Bool) (len room : ℕ) (h : CanPile t path at len room) (k : IsCutNode h.part) → length at < 200
short_at t path at len room h k = let d = h.depth in let e = ap height k.is in omega (arith, d, e)

pub append_count : (xs ys zs : List (List Bool)) → zs ≡ xs ++ ys → length zs ≡ length xs + length ys
append_count xs ys zs e = ap length e ∙ go xs ys
  where
    go : (xs ys : List (List Bool)) → length (xs ++ ys) ≡ length xs + length ys
    go [] ys = omega arith
    go (x ∷ xs) ys = let r = go xs ys in omega (arith, r)

-- a pile weighs what the open leaves weigh
pub pile_weighs : (f : List Bool → ℕ) (p : List Bool) (t : Tree) → weigh f (piled p t) ≡ weigh (λ q. f (p ++ q)) (opens t)
pile_weighs f p leaf = let e = ap f (append-nil p) in omega (arith, e)
pile_weighs f p removed = refl
pile_weighs f p (inner to) = refl
pile_weighs f p (small to) = refl
pile_weighs f p (cut to v a l r) =
    let x = pile_weighs f (p ++ true ∷ []) r in let y = pile_weighs f (p ++ false ∷ []) l in
    let s = weigh-append f (piled (p ++ true ∷ []) r) (piled (p ++ false ∷ []) l) in
    let w = weigh_cut (λ (q : List Bool). f (p ++ q)) l r in
    let i = same_weights (λ (q : List Bool). f ((p ++ true ∷ []) ++ q)) (λ (q : List Bool). f (p ++ true ∷ q)) (λ q. ap f (append_assoc p (true ∷ []) q)) (opens r) in
    let j = same_weights (λ (q : List Bool). f ((p ++ false ∷ []) ++ q)) (λ (q : List Bool). f (p ++ false ∷ q)) (λ q. ap f (append_assoc p (false ∷ []) q)) (opens l) in
    omega (arith, x, y, s, w, i, j)
  where
    same_weights : (f g : List Bool → ℕ) → ((q : List Bool) → f q ≡ g q) → (ps : List (List Bool)) → weigh f ps ≡ weigh g ps
    same_weights f g h [] = refl
    same_weights f g h (q ∷ ps) = let r = same_weights f g h ps in let e = h q in omega (arith, r, e)

pub can_at : (t : Tree) (path path' at at' : List Bool) (len room : ℕ) → path' ≡ path → at' ≡ at → CanPile t path at len room → CanPile t path' at' len room
can_at t path path' at at' len room e f h = record { part = h.part; is = ap (subtree t) e ∙ h.is; depth = let d = h.depth in let g = ap length f in omega (arith, d, g); fits = h.fits }

pub piled_cut : (at up down : List Bool) (old mid new : List (List Bool)) (part s : Tree) (k : IsCutNode part) → s ≡ part → up ≡ at ++ true ∷ [] → down ≡ at ++ false ∷ [] → mid ≡ old ++ piled up k.high → new ≡ mid ++ piled down k.low → new ≡ old ++ piled at s
piled_cut at up down old mid new part s k e u d m n =
    n ∙ ap (λ (xs : List (List Bool)). xs ++ piled down k.low) m ∙ append_assoc old (piled up k.high) (piled down k.low)
    ∙ (λ i. old ++ (piled (u i) k.high ++ piled (d i) k.low)) ∙ ap (λ (z : Tree). old ++ piled at z) (sym k.is ∙ sym e)

map_map : (p : List Bool) (b : Bool) (qs : List (List Bool)) → map (λ q. p ++ q) (map (λ q. b ∷ q) qs) ≡ map (λ q. (p ++ b ∷ []) ++ q) qs
map_map p b [] = refl
map_map p b (q ∷ qs) = λ i. sym (append_assoc p (b ∷ []) q) i ∷ map_map p b qs i

map_two : (p : List Bool) (xs ys : List (List Bool)) → map (λ q. p ++ q) (xs ++ ys) ≡ map (λ q. p ++ q) xs ++ map (λ q. p ++ q) ys
map_two p [] ys = refl
map_two p (x ∷ xs) ys = ap (λ zs. (p ++ x) ∷ zs) (map_two p xs ys)

-- turned round they are the open leaves in preorder
pub piled_back : (p : List Bool) (t : Tree) → reverse (piled p t) ≡ leaves_at p t
piled_back p leaf = ap (λ q. q ∷ []) (sym (append-nil p))
piled_back p removed = refl
piled_back p (inner to) = refl
piled_back p (small to) = refl
piled_back p (cut to v a l r) =
    reverse-append (piled (p ++ true ∷ []) r) (piled (p ++ false ∷ []) l)
    ∙ (λ i. piled_back (p ++ false ∷ []) l i ++ piled_back (p ++ true ∷ []) r i)
    ∙ (λ i. sym (map_map p false (opens l)) i ++ sym (map_map p true (opens r)) i)
    ∙ sym (map_two p (map (λ (q : List Bool). false ∷ q) (opens l)) (map (λ (q : List Bool). true ∷ q) (opens r)))
