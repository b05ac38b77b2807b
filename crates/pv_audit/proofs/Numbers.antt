-- The numbers of nodes in preorder.
use Rattle.std.proofs.Common.{◌≡◌, ℕ, suc, ◌+◌, ◌<◌, ◌≤◌, Bool, true, false, IsTrue, Some, List, [], ◌∷◌, ◌++◌, refl, ◌∙◌, ap, arith, subst}
use Rattle.pv_num.specs.Extended.{Extended}
use Rattle.pv_interval.specs.Bounds.{Bounds}
use Rattle.pv_tree.specs.Trees.{Tree, leaf, removed, inner, small, cut, subtree, precedes}
use Rattle.pv_tree.specs.Pieces.{Piece, pieces_below, children_of, all_nodes}
use Rattle.pv_tree.proofs.Pieces.{some_nodes, subtree_child}
use Rattle.pv_audit.specs.Reports.{number_of}

-- the number of a node, and of all below it, is less than that of all nodes
pub numbers_below : (t : Tree) (p : List Bool) (s : Tree) → subtree t p ≡ Some s → number_of t p + all_nodes s ≤ all_nodes t
numbers_below t [] s e = let w : t ≡ s = cc in let n : all_nodes t ≡ all_nodes s = ap all_nodes w in omega arith
numbers_below (cut to v a l r) (false ∷ p) s e = let below = numbers_below l p s e in omega arith
numbers_below (cut to v a l r) (true ∷ p) s e = let below = numbers_below r p s e in omega arith
numbers_below leaf (b ∷ p) s e = cc
numbers_below removed (b ∷ p) s e = cc
numbers_below (inner to) (b ∷ p) s e = cc
numbers_below (small to) (b ∷ p) s e = cc

pub number_less : (t : Tree) (p : List Bool) (s : Tree) → subtree t p ≡ Some s → number_of t p < all_nodes t
number_less t p s e = let below = numbers_below t p s e in let some = some_nodes s in omega arith

-- no two nodes have one number
pub one_number : (t : Tree) (p q : List Bool) (s u : Tree) → subtree t p ≡ Some s → subtree t q ≡ Some u → number_of t p ≡ number_of t q → p ≡ q
one_number t [] [] s u e f n = refl
one_number (cut to v a l r) [] (false ∷ q) s u e f n = absurd (omega (arith, n))
one_number (cut to v a l r) [] (true ∷ q) s u e f n = absurd (omega (arith, n))
one_number (cut to v a l r) (false ∷ p) [] s u e f n = absurd (omega (arith, n))
one_number (cut to v a l r) (true ∷ p) [] s u e f n = absurd (omega (arith, n))
one_number (cut to v a l r) (false ∷ p) (false ∷ q) s u e f n = ap (λ (x : List Bool). false ∷ x) (one_number l p q s u e f (omega (arith, n)))
one_number (cut to v a l r) (true ∷ p) (true ∷ q) s u e f n = ap (λ (x : List Bool). true ∷ x) (one_number r p q s u e f (omega (arith, n)))
one_number (cut to v a l r) (false ∷ p) (true ∷ q) s u e f n = let less = number_less l p s e in absurd (omega (arith, n))
one_number (cut to v a l r) (true ∷ p) (false ∷ q) s u e f n = let less = number_less l q u f in absurd (omega (arith, n))
one_number leaf (b ∷ p) q s u e f n = cc
one_number removed (b ∷ p) q s u e f n = cc
one_number (inner to) (b ∷ p) q s u e f n = cc
one_number (small to) (b ∷ p) q s u e f n = cc
one_number leaf [] (b ∷ q) s u e f n = cc
one_number removed [] (b ∷ q) s u e f n = cc
one_number (inner to) [] (b ∷ q) s u e f n = cc
one_number (small to) [] (b ∷ q) s u e f n = cc

-- what stands before in preorder has a lesser number
pub before_less : (t : Tree) (q p : List Bool) (s u : Tree) → subtree t q ≡ Some u → subtree t p ≡ Some s → IsTrue (precedes q p) → number_of t q < number_of t p
before_less t [] [] s u e f m = let w : false ≡ true = m in cc
before_less (cut to v a l r) [] (false ∷ p) s u e f m = omega arith
before_less (cut to v a l r) [] (true ∷ p) s u e f m = omega arith
before_less t (b ∷ q) [] s u e f m = let w : false ≡ true = m in cc
before_less (cut to v a l r) (false ∷ q) (false ∷ p) s u e f m = let less = before_less l q p s u e f m in omega arith
before_less (cut to v a l r) (true ∷ q) (true ∷ p) s u e f m = let less = before_less r q p s u e f m in omega arith
before_less (cut to v a l r) (false ∷ q) (true ∷ p) s u e f m = let less = number_less l q u e in omega arith
before_less (cut to v a l r) (true ∷ q) (false ∷ p) s u e f m = let w : false ≡ true = m in cc
before_less leaf q (b ∷ p) s u e f m = cc
before_less removed q (b ∷ p) s u e f m = cc
before_less (inner to) q (b ∷ p) s u e f m = cc
before_less (small to) q (b ∷ p) s u e f m = cc

number_child : (t : Tree) (p : List Bool) (c : Bool) (to : List Bounds) (v : ℕ) (a : Extended) (l r : Tree) → subtree t p ≡ Some (cut to v a l r) → number_of t (p ++ c ∷ []) ≡ number_of t p + number_of (cut to v a l r) (c ∷ [])
number_child t [] c to v a l r e = let w : t ≡ cut to v a l r = cc in let n : number_of t (c ∷ []) ≡ number_of (cut to v a l r) (c ∷ []) = ap (λ (x : Tree). number_of x (c ∷ [])) w in omega (arith, n)
number_child (cut x w b m n) (false ∷ p) c to v a l r e = let k = number_child m p c to v a l r e in omega (arith, k)
number_child (cut x w b m n) (true ∷ p) c to v a l r e = let k = number_child n p c to v a l r e in omega (arith, k)
number_child leaf (b ∷ p) c to v a l r e = cc
number_child removed (b ∷ p) c to v a l r e = cc
number_child (inner x) (b ∷ p) c to v a l r e = cc
number_child (small x) (b ∷ p) c to v a l r e = cc

-- The nodes to come have the numbers from n on.
abbrev pub AreNumbered : Tree → ℕ → List Piece → Type 0
AreNumbered t n [] = n ≡ all_nodes t
AreNumbered t n (piece ∷ pieces) =
    (number_of t piece.path ≡ n) × (subtree t piece.path ≡ Some piece.tree) × AreNumbered t (n + all_nodes piece.tree) pieces

-- a step of the walk
step_below : (t : Tree) (n : ℕ) (p : List Bool) (s : Tree) (rest : List Piece) → number_of t p ≡ n → subtree t p ≡ Some s → AreNumbered t (n + all_nodes s) rest
    → AreNumbered t (n + 1) (pieces_below p s ++ rest)
step_below t n p leaf rest e f k = k
step_below t n p removed rest e f k = k
step_below t n p (inner to) rest e f k = k
step_below t n p (small to) rest e f k = k
step_below t n p (cut to v a l r) rest e f k =
    let low : number_of t (p ++ false ∷ []) ≡ n + 1 = number_child t p false to v a l r f ∙ (let w : number_of t p + 1 ≡ n + 1 = omega (arith, e) in w) in
    let high : number_of t (p ++ true ∷ []) ≡ n + 1 + all_nodes l =
    number_child t p true to v a l r f ∙ (let w : number_of t p + suc (all_nodes l + 0) ≡ n + 1 + all_nodes l = omega (arith, e) in w) in
    let all : n + all_nodes (cut to v a l r) ≡ n + 1 + all_nodes l + all_nodes r = omega arith in
    (low, subtree_child t p false to v a l r f, (high, subtree_child t p true to v a l r f, subst (λ (m : ℕ). AreNumbered t m rest) all k))

pub numbers_on : (t : Tree) (n : ℕ) (piece : Piece) (rest : List Piece) → AreNumbered t n (piece ∷ rest) → AreNumbered t (n + 1) (children_of piece ++ rest)
numbers_on t n piece rest k = step_below t n piece.path piece.tree rest k.0 k.1 k.2
