-- The open leaves of a tree, and what a graft does to them.
use Rattle.std.proofs.Common.{◌≡◌, ℕ, suc, ◌+◌, ◌<◌, ◌≤◌, Bool, true, false, Some, List, [], ◌∷◌, ◌++◌, map, refl, ◌∙◌, ap, arith, subst}
use Rattle.pv_tree.specs.Trees.{Tree, leaf, removed, inner, small, cut, subtree, graft, opens}
use Rattle.pv_tree.specs.Stages.{Grows}
use Rattle.pv_tree.specs.declared.outcome.Outcome.TheVariants.{Removed, Inner, Small, Cut}
use Rattle.pv_tree.proofs.StageLaws.{IsCut, top_removed, top_inner, top_small, top_cut, grows_low, grows_high}
use Rattle.pv_board.specs.Marks.{weigh, at, times}
use Rattle.pv_board.specs.Rules.{settled_in}
use Rattle.pv_board.proofs.Paths.{weigh-append, weigh-map}

-- the open leaves of a cut, weighed side by side
pub weigh_cut : (f : List Bool → ℕ) (l r : Tree) → weigh f (map (λ p. false ∷ p) (opens l) ++ map (λ p. true ∷ p) (opens r)) ≡ weigh (λ p. f (false ∷ p)) (opens l) + weigh (λ p. f (true ∷ p)) (opens r)
weigh_cut f l r =
    let a = weigh-append f (map (λ (p : List Bool). false ∷ p) (opens l)) (map (λ (p : List Bool). true ∷ p) (opens r)) in
    let b = weigh-map f (λ (p : List Bool). false ∷ p) (opens l) in
    let c = weigh-map f (λ (p : List Bool). true ∷ p) (opens r) in
    omega (arith, a, b, c)

-- a graft takes an open leaf away, and brings the open leaves of what is grafted
pub graft_opens : (f : List Bool → ℕ) (t : Tree) (p : List Bool) (s : Tree) → subtree t p ≡ Some leaf
    → weigh f (opens (graft t p s)) + f p ≡ weigh f (opens t) + weigh (λ q. f (p ++ q)) (opens s)
graft_opens f leaf [] s e = omega arith
graft_opens f removed [] s e = cc
graft_opens f (inner to) [] s e = cc
graft_opens f (small to) [] s e = cc
graft_opens f (cut to v a l r) [] s e = cc
graft_opens f (cut to v a l r) (false ∷ p) s e =
    let h = graft_opens (λ (q : List Bool). f (false ∷ q)) l p s e in
    let x = weigh_cut f (graft l p s) r in let y = weigh_cut f l r in omega (arith, h, x, y)
graft_opens f (cut to v a l r) (true ∷ p) s e =
    let h = graft_opens (λ (q : List Bool). f (true ∷ q)) r p s e in
    let x = weigh_cut f l (graft r p s) in let y = weigh_cut f l r in omega (arith, h, x, y)
graft_opens f leaf (b ∷ p) s e = cc
graft_opens f removed (b ∷ p) s e = cc
graft_opens f (inner to) (b ∷ p) s e = cc
graft_opens f (small to) (b ∷ p) s e = cc

pub zero_low : (ps : List (List Bool)) → weigh (λ (p : List Bool). 0) ps ≡ 0
zero_low [] = refl
zero_low (p ∷ ps) = let r = zero_low ps in omega (arith, r)

pub cut_root : (x : List Bool) (l r : Tree) → x ≡ [] → times x (map (λ p. false ∷ p) (opens l) ++ map (λ p. true ∷ p) (opens r)) ≡ 0
cut_root [] l r e = let w = weigh_cut (λ (p : List Bool). at p [] 1) l r in let y = zero_low (opens l) in let z = zero_low (opens r) in omega (arith, w, y, z)
cut_root (b ∷ x) l r e = cc

pub cut_low : (q : List Bool) (l r : Tree) → times (false ∷ q) (map (λ p. false ∷ p) (opens l) ++ map (λ p. true ∷ p) (opens r)) ≡ times q (opens l)
cut_low q l r = let w = weigh_cut (λ (p : List Bool). at p (false ∷ q) 1) l r in let z = zero_low (opens r) in omega (arith, w, z)

pub cut_high : (q : List Bool) (l r : Tree) → times (true ∷ q) (map (λ p. false ∷ p) (opens l) ++ map (λ p. true ∷ p) (opens r)) ≡ times q (opens r)
cut_high q l r = let w = weigh_cut (λ (p : List Bool). at p (true ∷ q) 1) l r in let z = zero_low (opens l) in omega (arith, w, z)

-- an open leaf stands once among the open leaves
pub open_once : (t : Tree) (q : List Bool) → subtree t q ≡ Some leaf → times q (opens t) ≡ 1
open_once leaf [] e = refl
open_once removed [] e = cc
open_once (inner to) [] e = cc
open_once (small to) [] e = cc
open_once (cut to v a l r) [] e = cc
open_once (cut to v a l r) (false ∷ q) e = cut_low q l r ∙ open_once l q e
open_once (cut to v a l r) (true ∷ q) e = cut_high q l r ∙ open_once r q e
open_once leaf (b ∷ q) e = cc
open_once removed (b ∷ q) e = cc
open_once (inner to) (b ∷ q) e = cc
open_once (small to) (b ∷ q) e = cc

-- and nothing else does
pub once_open : (t : Tree) (q : List Bool) → 0 < times q (opens t) → subtree t q ≡ Some leaf
once_open leaf [] h = refl
once_open leaf (false ∷ q) h = absurd (omega arith)
once_open leaf (true ∷ q) h = absurd (omega arith)
once_open removed q h = absurd (omega arith)
once_open (inner to) q h = absurd (omega arith)
once_open (small to) q h = absurd (omega arith)
once_open (cut to v a l r) [] h = let w = cut_root [] l r refl in absurd (omega (arith, w))
once_open (cut to v a l r) (false ∷ q) h = let w = cut_low q l r in once_open l q (omega (arith, w))
once_open (cut to v a l r) (true ∷ q) h = let w = cut_high q l r in once_open r q (omega (arith, w))

pub once_most : (t : Tree) (q : List Bool) → times q (opens t) ≤ 1
once_most leaf [] = omega arith
once_most leaf (false ∷ q) = omega arith
once_most leaf (true ∷ q) = omega arith
once_most removed q = omega arith
once_most (inner to) q = omega arith
once_most (small to) q = omega arith
once_most (cut to v a l r) [] = let w = cut_root [] l r refl in omega (arith, w)
once_most (cut to v a l r) (false ∷ q) = let w = cut_low q l r in let h = once_most l q in omega (arith, w, h)
once_most (cut to v a l r) (true ∷ q) = let w = cut_high q l r in let h = once_most r q in omega (arith, w, h)

-- there is at most one open leaf more than settled nodes
pub few_opens : (t : Tree) → weigh (λ p. 1) (opens t) ≤ suc (settled_in t)
few_opens leaf = omega arith
few_opens removed = omega arith
few_opens (inner to) = omega arith
few_opens (small to) = omega arith
few_opens (cut to v a l r) =
    let w = weigh_cut (λ (p : List Bool). 1) l r in let x = few_opens l in let y = few_opens r in omega (arith, w, x, y)

-- a tree that grew has no fewer settled nodes
pub grows_settled : (s t : Tree) → Grows s t → settled_in s ≤ settled_in t
grows_settled leaf t h = omega arith
grows_settled removed t h = let e = ap settled_in (top_removed t (h [] Removed refl)) in omega (arith, e)
grows_settled (inner to) t h = let e = ap settled_in (top_inner t to (h [] (Inner to) refl)) in omega (arith, e)
grows_settled (small to) t h = let e = ap settled_in (top_small t to (h [] (Small to) refl)) in omega (arith, e)
grows_settled (cut to v a l r) t h =
    let c : IsCut t to v a = top_cut t to v a (h [] (Cut to v a) refl) in
    let g : Grows (cut to v a l r) (cut to v a c.low c.high) = subst (Grows (cut to v a l r)) c.is h in
    let low = grows_settled l c.low (grows_low to to v v a a l r c.low c.high g) in
    let high = grows_settled r c.high (grows_high to to v v a a l r c.low c.high g) in
    let e = ap settled_in c.is in omega (arith, low, high, e)
