-- The open leaves that a walk is still to meet.
use Rattle.std.proofs.Common.{◌≡◌, ℕ, suc, ◌+◌, ◌≤◌, Bool, true, false, Some, List, [], ◌∷◌, ◌++◌, map, append_assoc, append-nil, refl, sym, ◌∙◌, ap, arith}
use Rattle.pv_interval.specs.Bounds.{Bounds}
use Rattle.pv_tree.specs.Trees.{Tree, leaf, removed, inner, small, cut, opens, shape_of}
use Rattle.pv_tree.specs.Pieces.{Piece, Walked, walk_from, pieces_below, IsVisit, to_come}
use Rattle.pv_tree.specs.declared.outcome.Shape.{Shape}
use Rattle.pv_tree.specs.declared.outcome.Shape.TheVariants as shape
use Rattle.pv_scope.specs.Scopes.{picked}
use Rattle.pv_scope.proofs.Lists.{picked_first}
use Rattle.pv_board.proofs.Piling.{open_node}

abbrev pub ahead : List Piece → List (List Bool)
ahead [] = []
ahead (piece ∷ pieces) = map (λ q. piece.path ++ q) (opens piece.tree) ++ ahead pieces

map_same : (ps : List (List Bool)) → map (λ (q : List Bool). [] ++ q) ps ≡ ps
map_same [] = refl
map_same (p ∷ ps) = ap (λ (qs : List (List Bool)). p ∷ qs) (map_same ps)

map_step : (p : List Bool) (b : Bool) (qs : List (List Bool)) → map (λ (q : List Bool). (p ++ b ∷ []) ++ q) qs ≡ map (λ (q : List Bool). p ++ q) (map (λ (q : List Bool). b ∷ q) qs)
map_step p b [] = refl
map_step p b (q ∷ qs) = (λ i. append_assoc p (b ∷ []) q i ∷ map_step p b qs i)

map_both : (p : List Bool) (xs ys : List (List Bool)) → map (λ (q : List Bool). p ++ q) (xs ++ ys) ≡ map (λ (q : List Bool). p ++ q) xs ++ map (λ (q : List Bool). p ++ q) ys
map_both p [] ys = refl
map_both p (x ∷ xs) ys = ap (λ (qs : List (List Bool)). (p ++ x) ∷ qs) (map_both p xs ys)

-- the open leaves below a settled node are those below its children
ahead_below : (p : List Bool) (t : Tree) (rest : List Piece) → (shape_of (Some t) ≡ shape.OpenLeaf → ⊥) → ahead (pieces_below p t ++ rest) ≡ map (λ (q : List Bool). p ++ q) (opens t) ++ ahead rest
ahead_below p leaf rest ne = absurd (ne refl)
ahead_below p removed rest ne = refl
ahead_below p (inner to) rest ne = refl
ahead_below p (small to) rest ne = refl
ahead_below p (cut to v a l r) rest ne =
    (λ i. map_step p false (opens l) i ++ (map_step p true (opens r) i ++ ahead rest))
    ∙ sym (append_assoc (map (λ (q : List Bool). p ++ q) (map (λ (q : List Bool). false ∷ q) (opens l))) (map (λ (q : List Bool). p ++ q) (map (λ (q : List Bool). true ∷ q) (opens r))) (ahead rest))
    ∙ ap (λ (qs : List (List Bool)). qs ++ ahead rest) (sym (map_both p (map (λ (q : List Bool). false ∷ q) (opens l)) (map (λ (q : List Bool). true ∷ q) (opens r))))

pub all_ahead : (b : List Bounds) (t : Tree) → ahead (walk_from b t).pending ≡ opens t
all_ahead b t = append-nil (map (λ (q : List Bool). [] ++ q) (opens t)) ∙ map_same (opens t)

pub passed_settled : (old new : Walked) (s : Shape) → IsVisit old new s → (s ≡ shape.OpenLeaf → ⊥) → ahead new.pending ≡ ahead old.pending
passed_settled old new s v ne =
    ap ahead v.pending ∙ ahead_below new.here.path new.here.tree v.rest (λ e. ne (v.shape ∙ e)) ∙ sym (ap ahead v.was)

pub passed_leaf : (old new : Walked) (s : Shape) → IsVisit old new s → s ≡ shape.OpenLeaf → ahead old.pending ≡ new.here.path ∷ ahead new.pending
passed_leaf old new s v e =
    let is : new.here.tree ≡ leaf = open_node new.here.tree (sym v.shape ∙ e) in
    ap ahead v.was ∙ ap (λ (t : Tree). map (λ (q : List Bool). new.here.path ++ q) (opens t) ++ ahead v.rest) is
    ∙ (λ i. append-nil new.here.path i ∷ ahead v.rest)
    ∙ ap (λ (qs : List (List Bool)). new.here.path ∷ qs) (sym (ap ahead v.pending ∙ ap (λ (t : Tree). ahead (pieces_below new.here.path t ++ v.rest)) is))

-- one more leaf was taken, or not
pub taken : (test : ℕ → List Bool → Bool) (i j : ℕ) (p : List Bool) (items now before after all : List (List Bool)) → j ≡ suc i → now ≡ items ++ picked test i (p ∷ []) → before ≡ p ∷ after
    → items ++ picked test i before ≡ all → now ++ picked test j after ≡ all
taken test i j p items now before after all n e f h =
    ap (λ (k : ℕ). now ++ picked test k after) n
    ∙ ap (λ (qs : List (List Bool)). qs ++ picked test (suc i) after) e ∙ append_assoc items (picked test i (p ∷ [])) (picked test (suc i) after)
    ∙ ap (λ (qs : List (List Bool)). items ++ qs) (sym (picked_first test i p after) ∙ ap (picked test i) (sym f)) ∙ h

pub falls : (old new : Walked) (s : Shape) (number most : ℕ) → IsVisit old new s → number + to_come old.pending ≤ most → number + 1 + to_come new.pending ≤ most
falls old new s number most v h = let w = v.falls in omega (arith, w, h)

pub falls_past : (old new : Walked) (s : Shape) (number most : ℕ) → IsVisit old new s → number + to_come old.pending ≤ most → number + to_come new.pending ≤ most
falls_past old new s number most v h = let w = v.falls in omega (arith, w, h)
