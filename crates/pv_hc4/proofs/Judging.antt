-- What a revision that tells what it saw says of the constraint.
use Rattle.std.proofs.Common.{◌≡◌, ℕ, zero, suc, ◌<◌, List, [], ◌∷◌, take, refl, ap, sym, ◌∙◌, get_or, arith}
use Rattle.std.specs.Prelude.{Some, Bool, true, false, ◌&&◌, All}
use Rattle.pv_interval.specs.Bounds.{Bounds, IsInterval}
use Rattle.pv_hc4.specs.Chain.{chain, at}
use Rattle.pv_hc4.specs.Forward.{forward_of}
use Rattle.pv_hc4.specs.Graphs.{AreValues, IsGraph, IsAnswer, Parts, sides_of}
use Rattle.pv_hc4.specs.Revise.{revised}
use Rattle.pv_hc4.specs.declared.revised.Revised.TheVariants.{Kept}
use Rattle.pv_hc4.specs.Totality.{total_of, ends_decide, decided, sure_of}
use Rattle.pv_hc4.specs.Pass.{IsTotality, IsEmptyPass}
use Rattle.pv_hc4.proofs.Revising.{side_value}
use Rattle.pv_hc4.proofs.Whole.{sure-keeps, kept_whole}
use Rattle.pv_hc4.proofs.Totals.{sides_total, sides_none}

pub and_right : (t : Bool) → (t && true) ≡ t
and_right true = refl
and_right false = refl

-- the sure test by the ends of a graph's sides and the totality of its terms
sure_by : (g : Parts) (b vs : List Bounds) (x y : Bounds) → IsGraph g → AreValues b g.nodes vs → x ≡ get_or vs g.left x → y ≡ get_or vs g.right y
    → sure_of (sides_of g) b ≡ ((total_of b (sides_of g).left && total_of b (sides_of g).right) && ends_decide g.relation x y)
sure_by g b vs x y h av xe ye =
    ap (λ o. decided g.relation (chain o (λ x. chain (forward_of b (sides_of g).right) (λ y. Some (record { left = x; right = y; total = total_of b (sides_of g).left && total_of b (sides_of g).right }))))) (side_value b g.nodes vs g.left x av h.left_in xe)
    ∙ ap (λ o. decided g.relation (chain o (λ y. Some (record { left = x; right = y; total = total_of b (sides_of g).left && total_of b (sides_of g).right })))) (side_value b g.nodes vs g.right y av h.right_in ye)

pub and_none : (t : Bool) → (t && false) ≡ false
and_none true = refl
and_none false = refl

pub sure_total : (g : Parts) (b vs : List Bounds) (x y : Bounds) (r : Bool) → IsGraph g → AreValues b g.nodes vs → x ≡ get_or vs g.left x → y ≡ get_or vs g.right y
    → ends_decide g.relation x y ≡ true → IsTotality b g.nodes r → r ≡ sure_of (sides_of g) b
sure_total g b vs x y r h av xe ye d t =
    let all = total_of b (sides_of g).left && total_of b (sides_of g).right in
    sides_total g b r h t ∙ sym (and_right all) ∙ ap (λ u. all && u) (sym d) ∙ sym (sure_by g b vs x y h av xe ye)

-- where a pass is empty the constraint is not sure
pub none_sure : (g : Parts) (b : List Bounds) → IsGraph g → IsEmptyPass b g.nodes → false ≡ sure_of (sides_of g) b
none_sure g b h p = ap (decided g.relation) (sides_none g b h p)

-- a constraint that is sure keeps the box
pub sure_kept : (g : Parts) (b : List Bounds) → IsGraph g → All IsInterval b → sure_of (sides_of g) b ≡ true → IsAnswer (revised (sides_of g) b) Kept b b
sure_kept g b h k e = kept_whole (revised (sides_of g) b) b (sure-keeps (sides_of g) g.dims b h.left_over h.right_over k e)

-- what is the same of two boxes up to a place
pub at_taken : (n k : ℕ) (a b : List Bounds) → take n a ≡ take n b → k < n → at a k ≡ at b k
at_taken zero k a b e h = absurd (omega arith)
at_taken (suc n) k [] [] e h = refl
at_taken (suc n) k [] (y ∷ b) e h = absurd (cc)
at_taken (suc n) k (x ∷ a) [] e h = absurd (cc)
at_taken (suc n) zero (x ∷ a) (y ∷ b) e h = cc
at_taken (suc n) (suc k) (x ∷ a) (y ∷ b) e h = let t : take n a ≡ take n b = cc in at_taken n k a b t (omega arith)
