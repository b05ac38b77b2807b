-- The first leaf of a growth, and the list of those to come.
use Rattle.std.proofs.Common.{◌≡◌, Bool, List, [], ◌∷◌, ◌++◌, map, refl, sym, ◌∙◌, ap, subst, arith, append_assoc}
use Rattle.pv_interval.specs.Bounds.{Bounds}
use Rattle.pv_box.specs.Boxes.{IsBox}
use Rattle.pv_tree.specs.Holes.{Growing, Hole, growth_over, pass_next, rest_of, IsNext}
use Rattle.pv_workers.specs.Leaves.{paths_of}

-- the first leaf of a growth is its box
pub next_at_root : (b : List Bounds) (g : Growing) → IsBox g.root → g ≡ growth_over b → IsNext g []
next_at_root b g h e = subst (λ (g : Growing). IsNext g []) (sym e) (record {
  hole = record { path = []; box = b };
  rest = [];
  is = refl;
  path = refl;
  is_leaf = refl;
  box = refl;
  dims = refl;
  is_box = subst IsBox (ap (λ (g : Growing). g.root) e) h;
  few = omega arith;
})

-- one leaf to come is listed, and passed
pub listed_more : (at : List Bool) (g new : Growing) (p q : List Bool) (items more all : List (List Bool)) → IsNext g p → new ≡ pass_next g → q ≡ at ++ p → more ≡ items ++ q ∷ []
    → items ++ map (λ x. at ++ x) (paths_of g.holes) ≡ all → more ++ map (λ x. at ++ x) (paths_of new.holes) ≡ all
listed_more at g new p q items more all n e f i h =
    let rest : new.holes ≡ n.rest = ap (λ (x : Growing). x.holes) e ∙ ap rest_of n.is in
    let first : at ++ n.hole.path ≡ q = ap (λ (x : List Bool). at ++ x) (sym n.path) ∙ sym f in
    (λ k. i k ++ map (λ (x : List Bool). at ++ x) (paths_of (rest k)))
    ∙ append_assoc items (q ∷ []) (map (λ (x : List Bool). at ++ x) (paths_of n.rest))
    ∙ ap (λ (y : List Bool). items ++ y ∷ map (λ (x : List Bool). at ++ x) (paths_of n.rest)) (sym first)
    ∙ ap (λ (hs : List Hole). items ++ map (λ (x : List Bool). at ++ x) (paths_of hs)) (sym n.is)
    ∙ h
