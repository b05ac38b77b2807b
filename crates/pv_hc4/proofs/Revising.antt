-- A revision as its definition, from a pass up and two walks down.
use Rattle.std.proofs.Common.{◌≡◌, ◌⊎◌, inl, inr, ℕ, ◌<◌, List, [], ◌∷◌, ◌++◌, length, refl, ap, sym, ◌∙◌, subst, get_or, arith}
use Rattle.std.specs.Prelude.{Option, Some, None}
use Rattle.std.proofs.lemmas.List.{get_or_read}
use Rattle.pv_interval.specs.Bounds.{Bounds, everything}
use Rattle.pv_expr.specs.declared.operators.BinaryOp.{BinaryOp}
use Rattle.pv_expr.specs.Terms.{Term, constant, place, one, two}
use Rattle.pv_expr.specs.Systems.{IsOver}
use Rattle.pv_hc4.specs.declared.node.Node.{Node}
use Rattle.pv_hc4.specs.declared.revised.Revised.{Revised}
use Rattle.pv_hc4.specs.Chain.{chain}
use Rattle.pv_hc4.specs.Forward.{forward_of, unary_of, binary_of}
use Rattle.pv_hc4.specs.Revise.{back_1, back_2, Target, joined, targets_of, applied, places_from, Sides, related_of, both_targets, revised, narrowed_of}
use Rattle.pv_hc4.specs.Nodes.{term_at, terms}
use Rattle.pv_hc4.specs.Building.{IsPart}
use Rattle.pv_hc4.specs.Graphs.{AreValues, IsGraph, IsAnswer, sides_of, Parts}
use Rattle.pv_hc4.specs.Pass.{IsEmptyPass}
use Rattle.pv_hc4.proofs.Downward.{chain_none}
use Rattle.pv_hc4.proofs.Places.{AreBelow, places_applied}
use Rattle.std.proofs.lemmas.Option.{same_Some}

-- what a step that gave something came from
pub record Came {A B : Type 0} (o : Option A) (f : A → Option B) (y : B) : Type 0 where
  pub from : A
  pub first : o ≡ Some from
  pub then_is : f from ≡ Some y

pub came : {A B : Type 0} (o : Option A) (f : A → Option B) (y : B) → chain o f ≡ Some y → Came o f y
came None f y e = absurd (cc)
came (Some x) f y e = record { from = x; first = refl; then_is = e }

none_two : (b : List Bounds) (o : BinaryOp) (t u : Term) → (forward_of b t ≡ None) ⊎ (forward_of b u ≡ None) → forward_of b (two o t u) ≡ None
none_two b o t u (inl e) = ap (λ x. chain x (λ x. chain (forward_of b u) (λ y. binary_of o x y))) e
none_two b o t u (inr e) = ap (λ y. chain (forward_of b t) (λ x. chain y (λ y. binary_of o x y))) e ∙ chain_none (forward_of b t)

pub part_none : (b : List Bounds) (s t : Term) → IsPart s t → forward_of b s ≡ None → forward_of b t ≡ None
part_none b s (constant p q) h e = ap (forward_of b) (sym h) ∙ e
part_none b s (place i) h e = ap (forward_of b) (sym h) ∙ e
part_none b s (one u t) (inl h) e = ap (forward_of b) (sym h) ∙ e
part_none b s (one u t) (inr h) e = ap (λ x. chain x (λ x. Some (unary_of u x))) (part_none b s t h e)
part_none b s (two o t u) (inl h) e = ap (forward_of b) (sym h) ∙ e
part_none b s (two o t u) (inr (inl h)) e = none_two b o t u (inl (part_none b s t h e))
part_none b s (two o t u) (inr (inr h)) e = none_two b o t u (inr (part_none b s u h e))

left_none : (s : Sides) (b : List Bounds) → forward_of b s.left ≡ None → revised s b ≡ None
left_none s b e = ap (λ o. chain o (λ x. chain (forward_of b s.right) (λ y. chain (related_of s.relation x y) (λ p. chain (both_targets b s p) (λ ts. places_from 0 ts b))))) e

right_none : (s : Sides) (b : List Bounds) → forward_of b s.right ≡ None → revised s b ≡ None
right_none s b e =
    ap (λ o. chain (forward_of b s.left) (λ x. chain o (λ y. chain (related_of s.relation x y) (λ p. chain (both_targets b s p) (λ ts. places_from 0 ts b))))) e
    ∙ chain_none (forward_of b s.left)

pub pass_none : (g : Parts) (b : List Bounds) → IsGraph g → IsEmptyPass b g.nodes → revised (sides_of g) b ≡ None
pass_none g b h p =
    elim (h.used p.node p.within) [
      | inl q ↦ left_none (sides_of g) b (part_none b (term_at (terms g.nodes) p.node) (term_at (terms g.nodes) g.left) q p.none)
      | inr q ↦ right_none (sides_of g) b (part_none b (term_at (terms g.nodes) p.node) (term_at (terms g.nodes) g.right) q p.none)
    ]

AreBelow-append : (n : ℕ) (xs ys : List Target) → AreBelow n xs → AreBelow n ys → AreBelow n (xs ++ ys)
AreBelow-append n [] ys h g = g
AreBelow-append n (x ∷ xs) ys h g = (h.0, AreBelow-append n xs ys h.1 g)

joined_below : (n : ℕ) (o p : Option (List Target)) (ts : List Target) → ((xs : List Target) → o ≡ Some xs → AreBelow n xs) → ((ys : List Target) → p ≡ Some ys → AreBelow n ys) → joined o p ≡ Some ts → AreBelow n ts
joined_below n None p ts f g e = absurd (cc)
joined_below n (Some xs) None ts f g e = absurd (cc)
joined_below n (Some xs) (Some ys) ts f g e = subst (AreBelow n) (same_Some (xs ++ ys) ts e) (AreBelow-append n xs ys (f xs refl) (g ys refl))

pub targets_below : (n : ℕ) (b : List Bounds) (t : Term) (z : Bounds) (ts : List Target) → IsOver n t → targets_of b t z ≡ Some ts → AreBelow n ts
targets_below n b (constant p q) z ts h e = subst (AreBelow n) (same_Some [] ts e) tt
targets_below n b (place i) z ts h e = subst (AreBelow n) (same_Some (record { var = i; within = z } ∷ []) ts e) (h, tt)
targets_below n b (one u t) z ts h e =
    let c = came (forward_of b t) (λ x. chain (back_1 u z x) (λ y. targets_of b t y)) ts e in
    let d = came (back_1 u z c.from) (λ y. targets_of b t y) ts c.then_is in
    targets_below n b t d.from ts h.1 d.then_is
targets_below n b (two o t u) z ts h e =
    let c = came (forward_of b t) (λ x. chain (forward_of b u) (λ y. chain (back_2 o z x y) (λ p. joined (targets_of b t p.0) (targets_of b u p.1)))) ts e in
    let d = came (forward_of b u) (λ y. chain (back_2 o z c.from y) (λ p. joined (targets_of b t p.0) (targets_of b u p.1))) ts c.then_is in
    let k = came (back_2 o z c.from d.from) (λ p. joined (targets_of b t p.0) (targets_of b u p.1)) ts d.then_is in
    joined_below n (targets_of b t k.from.0) (targets_of b u k.from.1) ts (λ xs. targets_below n b t k.from.0 xs h.0) (λ ys. targets_below n b u k.from.1 ys h.1) k.then_is

chain_below : (b : List Bounds) (o : Option (List Target)) → ((ts : List Target) → o ≡ Some ts → AreBelow (length b) ts) → chain o (λ ts. places_from 0 ts b) ≡ chain o (applied b)
chain_below b None h = refl
chain_below b (Some ts) h = places_applied ts b (h ts refl)

pub both_narrowed : (b : List Bounds) (s : Sides) (p : Bounds × Bounds) → IsOver (length b) s.left → IsOver (length b) s.right → chain (both_targets b s p) (λ ts. places_from 0 ts b) ≡ narrowed_of b s.left s.right p
both_narrowed b s p h g =
    chain_below b (both_targets b s p) (λ ts. joined_below (length b) (targets_of b s.left p.0) (targets_of b s.right p.1) ts
    (λ xs. targets_below (length b) b s.left p.0 xs h) (λ ys. targets_below (length b) b s.right p.1 ys g))

-- a revision, once the pass up has given both sides' intervals
pub revised_from : (s : Sides) (b : List Bounds) (x y : Bounds) (o : Option (Bounds × Bounds)) → forward_of b s.left ≡ Some x → forward_of b s.right ≡ Some y → o ≡ related_of s.relation x y → revised s b ≡ chain o (λ p. chain (both_targets b s p) (λ ts. places_from 0 ts b))
revised_from s b x y o f g e =
    ap (λ o. chain o (λ x. chain (forward_of b s.right) (λ y. chain (related_of s.relation x y) (λ p. chain (both_targets b s p) (λ ts. places_from 0 ts b))))) f
    ∙ ap (λ o. chain o (λ y. chain (related_of s.relation x y) (λ p. chain (both_targets b s p) (λ ts. places_from 0 ts b)))) g
    ∙ ap (λ o. chain o (λ p. chain (both_targets b s p) (λ ts. places_from 0 ts b))) (sym e)

pub side_value : (b : List Bounds) (ns : List Node) (vs : List Bounds) (k : ℕ) (x : Bounds) → AreValues b ns vs → k < length ns → x ≡ get_or vs k x → forward_of b (term_at (terms ns) k) ≡ Some x
side_value b ns vs k x av h x_is =
    let inside : k < length vs = omega (arith, av.same) in
    av.each k h ∙ ap Some (sym (get_or_read vs k x inside x_is everything))

pub answer_some : (g : Parts) (b new vs : List Bounds) (x y : Bounds) (o : Option (Bounds × Bounds)) (p : Bounds × Bounds) (r : Revised) → IsGraph g → g.dims ≡ length b → AreValues b g.nodes vs → x ≡ get_or vs g.left x → y ≡ get_or vs g.right y → o ≡ related_of g.relation x y → o ≡ Some p → IsAnswer (narrowed_of b (term_at (terms g.nodes) g.left) (term_at (terms g.nodes) g.right) p) r b new → IsAnswer (revised (sides_of g) b) r b new
answer_some g b new vs x y o p r h d av xe ye oe op a =
    let s = sides_of g in
    subst (λ w. IsAnswer w r b new)
    (sym (revised_from (sides_of g) b x y o (side_value b g.nodes vs g.left x av h.left_in xe) (side_value b g.nodes vs g.right y av h.right_in ye) oe
    ∙ ap (λ o. chain o (λ p. chain (both_targets b (sides_of g) p) (λ ts. places_from 0 ts b))) op
    ∙ both_narrowed b (sides_of g) p (subst (λ n. IsOver n (sides_of g).left) d h.left_over) (subst (λ n. IsOver n (sides_of g).right) d h.right_over)))
    a
