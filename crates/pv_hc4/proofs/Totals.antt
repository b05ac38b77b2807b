-- Divisors, node by node.
use Rattle.std.proofs.Common.{◌≡◌, inl, inr, ℕ, ◌+◌, ◌<◌, List, length, refl, ap, sym, ◌∙◌, arith, get_or, below_more}
use Rattle.std.specs.Prelude.{Some, None, Bool, true, false, ◌&&◌}
use Rattle.pv_interval.specs.Bounds.{Bounds}
use Rattle.pv_expr.specs.Terms.{Term, constant, place, one, two}
use Rattle.pv_hc4.specs.declared.node.Node.{Node}
use Rattle.pv_hc4.specs.declared.node.Node.TheVariants.{Constant, Place, One, Two}
use Rattle.pv_hc4.specs.Chain.{at, chain}
use Rattle.pv_hc4.specs.Forward.{forward_of}
use Rattle.pv_hc4.specs.Nodes.{term_at, node_at, node_term, terms, AreOrdered, ReadsBelow}
use Rattle.pv_hc4.specs.Building.{IsPart}
use Rattle.pv_hc4.specs.Graphs.{AreValues, IsGraph, Parts, sides_of}
use Rattle.pv_hc4.specs.Totality.{total_of, divides_well, forward_sides}
use Rattle.pv_hc4.specs.Pass.{node_divides_well, IsPartial, IsTotality, IsEmptyPass}
use Rattle.pv_hc4.proofs.Downward.{chain_none}
use Rattle.pv_hc4.proofs.Revising.{part_none, side_value}
use Rattle.pv_hc4.proofs.Growth.{term_step}
use Rattle.pv_hc4.proofs.Passing.{node_default}

pub and_true : (a b c : Bool) → a ≡ true → b ≡ true → c ≡ true → (a && (b && c)) ≡ true
and_true a b c e f g = ap (λ x. x && (b && c)) e ∙ ap (λ x. x && c) f ∙ g

pub and_last : (a b c : Bool) → c ≡ false → (a && (b && c)) ≡ false
and_last true true c h = h
and_last true false c h = refl
and_last false b c h = refl

-- a node's term is total where those that it reads are, and it divides well
node_total : (b : List Bounds) (ts : List Term) (vs : List Bounds) (i : ℕ) (n : Node) → ReadsBelow i n → ((k : ℕ) → k < i → forward_of b (term_at ts k) ≡ Some (at vs k)) → ((k : ℕ) → k < i → total_of b (term_at ts k) ≡ true) → node_divides_well vs n ≡ true → total_of b (node_term ts n) ≡ true
node_total b ts vs i (Constant p q) r f h e = refl
node_total b ts vs i (Place j) r f h e = refl
node_total b ts vs i (One o a) r f h e = h a r
node_total b ts vs i (Two o a c) r f h e =
    and_true (total_of b (term_at ts a)) (total_of b (term_at ts c)) (divides_well o (forward_of b (term_at ts c))) (h a r.0) (h c r.1)
    (ap (divides_well o) (f c r.1) ∙ e)

node_partial : (b : List Bounds) (ts : List Term) (vs : List Bounds) (i : ℕ) (n : Node) → ReadsBelow i n → ((k : ℕ) → k < i → forward_of b (term_at ts k) ≡ Some (at vs k)) → node_divides_well vs n ≡ false → total_of b (node_term ts n) ≡ false
node_partial b ts vs i (Constant p q) r f e = absurd (cc)
node_partial b ts vs i (Place j) r f e = absurd (cc)
node_partial b ts vs i (One o a) r f e = absurd (cc)
node_partial b ts vs i (Two o a c) r f e =
    and_last (total_of b (term_at ts a)) (total_of b (term_at ts c)) (divides_well o (forward_of b (term_at ts c)))
    (ap (divides_well o) (f c r.1) ∙ e)

earlier : (b : List Bounds) (ns : List Node) (vs : List Bounds) (i : ℕ) → AreValues b ns vs → i < length ns → (k : ℕ) → k < i → forward_of b (term_at (terms ns) k) ≡ Some (at vs k)
earlier b ns vs i av h k less = av.each k (omega arith)

pub total_more : (b : List Bounds) (ns : List Node) (vs : List Bounds) (d i : ℕ) (e : Node) (r : Bool) → AreOrdered ns d → AreValues b ns vs → i < length ns → ((k : ℕ) → k < i → total_of b (term_at (terms ns) k) ≡ true) → r ≡ node_divides_well vs (get_or ns i e) → r ≡ true → (k : ℕ) → k < i + 1 → total_of b (term_at (terms ns) k) ≡ true
total_more b ns vs d i e r o av h t r_is r_true =
    below_more (λ k. total_of b (term_at (terms ns) k) ≡ true) i t
    (ap (total_of b) (term_step ns i h (o.reads i h))
    ∙ node_total b (terms ns) vs i (node_at ns i) (o.reads i h) (earlier b ns vs i av h) t
    (sym (ap (node_divides_well vs) (node_default ns i e h)) ∙ sym r_is ∙ r_true))

pub partial_here : (b : List Bounds) (ns : List Node) (vs : List Bounds) (d i : ℕ) (e : Node) (r : Bool) → AreOrdered ns d → AreValues b ns vs → i < length ns → r ≡ node_divides_well vs (get_or ns i e) → r ≡ false → IsPartial b ns
partial_here b ns vs d i e r o av h r_is r_false = record {
  node = i;
  within = h;
  is = ap (total_of b) (term_step ns i h (o.reads i h))
      ∙ node_partial b (terms ns) vs i (node_at ns i) (o.reads i h) (earlier b ns vs i av h)
      (sym (ap (node_divides_well vs) (node_default ns i e h)) ∙ sym r_is ∙ r_false);
}

and_first : (a c : Bool) → a ≡ false → (a && c) ≡ false
and_first a c e = ap (λ x. x && c) e

pub and_second : (a c : Bool) → c ≡ false → (a && c) ≡ false
and_second true c e = e
and_second false c e = refl

pub part_partial : (b : List Bounds) (s t : Term) → IsPart s t → total_of b s ≡ false → total_of b t ≡ false
part_partial b s (constant p q) h e = ap (total_of b) (sym h) ∙ e
part_partial b s (place i) h e = ap (total_of b) (sym h) ∙ e
part_partial b s (one u t) (inl h) e = ap (total_of b) (sym h) ∙ e
part_partial b s (one u t) (inr h) e = part_partial b s t h e
part_partial b s (two o t u) (inl h) e = ap (total_of b) (sym h) ∙ e
part_partial b s (two o t u) (inr (inl h)) e = and_first (total_of b t) (total_of b u && divides_well o (forward_of b u)) (part_partial b s t h e)
part_partial b s (two o t u) (inr (inr h)) e = and_second (total_of b t) (total_of b u && divides_well o (forward_of b u)) (and_first (total_of b u) (divides_well o (forward_of b u)) (part_partial b s u h e))

-- the pass over the nodes tells whether both sides are total
pub sides_total : (g : Parts) (b : List Bounds) (r : Bool) → IsGraph g → IsTotality b g.nodes r → r ≡ (total_of b (term_at (terms g.nodes) g.left) && total_of b (term_at (terms g.nodes) g.right))
sides_total g b true h t = sym (ap (λ x. x && total_of b (term_at (terms g.nodes) g.right)) (t g.left h.left_in) ∙ t g.right h.right_in)
sides_total g b false h p =
    sym (elim (h.used p.node p.within) [
      | inl q ↦ and_first (total_of b (term_at (terms g.nodes) g.left)) (total_of b (term_at (terms g.nodes) g.right)) (part_partial b (term_at (terms g.nodes) p.node) (term_at (terms g.nodes) g.left) q p.is)
      | inr q ↦ and_second (total_of b (term_at (terms g.nodes) g.left)) (total_of b (term_at (terms g.nodes) g.right)) (part_partial b (term_at (terms g.nodes) p.node) (term_at (terms g.nodes) g.right) q p.is)
    ])

pub sides_none : (g : Parts) (b : List Bounds) → IsGraph g → IsEmptyPass b g.nodes → None ≡ forward_sides (sides_of g) b
sides_none g b h p =
    sym (elim (h.used p.node p.within) [
      | inl q ↦ ap (λ o. chain o (λ x. chain (forward_of b (sides_of g).right) (λ y. Some (record { left = x; right = y; total = total_of b (sides_of g).left && total_of b (sides_of g).right })))) (part_none b (term_at (terms g.nodes) p.node) (term_at (terms g.nodes) g.left) q p.none)
      | inr q ↦ ap (λ o. chain (forward_of b (sides_of g).left) (λ x. chain o (λ y. Some (record { left = x; right = y; total = total_of b (sides_of g).left && total_of b (sides_of g).right })))) (part_none b (term_at (terms g.nodes) p.node) (term_at (terms g.nodes) g.right) q p.none)
          ∙ chain_none (forward_of b (sides_of g).left)
    ])

pub sides_some : (g : Parts) (b vs : List Bounds) (x y : Bounds) (r : Bool) → IsGraph g → AreValues b g.nodes vs → x ≡ get_or vs g.left x → y ≡ get_or vs g.right y → IsTotality b g.nodes r → Some (record { left = x; right = y; total = r }) ≡ forward_sides (sides_of g) b
sides_some g b vs x y r h av xe ye t =
    ap (λ r. Some (record { left = x; right = y; total = r })) (sides_total g b r h t)
    ∙ sym (ap (λ o. chain o (λ x. chain (forward_of b (sides_of g).right) (λ y. Some (record { left = x; right = y; total = total_of b (sides_of g).left && total_of b (sides_of g).right })))) (side_value b g.nodes vs g.left x av h.left_in xe)
    ∙ ap (λ o. chain o (λ y. Some (record { left = x; right = y; total = total_of b (sides_of g).left && total_of b (sides_of g).right }))) (side_value b g.nodes vs g.right y av h.right_in ye))
