-- The map of numbers as the graph grows, and that equal terms have one node.
use Rattle.std.proofs.Common.{◌≡◌, ◌≢◌, ℕ, zero, suc, ◌<◌, ◌≤◌, List, [], ◌∷◌, ◌++◌, length, refl, ap, sym, ◌∙◌, subst, arith, inl, inr, cond, Bool, true, false, length-append, rules}
use Rattle.std.specs.Prelude.{Some}
use Rattle.std.specs.HashMap.{HashMap, get}
use Rattle.std.proofs.lemmas.Bool.{cases_lt}
use Rattle.std.proofs.lemmas.List.{get_or_append_left}
use Rattle.pv_expr.specs.Terms.{Term}
use Rattle.pv_hc4.specs.declared.node.Node.{Node}
use Rattle.pv_hc4.specs.declared.node.Node.TheVariants.{Constant, Place, One, Two}
use Rattle.pv_hc4.specs.Nodes.{term_at, node_at, node_term, terms, AreOrdered, ReadsBelow}
use Rattle.pv_hc4.specs.Numbers.{same_node, AreNumbered, CountsParts}
use Rattle.pv_hc4.specs.Graphs.{Parts, IsGraph, sides_of}
use Rattle.pv_hc4.proofs.Growth.{term_step, length-terms}

-- ---- numbered nodes are all different

pub same_number : (j k : ℕ) → Some j ≡ Some k → j ≡ k
same_number j k e = cc

pub numbered_apart : {S : Type 0} (ns : List Node) (m : HashMap Node ℕ S) → AreNumbered ns m → (j k : ℕ) → j < length ns → k < length ns → node_at ns j ≡ node_at ns k → j ≡ k
numbered_apart ns m a j k h i e = same_number j k (sym (a j h) ∙ ap (get same_node m) e ∙ a k i)

same_itself : (a : Node) → same_node a a ≡ true
same_itself a = search rules

same_true : (a b : Node) → same_node a b ≡ true → a ≡ b
same_true a b e = search rules

same_false : (a b : Node) → a ≢ b → same_node a b ≡ false
same_false a b h = by_value (same_node a b) refl
  where
    by_value : (t : Bool) → same_node a b ≡ t → same_node a b ≡ false
    by_value true e = absurd (h (same_true a b e))
    by_value false e = e

pub numbered_more : {S : Type 0} (ns new : List Node) (old put : HashMap Node ℕ S) (n : Node) → AreNumbered ns old → new ≡ ns ++ n ∷ []
    → ((k : ℕ) → k < length ns → node_at ns k ≢ n)
    → ((q : Node) → get same_node put q ≡ cond (same_node n q) (Some (length ns)) (get same_node old q))
    → AreNumbered new put
numbered_more ns new old put n a e missing u k h =
    subst (λ ms. get same_node put (node_at ms k) ≡ Some k) (sym e)
    (elim (cases_lt k (length ns)) [
      | inl less ↦
          let q : node_at (ns ++ n ∷ []) k ≡ node_at ns k = get_or_append_left ns (n ∷ []) (Place 0) k less in
          ap (get same_node put) q ∙ u (node_at ns k)
          ∙ ap (λ t. cond t (Some (length ns)) (get same_node old (node_at ns k))) (same_false n (node_at ns k) (λ f. missing k less (sym f)))
          ∙ a k less
      | inr more ↦
          let k_is : k ≡ length ns = omega (arith, ap length e, length-append ns (n ∷ [])) in
          let q : node_at (ns ++ n ∷ []) k ≡ n = ap (node_at (ns ++ n ∷ [])) k_is ∙ last_node ns n in
          ap (get same_node put) q ∙ u n
          ∙ ap (λ t. cond t (Some (length ns)) (get same_node old n)) (same_itself n)
          ∙ ap Some (sym k_is)
    ])
  where
    last_node : (ns : List Node) (n : Node) → node_at (ns ++ n ∷ []) (length ns) ≡ n
    last_node [] n = refl
    last_node (m ∷ ns) n = last_node ns n

-- ---- equal terms have equal nodes

-- nodes that read below i, where the terms below i are all different
node_apart : (ts : List Term) (i : ℕ) → ((j k : ℕ) → j < i → k < i → term_at ts j ≡ term_at ts k → j ≡ k)
    → (a b : Node) → ReadsBelow i a → ReadsBelow i b → node_term ts a ≡ node_term ts b → a ≡ b
node_apart ts i d (Constant p q) (Constant r s) h k e = cc
node_apart ts i d (Constant p q) (Place j) h k e = absurd (cc)
node_apart ts i d (Constant p q) (One o b) h k e = absurd (cc)
node_apart ts i d (Constant p q) (Two o b c) h k e = absurd (cc)
node_apart ts i d (Place v) (Constant r s) h k e = absurd (cc)
node_apart ts i d (Place v) (Place w) h k e = cc
node_apart ts i d (Place v) (One o b) h k e = absurd (cc)
node_apart ts i d (Place v) (Two o b c) h k e = absurd (cc)
node_apart ts i d (One p a) (Constant r s) h k e = absurd (cc)
node_apart ts i d (One p a) (Place w) h k e = absurd (cc)
node_apart ts i d (One p a) (One o b) h k e =
    let f : p ≡ o = cc in
    let g : term_at ts a ≡ term_at ts b = cc in
    ap (λ x. One x a) f ∙ ap (One o) (d a b h k g)
node_apart ts i d (One p a) (Two o b c) h k e = absurd (cc)
node_apart ts i d (Two p a v) (Constant r s) h k e = absurd (cc)
node_apart ts i d (Two p a v) (Place w) h k e = absurd (cc)
node_apart ts i d (Two p a v) (One o b) h k e = absurd (cc)
node_apart ts i d (Two p a v) (Two o b c) h k e =
    let f : p ≡ o = cc in
    let g : term_at ts a ≡ term_at ts b = cc in
    let l : term_at ts v ≡ term_at ts c = cc in
    ap (λ x. Two x a v) f ∙ ap (λ x. Two o x v) (d a b h.0 k.0 g) ∙ ap (Two o b) (d v c h.1 k.1 l)

reads_more : (i j : ℕ) (n : Node) → i ≤ j → ReadsBelow i n → ReadsBelow j n
reads_more i j (Constant p q) h r = tt
reads_more i j (Place v) h r = tt
reads_more i j (One o a) h r = omega arith
reads_more i j (Two o a b) h r = (omega (arith, r.0), omega (arith, r.1))

-- the terms below n are all different
terms_below : (ns : List Node) (dims : ℕ) → AreOrdered ns dims → ((j k : ℕ) → j < length ns → k < length ns → node_at ns j ≡ node_at ns k → j ≡ k)
    → (n : ℕ) → n ≤ length ns → (j k : ℕ) → j < n → k < n → term_at (terms ns) j ≡ term_at (terms ns) k → j ≡ k
terms_below ns dims o a zero h j k l m e = absurd (omega arith)
terms_below ns dims o a (suc n) h j k l m e =
    let less : n ≤ length ns = omega arith in
    let in_j : j < length ns = omega arith in
    let in_k : k < length ns = omega arith in
    let to_j : j ≤ n = omega arith in
    let to_k : k ≤ n = omega arith in
    a j k in_j in_k
    (node_apart (terms ns) n (terms_below ns dims o a n less) (node_at ns j) (node_at ns k)
    (reads_more j n (node_at ns j) to_j (o.reads j in_j)) (reads_more k n (node_at ns k) to_k (o.reads k in_k))
    (sym (term_step ns j in_j (o.reads j in_j)) ∙ e ∙ term_step ns k in_k (o.reads k in_k)))

-- the nodes of a graph are the different parts of its sides
pub counts : (g : Parts) → IsGraph g → CountsParts (sides_of g) (length g.nodes)
counts g h = record {
  parts = terms g.nodes;
  count = length-terms g.nodes;
  each = h.used;
  all = h.whole;
  apart = λ j k i l e. terms_below g.nodes g.dims h.ordered h.apart (length g.nodes) (omega arith) j k i l e;
}
