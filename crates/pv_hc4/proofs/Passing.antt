-- The forward pass: each node's interval is its term's.
use Rattle.std.proofs.Common.{◌≡◌, ◌≢◌, ℕ, zero, suc, ◌+◌, ◌<◌, List, [], ◌∷◌, length, refl, ap, sym, ◌∙◌, subst, arith, get_or, inl, inr, below_more}
use Rattle.std.proofs.lemmas.List.{get_or_read, get_or-set_same, get_or-set_other}
use Rattle.std.proofs.lemmas.Bool.{cases_eq}
use Rattle.pv_interval.specs.Bounds.{everything}
use Rattle.std.specs.Prelude.{Option, Some, slice_set}
use Rattle.pv_interval.specs.Bounds.{Bounds}
use Rattle.pv_expr.specs.Terms.{Term}
use Rattle.pv_hc4.specs.declared.node.Node.{Node}
use Rattle.pv_hc4.specs.declared.node.Node.TheVariants.{Constant, Place, One, Two}
use Rattle.pv_hc4.specs.Chain.{chain, at}
use Rattle.pv_hc4.specs.Forward.{forward_of, unary_of, binary_of}
use Rattle.pv_hc4.specs.Nodes.{term_at, node_at, node_term, terms, ReadsBelow, AreOrdered}
use Rattle.pv_hc4.specs.Graphs.{IsReady}
use Rattle.pv_hc4.specs.Pass.{node_value}
use Rattle.pv_hc4.proofs.Growth.{term_step}

node_forward : (b : List Bounds) (ts : List Term) (vs : List Bounds) (i : ℕ) (own : Bounds) (n : Node) → ReadsBelow i n → ((k : ℕ) → k < i → forward_of b (term_at ts k) ≡ Some (at vs k)) → IsReady n own → node_value b vs own n ≡ forward_of b (node_term ts n)
node_forward b ts vs i own (Constant p q) r h e = ap Some e
node_forward b ts vs i own (Place j) r h e = refl
node_forward b ts vs i own (One o a) r h e = sym (ap (λ x. chain x (λ y. Some (unary_of o y))) (h a r))
node_forward b ts vs i own (Two o a c) r h e =
    sym (ap (λ x. chain x (λ y. chain (forward_of b (term_at ts c)) (λ z. binary_of o y z))) (h a r.0)
    ∙ ap (λ x. chain x (λ z. binary_of o (at vs a) z)) (h c r.1))

pub value_is : (b : List Bounds) (ns : List Node) (vs : List Bounds) (d i : ℕ) (own : Bounds) → AreOrdered ns d → i < length ns → ((k : ℕ) → k < i → forward_of b (term_at (terms ns) k) ≡ Some (at vs k)) → IsReady (node_at ns i) own → node_value b vs own (node_at ns i) ≡ forward_of b (term_at (terms ns) i)
value_is b ns vs d i own o h f e =
    node_forward b (terms ns) vs i own (node_at ns i) (o.reads i h) f e
    ∙ sym (ap (forward_of b) (term_step ns i h (o.reads i h)))

pub node_default : (ns : List Node) (k : ℕ) (d : Node) → k < length ns → get_or ns k d ≡ node_at ns k
node_default [] k d h = absurd (omega arith)
node_default (n ∷ ns) zero d h = refl
node_default (n ∷ ns) (suc k) d h = let l : k < length ns = omega arith in node_default ns k d l

-- the same for what the pass has read: a node and its own interval
pub value_then : (b : List Bounds) (ns : List Node) (vs : List Bounds) (d i : ℕ) (own : Bounds) (n e : Node) (o : Option Bounds) → AreOrdered ns d → i < length ns → ((k : ℕ) → k < i → forward_of b (term_at (terms ns) k) ≡ Some (at vs k)) → ((k : ℕ) → k < length ns → IsReady (node_at ns k) (at vs k)) → length vs ≡ length ns → own ≡ get_or vs i own → n ≡ get_or ns i e → o ≡ node_value b vs own n → forward_of b (term_at (terms ns) i) ≡ o
value_then b ns vs d i own n e o ordered h done ready same own_is n_is o_is =
    let inside : i < length vs = omega arith in
    let own_at : own ≡ at vs i = get_or_read vs i own inside own_is everything in
    let node_is : n ≡ node_at ns i = n_is ∙ node_default ns i e h in
    let good : IsReady (node_at ns i) own = subst (IsReady (node_at ns i)) (sym own_at) (ready i h) in
    sym (o_is ∙ ap (node_value b vs own) node_is ∙ value_is b ns vs d i own ordered h done good)

pub done_more : (b : List Bounds) (ns : List Node) (vs : List Bounds) (i : ℕ) (x : Bounds) → i < length vs → ((k : ℕ) → k < i → forward_of b (term_at (terms ns) k) ≡ Some (at vs k)) → forward_of b (term_at (terms ns) i) ≡ Some x → (k : ℕ) → k < i + 1 → forward_of b (term_at (terms ns) k) ≡ Some (at (slice_set vs i x) k)
done_more b ns vs i x h done here =
    below_more (λ k. forward_of b (term_at (terms ns) k) ≡ Some (at (slice_set vs i x) k)) i
    (λ k less. let ne : k ≢ i = omega arith in done k less ∙ ap Some (sym (get_or-set_other vs i k x everything ne)))
    (here ∙ ap Some (sym (get_or-set_same vs i x everything h)))

ready_node : (b : List Bounds) (vs : List Bounds) (own x : Bounds) (n : Node) → IsReady n own → node_value b vs own n ≡ Some x → IsReady n x
ready_node b vs own x (Constant p q) r e = let same : own ≡ x = cc in sym same ∙ r
ready_node b vs own x (Place i) r e = tt
ready_node b vs own x (One o a) r e = tt
ready_node b vs own x (Two o a c) r e = tt

pub ready_more : (b : List Bounds) (ns : List Node) (vs : List Bounds) (i : ℕ) (own x : Bounds) (n e : Node) → i < length ns → length vs ≡ length ns → ((k : ℕ) → k < length ns → IsReady (node_at ns k) (at vs k)) → own ≡ get_or vs i own → n ≡ get_or ns i e → Some x ≡ node_value b vs own n → (k : ℕ) → k < length ns → IsReady (node_at ns k) (at (slice_set vs i x) k)
ready_more b ns vs i own x n e h same ready own_is n_is x_is k less =
    let inside : i < length vs = omega arith in
    elim (cases_eq k i) [
      | inl q ↦
          let own_at : own ≡ at vs i = get_or_read vs i own inside own_is everything in
          let node_is : n ≡ node_at ns i = n_is ∙ node_default ns i e h in
          let good : IsReady n own = subst (λ m. IsReady m own) (sym node_is) (subst (IsReady (node_at ns i)) (sym own_at) (ready i h)) in
          let new : IsReady n x = ready_node b vs own x n good (sym x_is) in
          let at_i : IsReady (node_at ns i) (at (slice_set vs i x) i) = subst (IsReady (node_at ns i)) (sym (get_or-set_same vs i x everything inside)) (subst (λ m. IsReady m x) node_is new) in
          subst (λ j. IsReady (node_at ns j) (at (slice_set vs i x) j)) (sym q) at_i
      | inr ne ↦ subst (IsReady (node_at ns k)) (sym (get_or-set_other vs i k x everything ne)) (ready k less)
    ]
