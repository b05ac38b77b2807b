-- Passes over the nodes of an expression: what each leaves is the expression's, node by node.
use Rattle.std.proofs.Common.{◌≡◌, ◌≢◌, ℕ, zero, suc, ◌+◌, ◌<◌, List, length, refl, ap, sym, ◌∙◌, arith, get_or, below_more}
use Rattle.std.proofs.lemmas.List.{get_or_read, get_or-set_same, get_or-set_other}
use Rattle.std.specs.Prelude.{Bool, slice_set}
use Rattle.pv_interval.specs.Bounds.{Bounds, everything}
use Rattle.pv_expr.specs.declared.operators.UnaryOp.{UnaryOp}
use Rattle.pv_expr.specs.declared.operators.UnaryOp.TheVariants.{Neg, Abs, Pow}
use Rattle.pv_expr.specs.declared.operators.BinaryOp.{BinaryOp}
use Rattle.pv_expr.specs.declared.operators.BinaryOp.TheVariants.{Add, Sub, Mul, Div, Min, Max}
use Rattle.pv_expr.specs.Terms.{Term}
use Rattle.pv_hc4.specs.declared.node.Node.{Node}
use Rattle.pv_hc4.specs.declared.node.Node.TheVariants.{Constant, Place, One, Two}
use Rattle.pv_hc4.specs.Chain.{at}
use Rattle.pv_hc4.specs.Forward.{unary_of, binary_of}
use Rattle.pv_hc4.specs.Graphs.{AreValues}
use Rattle.pv_hc4.specs.Nodes.{AreOrdered, ReadsBelow, node_at, node_term, terms, term_at}
use Rattle.pv_hc4.proofs.Growth.{term_step}
use Rattle.pv_hc4.proofs.Passing.{node_default}
use Rattle.pv_slope.specs.Centres.{known, met_with, on_box, at_centre}
use Rattle.pv_slope.specs.Flat.{AreOf, AreFactors, node_centre, node_factor, unary_factor, binary_factor, unary_slope_by, binary_slope_by}
use Rattle.pv_slope.specs.Moving.{seen, moving_slope}
use Rattle.pv_slope.specs.SlopeTable.{unary_slope, binary_slope, slope_of}

-- one more node's interval
pub more_of : (f : Term → Bounds) (ns : List Node) (xs : List Bounds) (i : ℕ) (x : Bounds) → i < length xs
    → ((k : ℕ) → k < i → f (term_at (terms ns) k) ≡ at xs k) → f (term_at (terms ns) i) ≡ x
    → (k : ℕ) → k < i + 1 → f (term_at (terms ns) k) ≡ at (slice_set xs i x) k
more_of f ns xs i x h done here =
    below_more (λ k. f (term_at (terms ns) k) ≡ at (slice_set xs i x) k) i
    (λ k less. let ne : k ≢ i = omega arith in done k less ∙ sym (get_or-set_other xs i k x everything ne))
    (here ∙ sym (get_or-set_same xs i x everything h))

pub values_of : (b : List Bounds) (ns : List Node) (vs : List Bounds) → AreValues b ns vs → AreOf (on_box b) ns vs
values_of b ns vs h = record { within = let g = h.same in omega (arith, g); each = λ k l. ap known (h.each k l) }

-- what a loop read of a list
pub read_at : (xs : List Bounds) (i : ℕ) (x : Bounds) → i < length xs → x ≡ get_or xs i x → x ≡ at xs i
read_at xs i x h e = get_or_read xs i x h e everything

-- ---- the centre

centre_here : (b : List Bounds) (ts : List Term) (cs : List Bounds) (i : ℕ) (whole : Bounds) (n : Node) → ReadsBelow i n
    → ((k : ℕ) → k < i → at_centre b (term_at ts k) ≡ at cs k) → whole ≡ on_box b (node_term ts n)
    → node_centre b cs whole n ≡ at_centre b (node_term ts n)
centre_here b ts cs i whole (Constant p q) r h w = w
centre_here b ts cs i whole (Place j) r h w = refl
centre_here b ts cs i whole (One o a) r h w =
    ap (λ x. met_with (unary_of o x) whole) (sym (h a r)) ∙ ap (met_with (unary_of o (at_centre b (term_at ts a)))) w
centre_here b ts cs i whole (Two o a c) r h w =
    ap (λ x. met_with (known (binary_of o x (at cs c))) whole) (sym (h a r.0))
    ∙ ap (λ x. met_with (known (binary_of o (at_centre b (term_at ts a)) x)) whole) (sym (h c r.1))
    ∙ ap (met_with (known (binary_of o (at_centre b (term_at ts a)) (at_centre b (term_at ts c))))) w

pub centre_then : (b : List Bounds) (ns : List Node) (vs cs : List Bounds) (d i : ℕ) (n e : Node) (whole x : Bounds) → AreOrdered ns d → AreValues b ns vs
    → i < length ns → ((k : ℕ) → k < i → at_centre b (term_at (terms ns) k) ≡ at cs k)
    → n ≡ get_or ns i e → whole ≡ get_or vs i whole → x ≡ node_centre b cs whole n → at_centre b (term_at (terms ns) i) ≡ x
centre_then b ns vs cs d i n e whole x o v h done n_is whole_is x_is =
    let node_is : n ≡ node_at ns i = n_is ∙ node_default ns i e h in
    let in_vs : i < length vs = let g = v.same in omega arith in
    let step = term_step ns i h (o.reads i h) in
    let w : whole ≡ on_box b (node_term (terms ns) (node_at ns i)) = read_at vs i whole in_vs whole_is ∙ sym ((values_of b ns vs v).each i h) ∙ ap (on_box b) step in
    ap (at_centre b) step ∙ sym (centre_here b (terms ns) cs i whole (node_at ns i) (o.reads i h) done w)
    ∙ sym (ap (node_centre b cs whole) node_is) ∙ sym x_is

-- ---- the slopes

unary_row : (o : UnaryOp) (f c s : Bounds) → unary_slope_by o (unary_factor o f c) f s ≡ unary_slope o f c s
unary_row Neg f c s = refl
unary_row Abs f c s = refl
unary_row (Pow zero) f c s = refl
unary_row (Pow (suc m)) f c s = refl

binary_row : (o : BinaryOp) (f g c d s t : Bounds) → binary_slope_by o (binary_factor o c d) f g d s t ≡ binary_slope o f g c d s t
binary_row Add f g c d s t = refl
binary_row Sub f g c d s t = refl
binary_row Mul f g c d s t = refl
binary_row Div f g c d s t = refl
binary_row Min f g c d s t = refl
binary_row Max f g c d s t = refl

unary_same : (o : UnaryOp) (f c s x y z : Bounds) → x ≡ f → y ≡ c → z ≡ s → unary_slope o f c s ≡ unary_slope o x y z
unary_same o f c s x y z e h k =
    sym (ap (λ w. unary_slope o w y z) e ∙ ap (λ w. unary_slope o f w z) h ∙ ap (unary_slope o f c) k)

binary_same : (o : BinaryOp) (f g c d s t p q r u v w : Bounds) → p ≡ f → q ≡ g → r ≡ c → u ≡ d → v ≡ s → w ≡ t
    → binary_slope o f g c d s t ≡ binary_slope o p q r u v w
binary_same o f g c d s t p q r u v w e h k l m n =
    sym (ap (λ x. binary_slope o x q r u v w) e ∙ ap (λ x. binary_slope o f x r u v w) h
    ∙ ap (λ x. binary_slope o f g x u v w) k ∙ ap (λ x. binary_slope o f g c x v w) l
    ∙ ap (λ x. binary_slope o f g c d x w) m ∙ ap (binary_slope o f g c d s) n)

slope_here : (b : List Bounds) (j : ℕ) (ts : List Term) (vs cs : List Bounds) (ms : List Bool) (ss : List Bounds) (i : ℕ) (n : Node) → ReadsBelow i n
    → ((k : ℕ) → k < i → on_box b (term_at ts k) ≡ at vs k) → ((k : ℕ) → k < i → at_centre b (term_at ts k) ≡ at cs k)
    → ((k : ℕ) → k < i → slope_of b j (term_at ts k) ≡ seen ms ss k)
    → moving_slope j (node_factor vs cs n) vs cs ms ss n ≡ slope_of b j (node_term ts n)
slope_here b j ts vs cs ms ss i (Constant p q) r v c s = refl
slope_here b j ts vs cs ms ss i (Place m) r v c s = refl
slope_here b j ts vs cs ms ss i (One o a) r v c s =
    unary_row o (at vs a) (at cs a) (seen ms ss a)
    ∙ unary_same o (at vs a) (at cs a) (seen ms ss a) (on_box b (term_at ts a)) (at_centre b (term_at ts a)) (slope_of b j (term_at ts a)) (v a r) (c a r) (s a r)
slope_here b j ts vs cs ms ss i (Two o a e) r v c s =
    binary_row o (at vs a) (at vs e) (at cs a) (at cs e) (seen ms ss a) (seen ms ss e)
    ∙ binary_same o (at vs a) (at vs e) (at cs a) (at cs e) (seen ms ss a) (seen ms ss e)
    (on_box b (term_at ts a)) (on_box b (term_at ts e)) (at_centre b (term_at ts a)) (at_centre b (term_at ts e)) (slope_of b j (term_at ts a)) (slope_of b j (term_at ts e))
    (v a r.0) (v e r.1) (c a r.0) (c e r.1) (s a r.0) (s e r.1)

slope_then : (b : List Bounds) (j : ℕ) (ns : List Node) (vs cs fs : List Bounds) (ms : List Bool) (ss : List Bounds) (d i : ℕ) → AreOrdered ns d
    → AreValues b ns vs → AreOf (at_centre b) ns cs → AreFactors vs cs ns fs → i < length ns
    → ((k : ℕ) → k < i → slope_of b j (term_at (terms ns) k) ≡ seen ms ss k)
    → slope_of b j (term_at (terms ns) i) ≡ moving_slope j (at fs i) vs cs ms ss (node_at ns i)
slope_then b j ns vs cs fs ms ss d i o v c f h done =
    let step = term_step ns i h (o.reads i h) in
    let w = values_of b ns vs v in
    ap (slope_of b j) step
    ∙ sym (slope_here b j (terms ns) vs cs ms ss i (node_at ns i) (o.reads i h) (λ k l. w.each k (omega arith)) (λ k l. c.each k (omega arith)) done)
    ∙ ap (λ z. moving_slope j z vs cs ms ss (node_at ns i)) (f.each i h)

-- one more node's slope, in lists in which the earlier ones' are still seen
pub slopes_more : (b : List Bounds) (j : ℕ) (ns : List Node) (vs cs fs : List Bounds) (ms : List Bool) (ss : List Bounds) (ms' : List Bool) (ss' : List Bounds) (d i : ℕ)
    → AreOrdered ns d → AreValues b ns vs → AreOf (at_centre b) ns cs → AreFactors vs cs ns fs → i < length ns
    → ((k : ℕ) → k < i → slope_of b j (term_at (terms ns) k) ≡ seen ms ss k) → ((k : ℕ) → k < i → seen ms' ss' k ≡ seen ms ss k)
    → seen ms' ss' i ≡ moving_slope j (at fs i) vs cs ms ss (node_at ns i)
    → (k : ℕ) → k < i + 1 → slope_of b j (term_at (terms ns) k) ≡ seen ms' ss' k
slopes_more b j ns vs cs fs ms ss ms' ss' d i o v c f h done earlier here =
    below_more (λ k. slope_of b j (term_at (terms ns) k) ≡ seen ms' ss' k) i (λ k l. done k l ∙ sym (earlier k l))
    (slope_then b j ns vs cs fs ms ss d i o v c f h done ∙ sym here)
