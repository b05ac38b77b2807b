-- The interval of an expression at the centre lies in its forward interval, so that meeting the two changes nothing.
use Rattle.std.proofs.Common.{◌≡◌, ◌≢◌, ℕ, ◌+◌, ◌<◌, List, length, refl, ap, sym, ◌∙◌, subst, arith, get_or, below_more}
use Rattle.std.proofs.lemmas.List.{get_or-set_same, get_or-set_other}
use Rattle.std.specs.Prelude.{Bool, true, false, ◌&&◌, Some, None, unwrap_or, slice_set, if◌then◌else◌}
use Rattle.pv_num.specs.Extended.{Extended, NegInf, PosInf}
use Rattle.pv_num.specs.Order.{le, lesser, greater}
use Rattle.pv_num.proofs.Orders.{le-refl, NegInf-le, le-PosInf}
use Rattle.pv_interval.specs.Bounds.{Bounds, IsInterval, between, everything}
use Rattle.pv_interval.specs.Subsets.{IsSubset, IsSubsetSome}
use Rattle.pv_interval.specs.Tables.{exactly, meet_of}
use Rattle.pv_interval.proofs.Choices.{lesser_first, lesser_second, greater_first, greater_second}
use Rattle.pv_expr.specs.declared.operators.UnaryOp.{UnaryOp}
use Rattle.pv_expr.specs.declared.operators.BinaryOp.{BinaryOp}
use Rattle.pv_expr.specs.Terms.{Term}
use Rattle.pv_hc4.specs.declared.node.Node.{Node}
use Rattle.pv_hc4.specs.declared.node.Node.TheVariants.{Constant, Place, One, Two}
use Rattle.pv_hc4.specs.Chain.{at, chain}
use Rattle.pv_hc4.specs.Forward.{forward_of, unary_of, binary_of}
use Rattle.pv_hc4.specs.Graphs.{AreValues}
use Rattle.pv_hc4.specs.Nodes.{AreOrdered, ReadsBelow, node_at, node_term, terms, term_at}
use Rattle.pv_hc4.proofs.Growth.{term_step}
use Rattle.pv_hc4.proofs.Passing.{node_default}
use Rattle.pv_slope.specs.Centres.{centre_of, known, met_with}
use Rattle.pv_slope.specs.Centered.{is_finite}
use Rattle.pv_slope.specs.Flat.{ArePartsInside, IsWholeOf}
use Rattle.pv_slope.proofs.Centring.{centre_held}
use Rattle.pv_slope.proofs.Walking.{read_at}
use Rattle.pv_hc4.proofs.Inherited.{unary_contained, binary_contained}

-- ---- operations

pub in_itself : (x : Bounds) → IsSubset x x
in_itself x = record { low = le-refl x.lo; high = le-refl x.hi }

met_ends : (x w : Bounds) (l h : Extended) → greater x.lo w.lo ≡ l → lesser x.hi w.hi ≡ h
    → met_with x w ≡ unwrap_or (if le l h then Some (between l h) else None) w
unfolding meet_of
met_ends x w l h e f =
    ap (λ a. unwrap_or (if le a (lesser x.hi w.hi) then Some (between a (lesser x.hi w.hi)) else None) w) e
    ∙ ap (λ a. unwrap_or (if le l a then Some (between l a) else None) w) f

-- what lies in an interval is what both have in common
pub met_inside : (x w : Bounds) → IsInterval x → IsSubset x w → met_with x w ≡ x
met_inside x w i h =
    met_ends x w x.lo x.hi (greater_first x.lo w.lo h.low) (lesser_first x.hi w.hi h.high)
    ∙ ap (λ t. unwrap_or (if t then Some (between x.lo x.hi) else None) w) i.ordered

either_is : (t : Bool) (w : Bounds) → unwrap_or (if t then Some w else None) w ≡ w
either_is true w = refl
either_is false w = refl

met_all : (w : Bounds) → met_with everything w ≡ w
met_all w =
    met_ends everything w w.lo w.hi (greater_second NegInf w.lo (NegInf-le w.lo)) (lesser_second PosInf w.hi (le-PosInf w.hi))
    ∙ either_is (le w.lo w.hi) w

pub one_in : (u : UnaryOp) (c f w x : Bounds) → IsInterval c → IsSubset c f → w ≡ unary_of u f → x ≡ unary_of u c → IsSubset x w
one_in u c f w x i h w_is x_is =
    subst (λ y. IsSubset y w) (sym x_is) (subst (IsSubset (unary_of u c)) (sym w_is) (unary_contained u c f i h))

pub one_met : (u : UnaryOp) (c f w x : Bounds) → IsInterval c → IsInterval x → IsSubset c f → w ≡ unary_of u f → x ≡ unary_of u c → x ≡ met_with (unary_of u c) w
one_met u c f w x i j h w_is x_is = sym (ap (λ y. met_with y w) (sym x_is) ∙ met_inside x w j (one_in u c f w x i h w_is x_is))

pub two_in : (o : BinaryOp) (c d f g w x : Bounds) → IsInterval c → IsInterval d → IsSubset c f → IsSubset d g → binary_of o f g ≡ Some w → binary_of o c d ≡ Some x → IsSubset x w
two_in o c d f g w x i j h k w_is x_is =
    subst (λ p. IsSubsetSome p (Some w)) x_is (subst (IsSubsetSome (binary_of o c d)) w_is (binary_contained o c d f g i j h k))

pub two_met : (o : BinaryOp) (c d w x : Bounds) → IsInterval x → IsSubset x w → binary_of o c d ≡ Some x → x ≡ met_with (known (binary_of o c d)) w
two_met o c d w x i h x_is = sym (ap (λ p. met_with (known p) w) x_is ∙ met_inside x w i h)

pub none_met : (o : BinaryOp) (c d w : Bounds) → binary_of o c d ≡ None → w ≡ met_with (known (binary_of o c d)) w
none_met o c d w e = sym (ap (λ p. met_with (known p) w) e ∙ met_all w)

pub centre_in_place : (x y : Bounds) → IsInterval x → (is_finite x.lo && is_finite x.hi) ≡ true → y ≡ exactly (centre_of x) → IsSubset y x
centre_in_place x y i h e = let k = centre_held x i h in subst (λ z. IsSubset z x) (sym e) (record { low = k.low; high = k.high })

-- ---- nodes

pub parts_inside : (vs cs : List Bounds) (ns : List Node) (d i : ℕ) (n e : Node) → AreOrdered ns d → i < length ns → ((k : ℕ) → k < i → IsSubset (at cs k) (at vs k))
    → n ≡ get_or ns i e → ArePartsInside vs cs n
parts_inside vs cs ns d i n e o h done n_is = subst (ArePartsInside vs cs) (sym (n_is ∙ node_default ns i e h)) (by_node (node_at ns i) (o.reads i h))
  where
    by_node : (m : Node) → ReadsBelow i m → ArePartsInside vs cs m
    by_node (Constant p q) r = tt
    by_node (Place j) r = tt
    by_node (One u a) r = done a r
    by_node (Two u a c) r = (done a r.0, done c r.1)

some_same : (x y : Bounds) → Some x ≡ Some y → y ≡ x
some_same x y e = sym (ap known e)

whole_by : (b : List Bounds) (ts : List Term) (vs : List Bounds) (i : ℕ) (n : Node) (w : Bounds) → ReadsBelow i n → ((k : ℕ) → k < i → forward_of b (term_at ts k) ≡ Some (at vs k))
    → forward_of b (node_term ts n) ≡ Some w → IsWholeOf b vs w n
whole_by b ts vs i (Constant p q) w r f e = tt
whole_by b ts vs i (Place j) w r f e = some_same (at b j) w e
whole_by b ts vs i (One u a) w r f e =
    some_same (unary_of u (at vs a)) w (sym (ap (λ p. chain p (λ x. Some (unary_of u x))) (f a r)) ∙ e)
whole_by b ts vs i (Two u a c) w r f e =
    sym (ap (λ p. chain p (λ x. chain (forward_of b (term_at ts c)) (λ y. binary_of u x y))) (f a r.0)
    ∙ ap (λ p. chain p (λ y. binary_of u (at vs a) y)) (f c r.1)) ∙ e

pub whole_here : (b : List Bounds) (ns : List Node) (vs : List Bounds) (d i : ℕ) (n e : Node) (w : Bounds) → AreOrdered ns d → AreValues b ns vs → i < length ns
    → n ≡ get_or ns i e → w ≡ get_or vs i w → IsWholeOf b vs w n
whole_here b ns vs d i n e w o v h n_is w_is =
    let in_vs : i < length vs = let g = v.same in omega (arith, g, h) in
    let step = term_step ns i h (o.reads i h) in
    let is : forward_of b (node_term (terms ns) (node_at ns i)) ≡ Some w = sym (ap (forward_of b) step) ∙ v.each i h ∙ ap Some (sym (read_at vs i w in_vs w_is)) in
    subst (IsWholeOf b vs w) (sym (n_is ∙ node_default ns i e h))
    (whole_by b (terms ns) vs i (node_at ns i) w (o.reads i h) (λ k l. let less : k < length ns = omega (arith, l, h) in v.each k less) is)

pub inside_more : (vs cs : List Bounds) (i : ℕ) (w x : Bounds) → i < length vs → i < length cs → w ≡ get_or vs i w → IsSubset x w
    → ((k : ℕ) → k < i → IsSubset (at cs k) (at vs k)) → (k : ℕ) → k < i + 1 → IsSubset (at (slice_set cs i x) k) (at vs k)
inside_more vs cs i w x in_vs in_cs w_is h done =
    below_more (λ k. IsSubset (at (slice_set cs i x) k) (at vs k)) i
    (λ k less. let ne : k ≢ i = omega arith in subst (λ y. IsSubset y (at vs k)) (sym (get_or-set_other cs i k x everything ne)) (done k less))
    (subst (λ y. IsSubset y (at vs i)) (sym (get_or-set_same cs i x everything in_cs)) (subst (IsSubset x) (read_at vs i w in_vs w_is) h))
