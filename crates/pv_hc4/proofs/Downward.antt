-- The downward pass, node by node.
use Rattle.std.proofs.Common.{◌≡◌, ℕ, ◌<◌, List, [], ◌∷◌, ◌++◌, length, refl, ap, sym, ◌∙◌, subst, arith, get_or}
use Rattle.std.specs.Prelude.{Option, Some, None, slice_set}
use Rattle.pv_interval.specs.Bounds.{Bounds}
use Rattle.pv_interval.specs.Tables.{meet_of}
use Rattle.pv_expr.specs.declared.operators.UnaryOp.{UnaryOp}
use Rattle.pv_expr.specs.declared.operators.BinaryOp.{BinaryOp}
use Rattle.pv_expr.specs.Terms.{Term, one, two}
use Rattle.pv_interval.specs.Bounds.{everything}
use Rattle.std.specs.Prelude.{Bool, true, false}
use Rattle.std.proofs.lemmas.List.{get_or_read}
use Rattle.pv_hc4.specs.declared.node.Node.{Node}
use Rattle.pv_hc4.specs.declared.node.Node.TheVariants.{One, Two}
use Rattle.pv_hc4.specs.Graphs.{AreValues}
use Rattle.pv_hc4.specs.Chain.{chain, at, Gives}
use Rattle.pv_hc4.specs.Forward.{binary_of, forward_of}
use Rattle.pv_hc4.specs.Resting.{RestsAt}
use Rattle.pv_project.specs.declared.resting.Rest.{Rest}
use Rattle.pv_project.specs.Rests.{Rests}
use Rattle.pv_hc4.specs.Revise.{back_1, back_2, Target, joined, targets_of, applied, went}
use Rattle.pv_hc4.specs.Nodes.{term_at, node_term, terms, AreOrdered, ReadsBelow}
use Rattle.pv_hc4.proofs.Growth.{term_step}
use Rattle.pv_hc4.proofs.Passing.{node_default}

pub chain_assoc : {A B C : Type 0} (o : Option A) (f : A → Option B) (g : B → Option C) → chain (chain o f) g ≡ chain o (λ x. chain (f x) g)
chain_assoc None f g = refl
chain_assoc (Some x) f g = refl

pub chain_none : {A B : Type 0} (o : Option A) → chain {B = B} o (λ x. None) ≡ None
chain_none None = refl
chain_none (Some x) = refl

pub chain_same : {A B C : Type 0} (o : Option A) (f : A → Option C) (g : A → Option B) (h : B → Option C) → ((x : A) → f x ≡ chain (g x) h) → chain o f ≡ chain (chain o g) h
chain_same None f g h e = refl
chain_same (Some x) f g h e = e x

pub applied-append : (s : List Bounds) (xs ys : List Target) → applied s (xs ++ ys) ≡ chain (applied s xs) (λ r. applied r ys)
applied-append s [] ys = refl
applied-append s (x ∷ xs) ys =
    chain_same (meet_of (at s x.var) x.within) (λ y. applied (slice_set s x.var y) (xs ++ ys)) (λ y. applied (slice_set s x.var y) xs) (λ r. applied r ys)
    (λ y. applied-append (slice_set s x.var y) xs ys)

pub went_joined : (s : List Bounds) (o p : Option (List Target)) → chain (joined o p) (applied s) ≡ chain (chain o (applied s)) (λ r. chain p (applied r))
went_joined s None p = refl
went_joined s (Some xs) None = sym (chain_none (applied s xs))
went_joined s (Some xs) (Some ys) = applied-append s xs ys

pub one_gives : (b s : List Bounds) (u : UnaryOp) (t : Term) (z v : Bounds) (o : Option Bounds) → forward_of b t ≡ Some v → o ≡ back_1 u z v → went b s (one u t) z ≡ chain o (λ y. went b s t y)
one_gives b s u t z v o f e =
    ap (λ x. chain (chain x (λ x. chain (back_1 u z x) (λ y. targets_of b t y))) (applied s)) f
    ∙ chain_assoc (back_1 u z v) (λ y. targets_of b t y) (applied s)
    ∙ ap (λ x. chain x (λ y. went b s t y)) (sym e)

pub two_gives : (b s : List Bounds) (k : BinaryOp) (t u : Term) (z v w : Bounds) (o : Option (Bounds × Bounds)) → forward_of b t ≡ Some v → forward_of b u ≡ Some w → o ≡ back_2 k z v w → went b s (two k t u) z ≡ chain o (λ p. chain (went b s t p.0) (λ r. went b r u p.1))
two_gives b s k t u z v w o f g e =
    ap (λ x. chain (chain x (λ x. chain (forward_of b u) (λ y. chain (back_2 k z x y) (λ p. joined (targets_of b t p.0) (targets_of b u p.1))))) (applied s)) f
    ∙ ap (λ y. chain (chain y (λ y. chain (back_2 k z v y) (λ p. joined (targets_of b t p.0) (targets_of b u p.1)))) (applied s)) g
    ∙ ap (λ o. chain (chain o (λ p. joined (targets_of b t p.0) (targets_of b u p.1))) (applied s)) (sym e)
    ∙ by_pair o
  where
    by_pair : (o : Option (Bounds × Bounds)) → chain (chain o (λ p. joined (targets_of b t p.0) (targets_of b u p.1))) (applied s) ≡ chain o (λ p. chain (went b s t p.0) (λ r. went b r u p.1))
    by_pair None = refl
    by_pair (Some p) = went_joined s (targets_of b t p.0) (targets_of b u p.1)

-- the term of the node that was read
pub term_read : (ns : List Node) (d k : ℕ) (n e : Node) → AreOrdered ns d → k < length ns → get_or ns k e ≡ n → term_at (terms ns) k ≡ node_term (terms ns) n
term_read ns d k n e o h n_is = term_step ns k h (o.reads k h) ∙ ap (node_term (terms ns)) (sym (node_default ns k e h) ∙ n_is)

pub below_is : (ns : List Node) (d k : ℕ) (n e : Node) → AreOrdered ns d → k < length ns → get_or ns k e ≡ n → ReadsBelow k n
below_is ns d k n e o h n_is = subst (ReadsBelow k) (sym (node_default ns k e h) ∙ n_is) (o.reads k h)

pub value_read : (b : List Bounds) (ns : List Node) (vs : List Bounds) (a : ℕ) (v : Bounds) → AreValues b ns vs → a < length ns → v ≡ get_or vs a v → forward_of b (term_at (terms ns) a) ≡ Some v
value_read b ns vs a v av h v_is =
    let inside : a < length vs = omega (arith, av.same) in
    av.each a h ∙ ap Some (sym (get_or_read vs a v inside v_is everything))

pub one_read : (b s : List Bounds) (ns : List Node) (vs : List Bounds) (d k : ℕ) (op : UnaryOp) (a : ℕ) (e : Node) (z v : Bounds) (o : Option Bounds) → AreOrdered ns d → AreValues b ns vs → k < length ns → get_or ns k e ≡ One op a → v ≡ get_or vs a v → o ≡ back_1 op z v → went b s (term_at (terms ns) k) z ≡ chain o (λ y. went b s (term_at (terms ns) a) y)
one_read b s ns vs d k op a e z v o ordered av h n_is v_is o_is =
    let under : a < k = below_is ns d k (One op a) e ordered h n_is in
    let inside : a < length ns = omega arith in
    ap (λ t. went b s t z) (term_read ns d k (One op a) e ordered h n_is)
    ∙ one_gives b s op (term_at (terms ns) a) z v o (value_read b ns vs a v av inside v_is) o_is

pub two_read : (b s : List Bounds) (ns : List Node) (vs : List Bounds) (d k : ℕ) (op : BinaryOp) (a c : ℕ) (e : Node) (z v w : Bounds) (o : Option (Bounds × Bounds)) → AreOrdered ns d → AreValues b ns vs → k < length ns → get_or ns k e ≡ Two op a c → v ≡ get_or vs a v → w ≡ get_or vs c w → o ≡ back_2 op z v w → went b s (term_at (terms ns) k) z ≡ chain o (λ p. chain (went b s (term_at (terms ns) a) p.0) (λ r. went b r (term_at (terms ns) c) p.1))
two_read b s ns vs d k op a c e z v w o ordered av h n_is v_is w_is o_is =
    let under : (a < k) × (c < k) = below_is ns d k (Two op a c) e ordered h n_is in
    let inside_a : a < length ns = omega (arith, under.0) in
    let inside_c : c < length ns = omega (arith, under.1) in
    ap (λ t. went b s t z) (term_read ns d k (Two op a c) e ordered h n_is)
    ∙ two_gives b s op (term_at (terms ns) a) (term_at (terms ns) c) z v w o
    (value_read b ns vs a v av inside_a v_is) (value_read b ns vs c w av inside_c w_is) o_is

-- the node's own interval is its operation's
own_read : (b : List Bounds) (ns : List Node) (vs : List Bounds) (d k : ℕ) (op : BinaryOp) (a c : ℕ) (e : Node) (v w o : Bounds) → AreOrdered ns d → AreValues b ns vs → k < length ns → get_or ns k e ≡ Two op a c → v ≡ get_or vs a v → w ≡ get_or vs c w → o ≡ get_or vs k o → binary_of op v w ≡ Some o
own_read b ns vs d k op a c e v w o ordered av h n_is v_is w_is o_is =
    let under : (a < k) × (c < k) = below_is ns d k (Two op a c) e ordered h n_is in
    let inside_a : a < length ns = omega (arith, under.0) in
    let inside_c : c < length ns = omega (arith, under.1) in
    let t = term_at (terms ns) a in let u = term_at (terms ns) c in
    sym (ap (λ x. chain x (λ x. chain (forward_of b u) (λ y. binary_of op x y))) (value_read b ns vs a v av inside_a v_is)
    ∙ ap (λ y. chain y (λ y. binary_of op v y)) (value_read b ns vs c w av inside_c w_is))
    ∙ sym (ap (λ t. forward_of b t) (term_read ns d k (Two op a c) e ordered h n_is))
    ∙ value_read b ns vs k o av h o_is

-- an end of the node's own interval is one of its operation's
pub rests_read : (b : List Bounds) (ns : List Node) (vs : List Bounds) (d k : ℕ) (op : BinaryOp) (a c : ℕ) (e : Node) (v w o : Bounds) (r : Rest) (z : Bounds) → AreOrdered ns d → AreValues b ns vs → k < length ns → get_or ns k e ≡ Two op a c → v ≡ get_or vs a v → w ≡ get_or vs c w → o ≡ get_or vs k o → Rests r z o → RestsAt op r z v w
rests_read b ns vs d k op a c e v w o r z ordered av h n_is v_is w_is o_is rest =
    λ own q. subst (Rests r z) (some_is o own (sym (own_read b ns vs d k op a c e v w o ordered av h n_is v_is w_is o_is) ∙ q)) rest
  where
    some_is : (x y : Bounds) → Some x ≡ Some y → x ≡ y
    some_is x y g = cc

-- the first part went, and then the second
pub second_gives : (first second : Bool) (r new : List Bounds) (o : Option (List Bounds)) (f : List Bounds → Option (List Bounds)) → first ≡ true → Gives first r o → Gives second new (f r) → Gives second new (chain o f)
second_gives true second r new o f e g h = subst (λ x. Gives second new (chain x f)) (sym g) h
second_gives false second r new o f e g h = absurd (cc)

pub first_fails : (first : Bool) (r new : List Bounds) (o : Option (List Bounds)) (f : List Bounds → Option (List Bounds)) → first ≡ false → Gives first r o → Gives first new (chain o f)
first_fails true r new o f e g = absurd (cc)
first_fails false r new o f e g = ap (λ x. chain x f) g
