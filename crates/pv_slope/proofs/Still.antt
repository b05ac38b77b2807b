-- Nodes in whose term a variable does not stand: their slopes are [0,0].
use Rattle.std.proofs.Common.{◌≡◌, ◌≢◌, ℕ, ◌+◌, ◌<◌, List, length, refl, ap, sym, ◌∙◌, subst, arith, get_or, add-one}
use Rattle.std.proofs.lemmas.Bool.{true≢false}
use Rattle.std.proofs.lemmas.List.{get_or-set_same, get_or-set_other}
use Rattle.std.specs.Prelude.{Bool, true, false, ◌&&◌, ◌||◌, Some, slice_set, if◌then◌else◌}
use Rattle.pv_interval.specs.Bounds.{Bounds, everything}
use Rattle.pv_interval.specs.Tables.{exactly, difference_of, product_of, sum_of}
use Rattle.pv_expr.specs.Terms.{Term, place}
use Rattle.pv_hc4.specs.declared.node.Node.{Node}
use Rattle.pv_hc4.specs.declared.node.Node.TheVariants.{Constant, Place, One, Two}
use Rattle.pv_hc4.specs.Chain.{at}
use Rattle.pv_hc4.specs.Forward.{forward_of}
use Rattle.pv_hc4.specs.Graphs.{AreValues}
use Rattle.pv_hc4.specs.Nodes.{AreOrdered, ReadsBelow, node_at, node_term, terms, term_at}
use Rattle.pv_hc4.specs.Pass.{node_divides_well}
use Rattle.pv_hc4.specs.Totality.{total_of, divides_well}
use Rattle.pv_hc4.proofs.Growth.{term_step}
use Rattle.pv_hc4.proofs.Passing.{node_default}
use Rattle.pv_hc4.proofs.Totals.{part_partial}
use Rattle.pv_slope.specs.Centres.{at_centre, centre_of, known, on_box}
use Rattle.pv_slope.specs.Centered.{from_centre, linear_of}
use Rattle.pv_slope.specs.Flat.{IsFlat, AreOf, unary_slope_by, binary_slope_by}
use Rattle.pv_slope.specs.Moving.{HasDivisor, flag_at, seen, node_moves, moving_slope, is_place}
use Rattle.pv_slope.specs.SlopeTable.{zero_slope, one_slope, slope_of}
use Rattle.pv_slope.proofs.Centring.{both_true}
use Rattle.pv_slope.proofs.Walking.{read_at}
use Rattle.pv_slope.proofs.Zeros.{unary_zero, binary_zero}
use Rattle.pv_slope.proofs.Matched.{equal}

-- ---- one node

neither : (s t : Bool) → (s || t) ≡ false → (s ≡ false) × (t ≡ false)
neither true t h = absurd (true≢false h)
neither false t h = (refl, h)

pub still_slope : (i : ℕ) (by : Bounds) (vs cs : List Bounds) (ms : List Bool) (ss : List Bounds) (n : Node) → node_moves i ms n ≡ false
    → node_divides_well vs n ≡ true → HasDivisor vs n → moving_slope i by vs cs ms ss n ≡ zero_slope
still_slope i by vs cs ms ss (Constant p q) e w d = refl
still_slope i by vs cs ms ss (Place j) e w d = ap (λ t. if t then one_slope else zero_slope) e
still_slope i by vs cs ms ss (One o a) e w d = ap (λ t. unary_slope_by o by (at vs a) (if t then at ss a else zero_slope)) e ∙ unary_zero o by (at vs a)
still_slope i by vs cs ms ss (Two o a c) e w d =
    let p = neither (flag_at ms a) (flag_at ms c) e in
    ap (λ t. binary_slope_by o by (at vs a) (at vs c) (at cs c) (if t then at ss a else zero_slope) (seen ms ss c)) p.0
    ∙ ap (λ t. binary_slope_by o by (at vs a) (at vs c) (at cs c) zero_slope (if t then at ss c else zero_slope)) p.1
    ∙ binary_zero o by (at vs a) (at vs c) (at cs c) w d

pub other_moves : (s t : Bool) → (s || t) ≡ true → s ≡ false → t ≡ true
other_moves true t h e = absurd (true≢false e)
other_moves false t h e = h

-- ---- all nodes

pub seen_other : (ms : List Bool) (ss : List Bounds) (i : ℕ) (m : Bool) (x : Bounds) (k : ℕ) → k < i → seen (slice_set ms i m) (slice_set ss i x) k ≡ seen ms ss k
seen_other ms ss i m x k less =
    let ne : k ≢ i = omega arith in
    ap (λ t. if t then at (slice_set ss i x) k else zero_slope) (get_or-set_other ms i k m false ne)
    ∙ ap (λ y. if flag_at ms k then y else zero_slope) (get_or-set_other ss i k x everything ne)

pub flag_other : (ms : List Bool) (ss : List Bounds) (i : ℕ) (m : Bool) (k : ℕ) → k < i → seen (slice_set ms i m) ss k ≡ seen ms ss k
flag_other ms ss i m k less =
    let ne : k ≢ i = omega arith in
    ap (λ t. if t then at ss k else zero_slope) (get_or-set_other ms i k m false ne)

pub seen_set : (ms : List Bool) (ss : List Bounds) (i : ℕ) (x : Bounds) → i < length ms → i < length ss → seen (slice_set ms i true) (slice_set ss i x) i ≡ x
seen_set ms ss i x h l =
    ap (λ t. if t then at (slice_set ss i x) i else zero_slope) (get_or-set_same ms i true false h) ∙ get_or-set_same ss i x everything l

pub seen_cleared : (ms : List Bool) (ss : List Bounds) (i : ℕ) → i < length ms → seen (slice_set ms i false) ss i ≡ zero_slope
seen_cleared ms ss i h = ap (λ t. if t then at ss i else zero_slope) (get_or-set_same ms i false false h)

pub here_still : (i : ℕ) (by : Bounds) (vs cs : List Bounds) (ms : List Bool) (ss : List Bounds) (ns : List Node) (k : ℕ) (n e : Node) → k < length ns → k < length ms
    → n ≡ get_or ns k e → node_moves i ms n ≡ false → node_divides_well vs (node_at ns k) ≡ true → HasDivisor vs n
    → seen (slice_set ms k false) ss k ≡ moving_slope i by vs cs ms ss (node_at ns k)
here_still i by vs cs ms ss ns k n e h in_ms n_is m w d =
    let node_is : n ≡ node_at ns k = n_is ∙ node_default ns k e h in
    seen_cleared ms ss k in_ms
    ∙ sym (still_slope i by vs cs ms ss (node_at ns k) (subst (λ x. node_moves i ms x ≡ false) node_is m) w (subst (HasDivisor vs) node_is d))

pub here_moves : (i : ℕ) (vs cs fs : List Bounds) (ms : List Bool) (ss : List Bounds) (ns : List Node) (k : ℕ) (n e : Node) (by x : Bounds) → k < length ns → k < length ms → k < length ss
    → k < length fs → n ≡ get_or ns k e → by ≡ get_or fs k by → x ≡ moving_slope i by vs cs ms ss n
    → seen (slice_set ms k true) (slice_set ss k x) k ≡ moving_slope i (at fs k) vs cs ms ss (node_at ns k)
here_moves i vs cs fs ms ss ns k n e by x h in_ms in_ss in_fs n_is by_is x_is =
    seen_set ms ss k x in_ms in_ss ∙ x_is ∙ ap (moving_slope i by vs cs ms ss) (n_is ∙ node_default ns k e h)
    ∙ ap (λ f. moving_slope i f vs cs ms ss (node_at ns k)) (read_at fs k by in_fs by_is)

node_well : (b : List Bounds) (ts : List Term) (vs : List Bounds) (i : ℕ) (n : Node) → ReadsBelow i n → ((k : ℕ) → k < i → forward_of b (term_at ts k) ≡ Some (at vs k))
    → total_of b (node_term ts n) ≡ true → node_divides_well vs n ≡ true
node_well b ts vs i (Constant p q) r f h = refl
node_well b ts vs i (Place j) r f h = refl
node_well b ts vs i (One o a) r f h = refl
node_well b ts vs i (Two o a c) r f h =
    let p = both_true (total_of b (term_at ts a)) (total_of b (term_at ts c) && divides_well o (forward_of b (term_at ts c))) h in
    let q = both_true (total_of b (term_at ts c)) (divides_well o (forward_of b (term_at ts c))) p.1 in
    sym (ap (divides_well o) (f c r.1)) ∙ q.1

-- where every node's term is total
pub divides_node : (b : List Bounds) (ns : List Node) (vs : List Bounds) (d i : ℕ) → AreOrdered ns d → AreValues b ns vs → i < length ns
    → ((k : ℕ) → k < length ns → total_of b (term_at (terms ns) k) ≡ true) → node_divides_well vs (node_at ns i) ≡ true
divides_node b ns vs d i o v h total =
    let step = term_step ns i h (o.reads i h) in
    node_well b (terms ns) vs i (node_at ns i) (o.reads i h) (λ k l. let less : k < length ns = omega arith in v.each k less)
    (sym (ap (total_of b) step) ∙ total i h)

still_total : (s t : Bool) → (s ≡ false → t ≡ false) → t ≡ true → s ≡ true
still_total true t h e = refl
still_total false t h e = absurd (true≢false (sym e ∙ h refl))

pub all_total : (b : List Bounds) (ns : List Node) (root d : ℕ) → IsFlat ns root d → total_of b (term_at (terms ns) root) ≡ true
    → (k : ℕ) → k < length ns → total_of b (term_at (terms ns) k) ≡ true
all_total b ns root d h e k l =
    still_total (total_of b (term_at (terms ns) k)) (total_of b (term_at (terms ns) root))
    (part_partial b (term_at (terms ns) k) (term_at (terms ns) root) (h.used k l)) e

-- one more variable's part of the linear form
pub linear_more : (b : List Bounds) (t : Term) (i : ℕ) (sum slope y : Bounds) → sum ≡ linear_of b t i → slope ≡ slope_of b i t
    → y ≡ sum_of sum (product_of slope (from_centre (at b i))) → y ≡ linear_of b t (i + 1)
linear_more b t i sum slope y e f h =
    h ∙ ap (λ s. sum_of s (product_of slope (from_centre (at b i)))) e ∙ ap (λ s. sum_of (linear_of b t i) (product_of s (from_centre (at b i)))) f
    ∙ sym (ap (linear_of b t) (add-one i))

-- ---- how far a variable may be from its centre

same_place : (b : List Bounds) (i : ℕ) (ts : List Term) (n : Node) → is_place i n ≡ true → node_term ts n ≡ place i
same_place b i ts (Constant p q) e = absurd (true≢false (sym e))
same_place b i ts (Place j) e = ap place (sym (equal i j e))
same_place b i ts (One o a) e = absurd (true≢false (sym e))
same_place b i ts (Two o a c) e = absurd (true≢false (sym e))

pub from_node : (b : List Bounds) (ns : List Node) (vs cs : List Bounds) (d i k : ℕ) (n e : Node) (x y z : Bounds) → AreOrdered ns d → AreValues b ns vs → AreOf (at_centre b) ns cs
    → k < length ns → n ≡ get_or ns k e → is_place i n ≡ true → x ≡ get_or vs k x → y ≡ get_or cs k y → z ≡ difference_of x y → z ≡ from_centre (at b i)
from_node b ns vs cs d i k n e x y z o v c h n_is p x_is y_is z_is =
    let in_vs : k < length vs = let g = v.same in omega (arith, g, h) in
    let in_cs : k < length cs = let g = c.within in omega (arith, g, h) in
    let term : term_at (terms ns) k ≡ place i = term_step ns k h (o.reads k h) ∙ ap (node_term (terms ns)) (sym (n_is ∙ node_default ns k e h)) ∙ same_place b i (terms ns) n p in
    let value : x ≡ at b i = read_at vs k x in_vs x_is ∙ sym (ap known (v.each k h)) ∙ ap (on_box b) term in
    let centre : y ≡ exactly (centre_of (at b i)) = read_at cs k y in_cs y_is ∙ sym (c.each k h) ∙ ap (at_centre b) term in
    z_is ∙ ap (λ w. difference_of w y) value ∙ ap (difference_of (at b i)) centre
