-- The centered form encloses its expression.
use Rattle.std.proofs.Common.{◌≡◌, ℕ, zero, suc, ◌*◌, ◌<◌, ◌≤◌, List, [], ◌∷◌, length, refl, ap, sym, subst, arith, get_or}
use Rattle.std.specs.Prelude.{ℤ, pos, ◌+ℤ◌, ◌-ℤ◌, ◌*ℤ◌, Option, Some, None, true, ◌&&◌, map, slice_get, unwrap_or}
use Rattle.std.proofs.lemmas.List.{get_or-map}
use Rattle.pv_interval.specs.Bounds.{Bounds, everything}
use Rattle.pv_interval.specs.Fractions.{Fraction, plus, minus, times, opposite, size, power as raised, least as lesser, greatest as larger}
use Rattle.pv_interval.specs.Points.{Lies, LiesIn, LiesInSome, Point}
use Rattle.pv_interval.specs.Tables as table
use Rattle.pv_interval.proofs.Keeps.{some_times, sum_keeps, difference_keeps, product_keeps}
use Rattle.pv_interval.proofs.Multiples.{unit_some}
use Rattle.pv_interval.proofs.Orders.{cond_keeps, meet_keeps}
use Rattle.pv_interval.proofs.Quotients.{quotient_keeps}
use Rattle.pv_box.specs.Boxes.{IsBox, LieIn, PointIn}
use Rattle.pv_expr.specs.Systems.{IsOver}
use Rattle.pv_expr.specs.declared.operators.UnaryOp.{UnaryOp}
use Rattle.pv_expr.specs.declared.operators.UnaryOp.TheVariants.{Neg, Abs, Pow}
use Rattle.pv_expr.specs.declared.operators.BinaryOp.{BinaryOp}
use Rattle.pv_expr.specs.declared.operators.BinaryOp.TheVariants.{Add, Sub, Mul, Div, Min, Max}
use Rattle.pv_expr.specs.Terms.{Term, constant, place, one, two, unary_value, binary_value, coordinate, value_at}
use Rattle.pv_hc4.specs.Chain.{chain, at}
use Rattle.pv_hc4.specs.Forward.{forward_of, unary_of, binary_of}
use Rattle.pv_hc4.specs.Totality.{total_of}
use Rattle.pv_hc4.proofs.Lying.{same_value, one_value, two_values, coordinate_lies, unary_lies, binary_lies, forward_lies}
use Rattle.pv_hc4.proofs.Sureness.{value_defined}
use Rattle.pv_slope.specs.Centres.{centre_of, known, met_with, on_box, at_centre}
use Rattle.pv_slope.specs.SlopeTable.{unary_slope, binary_slope, slope_of}
use Rattle.pv_slope.specs.Centered.{has_finite_ends, from_centre, linear_of, centered_from, CenteredEncloses}
use Rattle.pv_slope.proofs.Polynomials.{v, n, ◌⊕◌, ◌⊗◌, alike}
use Rattle.pv_slope.proofs.Identities.{sum_more, sum_whole}
use Rattle.pv_slope.proofs.Sums.{dot, cancelled}
use Rattle.pv_slope.proofs.Joining.{same_lies, Joins, sum_joins, difference_joins, product_joins, negation_joins}
use Rattle.pv_slope.proofs.Joined.{in_known, constant_joins, place_joins, power_joins, absolute_joins, least_joins, greatest_joins, quotient_row_joins}
use Rattle.pv_slope.proofs.Centring.{both_true, centre_point, centres, centre_in_box, centre_in_centres}

-- ---- values on the box and at its centre

unwrapped : (e : ℤ) (d : ℕ) (o : Option Bounds) (y : Bounds) → LiesInSome e d o → Lies e d (unwrap_or o y)
unwrapped e d None y h = absurd h
unwrapped e d (Some x) y h = h

met_keeps : (f : Fraction) (x y : Bounds) → LiesIn f x → LiesIn f y → LiesIn f (met_with x y)
met_keeps f x y h k = unwrapped f.top f.under (table.meet_of x y) y (meet_keeps f.top f.under x y h k)

on_box_lies : (x : Point) (b : List Bounds) (t : Term) (e : Fraction) → IsOver (length b) t → PointIn x b → value_at t x.places x.under ≡ Some e → LiesIn e (on_box b t)
on_box_lies x b t e o h is = in_known e.top e.under (forward_of b t) (forward_lies x (length b) b t e o h is)

at_map : (f : Bounds → Bounds) (b : List Bounds) (i : ℕ) → i < length b → at (map f b) i ≡ f (at b i)
at_map f b i h = get_or-map f b i everything everything h

pub at_centre_lies : (c : Point) (b : List Bounds) (t : Term) (e : Fraction) → IsOver (length b) t → PointIn c b → PointIn c (centres b)
    → value_at t c.places c.under ≡ Some e → LiesIn e (at_centre b t)
at_centre_lies c b (constant p q) e o h k is = forward_lies c (length b) b (constant p q) e o h is
at_centre_lies c b (place i) e o h k is =
    subst (LiesIn e) (at_map (λ x. table.exactly (centre_of x)) b i o) (coordinate_lies c.places c.under (centres b) i e k is)
at_centre_lies c b (one u t) e o h k is =
    let p = one_value u (value_at t c.places c.under) e is in
    met_keeps e (unary_of u (at_centre b t)) (on_box b (one u t))
    (subst (λ w. LiesIn w (unary_of u (at_centre b t))) p.value (unary_lies u p.f (at_centre b t) (at_centre_lies c b t p.f o.1 h k p.is)))
    (on_box_lies c b (one u t) e o h is)
at_centre_lies c b (two m t u) e o h k is =
    let p = two_values m (value_at t c.places c.under) (value_at u c.places c.under) e is in
    met_keeps e (known (binary_of m (at_centre b t) (at_centre b u))) (on_box b (two m t u))
    (in_known e.top e.under (binary_of m (at_centre b t) (at_centre b u))
    (binary_lies m p.f p.g e (at_centre b t) (at_centre b u) p.value (at_centre_lies c b t p.f o.0 h k p.first) (at_centre_lies c b u p.g o.1 h k p.second)))
    (on_box_lies c b (two m t u) e o h is)

-- ---- the slopes of a term lead from its value at the centre to that at a point

-- the change of variable i, over the product of the points' denominators
abbrev change : Point → Point → ℕ → ℤ
change x c i = get_or x.places i (pos 0) *ℤ pos c.under -ℤ get_or c.places i (pos 0) *ℤ pos x.under

coordinate_is : (ns : List ℤ) (d i : ℕ) (e : Fraction) → coordinate (slice_get ns i) d ≡ Some e → record { top = get_or ns i (pos 0); under = d } ≡ e
coordinate_is [] d i e h = absurd (cc)
coordinate_is (m ∷ ns) d zero e h = same_value (record { top = m; under = d }) e h
coordinate_is (m ∷ ns) d (suc i) e h = coordinate_is ns d i e h

-- f and h are values at the point, g and j at the centre
unary_joins : (o : UnaryOp) (s : ℕ → Bounds) (f g p q : Fraction) (k : ℕ) (d : ℕ → ℤ) (u : ℕ) (x c : Bounds) → unary_value o f ≡ p → unary_value o g ≡ q
    → LiesIn f x → LiesIn g x → LiesIn g c → Joins s f g k d u → Joins (λ i. unary_slope o x c (s i)) p q k d u
unary_joins Neg s f g p q k d u x c ep eq fx gx gc a =
    subst (λ z. Joins (λ i. table.negated (s i)) z q k d u) ep (subst (λ z. Joins (λ i. table.negated (s i)) (opposite f) z k d u) eq (negation_joins s f g k d u a))
unary_joins Abs s f g p q k d u x c ep eq fx gx gc a =
    let t : ℕ → Bounds = λ i. unary_slope Abs x c (s i) in
    subst (λ z. Joins t z q k d u) ep (subst (λ z. Joins t (size f) z k d u) eq (absolute_joins s f g k d u x fx gx a))
unary_joins (Pow m) s f g p q k d u x c ep eq fx gx gc a =
    let t : ℕ → Bounds = λ i. unary_slope (Pow m) x c (s i) in
    subst (λ z. Joins t z q k d u) ep (subst (λ z. Joins t (raised f m) z k d u) eq (power_joins s f g k d u x c m fx gc a))

binary_joins : (o : BinaryOp) (s t : ℕ → Bounds) (f g h j p q : Fraction) (k : ℕ) (d : ℕ → ℤ) (u : ℕ) (x y c e : Bounds) → binary_value o f h ≡ Some p → binary_value o g j ≡ Some q
    → LiesIn f x → LiesIn g x → LiesIn h y → LiesIn j y → LiesIn g c → LiesIn j e → Joins s f g k d u → Joins t h j k d u
    → Joins (λ i. binary_slope o x y c e (s i) (t i)) p q k d u
binary_joins Add s t f g h j p q k d u x y c e ep eq fx gx hy jy gc je a b =
    let r : ℕ → Bounds = λ i. binary_slope Add x y c e (s i) (t i) in
    subst (λ z. Joins r z q k d u) (same_value (plus f h) p ep) (subst (λ z. Joins r (plus f h) z k d u) (same_value (plus g j) q eq) (sum_joins s t f g h j k d u a b))
binary_joins Sub s t f g h j p q k d u x y c e ep eq fx gx hy jy gc je a b =
    let r : ℕ → Bounds = λ i. binary_slope Sub x y c e (s i) (t i) in
    subst (λ z. Joins r z q k d u) (same_value (minus f h) p ep) (subst (λ z. Joins r (minus f h) z k d u) (same_value (minus g j) q eq) (difference_joins s t f g h j k d u a b))
binary_joins Mul s t f g h j p q k d u x y c e ep eq fx gx hy jy gc je a b =
    let r : ℕ → Bounds = λ i. binary_slope Mul x y c e (s i) (t i) in
    subst (λ z. Joins r z q k d u) (same_value (times f h) p ep) (subst (λ z. Joins r (times f h) z k d u) (same_value (times g j) q eq) (product_joins s t f g h j k d u x e fx je a b))
binary_joins Div s t f g h j p q k d u x y c e ep eq fx gx hy jy gc je a b =
    quotient_row_joins s t f g h j p q k d u (known (table.quotient_of c e)) y ep eq
    (in_known q.top q.under (table.quotient_of c e) (quotient_keeps g j q c e eq gc je)) hy jy.some a b
binary_joins Min s t f g h j p q k d u x y c e ep eq fx gx hy jy gc je a b =
    let r : ℕ → Bounds = λ i. binary_slope Min x y c e (s i) (t i) in
    subst (λ z. Joins r z q k d u) (same_value (lesser f h) p ep) (subst (λ z. Joins r (lesser f h) z k d u) (same_value (lesser g j) q eq) (least_joins s t f g h j k d u x y fx gx hy jy a b))
binary_joins Max s t f g h j p q k d u x y c e ep eq fx gx hy jy gc je a b =
    let r : ℕ → Bounds = λ i. binary_slope Max x y c e (s i) (t i) in
    subst (λ z. Joins r z q k d u) (same_value (larger f h) p ep) (subst (λ z. Joins r (larger f h) z k d u) (same_value (larger g j) q eq) (greatest_joins s t f g h j k d u x y fx gx hy jy a b))

pub joined : (x c : Point) (b : List Bounds) (t : Term) (p q : Fraction) → IsOver (length b) t → PointIn x b → PointIn c b → PointIn c (centres b)
    → value_at t x.places x.under ≡ Some p → value_at t c.places c.under ≡ Some q
    → Joins (λ i. slope_of b i t) p q (length b) (change x c) (x.under * c.under)
joined x c b (constant m r) p q o h k l ep eq =
    let f : Fraction = record { top = m; under = r } in
    subst (λ z. Joins (λ i. slope_of b i (constant m r)) z q (length b) (change x c) (x.under * c.under)) (same_value f p ep)
    (subst (λ z. Joins (λ i. slope_of b i (constant m r)) f z (length b) (change x c) (x.under * c.under)) (same_value f q eq)
    (constant_joins f (length b) (change x c) (x.under * c.under)))
joined x c b (place j) p q o h k l ep eq =
    let f : Fraction = record { top = get_or x.places j (pos 0); under = x.under } in
    let g : Fraction = record { top = get_or c.places j (pos 0); under = c.under } in
    subst (λ z. Joins (λ i. slope_of b i (place j)) z q (length b) (change x c) (x.under * c.under)) (coordinate_is x.places x.under j p ep)
    (subst (λ z. Joins (λ i. slope_of b i (place j)) f z (length b) (change x c) (x.under * c.under)) (coordinate_is c.places c.under j q eq)
    (place_joins f.top g.top x.under c.under (length b) j (change x c) o refl))
joined x c b (one u t) p q o h k l ep eq =
    let m = one_value u (value_at t x.places x.under) p ep in
    let w = one_value u (value_at t c.places c.under) q eq in
    unary_joins u (λ i. slope_of b i t) m.f w.f p q (length b) (change x c) (x.under * c.under) (on_box b t) (at_centre b t) m.value w.value
    (on_box_lies x b t m.f o.1 h m.is) (on_box_lies c b t w.f o.1 k w.is) (at_centre_lies c b t w.f o.1 k l w.is)
    (joined x c b t m.f w.f o.1 h k l m.is w.is)
joined x c b (two r t u) p q o h k l ep eq =
    let m = two_values r (value_at t x.places x.under) (value_at u x.places x.under) p ep in
    let w = two_values r (value_at t c.places c.under) (value_at u c.places c.under) q eq in
    binary_joins r (λ i. slope_of b i t) (λ i. slope_of b i u) m.f w.f m.g w.g p q (length b) (change x c) (x.under * c.under)
    (on_box b t) (on_box b u) (at_centre b t) (at_centre b u) m.value w.value
    (on_box_lies x b t m.f o.0 h m.first) (on_box_lies c b t w.f o.0 k w.first) (on_box_lies x b u m.g o.1 h m.second) (on_box_lies c b u w.g o.1 k w.second)
    (at_centre_lies c b t w.f o.0 k l w.first) (at_centre_lies c b u w.g o.1 k l w.second)
    (joined x c b t m.f w.f o.0 h k l m.first w.first) (joined x c b u m.g w.g o.1 h k l m.second w.second)

-- ---- the sum over the variables

-- g and the first k slopes, each times its change
abbrev folded : Fraction → (ℕ → ℤ) → ℕ → (ℕ → ℤ) → ℕ → ℕ → Fraction
folded g tops m d u zero = g
folded g tops m d u (suc k) = plus (folded g tops m d u k) (times (record { top = tops k; under = m }) (record { top = d k; under = u }))

alone : (p d m : ℤ) → p *ℤ (d *ℤ m) ≡ (p *ℤ m +ℤ pos 0 *ℤ d) *ℤ d
alone p d m = alike (p ∷ d ∷ m ∷ []) (v 0 ⊗ (v 1 ⊗ v 2)) ((v 0 ⊗ v 2 ⊕ n (pos 0) ⊗ v 1) ⊗ v 1) refl

folded_exact : (g : Fraction) (tops : ℕ → ℤ) (m : ℕ) (d : ℕ → ℤ) (u k : ℕ) → (folded g tops m d u k).top *ℤ (pos g.under *ℤ (pos m *ℤ pos u))
    ≡ (g.top *ℤ (pos m *ℤ pos u) +ℤ dot k tops d *ℤ pos g.under) *ℤ pos (folded g tops m d u k).under
folded_exact g tops m d u zero = alone g.top (pos g.under) (pos m *ℤ pos u)
folded_exact g tops m d u (suc k) =
    let f = folded g tops m d u k in
    sum_more g.top (pos g.under) (pos m) (pos u) f.top (tops k) (d k) (pos f.under) (dot k tops d) (folded_exact g tops m d u k)

place_in : (ns : List ℤ) (d : ℕ) (b : List Bounds) (i : ℕ) → LieIn ns d b → i < length b → Lies (get_or ns i (pos 0)) d (at b i)
place_in [] d [] i h l = absurd (omega arith)
place_in [] d (y ∷ b) i h l = absurd h
place_in (m ∷ ns) d [] i h l = absurd h
place_in (m ∷ ns) d (y ∷ b) zero h l = h.0
place_in (m ∷ ns) d (y ∷ b) (suc i) h l = let less : i < length b = omega arith in place_in ns d b i h.1 less

length_map : (f : Bounds → Bounds) (b : List Bounds) → length (map f b) ≡ length b
length_map f [] = refl
length_map f (x ∷ b) = ap suc (length_map f b)

change_lies : (x c : Point) (b : List Bounds) (i : ℕ) → PointIn x b → PointIn c (centres b) → i < length b → Lies (change x c i) (x.under * c.under) (from_centre (at b i))
change_lies x c b i h k l =
    let less : i < length (centres b) = subst (λ m. i < m) (sym (length_map (λ y. table.exactly (centre_of y)) b)) l in
    difference_keeps (record { top = get_or x.places i (pos 0); under = x.under }) (record { top = get_or c.places i (pos 0); under = c.under })
    (at b i) (table.exactly (centre_of (at b i))) (place_in x.places x.under b i h l)
    (subst (λ y. Lies (get_or c.places i (pos 0)) c.under y) (at_map (λ y. table.exactly (centre_of y)) b i l) (place_in c.places c.under (centres b) i k less))

folded_lies : (x c : Point) (b : List Bounds) (t : Term) (g : Fraction) (tops : ℕ → ℤ) (m k : ℕ) → PointIn x b → PointIn c (centres b) → LiesIn g (at_centre b t)
    → ((i : ℕ) → Lies (tops i) m (slope_of b i t)) → k ≤ length b → LiesIn (folded g tops m (change x c) (x.under * c.under) k) (linear_of b t k)
folded_lies x c b t g tops m zero h l gc each less = gc
folded_lies x c b t g tops m (suc k) h l gc each less =
    let below : k < length b = less in
    sum_keeps (folded g tops m (change x c) (x.under * c.under) k) (times (record { top = tops k; under = m }) (record { top = change x c k; under = x.under * c.under }))
    (linear_of b t k) (table.product_of (slope_of b k t) (from_centre (at b k)))
    (folded_lies x c b t g tops m k h l gc each (omega arith))
    (product_keeps (record { top = tops k; under = m }) (record { top = change x c k; under = x.under * c.under }) (slope_of b k t) (from_centre (at b k)) (each k) (change_lies x c b k h l below))

-- a point of a box has a denominator above 0
under_some : (ns : List ℤ) (d : ℕ) (b : List Bounds) → LieIn ns d b → 0 < length b → 0 < d
under_some [] d [] h l = absurd (omega arith)
under_some [] d (x ∷ b) h l = absurd h
under_some (m ∷ ns) d [] h l = absurd h
under_some (m ∷ ns) d (x ∷ b) h l = h.0.some

-- the value at a point lies in the linear form
pub linear_lies : (x : Point) (b : List Bounds) (t : Term) (p : Fraction) → IsOver (length b) t → IsBox b → PointIn x b → has_finite_ends b ≡ true → total_of b t ≡ true
    → value_at t x.places x.under ≡ Some p → LiesIn p (linear_of b t (length b))
linear_lies x b t p o i h finite total ep =
    let c = centre_point b in
    let k = centre_in_box b i.intervals finite in
    let l = centre_in_centres b i.intervals finite in
    let q = value_defined c b t o k total in
    let j = joined x c b t p q.v o h k l ep q.is in
    let gc = at_centre_lies c b t q.v o k l q.is in
    let px = on_box_lies x b t p o h ep in
    let d = change x c in
    let u = x.under * c.under in
    let f = folded q.v j.tops j.under d u (length b) in
    let fl = folded_lies x c b t q.v j.tops j.under (length b) h l gc j.each (omega arith) in
    same_lies f p (linear_of b t (length b)) px.some
    (cancelled (q.v.under * (j.under * u)) _ _
    (some_times q.v.under (j.under * u) gc.some (some_times j.under u j.some (some_times x.under c.under (under_some x.places x.under b h i.some) unit_some)))
    (sum_whole p.top (pos p.under) q.v.top (pos q.v.under) (pos j.under) (pos u) (dot (length b) j.tops d) f.top (pos f.under) j.exact (folded_exact q.v j.tops j.under d u (length b))))
    fl

from_encloses : (x : Point) (b : List Bounds) (t : Term) (p : Fraction) (f : Bounds) → IsOver (length b) t → IsBox b → PointIn x b
    → value_at t x.places x.under ≡ Some p → LiesIn p f → LiesInSome p.top p.under (centered_from b t f)
from_encloses x b t p f o i h e l =
    cond_keeps (λ r. LiesInSome p.top p.under r) (has_finite_ends b && total_of b t) (table.meet_of f (linear_of b t (length b))) (Some f)
    (λ r. let s = both_true (has_finite_ends b) (total_of b t) r in meet_keeps p.top p.under f (linear_of b t (length b)) l (linear_lies x b t p o i h s.0 s.1 e))
    (λ r. l)

chain_encloses : (p : Fraction) (o : Option Bounds) (g : Bounds → Option Bounds) → LiesInSome p.top p.under o → ((f : Bounds) → LiesIn p f → LiesInSome p.top p.under (g f)) → LiesInSome p.top p.under (chain o g)
chain_encloses p None g l h = absurd l
chain_encloses p (Some f) g l h = h f l

-- the centered form encloses its expression
pub encloses : CenteredEncloses
encloses t b o i = λ x p h e. chain_encloses p (forward_of b t) (centered_from b t) (forward_lies x (length b) b t p o h e) (λ f l. from_encloses x b t p f o i h e l)
