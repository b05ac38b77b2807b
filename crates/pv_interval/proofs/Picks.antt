-- Which products and quotients of ends are the least and the greatest.
use Rattle.std.proofs.Common.{◌≡◌, ◌≢◌, ℕ, zero, suc, arith, refl, sym, ◌∙◌, ap, subst, cond, rules}
use Rattle.std.specs.Prelude.{IsTrue, Bool, true, false, ℤ, pos, negsuc, ◌*ℤ◌}
use lib.IntN.{neg_ℤ}
use Rattle.pv_num.specs.Grid.{unit}
use Rattle.pv_interval.proofs.Rounds.{rounded_down_open, rounded_up_open}
use Rattle.pv_num.specs.Extended.{Extended, NegInf, Fin, PosInf}
use Rattle.pv_num.specs.Order.{le, lt, lesser, greater}
use Rattle.pv_num.specs.Arithmetic.{neg_of, mul_of, div_of, pow_of}
use Rattle.pv_num.specs.declared.num.End.{End}
use Rattle.pv_num.specs.declared.num.End.TheVariants.{Down, Up}
use Rattle.pv_interval.specs.Bounds.{Bounds, IsInterval, between}
use Rattle.pv_interval.specs.Tables.{nought, product_of, of_ends, least_of_four, greatest_of_four}
use Rattle.pv_interval.proofs.Ends.{le_refl, le_trans, le_antisym, le_of_false, lt_not}
use Rattle.pv_interval.proofs.Choices.{by_le, lesser_first, lesser_second, greater_first, greater_second, least_is, greatest_is, least_1, least_2, least_3, least_4, greatest_1, greatest_2, greatest_3, greatest_4}
use Rattle.pv_interval.proofs.Monotone.{mul_mono, mul_turn, mul_mono_right, mul_turn_right, mul_comm, div_mono, div_down, div_up, pow_mono, neg_order, neg_least, pos_greatest}
use Rattle.pv_interval.proofs.Orders.{cond_keeps}
use Rattle.pv_interval.proofs.Quotients.{div_turn, not_turned, lower_too}

two_ends : (a b c d : Extended) → a ≡ c → b ≡ d → between a b ≡ between c d
two_ends a b c d h k = ap (λ w. between w b) h ∙ ap (λ w. between c w) k

-- the least of four, by the one that is at most the others
pub least_at_1 : (p q r s : Extended) → IsTrue (le p q) → IsTrue (le p r) → IsTrue (le p s) → least_of_four p q r s ≡ p
least_at_1 p q r s b c d = least_is p q r s p (le_refl p) b c d (least_1 p q r s)

pub least_at_2 : (p q r s : Extended) → IsTrue (le q p) → IsTrue (le q r) → IsTrue (le q s) → least_of_four p q r s ≡ q
least_at_2 p q r s a c d = least_is p q r s q a (le_refl q) c d (least_2 p q r s)

pub least_at_3 : (p q r s : Extended) → IsTrue (le r p) → IsTrue (le r q) → IsTrue (le r s) → least_of_four p q r s ≡ r
least_at_3 p q r s a b d = least_is p q r s r a b (le_refl r) d (least_3 p q r s)

pub least_at_4 : (p q r s : Extended) → IsTrue (le s p) → IsTrue (le s q) → IsTrue (le s r) → least_of_four p q r s ≡ s
least_at_4 p q r s a b c = least_is p q r s s a b c (le_refl s) (least_4 p q r s)

pub greatest_at_1 : (p q r s : Extended) → IsTrue (le q p) → IsTrue (le r p) → IsTrue (le s p) → greatest_of_four p q r s ≡ p
greatest_at_1 p q r s b c d = greatest_is p q r s p (le_refl p) b c d (greatest_1 p q r s)

pub greatest_at_2 : (p q r s : Extended) → IsTrue (le p q) → IsTrue (le r q) → IsTrue (le s q) → greatest_of_four p q r s ≡ q
greatest_at_2 p q r s a c d = greatest_is p q r s q a (le_refl q) c d (greatest_2 p q r s)

pub greatest_at_3 : (p q r s : Extended) → IsTrue (le p r) → IsTrue (le q r) → IsTrue (le s r) → greatest_of_four p q r s ≡ r
greatest_at_3 p q r s a b d = greatest_is p q r s r a b (le_refl r) d (greatest_3 p q r s)

pub greatest_at_4 : (p q r s : Extended) → IsTrue (le p s) → IsTrue (le q s) → IsTrue (le r s) → greatest_of_four p q r s ≡ s
greatest_at_4 p q r s a b c = greatest_is p q r s s a b c (le_refl s) (greatest_4 p q r s)

-- ---- products with a factor from 0 on: a <= b, c <= d, 0 <= a

up_low : (a b c d : Extended) → IsTrue (le nought a) → IsTrue (le a b) → IsTrue (le c d)
    → least_of_four (mul_of Down a c) (mul_of Down a d) (mul_of Down b c) (mul_of Down b d) ≡ mul_of Down (cond (le nought c) a b) c
up_low a b c d z h k =
    let b0 = le_trans nought a b z h in
    let p = mul_of Down a c in let q = mul_of Down a d in let r = mul_of Down b c in let s = mul_of Down b d in
    let pq = mul_mono_right Down c d a k z in let rs = mul_mono_right Down c d b k b0 in
    cond_keeps (λ e. least_of_four p q r s ≡ mul_of Down e c) (le nought c) a b
    (λ t. let pr = mul_mono Down a b c h t in least_at_1 p q r s pq pr (le_trans p r s pr rs))
    (λ t. let rp = mul_turn Down a b c h (le_of_false nought c t) in least_at_3 p q r s rp (le_trans r p q rp pq) rs)

up_high : (a b c d : Extended) → IsTrue (le nought a) → IsTrue (le a b) → IsTrue (le c d)
    → greatest_of_four (mul_of Up a c) (mul_of Up a d) (mul_of Up b c) (mul_of Up b d) ≡ mul_of Up (cond (le nought d) b a) d
up_high a b c d z h k =
    let b0 = le_trans nought a b z h in
    let p = mul_of Up a c in let q = mul_of Up a d in let r = mul_of Up b c in let s = mul_of Up b d in
    let pq = mul_mono_right Up c d a k z in let rs = mul_mono_right Up c d b k b0 in
    cond_keeps (λ e. greatest_of_four p q r s ≡ mul_of Up e d) (le nought d) b a
    (λ t. let qs = mul_mono Up a b d h t in greatest_at_4 p q r s (le_trans p q s pq qs) qs rs)
    (λ t. let sq = mul_turn Up a b d h (le_of_false nought d t) in greatest_at_2 p q r s pq (le_trans r s q rs sq) sq)

pub product_up : (x y : Bounds) → IsInterval x → IsInterval y → IsTrue (le nought x.lo)
    → product_of x y ≡ between (mul_of Down (cond (le nought y.lo) x.lo x.hi) y.lo) (mul_of Up (cond (le nought y.hi) x.hi x.lo) y.hi)
unfolding product_of
product_up x y h k z = two_ends _ _ _ _ (up_low x.lo x.hi y.lo y.hi z h.ordered k.ordered) (up_high x.lo x.hi y.lo y.hi z h.ordered k.ordered)

-- ---- products with a factor up to 0: a <= b, c <= d, b <= 0

down_low : (a b c d : Extended) → IsTrue (le b nought) → IsTrue (le a b) → IsTrue (le c d)
    → least_of_four (mul_of Down a c) (mul_of Down a d) (mul_of Down b c) (mul_of Down b d) ≡ mul_of Down (cond (le nought d) a b) d
down_low a b c d z h k =
    let a0 = le_trans a b nought h z in
    let p = mul_of Down a c in let q = mul_of Down a d in let r = mul_of Down b c in let s = mul_of Down b d in
    let qp = mul_turn_right Down c d a k a0 in let sr = mul_turn_right Down c d b k z in
    cond_keeps (λ e. least_of_four p q r s ≡ mul_of Down e d) (le nought d) a b
    (λ t. let qs = mul_mono Down a b d h t in least_at_2 p q r s qp (le_trans q s r qs sr) qs)
    (λ t. let sq = mul_turn Down a b d h (le_of_false nought d t) in least_at_4 p q r s (le_trans s q p sq qp) sq sr)

down_high : (a b c d : Extended) → IsTrue (le b nought) → IsTrue (le a b) → IsTrue (le c d)
    → greatest_of_four (mul_of Up a c) (mul_of Up a d) (mul_of Up b c) (mul_of Up b d) ≡ mul_of Up (cond (le nought c) b a) c
down_high a b c d z h k =
    let a0 = le_trans a b nought h z in
    let p = mul_of Up a c in let q = mul_of Up a d in let r = mul_of Up b c in let s = mul_of Up b d in
    let qp = mul_turn_right Up c d a k a0 in let sr = mul_turn_right Up c d b k z in
    cond_keeps (λ e. greatest_of_four p q r s ≡ mul_of Up e c) (le nought c) b a
    (λ t. let pr = mul_mono Up a b c h t in greatest_at_3 p q r s pr (le_trans q p r qp pr) sr)
    (λ t. let rp = mul_turn Up a b c h (le_of_false nought c t) in greatest_at_1 p q r s qp rp (le_trans s r p sr rp))

pub product_down : (x y : Bounds) → IsInterval x → IsInterval y → IsTrue (le x.hi nought)
    → product_of x y ≡ between (mul_of Down (cond (le nought y.hi) x.lo x.hi) y.hi) (mul_of Up (cond (le nought y.lo) x.hi x.lo) y.lo)
unfolding product_of
product_down x y h k z = two_ends _ _ _ _ (down_low x.lo x.hi y.lo y.hi z h.ordered k.ordered) (down_high x.lo x.hi y.lo y.hi z h.ordered k.ordered)

-- ---- products of two intervals that cross 0

pub product_wide : (x y : Bounds) → IsInterval x → IsInterval y → IsTrue (le x.lo nought) → IsTrue (le nought x.hi)
    → product_of x y ≡ between (lesser (mul_of Down x.lo y.hi) (mul_of Down x.hi y.lo)) (greater (mul_of Up x.lo y.lo) (mul_of Up x.hi y.hi))
unfolding product_of
product_wide x y h k a b = two_ends _ _ _ _
    (ap (λ w. lesser w (lesser (mul_of Down x.hi y.lo) (mul_of Down x.hi y.hi)))
    (lesser_second (mul_of Down x.lo y.lo) (mul_of Down x.lo y.hi) (mul_turn_right Down y.lo y.hi x.lo k.ordered a))
    ∙ ap (λ w. lesser (mul_of Down x.lo y.hi) w)
    (lesser_first (mul_of Down x.hi y.lo) (mul_of Down x.hi y.hi) (mul_mono_right Down y.lo y.hi x.hi k.ordered b)))
    (ap (λ w. greater w (greater (mul_of Up x.hi y.lo) (mul_of Up x.hi y.hi)))
    (greater_first (mul_of Up x.lo y.lo) (mul_of Up x.lo y.hi) (mul_turn_right Up y.lo y.hi x.lo k.ordered a))
    ∙ ap (λ w. greater (mul_of Up x.lo y.lo) w)
    (greater_second (mul_of Up x.hi y.lo) (mul_of Up x.hi y.hi) (mul_mono_right Up y.lo y.hi x.hi k.ordered b)))

-- ---- the factors can change places

least_swap : (p q r s : Extended) → IsTrue (le (least_of_four p q r s) (least_of_four p r q s))
least_swap p q r s = let m = least_of_four p q r s in
    subst (λ w. IsTrue (le m w)) (refl)
    (lesser_both m (lesser p r) (lesser q s)
    (lesser_both m p r (least_1 p q r s) (least_3 p q r s))
    (lesser_both m q s (least_2 p q r s) (least_4 p q r s)))
  where
    lesser_both : (m a b : Extended) → IsTrue (le m a) → IsTrue (le m b) → IsTrue (le m (lesser a b))
    lesser_both m a b h k = cond_keeps (λ e. IsTrue (le m e)) (le a b) a b (λ t. h) (λ t. k)

greatest_swap : (p q r s : Extended) → IsTrue (le (greatest_of_four p r q s) (greatest_of_four p q r s))
greatest_swap p q r s = let m = greatest_of_four p q r s in
    greater_both m (greater p r) (greater q s)
    (greater_both m p r (greatest_1 p q r s) (greatest_3 p q r s))
    (greater_both m q s (greatest_2 p q r s) (greatest_4 p q r s))
  where
    greater_both : (m a b : Extended) → IsTrue (le a m) → IsTrue (le b m) → IsTrue (le (greater a b) m)
    greater_both m a b h k = cond_keeps (λ e. IsTrue (le e m)) (le a b) b a (λ t. k) (λ t. h)

four_swapped : (op : Extended → Extended → Extended → Extended → Extended) (s : End) (a b c d : Extended)
    → op (mul_of s c a) (mul_of s c b) (mul_of s d a) (mul_of s d b) ≡ op (mul_of s a c) (mul_of s b c) (mul_of s a d) (mul_of s b d)
four_swapped op s a b c d =
    ap (λ w. op w (mul_of s c b) (mul_of s d a) (mul_of s d b)) (mul_comm s c a)
    ∙ ap (λ w. op (mul_of s a c) w (mul_of s d a) (mul_of s d b)) (mul_comm s c b)
    ∙ ap (λ w. op (mul_of s a c) (mul_of s b c) w (mul_of s d b)) (mul_comm s d a)
    ∙ ap (λ w. op (mul_of s a c) (mul_of s b c) (mul_of s a d) w) (mul_comm s d b)

pub product_swap : (x y : Bounds) → product_of y x ≡ product_of x y
unfolding product_of
product_swap x y = two_ends _ _ _ _
    (four_swapped least_of_four Down x.lo x.hi y.lo y.hi
    ∙ le_antisym _ _ (least_swap (mul_of Down x.lo y.lo) (mul_of Down x.hi y.lo) (mul_of Down x.lo y.hi) (mul_of Down x.hi y.hi))
    (least_swap (mul_of Down x.lo y.lo) (mul_of Down x.lo y.hi) (mul_of Down x.hi y.lo) (mul_of Down x.hi y.hi)))
    (four_swapped greatest_of_four Up x.lo x.hi y.lo y.hi
    ∙ le_antisym _ _ (greatest_swap (mul_of Up x.lo y.lo) (mul_of Up x.lo y.hi) (mul_of Up x.hi y.lo) (mul_of Up x.hi y.hi))
    (greatest_swap (mul_of Up x.lo y.lo) (mul_of Up x.hi y.lo) (mul_of Up x.lo y.hi) (mul_of Up x.hi y.hi)))

-- ---- quotients by numbers above 0: a <= b, 0 < c <= d

pub above_too : (a b : Extended) → IsTrue (le a b) → le a nought ≡ false → le b nought ≡ false
above_too a b h k = by_value (le b nought) refl
  where
    by_value : (t : Bool) → le b nought ≡ t → le b nought ≡ false
    by_value true e = let p = le_trans a b nought h e in absurd (cc)
    by_value false e = e

over_low : (a b c d : Extended) → IsTrue (le a b) → IsTrue (le c d) → le c nought ≡ false
    → least_of_four (div_of Down a c) (div_of Down a d) (div_of Down b c) (div_of Down b d) ≡ div_of Down a (cond (le nought a) d c)
over_low a b c d h k z =
    let p = div_of Down a c in let q = div_of Down a d in let r = div_of Down b c in let s = div_of Down b d in
    let pr = div_mono Down a b c h z in let qs = div_mono Down a b d h (above_too c d k z) in
    cond_keeps (λ e. least_of_four p q r s ≡ div_of Down a e) (le nought a) d c
    (λ t. let qp = div_down Down a c d t z k in least_at_2 p q r s qp (le_trans q p r qp pr) qs)
    (λ t. let pq = div_up Down a c d (le_of_false nought a t) z k in least_at_1 p q r s pq pr (le_trans p q s pq qs))

over_high : (a b c d : Extended) → IsTrue (le a b) → IsTrue (le c d) → le c nought ≡ false
    → greatest_of_four (div_of Up a c) (div_of Up a d) (div_of Up b c) (div_of Up b d) ≡ div_of Up b (cond (le nought b) c d)
over_high a b c d h k z =
    let p = div_of Up a c in let q = div_of Up a d in let r = div_of Up b c in let s = div_of Up b d in
    let pr = div_mono Up a b c h z in let qs = div_mono Up a b d h (above_too c d k z) in
    cond_keeps (λ e. greatest_of_four p q r s ≡ div_of Up b e) (le nought b) c d
    (λ t. let sr = div_down Up b c d t z k in greatest_at_3 p q r s pr (le_trans q s r qs sr) sr)
    (λ t. let rs = div_up Up b c d (le_of_false nought b t) z k in greatest_at_4 p q r s (le_trans p r s pr rs) qs rs)

pub quotient_up : (x y : Bounds) → IsInterval x → IsInterval y → lt nought y.lo ≡ true
    → of_ends div_of x y ≡ between (div_of Down x.lo (cond (le nought x.lo) y.hi y.lo)) (div_of Up x.hi (cond (le nought x.hi) y.lo y.hi))
quotient_up x y h k z = two_ends _ _ _ _
    (over_low x.lo x.hi y.lo y.hi h.ordered k.ordered (lt_not nought y.lo z))
    (over_high x.lo x.hi y.lo y.hi h.ordered k.ordered (lt_not nought y.lo z))

-- ---- quotients by numbers below 0

turn_both_sides : (s : End) (a b e f : Extended) → le nought e ≡ false → le nought f ≡ false
    → IsTrue (le (div_of s (neg_of a) (neg_of e)) (div_of s (neg_of b) (neg_of f))) → IsTrue (le (div_of s a e) (div_of s b f))
turn_both_sides s a b e f h k l =
    subst (λ w. IsTrue (le w (div_of s b f))) (div_turn s a e h)
    (subst (λ w. IsTrue (le (div_of s (neg_of a) (neg_of e)) w)) (div_turn s b f k) l)

-- a lesser number has a greater quotient
pub under_mono : (s : End) (a b e : Extended) → IsTrue (le a b) → le nought e ≡ false → IsTrue (le (div_of s b e) (div_of s a e))
under_mono s a b e h k = turn_both_sides s b a e e k k (div_mono s (neg_of b) (neg_of a) (neg_of e) (neg_order a b h) (not_turned e k))

-- c <= d < 0 and a <= 0
pub under_up : (s : End) (a c d : Extended) → IsTrue (le a nought) → IsTrue (le c d) → le nought d ≡ false
    → IsTrue (le (div_of s a c) (div_of s a d))
under_up s a c d h k z = turn_both_sides s a a c d (lower_too c d k z) z
    (div_down s (neg_of a) (neg_of d) (neg_of c) (neg_order a nought h) (not_turned d z) (neg_order c d k))

-- c <= d < 0 and 0 <= a
pub under_down : (s : End) (a c d : Extended) → IsTrue (le nought a) → IsTrue (le c d) → le nought d ≡ false
    → IsTrue (le (div_of s a d) (div_of s a c))
under_down s a c d h k z = turn_both_sides s a a d c z (lower_too c d k z)
    (div_up s (neg_of a) (neg_of d) (neg_of c) (neg_order nought a h) (not_turned d z) (neg_order c d k))

under_low : (a b c d : Extended) → IsTrue (le a b) → IsTrue (le c d) → le nought d ≡ false
    → least_of_four (div_of Down a c) (div_of Down a d) (div_of Down b c) (div_of Down b d) ≡ div_of Down b (cond (le nought b) d c)
under_low a b c d h k z =
    let p = div_of Down a c in let q = div_of Down a d in let r = div_of Down b c in let s = div_of Down b d in
    let rp = under_mono Down a b c h (lower_too c d k z) in let sq = under_mono Down a b d h z in
    cond_keeps (λ e. least_of_four p q r s ≡ div_of Down b e) (le nought b) d c
    (λ t. let sr = under_down Down b c d t k z in least_at_4 p q r s (le_trans s r p sr rp) sq sr)
    (λ t. let rs = under_up Down b c d (le_of_false nought b t) k z in least_at_3 p q r s rp (le_trans r s q rs sq) rs)

under_high : (a b c d : Extended) → IsTrue (le a b) → IsTrue (le c d) → le nought d ≡ false
    → greatest_of_four (div_of Up a c) (div_of Up a d) (div_of Up b c) (div_of Up b d) ≡ div_of Up a (cond (le nought a) c d)
under_high a b c d h k z =
    let p = div_of Up a c in let q = div_of Up a d in let r = div_of Up b c in let s = div_of Up b d in
    let rp = under_mono Up a b c h (lower_too c d k z) in let sq = under_mono Up a b d h z in
    cond_keeps (λ e. greatest_of_four p q r s ≡ div_of Up a e) (le nought a) c d
    (λ t. let qp = under_down Up a c d t k z in greatest_at_1 p q r s qp rp (le_trans s q p sq qp))
    (λ t. let pq = under_up Up a c d (le_of_false nought a t) k z in greatest_at_2 p q r s pq (le_trans r p q rp pq) sq)

pub quotient_down : (x y : Bounds) → IsInterval x → IsInterval y → lt y.hi nought ≡ true
    → of_ends div_of x y ≡ between (div_of Down x.hi (cond (le nought x.hi) y.hi y.lo)) (div_of Up x.lo (cond (le nought x.lo) y.lo y.hi))
quotient_down x y h k z = two_ends _ _ _ _
    (under_low x.lo x.hi y.lo y.hi h.ordered k.ordered (lt_not y.hi nought z))
    (under_high x.lo x.hi y.lo y.hi h.ordered k.ordered (lt_not y.hi nought z))

-- ---- even powers of an interval that crosses 0

pub far_power : (a b : Extended) (n : ℕ) → IsTrue (le nought a) → IsTrue (le nought b)
    → greater (pow_of Up a n) (pow_of Up b n) ≡ pow_of Up (greater a b) n
far_power a b n h k = by_le a b
    (λ l. greater_second (pow_of Up a n) (pow_of Up b n) (pow_mono Up a b n h l) ∙ sym (ap (λ w. pow_of Up w n) (greater_second a b l)))
    (λ l. greater_first (pow_of Up a n) (pow_of Up b n) (pow_mono Up b a n k l) ∙ sym (ap (λ w. pow_of Up w n) (greater_first a b l)))

-- ---- quotients by one end

pub not_pos : (a : ℤ) → Fin a ≢ PosInf
not_pos a e = cc

pub not_neg : (a : ℤ) → Fin a ≢ NegInf
not_neg a e = cc

pub div_low_open : (a e : Extended) → a ≢ PosInf → le e nought ≡ false → div_of Down a e ≢ PosInf
div_low_open PosInf e h k = absurd (h refl)
div_low_open a NegInf h k = absurd (cc)
div_low_open a (Fin (pos zero)) h k = absurd (search rules)
div_low_open a (Fin (negsuc e)) h k = absurd (search rules)
div_low_open NegInf (Fin (pos (suc e))) h k = λ q. cc
div_low_open (Fin a) (Fin (pos (suc e))) h k = rounded_down_open (a *ℤ pos unit) (suc e) (omega arith)
div_low_open NegInf PosInf h k = not_pos (pos 0)
div_low_open (Fin a) PosInf h k = not_pos (pos 0)

pub div_high_open : (a e : Extended) → a ≢ NegInf → le e nought ≡ false → div_of Up a e ≢ NegInf
div_high_open NegInf e h k = absurd (h refl)
div_high_open a NegInf h k = absurd (cc)
div_high_open a (Fin (pos zero)) h k = absurd (search rules)
div_high_open a (Fin (negsuc e)) h k = absurd (search rules)
div_high_open PosInf (Fin (pos (suc e))) h k = λ q. cc
div_high_open (Fin a) (Fin (pos (suc e))) h k = rounded_up_open (a *ℤ pos unit) (suc e) (omega arith)
div_high_open PosInf PosInf h k = not_neg (pos 0)
div_high_open (Fin a) PosInf h k = not_neg (pos 0)

pub neg_not_pos : (a : Extended) → a ≢ NegInf → neg_of a ≢ PosInf
neg_not_pos NegInf h = absurd (h refl)
neg_not_pos (Fin a) h = not_pos (neg_ℤ a)
neg_not_pos PosInf h = λ q. cc

pub neg_not_neg : (a : Extended) → a ≢ PosInf → neg_of a ≢ NegInf
neg_not_neg PosInf h = absurd (h refl)
neg_not_neg (Fin a) h = not_neg (neg_ℤ a)
neg_not_neg NegInf h = λ q. cc

pub from_interval : (a : Extended) → a ≢ PosInf → IsInterval (between a PosInf)
from_interval a h = record { ordered = pos_greatest a; lo_open = h; hi_open = λ q. absurd (cc) }

pub to_interval : (a : Extended) → a ≢ NegInf → IsInterval (between NegInf a)
to_interval a h = record { ordered = neg_least a; lo_open = λ q. absurd (cc); hi_open = h }

-- the quotients by [0,d] and by [c,0]
pub low_over_up : (a d : Extended) → a ≢ PosInf → lt nought d ≡ true → IsInterval (between (div_of Down a d) PosInf)
low_over_up a d h k = from_interval (div_of Down a d) (div_low_open a d h (lt_not nought d k))

pub high_over_up : (a d : Extended) → a ≢ NegInf → lt nought d ≡ true → IsInterval (between NegInf (div_of Up a d))
high_over_up a d h k = to_interval (div_of Up a d) (div_high_open a d h (lt_not nought d k))

pub low_over_down : (a c : Extended) → a ≢ NegInf → lt c nought ≡ true → IsInterval (between (div_of Down a c) PosInf)
low_over_down a c h k = let z = lt_not c nought k in
    from_interval (div_of Down a c) (subst (λ w. w ≢ PosInf) (div_turn Down a c z)
    (div_low_open (neg_of a) (neg_of c) (neg_not_pos a h) (not_turned c z)))

pub high_over_down : (a c : Extended) → a ≢ PosInf → lt c nought ≡ true → IsInterval (between NegInf (div_of Up a c))
high_over_down a c h k = let z = lt_not c nought k in
    to_interval (div_of Up a c) (subst (λ w. w ≢ NegInf) (div_turn Up a c z)
    (div_high_open (neg_of a) (neg_of c) (neg_not_neg a h) (not_turned c z)))
