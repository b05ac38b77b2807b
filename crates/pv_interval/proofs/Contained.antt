-- Operations are inclusion monotone: sums, products, least and greatest, powers, hulls and meets.
use Rattle.std.proofs.Common.{◌≡◌, ℕ, ◌%◌, refl, arith, cond, rules, ◌⊎◌, inl, inr}
use Rattle.std.specs.Prelude.{IsTrue, Bool, true, false, pos, ◌+ℤ◌, Some, None, if◌then◌else◌, eqb}
use Rattle.std.proofs.lemmas.Int.{ints}
use Rattle.pv_num.specs.Extended.{Extended, NegInf, Fin, PosInf}
use Rattle.pv_num.specs.Grid.{unit}
use Rattle.pv_num.specs.Order.{le, lesser, greater}
use Rattle.pv_num.specs.Arithmetic.{neg_of, add_of, end_of, mul_of, pow_of}
use Rattle.pv_num.specs.Rounding.{rounded}
use Rattle.pv_num.specs.declared.num.End.{End}
use Rattle.pv_num.specs.declared.num.End.TheVariants.{Down, Up}
use Rattle.pv_interval.specs.Bounds.{Bounds, IsInterval, between}
use Rattle.pv_interval.specs.Subsets.{IsSubset, IsSubsetSome}
use Rattle.pv_interval.specs.Tables.{nought, exactly, sum_of, difference_of, product_of, negated, absolute, least_of, greatest_of, hull_of, meet_of, power_of, even_power, odd_power, signed_power, of_ends, least_of_four, greatest_of_four, is_from_nought, is_to_nought}
use Rattle.pv_interval.proofs.Products.{times_pos}
use Rattle.pv_interval.proofs.Ends.{le_refl, le_trans, le_of_false, fin_le}
use Rattle.pv_interval.proofs.Rounds.{rounded_mono}
use Rattle.pv_interval.proofs.Choices.{by_le, lesser_left, lesser_right, greater_left, greater_right, lesser_either, greater_either, least_1, least_2, least_3, least_4, greatest_1, greatest_2, greatest_3, greatest_4}
use Rattle.pv_interval.proofs.Monotone.{neg_least, pos_greatest, neg_order, mul_mono, mul_turn, mul_mono_right, mul_turn_right, pow_mono}
use Rattle.pv_interval.proofs.Orders.{cond_keeps}
use Rattle.pv_interval.proofs.Powers.{turn_le, turn_from, pow_from_zero}

-- ---- sums

add_mono : (s : End) (a b c d : Extended) → IsTrue (le a c) → IsTrue (le b d) → IsTrue (le (add_of s a b) (add_of s c d))
add_mono s NegInf NegInf c d h k = neg_least (add_of s c d)
add_mono s NegInf (Fin b) c d h k = neg_least (add_of s c d)
add_mono s (Fin a) NegInf c d h k = neg_least (add_of s c d)
add_mono s NegInf PosInf c NegInf h k = absurd (search rules)
add_mono s NegInf PosInf c (Fin d) h k = absurd (search rules)
add_mono s NegInf PosInf NegInf PosInf h k = le_refl (end_of s)
add_mono s NegInf PosInf (Fin c) PosInf h k = pos_greatest (end_of s)
add_mono s NegInf PosInf PosInf PosInf h k = pos_greatest (end_of s)
add_mono s (Fin a) (Fin b) NegInf d h k = absurd (search rules)
add_mono s (Fin a) (Fin b) (Fin c) NegInf h k = absurd (search rules)
add_mono s (Fin a) (Fin b) (Fin c) (Fin d) h k =
    let e = fin_le a c h in let f = fin_le b d k in
    rounded_mono s (a +ℤ b) (c +ℤ d) 1 1 (omega arith) (omega arith) (times_pos 1 (a +ℤ b) (c +ℤ d) (omega (arith, ints)))
add_mono s (Fin a) (Fin b) (Fin c) PosInf h k = pos_greatest (rounded s (a +ℤ b) 1)
add_mono s (Fin a) (Fin b) PosInf NegInf h k = absurd (search rules)
add_mono s (Fin a) (Fin b) PosInf (Fin d) h k = pos_greatest (rounded s (a +ℤ b) 1)
add_mono s (Fin a) (Fin b) PosInf PosInf h k = pos_greatest (rounded s (a +ℤ b) 1)
add_mono s (Fin a) PosInf c NegInf h k = absurd (search rules)
add_mono s (Fin a) PosInf c (Fin d) h k = absurd (search rules)
add_mono s (Fin a) PosInf NegInf PosInf h k = absurd (search rules)
add_mono s (Fin a) PosInf (Fin c) PosInf h k = refl
add_mono s (Fin a) PosInf PosInf PosInf h k = refl
add_mono s PosInf b NegInf d h k = absurd (search rules)
add_mono s PosInf b (Fin c) d h k = absurd (search rules)
add_mono s PosInf NegInf PosInf NegInf h k = le_refl (end_of s)
add_mono s PosInf NegInf PosInf (Fin d) h k = pos_greatest (end_of s)
add_mono s PosInf NegInf PosInf PosInf h k = pos_greatest (end_of s)
add_mono s PosInf (Fin b) PosInf NegInf h k = absurd (search rules)
add_mono s PosInf (Fin b) PosInf (Fin d) h k = refl
add_mono s PosInf (Fin b) PosInf PosInf h k = refl
add_mono s PosInf PosInf PosInf NegInf h k = absurd (search rules)
add_mono s PosInf PosInf PosInf (Fin d) h k = absurd (search rules)
add_mono s PosInf PosInf PosInf PosInf h k = refl

pub sum_contained : (x y v w : Bounds) → IsSubset x v → IsSubset y w → IsSubset (sum_of x y) (sum_of v w)
unfolding sum_of
sum_contained x y v w h k = record {
  low = add_mono Down v.lo w.lo x.lo y.lo h.low k.low;
  high = add_mono Up x.hi y.hi v.hi w.hi h.high k.high;
}

pub difference_contained : (x y v w : Bounds) → IsSubset x v → IsSubset y w → IsSubset (difference_of x y) (difference_of v w)
unfolding difference_of
difference_contained x y v w h k = record {
  low = add_mono Down v.lo (neg_of w.hi) x.lo (neg_of y.hi) h.low (neg_order y.hi w.hi k.high);
  high = add_mono Up x.hi (neg_of y.lo) v.hi (neg_of w.lo) h.high (neg_order w.lo y.lo k.low);
}

-- ---- least, greatest, opposite numbers, hulls and meets

lesser_mono : (a b c d : Extended) → IsTrue (le a c) → IsTrue (le b d) → IsTrue (le (lesser a b) (lesser c d))
lesser_mono a b c d h k = lesser_either (λ e. IsTrue (le (lesser a b) e)) c d
    (le_trans (lesser a b) a c (lesser_left a b) h) (le_trans (lesser a b) b d (lesser_right a b) k)

greater_mono : (a b c d : Extended) → IsTrue (le a c) → IsTrue (le b d) → IsTrue (le (greater a b) (greater c d))
greater_mono a b c d h k = greater_either (λ e. IsTrue (le e (greater c d))) a b
    (le_trans a c (greater c d) h (greater_left c d)) (le_trans b d (greater c d) k (greater_right c d))

pub least_contained : (x y v w : Bounds) → IsSubset x v → IsSubset y w → IsSubset (least_of x y) (least_of v w)
unfolding least_of
least_contained x y v w h k = record {
  low = lesser_mono v.lo w.lo x.lo y.lo h.low k.low;
  high = lesser_mono x.hi y.hi v.hi w.hi h.high k.high;
}

pub greatest_contained : (x y v w : Bounds) → IsSubset x v → IsSubset y w → IsSubset (greatest_of x y) (greatest_of v w)
unfolding greatest_of
greatest_contained x y v w h k = record {
  low = greater_mono v.lo w.lo x.lo y.lo h.low k.low;
  high = greater_mono x.hi y.hi v.hi w.hi h.high k.high;
}

pub hull_contained : (x y v w : Bounds) → IsSubset x v → IsSubset y w → IsSubset (hull_of x y) (hull_of v w)
unfolding hull_of
hull_contained x y v w h k = record {
  low = lesser_mono v.lo w.lo x.lo y.lo h.low k.low;
  high = greater_mono x.hi y.hi v.hi w.hi h.high k.high;
}

pub negated_contained : (x v : Bounds) → IsSubset x v → IsSubset (negated x) (negated v)
unfolding negated
negated_contained x v h = record { low = neg_order x.hi v.hi h.high; high = neg_order v.lo x.lo h.low }

meet_by : (t u : Bool) (z c : Bounds) → (t ≡ true → u ≡ true) → IsSubset z c → IsSubsetSome (cond t (Some z) None) (cond u (Some c) None)
meet_by false u z c h k = tt
meet_by true true z c h k = k
meet_by true false z c h k = absurd (let e = h refl in cc)

pub meet_contained : (x y v w : Bounds) → IsSubset x v → IsSubset y w → IsSubsetSome (meet_of x y) (meet_of v w)
unfolding meet_of
meet_contained x y v w h k =
    let low = greater_mono v.lo w.lo x.lo y.lo h.low k.low in
    let high = lesser_mono x.hi y.hi v.hi w.hi h.high k.high in
    meet_by (le (greater x.lo y.lo) (lesser x.hi y.hi)) (le (greater v.lo w.lo) (lesser v.hi w.hi))
    (between (greater x.lo y.lo) (lesser x.hi y.hi)) (between (greater v.lo w.lo) (lesser v.hi w.hi))
    (λ t. le_trans (greater v.lo w.lo) (greater x.lo y.lo) (lesser v.hi w.hi) low
    (le_trans (greater x.lo y.lo) (lesser x.hi y.hi) (lesser v.hi w.hi) t high))
    (record { low = low; high = high })

-- ---- operations at the four pairs of ends

-- e lies between the ends
pub record Held (v : Bounds) (e : Extended) : Type 0 where
  pub low : IsTrue (le v.lo e)
  pub high : IsTrue (le e v.hi)

pub low_held : (x v : Bounds) → IsInterval x → IsSubset x v → Held v x.lo
low_held x v i h = record { low = h.low; high = le_trans x.lo x.hi v.hi i.ordered h.high }

pub high_held : (x v : Bounds) → IsInterval x → IsSubset x v → Held v x.hi
high_held x v i h = record { low = le_trans v.lo x.lo x.hi h.low i.ordered; high = h.high }

pub own_low : (v : Bounds) (e : Extended) → Held v e → Held v v.lo
own_low v e h = record { low = le_refl v.lo; high = le_trans v.lo e v.hi h.low h.high }

pub own_high : (v : Bounds) (e : Extended) → Held v e → Held v v.hi
own_high v e h = record { low = le_trans v.lo e v.hi h.low h.high; high = le_refl v.hi }

-- r lies between p and q, whichever is the lesser
abbrev pub IsAmong : Extended → Extended → Extended → Type 0
IsAmong p q r = (IsTrue (le p r) × IsTrue (le r q)) ⊎ (IsTrue (le q r) × IsTrue (le r p))

-- at each place the results for held ends lie between those for the ends themselves
pub record IsSteady (op : End → Extended → Extended → Extended) (v w : Bounds) : Type 0 where
  pub first : (s : End) (e f : Extended) → Held v e → Held w f → IsAmong (op s v.lo f) (op s v.hi f) (op s e f)
  pub second : (s : End) (e f : Extended) → Held v e → Held w f → IsAmong (op s e w.lo) (op s e w.hi) (op s e f)

-- what is below both is below what lies between them, and so above
below_among : (m p q r : Extended) → IsAmong p q r → IsTrue (le m p) → IsTrue (le m q) → IsTrue (le m r)
below_among m p q r (inl h) a b = le_trans m p r a h.0
below_among m p q r (inr h) a b = le_trans m q r b h.0

above_among : (m p q r : Extended) → IsAmong p q r → IsTrue (le p m) → IsTrue (le q m) → IsTrue (le r m)
above_among m p q r (inl h) a b = le_trans r q m h.1 b
above_among m p q r (inr h) a b = le_trans r p m h.1 a

pub four_below : (op : End → Extended → Extended → Extended) (v w : Bounds) (e f : Extended) → IsSteady op v w → Held v e → Held w f
    → IsTrue (le (of_ends op v w).lo (op Down e f))
four_below op v w e f t h k =
    let p = op Down v.lo w.lo in let q = op Down v.lo w.hi in let r = op Down v.hi w.lo in let s = op Down v.hi w.hi in
    let m = least_of_four p q r s in
    below_among m (op Down v.lo f) (op Down v.hi f) (op Down e f) (t.first Down e f h k)
    (below_among m p q (op Down v.lo f) (t.second Down v.lo f (own_low v e h) k) (least_1 p q r s) (least_2 p q r s))
    (below_among m r s (op Down v.hi f) (t.second Down v.hi f (own_high v e h) k) (least_3 p q r s) (least_4 p q r s))

pub four_above : (op : End → Extended → Extended → Extended) (v w : Bounds) (e f : Extended) → IsSteady op v w → Held v e → Held w f
    → IsTrue (le (op Up e f) (of_ends op v w).hi)
four_above op v w e f t h k =
    let p = op Up v.lo w.lo in let q = op Up v.lo w.hi in let r = op Up v.hi w.lo in let s = op Up v.hi w.hi in
    let m = greatest_of_four p q r s in
    above_among m (op Up v.lo f) (op Up v.hi f) (op Up e f) (t.first Up e f h k)
    (above_among m p q (op Up v.lo f) (t.second Up v.lo f (own_low v e h) k) (greatest_1 p q r s) (greatest_2 p q r s))
    (above_among m r s (op Up v.hi f) (t.second Up v.hi f (own_high v e h) k) (greatest_3 p q r s) (greatest_4 p q r s))

pub below_four : (m p q r s : Extended) → IsTrue (le m p) → IsTrue (le m q) → IsTrue (le m r) → IsTrue (le m s)
    → IsTrue (le m (least_of_four p q r s))
below_four m p q r s a b c d =
    let P : Extended → Type 0 = λ e. IsTrue (le m e) in
    lesser_either P (lesser p q) (lesser r s) (lesser_either P p q a b) (lesser_either P r s c d)

pub above_four : (m p q r s : Extended) → IsTrue (le p m) → IsTrue (le q m) → IsTrue (le r m) → IsTrue (le s m)
    → IsTrue (le (greatest_of_four p q r s) m)
above_four m p q r s a b c d =
    let P : Extended → Type 0 = λ e. IsTrue (le e m) in
    greater_either P (greater p q) (greater r s) (greater_either P p q a b) (greater_either P r s c d)

pub ends_contained : (op : End → Extended → Extended → Extended) (x y v w : Bounds) → IsSteady op v w → IsInterval x → IsInterval y
    → IsSubset x v → IsSubset y w → IsSubset (of_ends op x y) (of_ends op v w)
ends_contained op x y v w t i j h k =
    let a = low_held x v i h in let b = high_held x v i h in let c = low_held y w j k in let d = high_held y w j k in
    record {
      low = below_four (of_ends op v w).lo (op Down x.lo y.lo) (op Down x.lo y.hi) (op Down x.hi y.lo) (op Down x.hi y.hi)
          (four_below op v w x.lo y.lo t a c) (four_below op v w x.lo y.hi t a d)
          (four_below op v w x.hi y.lo t b c) (four_below op v w x.hi y.hi t b d);
      high = above_four (of_ends op v w).hi (op Up x.lo y.lo) (op Up x.lo y.hi) (op Up x.hi y.lo) (op Up x.hi y.hi)
          (four_above op v w x.lo y.lo t a c) (four_above op v w x.lo y.hi t a d)
          (four_above op v w x.hi y.lo t b c) (four_above op v w x.hi y.hi t b d);
    }

-- ---- products

product_steady : (v w : Bounds) → IsSteady mul_of v w
product_steady v w = record {
  first = λ s e f h k. by_le nought f
      (λ z. inl (mul_mono s v.lo e f h.low z, mul_mono s e v.hi f h.high z))
      (λ z. inr (mul_turn s e v.hi f h.high z, mul_turn s v.lo e f h.low z));
  second = λ s e f h k. by_le nought e
      (λ z. inl (mul_mono_right s w.lo f e k.low z, mul_mono_right s f w.hi e k.high z))
      (λ z. inr (mul_turn_right s f w.hi e k.high z, mul_turn_right s w.lo f e k.low z));
}

pub product_contained : (x y v w : Bounds) → IsInterval x → IsInterval y → IsSubset x v → IsSubset y w → IsSubset (product_of x y) (product_of v w)
unfolding product_of
product_contained x y v w i j h k = ends_contained mul_of x y v w (product_steady v w) i j h k

-- ---- powers

signed_mono : (s o : End) (a b : Extended) (n : ℕ) → IsTrue (le a b) → IsTrue (le (signed_power s o a n) (signed_power s o b n))
signed_mono s o a b n h =
    let p = pow_of s a n in let q = neg_of (pow_of o (neg_of a) n) in
    let r = pow_of s b n in let t = neg_of (pow_of o (neg_of b) n) in
    cond_keeps (λ e. IsTrue (le e (signed_power s o b n))) (le nought a) p q
    (λ z. let y = le_trans nought a b z h in
    cond_keeps (λ e. IsTrue (le p e)) (le nought b) r t (λ _. pow_mono s a b n z h) (λ e. absurd (cc)))
    (λ z. let a0 = le_of_false nought a z in
    let under = turn_from (pow_of o (neg_of a) n) (pow_from_zero o (neg_of a) n (turn_le a a0)) in
    cond_keeps (λ e. IsTrue (le q e)) (le nought b) r t
    (λ y. le_trans q nought r under (pow_from_zero s b n y))
    (λ y. let b0 = le_of_false nought b y in
    neg_order (pow_of o (neg_of b) n) (pow_of o (neg_of a) n)
    (pow_mono o (neg_of b) (neg_of a) n (turn_le b b0) (neg_order a b h))))

odd_contained : (x v : Bounds) (n : ℕ) → IsSubset x v → IsSubset (odd_power x n) (odd_power v n)
odd_contained x v n h = record { low = signed_mono Down Up v.lo x.lo n h.low; high = signed_mono Up Down x.hi v.hi n h.high }

-- the rows of an even power: of numbers from 0 on, up to 0, and on both sides of it
abbrev even_up : Bounds → ℕ → Bounds
even_up x n = between (pow_of Down x.lo n) (pow_of Up x.hi n)

abbrev even_down : Bounds → ℕ → Bounds
even_down x n = between (pow_of Down (neg_of x.hi) n) (pow_of Up (neg_of x.lo) n)

abbrev even_wide : Bounds → ℕ → Bounds
even_wide x n = between nought (greater (pow_of Up (neg_of x.lo) n) (pow_of Up x.hi n))

by_rows : (P : Bounds → Type 0) (x : Bounds) (n : ℕ) → (le nought x.lo ≡ true → P (even_up x n))
    → (le nought x.lo ≡ false → le x.hi nought ≡ true → P (even_down x n))
    → (le nought x.lo ≡ false → le x.hi nought ≡ false → P (even_wide x n)) → P (even_power x n)
by_rows P x n f g h =
    cond_keeps P (is_from_nought x) (even_up x n) (if is_to_nought x then even_down x n else even_wide x n) f
    (λ t. cond_keeps P (is_to_nought x) (even_down x n) (even_wide x n) (g t) (h t))

up_in : (x v : Bounds) (n : ℕ) → IsInterval x → IsSubset x v → le nought x.lo ≡ true → IsSubset (even_up x n) (even_power v n)
up_in x v n i h z =
    let z' = le_trans nought x.lo x.hi z i.ordered in
    by_rows (IsSubset (even_up x n)) v n
    (λ a. record { low = pow_mono Down v.lo x.lo n a h.low; high = pow_mono Up x.hi v.hi n z' h.high })
    (λ a b.
    let c = le_trans x.hi v.hi nought h.high b in
    let d = le_trans v.lo x.lo nought h.low (le_trans x.lo x.hi nought i.ordered c) in
    let e = le_trans nought x.hi v.hi z' h.high in
    record {
      low = pow_mono Down (neg_of v.hi) x.lo n (turn_le v.hi b) (le_trans (neg_of v.hi) nought x.lo (turn_from v.hi e) z);
      high = pow_mono Up x.hi (neg_of v.lo) n z' (le_trans x.hi nought (neg_of v.lo) c (turn_le v.lo d));
    })
    (λ a b. record {
      low = pow_from_zero Down x.lo n z;
      high = le_trans (pow_of Up x.hi n) (pow_of Up v.hi n) (even_wide v n).hi (pow_mono Up x.hi v.hi n z' h.high)
          (greater_right (pow_of Up (neg_of v.lo) n) (pow_of Up v.hi n));
    })

down_in : (x v : Bounds) (n : ℕ) → IsInterval x → IsSubset x v → le nought x.lo ≡ false → le x.hi nought ≡ true
    → IsSubset (even_down x n) (even_power v n)
down_in x v n i h y z =
    let u = turn_le x.hi z in let l = turn_le x.lo (le_of_false nought x.lo y) in
    let turned = neg_order v.lo x.lo h.low in
    by_rows (IsSubset (even_down x n)) v n
    (λ a. let c = le_trans nought v.lo x.lo a h.low in absurd (cc))
    (λ a b. record {
      low = pow_mono Down (neg_of v.hi) (neg_of x.hi) n (turn_le v.hi b) (neg_order x.hi v.hi h.high);
      high = pow_mono Up (neg_of x.lo) (neg_of v.lo) n l turned;
    })
    (λ a b. record {
      low = pow_from_zero Down (neg_of x.hi) n u;
      high = le_trans (pow_of Up (neg_of x.lo) n) (pow_of Up (neg_of v.lo) n) (even_wide v n).hi
          (pow_mono Up (neg_of x.lo) (neg_of v.lo) n l turned)
          (greater_left (pow_of Up (neg_of v.lo) n) (pow_of Up v.hi n));
    })

wide_in : (x v : Bounds) (n : ℕ) → IsSubset x v → le nought x.lo ≡ false → le x.hi nought ≡ false
    → IsSubset (even_wide x n) (even_power v n)
wide_in x v n h y z =
    by_rows (IsSubset (even_wide x n)) v n
    (λ a. let c = le_trans nought v.lo x.lo a h.low in absurd (cc))
    (λ a b. let c = le_trans x.hi v.hi nought h.high b in absurd (cc))
    (λ a b. record {
      low = le_refl nought;
      high = greater_mono (pow_of Up (neg_of x.lo) n) (pow_of Up x.hi n) (pow_of Up (neg_of v.lo) n) (pow_of Up v.hi n)
          (pow_mono Up (neg_of x.lo) (neg_of v.lo) n (turn_le x.lo (le_of_false nought x.lo y)) (neg_order v.lo x.lo h.low))
          (pow_mono Up x.hi v.hi n (le_of_false x.hi nought z) h.high);
    })

even_contained : (x v : Bounds) (n : ℕ) → IsInterval x → IsSubset x v → IsSubset (even_power x n) (even_power v n)
even_contained x v n i h = by_rows (λ z. IsSubset z (even_power v n)) x n (up_in x v n i h) (down_in x v n i h) (wide_in x v n h)

-- an absolute value is the first even power
pub absolute_contained : (x v : Bounds) → IsInterval x → IsSubset x v → IsSubset (absolute x) (absolute v)
unfolding absolute negated
absolute_contained x v i h = even_contained x v 1 i h

pub power_contained : (x v : Bounds) (n : ℕ) → IsInterval x → IsSubset x v → IsSubset (power_of x n) (power_of v n)
unfolding power_of
power_contained x v n i h = power_by (eqb n 0) (eqb (n % 2) 0)
  where
    power_by : (s t : Bool)
        → IsSubset (cond s (exactly (Fin (pos unit))) (cond t (even_power x n) (odd_power x n)))
        (cond s (exactly (Fin (pos unit))) (cond t (even_power v n) (odd_power v n)))
    power_by true t = record { low = le_refl (Fin (pos unit)); high = le_refl (Fin (pos unit)) }
    power_by false true = even_contained x v n i h
    power_by false false = odd_contained x v n h
