-- Each table keeps every rational result.
use Rattle.std.proofs.Common.{◌≡◌, ℕ, ◌<◌, ◌*◌, refl, arith, sym, ◌∙◌, ap, subst}
use Rattle.std.specs.Prelude.{ℤ, pos, negsuc, ◌+ℤ◌, ◌*ℤ◌, ◌≤ℤ◌}
use Rattle.std.proofs.Math.IntN.{*ℤ_comm, *ℤ-one}
use Rattle.std.proofs.lemmas.Int.{ints}
use Rattle.std.proofs.Math.Nat.{one-le-mul}
use lib.IntN.{neg_ℤ}
use Rattle.pv_num.specs.Extended.{Extended, NegInf, Fin, PosInf}
use Rattle.pv_num.specs.Grid.{unit}
use Rattle.pv_num.specs.Arithmetic.{neg_of, add_of, mul_of}
use Rattle.pv_num.specs.Rounding.{rounded}
use Rattle.pv_num.specs.declared.num.End.TheVariants.{Down, Up}
use Rattle.pv_interval.specs.Bounds.{Bounds}
use Rattle.pv_interval.specs.Fractions.{Fraction, plus, minus, times, opposite}
use Rattle.pv_interval.specs.Points.{IsBelow, IsAbove, LiesIn}
use Rattle.pv_interval.specs.Tables.{nought, sum_of, difference_of, product_of, negated}
use Rattle.pv_interval.proofs.Integers.{times_assoc, swap_last, right_distrib, neg_left}
use Rattle.pv_interval.proofs.Products.{times_pos}
use Rattle.pv_interval.proofs.Values.{below_rounded, above_rounded, below_le, above_le}
use Rattle.pv_interval.proofs.Choices.{by_le, least_1, least_2, least_3, least_4, greatest_1, greatest_2, greatest_3, greatest_4}
use Rattle.pv_interval.proofs.Multiples.{low_1, low_2, low_3, low_4, high_1, high_2, high_3, high_4}

pub some_times : (b d : ℕ) → 0 < b → 0 < d → 0 < b * d
some_times b d h k = one-le-mul h k

-- ---- sums

-- (e + f) over the common denominator
spread : (e f : ℤ) (b d : ℕ) → (e +ℤ f) *ℤ pos (b * d) ≡ (e *ℤ pos b) *ℤ pos d +ℤ (f *ℤ pos d) *ℤ pos b
spread e f b d =
    right_distrib e f (pos b *ℤ pos d)
    ∙ ap (λ w. w +ℤ f *ℤ (pos b *ℤ pos d)) (sym (times_assoc e (pos b) (pos d)))
    ∙ ap (λ w. (e *ℤ pos b) *ℤ pos d +ℤ w) (ap (λ w. f *ℤ w) (*ℤ_comm (pos b) (pos d)) ∙ sym (times_assoc f (pos d) (pos b)))

-- the sum of two fractions in units
gather : (m n : ℤ) (b d : ℕ) → (m *ℤ pos d +ℤ n *ℤ pos b) *ℤ pos unit ≡ (m *ℤ pos unit) *ℤ pos d +ℤ (n *ℤ pos unit) *ℤ pos b
gather m n b d =
    right_distrib (m *ℤ pos d) (n *ℤ pos b) (pos unit)
    ∙ ap (λ w. w +ℤ (n *ℤ pos b) *ℤ pos unit) (swap_last m (pos d) (pos unit))
    ∙ ap (λ w. (m *ℤ pos unit) *ℤ pos d +ℤ w) (swap_last n (pos b) (pos unit))

low_sum : (e f m n : ℤ) (b d : ℕ) → (e *ℤ pos b) ≤ℤ (m *ℤ pos unit) → (f *ℤ pos d) ≤ℤ (n *ℤ pos unit)
    → IsBelow (rounded Down (e +ℤ f) 1) (m *ℤ pos d +ℤ n *ℤ pos b) (b * d)
low_sum e f m n b d h k =
    below_rounded (e +ℤ f) (m *ℤ pos d +ℤ n *ℤ pos b) 1 (b * d) (omega arith)
    (let p = spread e f b d in let q = gather m n b d in
    let r = times_pos d _ _ h in let s = times_pos b _ _ k in
    let t = *ℤ-one ((m *ℤ pos d +ℤ n *ℤ pos b) *ℤ pos unit) in omega (arith, ints))

high_sum : (e f m n : ℤ) (b d : ℕ) → (m *ℤ pos unit) ≤ℤ (e *ℤ pos b) → (n *ℤ pos unit) ≤ℤ (f *ℤ pos d)
    → IsAbove (rounded Up (e +ℤ f) 1) (m *ℤ pos d +ℤ n *ℤ pos b) (b * d)
high_sum e f m n b d h k =
    above_rounded (e +ℤ f) (m *ℤ pos d +ℤ n *ℤ pos b) 1 (b * d) (omega arith)
    (let p = spread e f b d in let q = gather m n b d in
    let r = times_pos d _ _ h in let s = times_pos b _ _ k in
    let t = *ℤ-one ((m *ℤ pos d +ℤ n *ℤ pos b) *ℤ pos unit) in omega (arith, ints))

below_sum : (e f : Extended) (m n : ℤ) (b d : ℕ) → IsBelow e m b → IsBelow f n d
    → IsBelow (add_of Down e f) (m *ℤ pos d +ℤ n *ℤ pos b) (b * d)
below_sum NegInf NegInf m n b d h k = tt
below_sum NegInf (Fin f) m n b d h k = tt
below_sum NegInf PosInf m n b d h k = absurd k
below_sum (Fin e) NegInf m n b d h k = tt
below_sum (Fin e) (Fin f) m n b d h k = low_sum e f m n b d h k
below_sum (Fin e) PosInf m n b d h k = absurd k
below_sum PosInf f m n b d h k = absurd h

above_sum : (e f : Extended) (m n : ℤ) (b d : ℕ) → IsAbove e m b → IsAbove f n d
    → IsAbove (add_of Up e f) (m *ℤ pos d +ℤ n *ℤ pos b) (b * d)
above_sum NegInf f m n b d h k = absurd h
above_sum (Fin e) NegInf m n b d h k = absurd k
above_sum (Fin e) (Fin f) m n b d h k = high_sum e f m n b d h k
above_sum (Fin e) PosInf m n b d h k = tt
above_sum PosInf NegInf m n b d h k = absurd k
above_sum PosInf (Fin f) m n b d h k = tt
above_sum PosInf PosInf m n b d h k = tt

pub sum_keeps : (f g : Fraction) (x y : Bounds) → LiesIn f x → LiesIn g y → LiesIn (plus f g) (sum_of x y)
unfolding sum_of
sum_keeps f g x y h k = record {
  some = some_times f.under g.under h.some k.some;
  low = below_sum x.lo y.lo f.top g.top f.under g.under h.low k.low;
  high = above_sum x.hi y.hi f.top g.top f.under g.under h.high k.high;
}

-- ---- negation

pub neg_below : (e : Extended) (n : ℤ) (d : ℕ) → IsAbove e n d → IsBelow (neg_of e) (neg_ℤ n) d
neg_below NegInf n d h = absurd h
neg_below (Fin e) n d h = let p = neg_left e (pos d) in let q = neg_left n (pos unit) in omega (arith, ints)
neg_below PosInf n d h = tt

pub neg_above : (e : Extended) (n : ℤ) (d : ℕ) → IsBelow e n d → IsAbove (neg_of e) (neg_ℤ n) d
neg_above NegInf n d h = tt
neg_above (Fin e) n d h = let p = neg_left e (pos d) in let q = neg_left n (pos unit) in omega (arith, ints)
neg_above PosInf n d h = absurd h

pub opposite_keeps : (f : Fraction) (x : Bounds) → LiesIn f x → LiesIn (opposite f) (negated x)
unfolding negated
opposite_keeps f x h = record {
  some = h.some;
  low = neg_below x.hi f.top f.under h.high;
  high = neg_above x.lo f.top f.under h.low;
}

-- a difference is a sum with the negated number
minus_is : (f g : Fraction) → plus f (opposite g) ≡ minus f g
minus_is f g = ap (λ w. record { top = f.top *ℤ pos g.under +ℤ w; under = f.under * g.under }) (neg_left g.top (pos f.under))

difference_is : (x y : Bounds) → sum_of x (negated y) ≡ difference_of x y
unfolding sum_of difference_of negated
difference_is x y = refl

pub difference_keeps : (f g : Fraction) (x y : Bounds) → LiesIn f x → LiesIn g y → LiesIn (minus f g) (difference_of x y)
difference_keeps f g x y h k =
    subst (λ w. LiesIn w (difference_of x y)) (minus_is f g)
    (subst (λ w. LiesIn (plus f (opposite g)) w) (difference_is x y)
    (sum_keeps f (opposite g) x (negated y) h (opposite_keeps g y k)))

-- ---- products

pub by_sign : {P : Type 0} (n : ℤ) → (pos 0 ≤ℤ n → P) → (n ≤ℤ pos 0 → P) → P
by_sign (pos n) f g = f (omega (arith, ints))
by_sign (negsuc n) f g = g (omega (arith, ints))

product_low : (f g : Fraction) (x y : Bounds) → LiesIn f x → LiesIn g y → IsBelow (product_of x y).lo (f.top *ℤ g.top) (f.under * g.under)
unfolding product_of
product_low f g x y h k =
    let p = mul_of Down x.lo y.lo in let q = mul_of Down x.lo y.hi in
    let r = mul_of Down x.hi y.lo in let s = mul_of Down x.hi y.hi in
    let m = f.top *ℤ g.top in let d = f.under * g.under in
    by_sign g.top
    (λ n. by_le nought x.lo
    (λ a. below_le _ p m d (least_1 p q r s) (low_1 x.lo y.lo f.top g.top f.under g.under k.some a n h.low k.low))
    (λ a. below_le _ q m d (least_2 p q r s) (low_2 x.lo y.hi f.top g.top f.under g.under k.some a n h.low k.high)))
    (λ n. by_le nought x.hi
    (λ a. below_le _ r m d (least_3 p q r s) (low_3 x.hi y.lo f.top g.top f.under g.under k.some a n h.high k.low))
    (λ a. below_le _ s m d (least_4 p q r s) (low_4 x.hi y.hi f.top g.top f.under g.under k.some a n h.high k.high)))

product_high : (f g : Fraction) (x y : Bounds) → LiesIn f x → LiesIn g y → IsAbove (product_of x y).hi (f.top *ℤ g.top) (f.under * g.under)
unfolding product_of
product_high f g x y h k =
    let p = mul_of Up x.lo y.lo in let q = mul_of Up x.lo y.hi in
    let r = mul_of Up x.hi y.lo in let s = mul_of Up x.hi y.hi in
    let m = f.top *ℤ g.top in let d = f.under * g.under in
    by_sign g.top
    (λ n. by_le nought x.hi
    (λ a. above_le s _ m d (greatest_4 p q r s) (high_1 x.hi y.hi f.top g.top f.under g.under k.some a n h.high k.high))
    (λ a. above_le r _ m d (greatest_3 p q r s) (high_2 x.hi y.lo f.top g.top f.under g.under k.some a n h.high k.low)))
    (λ n. by_le nought x.lo
    (λ a. above_le q _ m d (greatest_2 p q r s) (high_3 x.lo y.hi f.top g.top f.under g.under k.some a n h.low k.high))
    (λ a. above_le p _ m d (greatest_1 p q r s) (high_4 x.lo y.lo f.top g.top f.under g.under k.some a n h.low k.low)))

pub product_keeps : (f g : Fraction) (x y : Bounds) → LiesIn f x → LiesIn g y → LiesIn (times f g) (product_of x y)
product_keeps f g x y h k = record {
  some = some_times f.under g.under h.some k.some;
  low = product_low f g x y h k;
  high = product_high f g x y h k;
}
