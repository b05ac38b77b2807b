use Rattle.std.proofs.Common.{◌≡◌, ℕ, ◌*◌, ◌/◌, ◌^◌, ◌<◌, true, false, IsTrue, arith, refl, ap, sym, ◌∙◌, ℤ, pos, negsuc, ◌≤ℤ◌, ◌<ℤ◌}
use Rattle.std.proofs.lemmas.Bool.{true≢false}
use Rattle.std.proofs.lemmas.Int.{ints}
use Rattle.std.proofs.Math.Nat.{mul-lt-mul_of_pos_right}
use Rattle.std.specs.Ordering.{int_cmp, is_lt, is_le, is_gt, MatchOrdering}
use Rattle.std.specs.Cmp.{int_ranks, upto}
use Rattle.std.specs.Int.Signed.{≤ℤ_refl}
use Rattle.pv_num.specs.Laws.{order_of-total}
use Rattle.std.specs.declared.cmp.Ordering.{Ordering}
use Rattle.std.specs.declared.cmp.Ordering.TheVariants.{Less, Equal, Greater}
use Rattle.pv_num.specs.Extended.{Extended, NegInf, Fin, PosInf}
use Rattle.pv_num.specs.Grid.{unit}
use Rattle.pv_num.specs.Order.{order_of, lt, le}
use Rattle.pv_num.specs.Arithmetic.{floor_of}
use Rattle.pv_num.specs.Sizes.{magnitude_of}
use Rattle.pv_num.proofs.Scales.{unit_pos}

is_le_means : (a b : ℤ) (o : Ordering) → MatchOrdering o (a <ℤ b) (a ≡ b) (b <ℤ a) → is_le o ≡ true → a ≤ℤ b
is_le_means a b Less h t = omega (arith, ints)
is_le_means a b Equal h t = omega (arith, ints)
is_le_means a b Greater h t = absurd (true≢false (sym t))

is_le_from : (a b : ℤ) (o : Ordering) → MatchOrdering o (a <ℤ b) (a ≡ b) (b <ℤ a) → a ≤ℤ b → is_le o ≡ true
is_le_from a b Less h l = refl
is_le_from a b Equal h l = refl
is_le_from a b Greater h l = absurd (omega (arith, ints))

is_lt_means : (a b : ℤ) (o : Ordering) → MatchOrdering o (a <ℤ b) (a ≡ b) (b <ℤ a) → is_lt o ≡ true → a <ℤ b
is_lt_means a b Less h t = h
is_lt_means a b Equal h t = absurd (true≢false (sym t))
is_lt_means a b Greater h t = absurd (true≢false (sym t))

-- The order of finite numbers is that of the whole numbers.
pub le-Fin : (a b : ℤ) → IsTrue (le (Fin a) (Fin b)) → a ≤ℤ b
le-Fin a b t = is_le_means a b (int_cmp a b) (int_ranks a b) t

pub Fin-le : (a b : ℤ) → a ≤ℤ b → IsTrue (le (Fin a) (Fin b))
Fin-le a b l = is_le_from a b (int_cmp a b) (int_ranks a b) l

pub lt-Fin : (a b : ℤ) → IsTrue (lt (Fin a) (Fin b)) → a <ℤ b
lt-Fin a b t = is_lt_means a b (int_cmp a b) (int_ranks a b) t

-- ---- The whole part of a number from 0 on

pub floor_fits : (x : Extended) (top n : ℕ) → top < 2 ^ 64 → n ≡ magnitude_of x → IsTrue (le (Fin (pos 0)) x) → IsTrue (le x (Fin (pos (top * unit)))) → n < 2 ^ 64 * unit
floor_fits NegInf top n h e low high = absurd (true≢false (sym low))
floor_fits PosInf top n h e low high = absurd (true≢false (sym high))
floor_fits (Fin (negsuc m)) top n h e low high = let l : pos 0 ≤ℤ negsuc m = le-Fin (pos 0) (negsuc m) low in absurd (omega (arith, ints, l))
floor_fits (Fin (pos m)) top n h e low high =
    let l : pos m ≤ℤ pos (top * unit) = le-Fin (pos m) (pos (top * unit)) high in
    let k : top * unit < 2 ^ 64 * unit = mul-lt-mul_of_pos_right h unit_pos in
    omega (arith, ints, l, k, e)

pub floor_is : (x : Extended) (top n r : ℕ) → n ≡ magnitude_of x → IsTrue (le (Fin (pos 0)) x) → IsTrue (le x (Fin (pos (top * unit)))) → r ≡ n / unit → r ≡ floor_of x
floor_is NegInf top n r e low high v = absurd (true≢false (sym low))
floor_is (Fin (pos m)) top n r e low high v = v ∙ ap (λ z. z / unit) e
floor_is (Fin (negsuc m)) top n r e low high v = let l : pos 0 ≤ℤ negsuc m = le-Fin (pos 0) (negsuc m) low in absurd (omega (arith, ints, l))
floor_is PosInf top n r e low high v = absurd (true≢false (sym high))

-- ---- The order is total

gt-le : (o : Ordering) → is_gt o ≡ false → is_le o ≡ true
gt-le Less h = refl
gt-le Equal h = refl
gt-le Greater h = absurd (true≢false h)

le-gt : (o : Ordering) → is_le o ≡ true → is_gt o ≡ false
le-gt Less h = refl
le-gt Equal h = refl
le-gt Greater h = absurd (true≢false (sym h))

pub le-refl : (a : Extended) → IsTrue (le a a)
le-refl NegInf = refl
le-refl (Fin a) = Fin-le a a (≤ℤ_refl a)
le-refl PosInf = refl

pub le-trans : (a b c : Extended) → IsTrue (le a b) → IsTrue (le b c) → IsTrue (le a c)
le-trans a b c h k = gt-le (order_of a c) (upto order_of-total a b c (le-gt (order_of a b) h) (le-gt (order_of b c) k))

pub both_le : (a b : ℤ) → a ≤ℤ b → b ≤ℤ a → a ≡ b
both_le a b h k = omega (arith, ints)

pub le-antisym : (a b : Extended) → IsTrue (le a b) → IsTrue (le b a) → a ≡ b
le-antisym NegInf NegInf h k = refl
le-antisym NegInf (Fin b) h k = absurd (true≢false (sym k))
le-antisym NegInf PosInf h k = absurd (true≢false (sym k))
le-antisym (Fin a) NegInf h k = absurd (true≢false (sym h))
le-antisym (Fin a) (Fin b) h k = ap Fin (both_le a b (le-Fin a b h) (le-Fin b a k))
le-antisym (Fin a) PosInf h k = absurd (true≢false (sym k))
le-antisym PosInf NegInf h k = absurd (true≢false (sym h))
le-antisym PosInf (Fin b) h k = absurd (true≢false (sym h))
le-antisym PosInf PosInf h k = refl

pub NegInf-le : (a : Extended) → IsTrue (le NegInf a)
NegInf-le NegInf = refl
NegInf-le (Fin a) = refl
NegInf-le PosInf = refl

pub le-PosInf : (a : Extended) → IsTrue (le a PosInf)
le-PosInf NegInf = refl
le-PosInf (Fin a) = refl
le-PosInf PosInf = refl
