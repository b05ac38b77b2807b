-- Products, quotients and powers of ends keep or turn the order.
use Rattle.std.proofs.Common.{◌≡◌, ℕ, zero, suc, refl, arith, ap, subst, rules}
use Rattle.std.specs.Prelude.{IsTrue, false, ℤ, pos, negsuc, ◌*ℤ◌, ◌≤ℤ◌}
use Rattle.std.proofs.Math.IntN.{*ℤ_comm, *ℤ-zero}
use Rattle.std.proofs.lemmas.Int.{ints}
use lib.IntN.{neg_ℤ}
use Rattle.pv_num.specs.Extended.{Extended, NegInf, Fin, PosInf}
use Rattle.pv_num.specs.Grid.{unit}
use Rattle.pv_num.specs.Order.{le}
use Rattle.pv_num.specs.Arithmetic.{neg_of, mul_of, div_of, pow_of, infinite_by}
use Rattle.pv_num.specs.Rounding.{rounded}
use Rattle.pv_num.specs.declared.num.End.{End}
use Rattle.pv_interval.specs.Tables.{nought}
use Rattle.pv_interval.proofs.Products.{times_pos, times_to_zero, from_zero_times, to_zero_times}
use Rattle.pv_interval.proofs.Ends.{le_refl, le_trans, fin_le, le_fin}
use Rattle.pv_interval.proofs.Rounds.{rounded_mono, rounded_from_zero, rounded_to_zero}
use Rattle.pv_interval.proofs.Multiples.{unit_some, times_pp, times_np}
use Rattle.pv_interval.proofs.Powers.{pow_from_zero}
use Rattle.pv_num.proofs.Monotone.{rounded-monotone}

pub neg_least : (e : Extended) → IsTrue (le NegInf e)
neg_least NegInf = refl
neg_least (Fin e) = refl
neg_least PosInf = refl

pub pos_greatest : (e : Extended) → IsTrue (le e PosInf)
pos_greatest NegInf = refl
pos_greatest (Fin e) = refl
pos_greatest PosInf = refl

pub neg_order : (a b : Extended) → IsTrue (le a b) → IsTrue (le (neg_of b) (neg_of a))
neg_order NegInf b h = pos_greatest (neg_of b)
neg_order (Fin a) NegInf h = absurd (search rules)
neg_order (Fin a) (Fin b) h = let e = fin_le a b h in le_fin (neg_ℤ b) (neg_ℤ a) (omega (arith, ints))
neg_order (Fin a) PosInf h = refl
neg_order PosInf NegInf h = absurd (search rules)
neg_order PosInf (Fin b) h = absurd (search rules)
neg_order PosInf PosInf h = refl

infinite_mono : (a b : ℤ) → a ≤ℤ b → IsTrue (le (infinite_by a) (infinite_by b))
infinite_mono (pos zero) (pos zero) h = refl
infinite_mono (pos zero) (pos (suc b)) h = refl
infinite_mono (pos (suc a)) (pos zero) h = absurd (omega (arith, ints))
infinite_mono (pos (suc a)) (pos (suc b)) h = refl
infinite_mono (pos a) (negsuc b) h = absurd (omega (arith, ints))
infinite_mono (negsuc a) b h = neg_least (infinite_by b)

pub mul_comm : (s : End) (a b : Extended) → mul_of s a b ≡ mul_of s b a
mul_comm s NegInf NegInf = refl
mul_comm s NegInf (Fin b) = refl
mul_comm s NegInf PosInf = refl
mul_comm s (Fin a) NegInf = refl
mul_comm s (Fin a) (Fin b) = ap (λ w. rounded s w unit) (*ℤ_comm a b)
mul_comm s (Fin a) PosInf = refl
mul_comm s PosInf NegInf = refl
mul_comm s PosInf (Fin b) = refl
mul_comm s PosInf PosInf = refl

zero_low : (s : End) (b : Extended) → IsTrue (le nought (mul_of s b nought))
zero_low s NegInf = refl
zero_low s (Fin b) = rounded_from_zero s (b *ℤ pos 0) unit unit_some (let e = *ℤ-zero b in omega (arith, ints))
zero_low s PosInf = refl

pub zero_high : (s : End) (b : Extended) → IsTrue (le (mul_of s b nought) nought)
zero_high s NegInf = refl
zero_high s (Fin b) = rounded_to_zero s (b *ℤ pos 0) unit unit_some (let e = *ℤ-zero b in omega (arith, ints))
zero_high s PosInf = refl

zero_same : (s : End) (a b : Extended) → IsTrue (le (mul_of s a nought) (mul_of s b nought))
zero_same s a b = le_trans (mul_of s a nought) nought (mul_of s b nought) (zero_high s a) (zero_low s b)

-- a factor from 0 on keeps the order
pub mul_mono : (s : End) (a b c : Extended) → IsTrue (le a b) → IsTrue (le nought c) → IsTrue (le (mul_of s a c) (mul_of s b c))
mul_mono s a b NegInf h k = absurd (search rules)
mul_mono s NegInf b PosInf h k = neg_least (mul_of s b PosInf)
mul_mono s (Fin a) NegInf PosInf h k = absurd (search rules)
mul_mono s (Fin a) (Fin b) PosInf h k = infinite_mono a b (fin_le a b h)
mul_mono s (Fin a) PosInf PosInf h k = pos_greatest (infinite_by a)
mul_mono s PosInf NegInf PosInf h k = absurd (search rules)
mul_mono s PosInf (Fin b) PosInf h k = absurd (search rules)
mul_mono s PosInf PosInf PosInf h k = refl
mul_mono s a b (Fin (pos zero)) h k = zero_same s a b
mul_mono s a b (Fin (negsuc c)) h k = absurd (search rules)
mul_mono s NegInf b (Fin (pos (suc c))) h k = neg_least (mul_of s b (Fin (pos (suc c))))
mul_mono s (Fin a) NegInf (Fin (pos (suc c))) h k = absurd (search rules)
mul_mono s (Fin a) (Fin b) (Fin (pos (suc c))) h k =
    rounded-monotone s (a *ℤ pos (suc c)) (b *ℤ pos (suc c)) unit unit_some (times_pos (suc c) a b (fin_le a b h))
mul_mono s (Fin a) PosInf (Fin (pos (suc c))) h k = pos_greatest (rounded s (a *ℤ pos (suc c)) unit)
mul_mono s PosInf NegInf (Fin (pos (suc c))) h k = absurd (search rules)
mul_mono s PosInf (Fin b) (Fin (pos (suc c))) h k = absurd (search rules)
mul_mono s PosInf PosInf (Fin (pos (suc c))) h k = refl

-- a factor up to 0 turns the order
pub mul_turn : (s : End) (a b c : Extended) → IsTrue (le a b) → IsTrue (le c nought) → IsTrue (le (mul_of s b c) (mul_of s a c))
mul_turn s a b PosInf h k = absurd (search rules)
mul_turn s NegInf b NegInf h k = pos_greatest (mul_of s b NegInf)
mul_turn s (Fin a) NegInf NegInf h k = absurd (search rules)
mul_turn s (Fin a) (Fin b) NegInf h k =
    let e = fin_le a b h in infinite_mono (neg_ℤ b) (neg_ℤ a) (omega (arith, ints))
mul_turn s (Fin a) PosInf NegInf h k = neg_least (infinite_by (neg_ℤ a))
mul_turn s PosInf NegInf NegInf h k = absurd (search rules)
mul_turn s PosInf (Fin b) NegInf h k = absurd (search rules)
mul_turn s PosInf PosInf NegInf h k = refl
mul_turn s a b (Fin (pos zero)) h k = zero_same s b a
mul_turn s a b (Fin (pos (suc c))) h k = absurd (search rules)
mul_turn s NegInf b (Fin (negsuc c)) h k = pos_greatest (mul_of s b (Fin (negsuc c)))
mul_turn s (Fin a) NegInf (Fin (negsuc c)) h k = absurd (search rules)
mul_turn s (Fin a) (Fin b) (Fin (negsuc c)) h k =
    rounded-monotone s (b *ℤ negsuc c) (a *ℤ negsuc c) unit unit_some
    (times_to_zero (negsuc c) a b (omega (arith, ints)) (fin_le a b h))
mul_turn s (Fin a) PosInf (Fin (negsuc c)) h k = neg_least (rounded s (a *ℤ negsuc c) unit)
mul_turn s PosInf NegInf (Fin (negsuc c)) h k = absurd (search rules)
mul_turn s PosInf (Fin b) (Fin (negsuc c)) h k = absurd (search rules)
mul_turn s PosInf PosInf (Fin (negsuc c)) h k = refl

pub mul_mono_right : (s : End) (a b c : Extended) → IsTrue (le a b) → IsTrue (le nought c) → IsTrue (le (mul_of s c a) (mul_of s c b))
mul_mono_right s a b c h k = subst (λ w. IsTrue (le w (mul_of s c b))) (mul_comm s a c)
    (subst (λ w. IsTrue (le (mul_of s a c) w)) (mul_comm s b c) (mul_mono s a b c h k))

pub mul_turn_right : (s : End) (a b c : Extended) → IsTrue (le a b) → IsTrue (le c nought) → IsTrue (le (mul_of s c b) (mul_of s c a))
mul_turn_right s a b c h k = subst (λ w. IsTrue (le w (mul_of s c a))) (mul_comm s b c)
    (subst (λ w. IsTrue (le (mul_of s b c) w)) (mul_comm s a c) (mul_turn s a b c h k))

-- ---- quotients by ends above 0

pub div_mono : (s : End) (a b e : Extended) → IsTrue (le a b) → le e nought ≡ false → IsTrue (le (div_of s a e) (div_of s b e))
div_mono s a b NegInf h k = absurd (cc)
div_mono s a b (Fin (pos zero)) h k = absurd (search rules)
div_mono s a b (Fin (negsuc e)) h k = absurd (search rules)
div_mono s NegInf NegInf PosInf h k = refl
div_mono s NegInf (Fin b) PosInf h k = refl
div_mono s NegInf PosInf PosInf h k = refl
div_mono s (Fin a) NegInf PosInf h k = absurd (search rules)
div_mono s (Fin a) (Fin b) PosInf h k = refl
div_mono s (Fin a) PosInf PosInf h k = refl
div_mono s PosInf NegInf PosInf h k = absurd (search rules)
div_mono s PosInf (Fin b) PosInf h k = absurd (search rules)
div_mono s PosInf PosInf PosInf h k = refl
div_mono s NegInf b (Fin (pos (suc e))) h k = neg_least (div_of s b (Fin (pos (suc e))))
div_mono s (Fin a) NegInf (Fin (pos (suc e))) h k = absurd (search rules)
div_mono s (Fin a) (Fin b) (Fin (pos (suc e))) h k =
    rounded-monotone s (a *ℤ pos unit) (b *ℤ pos unit) (suc e) (omega arith) (times_pos unit a b (fin_le a b h))
div_mono s (Fin a) PosInf (Fin (pos (suc e))) h k = pos_greatest (rounded s (a *ℤ pos unit) (suc e))
div_mono s PosInf NegInf (Fin (pos (suc e))) h k = absurd (search rules)
div_mono s PosInf (Fin b) (Fin (pos (suc e))) h k = absurd (search rules)
div_mono s PosInf PosInf (Fin (pos (suc e))) h k = refl

pub div_from_zero : (s : End) (a e : Extended) → IsTrue (le nought a) → le e nought ≡ false → IsTrue (le nought (div_of s a e))
div_from_zero s NegInf e h k = absurd (search rules)
div_from_zero s a NegInf h k = absurd (cc)
div_from_zero s a (Fin (pos zero)) h k = absurd (search rules)
div_from_zero s a (Fin (negsuc e)) h k = absurd (search rules)
div_from_zero s (Fin a) PosInf h k = refl
div_from_zero s PosInf PosInf h k = refl
div_from_zero s (Fin a) (Fin (pos (suc e))) h k =
    rounded_from_zero s (a *ℤ pos unit) (suc e) (omega arith) (times_pp a (pos unit) (fin_le (pos 0) a h) (omega (arith, ints)))
div_from_zero s PosInf (Fin (pos (suc e))) h k = refl

pub div_to_zero : (s : End) (a e : Extended) → IsTrue (le a nought) → le e nought ≡ false → IsTrue (le (div_of s a e) nought)
div_to_zero s PosInf e h k = absurd (search rules)
div_to_zero s a NegInf h k = absurd (cc)
div_to_zero s a (Fin (pos zero)) h k = absurd (search rules)
div_to_zero s a (Fin (negsuc e)) h k = absurd (search rules)
div_to_zero s (Fin a) PosInf h k = refl
div_to_zero s NegInf PosInf h k = refl
div_to_zero s (Fin a) (Fin (pos (suc e))) h k =
    rounded_to_zero s (a *ℤ pos unit) (suc e) (omega arith) (times_np a (pos unit) (fin_le a (pos 0) h) (omega (arith, ints)))
div_to_zero s NegInf (Fin (pos (suc e))) h k = refl

-- a greater divisor gives a lesser quotient of a number from 0 on
pub div_down : (s : End) (a e f : Extended) → IsTrue (le nought a) → le e nought ≡ false → IsTrue (le e f)
    → IsTrue (le (div_of s a f) (div_of s a e))
div_down s NegInf e f h k l = absurd (search rules)
div_down s (Fin a) e PosInf h k l = div_from_zero s (Fin a) e h k
div_down s PosInf e PosInf h k l = div_from_zero s PosInf e h k
div_down s a NegInf f h k l = absurd (cc)
div_down s a (Fin (pos zero)) f h k l = absurd (search rules)
div_down s a (Fin (negsuc e)) f h k l = absurd (search rules)
div_down s a PosInf NegInf h k l = absurd (search rules)
div_down s a PosInf (Fin f) h k l = absurd (search rules)
div_down s a (Fin (pos (suc e))) NegInf h k l = absurd (search rules)
div_down s a (Fin (pos (suc e))) (Fin (pos zero)) h k l = absurd (search rules)
div_down s a (Fin (pos (suc e))) (Fin (negsuc f)) h k l = absurd (search rules)
div_down s (Fin a) (Fin (pos (suc e))) (Fin (pos (suc f))) h k l =
    rounded_mono s (a *ℤ pos unit) (a *ℤ pos unit) (suc f) (suc e) (omega arith) (omega arith)
    (from_zero_times (a *ℤ pos unit) (pos (suc e)) (pos (suc f)) (times_pp a (pos unit) (fin_le (pos 0) a h) (omega (arith, ints)))
    (fin_le (pos (suc e)) (pos (suc f)) l))
div_down s PosInf (Fin (pos (suc e))) (Fin (pos (suc f))) h k l = refl

-- and a greater one of a number up to 0
pub div_up : (s : End) (a e f : Extended) → IsTrue (le a nought) → le e nought ≡ false → IsTrue (le e f)
    → IsTrue (le (div_of s a e) (div_of s a f))
div_up s PosInf e f h k l = absurd (search rules)
div_up s (Fin a) e PosInf h k l = div_to_zero s (Fin a) e h k
div_up s NegInf e PosInf h k l = div_to_zero s NegInf e h k
div_up s a NegInf f h k l = absurd (cc)
div_up s a (Fin (pos zero)) f h k l = absurd (search rules)
div_up s a (Fin (negsuc e)) f h k l = absurd (search rules)
div_up s a PosInf NegInf h k l = absurd (search rules)
div_up s a PosInf (Fin f) h k l = absurd (search rules)
div_up s a (Fin (pos (suc e))) NegInf h k l = absurd (search rules)
div_up s a (Fin (pos (suc e))) (Fin (pos zero)) h k l = absurd (search rules)
div_up s a (Fin (pos (suc e))) (Fin (negsuc f)) h k l = absurd (search rules)
div_up s (Fin a) (Fin (pos (suc e))) (Fin (pos (suc f))) h k l =
    rounded_mono s (a *ℤ pos unit) (a *ℤ pos unit) (suc e) (suc f) (omega arith) (omega arith)
    (to_zero_times (a *ℤ pos unit) (pos (suc e)) (pos (suc f)) (times_np a (pos unit) (fin_le a (pos 0) h) (omega (arith, ints)))
    (fin_le (pos (suc e)) (pos (suc f)) l))
div_up s NegInf (Fin (pos (suc e))) (Fin (pos (suc f))) h k l = refl

-- ---- powers

pub pow_mono : (s : End) (a b : Extended) (n : ℕ) → IsTrue (le nought a) → IsTrue (le a b) → IsTrue (le (pow_of s a n) (pow_of s b n))
pow_mono s a b zero h k = le_refl (Fin (pos unit))
pow_mono s a b (suc zero) h k = k
pow_mono s a b (suc (suc n)) h k =
    le_trans (mul_of s (pow_of s a (suc n)) a) (mul_of s (pow_of s b (suc n)) a) (mul_of s (pow_of s b (suc n)) b)
    (mul_mono s (pow_of s a (suc n)) (pow_of s b (suc n)) a (pow_mono s a b (suc n) h k) h)
    (mul_mono_right s a b (pow_of s b (suc n)) k (pow_from_zero s b (suc n) (le_trans nought a b h k)))
