-- Products of ends beside products of numbers.
use Rattle.std.proofs.Common.{◌≡◌, ℕ, zero, suc, ◌<◌, ◌*◌, refl, arith, sym, ◌∙◌, ap, subst, rules}
use Rattle.std.specs.Prelude.{IsTrue, ℤ, pos, negsuc, ◌*ℤ◌, ◌≤ℤ◌}
use Rattle.std.proofs.Math.IntN.{*ℤ_comm, *ℤ-zero, zero-*ℤ}
use Rattle.std.proofs.lemmas.Int.{ints}
use Rattle.std.proofs.lemmas.Nat.{pow_pos}
use Rattle.pv_num.specs.Extended.{Extended, NegInf, Fin, PosInf}
use Rattle.pv_num.specs.Grid.{unit}
use Rattle.pv_num.specs.Order.{le}
use Rattle.pv_num.specs.Arithmetic.{mul_of}
use Rattle.pv_num.specs.Rounding.{rounded}
use Rattle.pv_num.specs.declared.num.End.TheVariants.{Down, Up}
use Rattle.pv_interval.specs.Points.{IsBelow, IsAbove}
use Rattle.pv_interval.specs.Tables.{nought}
use Rattle.pv_interval.proofs.Integers.{times_assoc}
use Rattle.pv_interval.proofs.Products.{trans, cancel_pos, times_from_zero, times_to_zero, from_zero_times, to_zero_times}
use Rattle.pv_interval.proofs.Ends.{fin_le}
use Rattle.pv_interval.proofs.Values.{below_rounded, above_rounded}

pub unit_some : 0 < unit
unfolding unit
unit_some = pow_pos 512

-- (a c)(b d) is (a b)(c d)
pub cross : (a b c d : ℤ) → (a *ℤ b) *ℤ (c *ℤ d) ≡ (a *ℤ c) *ℤ (b *ℤ d)
cross a b c d =
    times_assoc a b (c *ℤ d) ∙ ap (λ w. a *ℤ w) (sym (times_assoc b c d) ∙ ap (λ w. w *ℤ d) (*ℤ_comm b c) ∙ times_assoc c b d)
    ∙ sym (times_assoc a c (b *ℤ d))

-- the product of two numbers in units, as two factors
apart : (m n : ℤ) → ((m *ℤ n) *ℤ pos unit) *ℤ pos unit ≡ (m *ℤ pos unit) *ℤ (n *ℤ pos unit)
apart m n = times_assoc (m *ℤ n) (pos unit) (pos unit) ∙ cross m n (pos unit) (pos unit)

at_least_product : (e f m n : ℤ) (b d : ℕ) → ((e *ℤ pos b) *ℤ (f *ℤ pos d)) ≤ℤ ((m *ℤ pos unit) *ℤ (n *ℤ pos unit))
    → IsBelow (rounded Down (e *ℤ f) unit) (m *ℤ n) (b * d)
at_least_product e f m n b d h =
    below_rounded (e *ℤ f) (m *ℤ n) unit (b * d) unit_some
    (let p = cross e f (pos b) (pos d) in let q = apart m n in
    subst (λ w. ((e *ℤ f) *ℤ pos (b * d)) ≤ℤ w) (sym q) (subst (λ w. w ≤ℤ ((m *ℤ pos unit) *ℤ (n *ℤ pos unit))) (sym p) h))

at_most_product : (e f m n : ℤ) (b d : ℕ) → ((m *ℤ pos unit) *ℤ (n *ℤ pos unit)) ≤ℤ ((e *ℤ pos b) *ℤ (f *ℤ pos d))
    → IsAbove (rounded Up (e *ℤ f) unit) (m *ℤ n) (b * d)
at_most_product e f m n b d h =
    above_rounded (e *ℤ f) (m *ℤ n) unit (b * d) unit_some
    (let p = cross e f (pos b) (pos d) in let q = apart m n in
    subst (λ w. w ≤ℤ ((e *ℤ f) *ℤ pos (b * d))) (sym q) (subst (λ w. ((m *ℤ pos unit) *ℤ (n *ℤ pos unit)) ≤ℤ w) (sym p) h))

pub up_from : (n : ℤ) (d : ℕ) → pos 0 ≤ℤ n → pos 0 ≤ℤ (n *ℤ pos d)
up_from n d h = let e = times_from_zero (pos d) (pos 0) n (omega (arith, ints)) h in let f = zero-*ℤ (pos d) in omega (arith, ints)

pub down_to : (n : ℤ) (d : ℕ) → n ≤ℤ pos 0 → (n *ℤ pos d) ≤ℤ pos 0
down_to n d h = let e = times_from_zero (pos d) n (pos 0) (omega (arith, ints)) h in let f = zero-*ℤ (pos d) in omega (arith, ints)

low_1_finite : (e f m n : ℤ) (b d : ℕ) → pos 0 ≤ℤ e → pos 0 ≤ℤ n → (e *ℤ pos b) ≤ℤ (m *ℤ pos unit) → (f *ℤ pos d) ≤ℤ (n *ℤ pos unit)
    → IsBelow (rounded Down (e *ℤ f) unit) (m *ℤ n) (b * d)
low_1_finite e f m n b d e0 y0 xr yr = at_least_product e f m n b d
    (trans _ _ _ (from_zero_times (e *ℤ pos b) (f *ℤ pos d) (n *ℤ pos unit) (up_from e b e0) yr) (times_from_zero (n *ℤ pos unit) (e *ℤ pos b) (m *ℤ pos unit) (up_from n unit y0) xr))

low_2_finite : (e f m n : ℤ) (b d : ℕ) → e ≤ℤ pos 0 → pos 0 ≤ℤ n → (e *ℤ pos b) ≤ℤ (m *ℤ pos unit) → (n *ℤ pos unit) ≤ℤ (f *ℤ pos d)
    → IsBelow (rounded Down (e *ℤ f) unit) (m *ℤ n) (b * d)
low_2_finite e f m n b d e0 y0 xr yr = at_least_product e f m n b d
    (trans _ _ _ (to_zero_times (e *ℤ pos b) (n *ℤ pos unit) (f *ℤ pos d) (down_to e b e0) yr) (times_from_zero (n *ℤ pos unit) (e *ℤ pos b) (m *ℤ pos unit) (up_from n unit y0) xr))

low_3_finite : (e f m n : ℤ) (b d : ℕ) → pos 0 ≤ℤ e → n ≤ℤ pos 0 → (m *ℤ pos unit) ≤ℤ (e *ℤ pos b) → (f *ℤ pos d) ≤ℤ (n *ℤ pos unit)
    → IsBelow (rounded Down (e *ℤ f) unit) (m *ℤ n) (b * d)
low_3_finite e f m n b d e0 y0 xr yr = at_least_product e f m n b d
    (trans _ _ _ (from_zero_times (e *ℤ pos b) (f *ℤ pos d) (n *ℤ pos unit) (up_from e b e0) yr) (times_to_zero (n *ℤ pos unit) (m *ℤ pos unit) (e *ℤ pos b) (down_to n unit y0) xr))

low_4_finite : (e f m n : ℤ) (b d : ℕ) → e ≤ℤ pos 0 → n ≤ℤ pos 0 → (m *ℤ pos unit) ≤ℤ (e *ℤ pos b) → (n *ℤ pos unit) ≤ℤ (f *ℤ pos d)
    → IsBelow (rounded Down (e *ℤ f) unit) (m *ℤ n) (b * d)
low_4_finite e f m n b d e0 y0 xr yr = at_least_product e f m n b d
    (trans _ _ _ (to_zero_times (e *ℤ pos b) (n *ℤ pos unit) (f *ℤ pos d) (down_to e b e0) yr) (times_to_zero (n *ℤ pos unit) (m *ℤ pos unit) (e *ℤ pos b) (down_to n unit y0) xr))

high_1_finite : (e f m n : ℤ) (b d : ℕ) → pos 0 ≤ℤ e → pos 0 ≤ℤ n → (m *ℤ pos unit) ≤ℤ (e *ℤ pos b) → (n *ℤ pos unit) ≤ℤ (f *ℤ pos d)
    → IsAbove (rounded Up (e *ℤ f) unit) (m *ℤ n) (b * d)
high_1_finite e f m n b d e0 y0 xr yr = at_most_product e f m n b d
    (trans _ _ _ (times_from_zero (n *ℤ pos unit) (m *ℤ pos unit) (e *ℤ pos b) (up_from n unit y0) xr) (from_zero_times (e *ℤ pos b) (n *ℤ pos unit) (f *ℤ pos d) (up_from e b e0) yr))

high_2_finite : (e f m n : ℤ) (b d : ℕ) → e ≤ℤ pos 0 → pos 0 ≤ℤ n → (m *ℤ pos unit) ≤ℤ (e *ℤ pos b) → (f *ℤ pos d) ≤ℤ (n *ℤ pos unit)
    → IsAbove (rounded Up (e *ℤ f) unit) (m *ℤ n) (b * d)
high_2_finite e f m n b d e0 y0 xr yr = at_most_product e f m n b d
    (trans _ _ _ (times_from_zero (n *ℤ pos unit) (m *ℤ pos unit) (e *ℤ pos b) (up_from n unit y0) xr) (to_zero_times (e *ℤ pos b) (f *ℤ pos d) (n *ℤ pos unit) (down_to e b e0) yr))

high_3_finite : (e f m n : ℤ) (b d : ℕ) → pos 0 ≤ℤ e → n ≤ℤ pos 0 → (e *ℤ pos b) ≤ℤ (m *ℤ pos unit) → (n *ℤ pos unit) ≤ℤ (f *ℤ pos d)
    → IsAbove (rounded Up (e *ℤ f) unit) (m *ℤ n) (b * d)
high_3_finite e f m n b d e0 y0 xr yr = at_most_product e f m n b d
    (trans _ _ _ (times_to_zero (n *ℤ pos unit) (e *ℤ pos b) (m *ℤ pos unit) (down_to n unit y0) xr) (from_zero_times (e *ℤ pos b) (n *ℤ pos unit) (f *ℤ pos d) (up_from e b e0) yr))

high_4_finite : (e f m n : ℤ) (b d : ℕ) → e ≤ℤ pos 0 → n ≤ℤ pos 0 → (e *ℤ pos b) ≤ℤ (m *ℤ pos unit) → (f *ℤ pos d) ≤ℤ (n *ℤ pos unit)
    → IsAbove (rounded Up (e *ℤ f) unit) (m *ℤ n) (b * d)
high_4_finite e f m n b d e0 y0 xr yr = at_most_product e f m n b d
    (trans _ _ _ (times_to_zero (n *ℤ pos unit) (e *ℤ pos b) (m *ℤ pos unit) (down_to n unit y0) xr) (to_zero_times (e *ℤ pos b) (f *ℤ pos d) (n *ℤ pos unit) (down_to e b e0) yr))

-- ---- ends that may be infinite

pub times_pp : (m n : ℤ) → pos 0 ≤ℤ m → pos 0 ≤ℤ n → pos 0 ≤ℤ (m *ℤ n)
times_pp m n h k = let e = times_from_zero n (pos 0) m k h in let f = zero-*ℤ n in omega (arith, ints)

pub times_np : (m n : ℤ) → m ≤ℤ pos 0 → pos 0 ≤ℤ n → (m *ℤ n) ≤ℤ pos 0
times_np m n h k = let e = times_from_zero n m (pos 0) k h in let f = zero-*ℤ n in omega (arith, ints)

times_pn : (m n : ℤ) → pos 0 ≤ℤ m → n ≤ℤ pos 0 → (m *ℤ n) ≤ℤ pos 0
times_pn m n h k = let e = times_to_zero n (pos 0) m k h in let f = zero-*ℤ n in omega (arith, ints)

times_nn : (m n : ℤ) → m ≤ℤ pos 0 → n ≤ℤ pos 0 → pos 0 ≤ℤ (m *ℤ n)
times_nn m n h k = let e = times_to_zero n m (pos 0) k h in let f = zero-*ℤ n in omega (arith, ints)

pub zero_below : (n : ℤ) (d : ℕ) → pos 0 ≤ℤ n → IsBelow nought n d
zero_below n d h = let e = times_pp n (pos unit) h (omega (arith, ints)) in let f = zero-*ℤ (pos d) in omega (arith, ints)

pub zero_above : (n : ℤ) (d : ℕ) → n ≤ℤ pos 0 → IsAbove nought n d
zero_above n d h = let e = times_np n (pos unit) h (omega (arith, ints)) in let f = zero-*ℤ (pos d) in omega (arith, ints)

pub below_zero : (n : ℤ) (d : ℕ) → IsBelow nought n d → pos 0 ≤ℤ n
below_zero n d h = cancel_pos unit (pos 0) n unit_some
    (let e = zero-*ℤ (pos unit) in let f = zero-*ℤ (pos d) in omega (arith, ints))

pub above_zero : (n : ℤ) (d : ℕ) → IsAbove nought n d → n ≤ℤ pos 0
above_zero n d h = cancel_pos unit n (pos 0) unit_some
    (let e = zero-*ℤ (pos unit) in let f = zero-*ℤ (pos d) in omega (arith, ints))

-- an end below 0 is above no number from 0 on
pub not_above : {P : Type 0} (k : ℕ) (n : ℤ) (d : ℕ) → 0 < d → pos 0 ≤ℤ n → IsAbove (Fin (negsuc k)) n d → P
not_above k n d p h m =
    let e : negsuc k ≤ℤ pos 0 = omega (arith, ints) in
    let f : n *ℤ pos unit ≡ n *ℤ pos unit = refl in
    let g = times_pp n (pos unit) h (omega (arith, ints)) in
    let l = cancel_pos d (pos 0) (negsuc k) p (let z = zero-*ℤ (pos d) in omega (arith, ints)) in
    absurd (omega (arith, ints))

-- an end above 0 is below no number up to 0
pub not_below : {P : Type 0} (k : ℕ) (n : ℤ) (d : ℕ) → 0 < d → n ≤ℤ pos 0 → IsBelow (Fin (pos (suc k))) n d → P
not_below k n d p h m =
    let g = times_np n (pos unit) h (omega (arith, ints)) in
    let l = cancel_pos d (pos (suc k)) (pos 0) p (let z = zero-*ℤ (pos d) in omega (arith, ints)) in
    absurd (omega (arith, ints))

zero_product_low : (m n : ℤ) → pos 0 ≤ℤ n → n ≤ℤ pos 0 → pos 0 ≤ℤ (m *ℤ n)
zero_product_low m n h k = let e : n ≡ pos 0 = omega (arith, ints) in subst (λ z. pos 0 ≤ℤ (m *ℤ z)) (sym e) (let f = *ℤ-zero m in omega (arith, ints))

zero_product_high : (m n : ℤ) → pos 0 ≤ℤ n → n ≤ℤ pos 0 → (m *ℤ n) ≤ℤ pos 0
zero_product_high m n h k = let e : n ≡ pos 0 = omega (arith, ints) in subst (λ z. (m *ℤ z) ≤ℤ pos 0) (sym e) (let f = *ℤ-zero m in omega (arith, ints))

pub low_1 : (e f : Extended) (m n : ℤ) (b d : ℕ) → 0 < d → IsTrue (le nought e) → pos 0 ≤ℤ n → IsBelow e m b → IsBelow f n d
    → IsBelow (mul_of Down e f) (m *ℤ n) (b * d)
low_1 PosInf NegInf m n b d p e0 n0 xr yr = absurd xr
low_1 PosInf (Fin f) m n b d p e0 n0 xr yr = absurd xr
low_1 PosInf PosInf m n b d p e0 n0 xr yr = absurd xr
low_1 NegInf NegInf m n b d p e0 n0 xr yr = absurd (search rules)
low_1 NegInf (Fin f) m n b d p e0 n0 xr yr = absurd (search rules)
low_1 NegInf PosInf m n b d p e0 n0 xr yr = absurd (search rules)
low_1 (Fin e) PosInf m n b d p e0 n0 xr yr = absurd yr
low_1 (Fin (pos zero)) NegInf m n b d p e0 n0 xr yr = zero_below (m *ℤ n) (b * d) (times_pp m n (below_zero m b xr) n0)
low_1 (Fin (pos (suc e))) NegInf m n b d p e0 n0 xr yr = tt
low_1 (Fin (negsuc e)) NegInf m n b d p e0 n0 xr yr = absurd (search rules)
low_1 (Fin e) (Fin f) m n b d p e0 n0 xr yr = low_1_finite e f m n b d (fin_le (pos 0) e e0) n0 xr yr

pub low_2 : (e f : Extended) (m n : ℤ) (b d : ℕ) → 0 < d → IsTrue (le e nought) → pos 0 ≤ℤ n → IsBelow e m b → IsAbove f n d
    → IsBelow (mul_of Down e f) (m *ℤ n) (b * d)
low_2 PosInf NegInf m n b d p e0 n0 xr yr = absurd xr
low_2 PosInf (Fin f) m n b d p e0 n0 xr yr = absurd xr
low_2 PosInf PosInf m n b d p e0 n0 xr yr = absurd xr
low_2 NegInf NegInf m n b d p e0 n0 xr yr = absurd yr
low_2 NegInf PosInf m n b d p e0 n0 xr yr = tt
low_2 NegInf (Fin (pos zero)) m n b d p e0 n0 xr yr = zero_below (m *ℤ n) (b * d) (zero_product_low m n n0 (above_zero n d yr))
low_2 NegInf (Fin (pos (suc f))) m n b d p e0 n0 xr yr = tt
low_2 NegInf (Fin (negsuc f)) m n b d p e0 n0 xr yr = not_above f n d p n0 yr
low_2 (Fin e) NegInf m n b d p e0 n0 xr yr = absurd yr
low_2 (Fin (pos zero)) PosInf m n b d p e0 n0 xr yr = zero_below (m *ℤ n) (b * d) (times_pp m n (below_zero m b xr) n0)
low_2 (Fin (pos (suc e))) PosInf m n b d p e0 n0 xr yr = absurd (search rules)
low_2 (Fin (negsuc e)) PosInf m n b d p e0 n0 xr yr = tt
low_2 (Fin e) (Fin f) m n b d p e0 n0 xr yr = low_2_finite e f m n b d (fin_le e (pos 0) e0) n0 xr yr

pub low_3 : (e f : Extended) (m n : ℤ) (b d : ℕ) → 0 < d → IsTrue (le nought e) → n ≤ℤ pos 0 → IsAbove e m b → IsBelow f n d
    → IsBelow (mul_of Down e f) (m *ℤ n) (b * d)
low_3 NegInf NegInf m n b d p e0 n0 xr yr = absurd xr
low_3 NegInf (Fin f) m n b d p e0 n0 xr yr = absurd xr
low_3 NegInf PosInf m n b d p e0 n0 xr yr = absurd xr
low_3 PosInf PosInf m n b d p e0 n0 xr yr = absurd yr
low_3 PosInf NegInf m n b d p e0 n0 xr yr = tt
low_3 PosInf (Fin (pos zero)) m n b d p e0 n0 xr yr = zero_below (m *ℤ n) (b * d) (zero_product_low m n (below_zero n d yr) n0)
low_3 PosInf (Fin (pos (suc f))) m n b d p e0 n0 xr yr = not_below f n d p n0 yr
low_3 PosInf (Fin (negsuc f)) m n b d p e0 n0 xr yr = tt
low_3 (Fin e) PosInf m n b d p e0 n0 xr yr = absurd yr
low_3 (Fin (pos zero)) NegInf m n b d p e0 n0 xr yr = zero_below (m *ℤ n) (b * d) (times_nn m n (above_zero m b xr) n0)
low_3 (Fin (pos (suc e))) NegInf m n b d p e0 n0 xr yr = tt
low_3 (Fin (negsuc e)) NegInf m n b d p e0 n0 xr yr = absurd (search rules)
low_3 (Fin e) (Fin f) m n b d p e0 n0 xr yr = low_3_finite e f m n b d (fin_le (pos 0) e e0) n0 xr yr

pub low_4 : (e f : Extended) (m n : ℤ) (b d : ℕ) → 0 < d → IsTrue (le e nought) → n ≤ℤ pos 0 → IsAbove e m b → IsAbove f n d
    → IsBelow (mul_of Down e f) (m *ℤ n) (b * d)
low_4 NegInf NegInf m n b d p e0 n0 xr yr = absurd xr
low_4 NegInf (Fin f) m n b d p e0 n0 xr yr = absurd xr
low_4 NegInf PosInf m n b d p e0 n0 xr yr = absurd xr
low_4 PosInf NegInf m n b d p e0 n0 xr yr = absurd (search rules)
low_4 PosInf (Fin f) m n b d p e0 n0 xr yr = absurd (search rules)
low_4 PosInf PosInf m n b d p e0 n0 xr yr = absurd (search rules)
low_4 (Fin e) NegInf m n b d p e0 n0 xr yr = absurd yr
low_4 (Fin (pos zero)) PosInf m n b d p e0 n0 xr yr = zero_below (m *ℤ n) (b * d) (times_nn m n (above_zero m b xr) n0)
low_4 (Fin (pos (suc e))) PosInf m n b d p e0 n0 xr yr = absurd (search rules)
low_4 (Fin (negsuc e)) PosInf m n b d p e0 n0 xr yr = tt
low_4 (Fin e) (Fin f) m n b d p e0 n0 xr yr = low_4_finite e f m n b d (fin_le e (pos 0) e0) n0 xr yr

pub high_1 : (e f : Extended) (m n : ℤ) (b d : ℕ) → 0 < d → IsTrue (le nought e) → pos 0 ≤ℤ n → IsAbove e m b → IsAbove f n d
    → IsAbove (mul_of Up e f) (m *ℤ n) (b * d)
high_1 NegInf NegInf m n b d p e0 n0 xr yr = absurd xr
high_1 NegInf (Fin f) m n b d p e0 n0 xr yr = absurd xr
high_1 NegInf PosInf m n b d p e0 n0 xr yr = absurd xr
high_1 PosInf NegInf m n b d p e0 n0 xr yr = absurd yr
high_1 PosInf PosInf m n b d p e0 n0 xr yr = tt
high_1 PosInf (Fin (pos zero)) m n b d p e0 n0 xr yr = zero_above (m *ℤ n) (b * d) (zero_product_high m n n0 (above_zero n d yr))
high_1 PosInf (Fin (pos (suc f))) m n b d p e0 n0 xr yr = tt
high_1 PosInf (Fin (negsuc f)) m n b d p e0 n0 xr yr = not_above f n d p n0 yr
high_1 (Fin e) NegInf m n b d p e0 n0 xr yr = absurd yr
high_1 (Fin (pos zero)) PosInf m n b d p e0 n0 xr yr = zero_above (m *ℤ n) (b * d) (times_np m n (above_zero m b xr) n0)
high_1 (Fin (pos (suc e))) PosInf m n b d p e0 n0 xr yr = tt
high_1 (Fin (negsuc e)) PosInf m n b d p e0 n0 xr yr = absurd (search rules)
high_1 (Fin e) (Fin f) m n b d p e0 n0 xr yr = high_1_finite e f m n b d (fin_le (pos 0) e e0) n0 xr yr

pub high_2 : (e f : Extended) (m n : ℤ) (b d : ℕ) → 0 < d → IsTrue (le e nought) → pos 0 ≤ℤ n → IsAbove e m b → IsBelow f n d
    → IsAbove (mul_of Up e f) (m *ℤ n) (b * d)
high_2 NegInf NegInf m n b d p e0 n0 xr yr = absurd xr
high_2 NegInf (Fin f) m n b d p e0 n0 xr yr = absurd xr
high_2 NegInf PosInf m n b d p e0 n0 xr yr = absurd xr
high_2 PosInf NegInf m n b d p e0 n0 xr yr = absurd (search rules)
high_2 PosInf (Fin f) m n b d p e0 n0 xr yr = absurd (search rules)
high_2 PosInf PosInf m n b d p e0 n0 xr yr = absurd (search rules)
high_2 (Fin e) PosInf m n b d p e0 n0 xr yr = absurd yr
high_2 (Fin (pos zero)) NegInf m n b d p e0 n0 xr yr = zero_above (m *ℤ n) (b * d) (times_np m n (above_zero m b xr) n0)
high_2 (Fin (pos (suc e))) NegInf m n b d p e0 n0 xr yr = absurd (search rules)
high_2 (Fin (negsuc e)) NegInf m n b d p e0 n0 xr yr = tt
high_2 (Fin e) (Fin f) m n b d p e0 n0 xr yr = high_2_finite e f m n b d (fin_le e (pos 0) e0) n0 xr yr

pub high_3 : (e f : Extended) (m n : ℤ) (b d : ℕ) → 0 < d → IsTrue (le nought e) → n ≤ℤ pos 0 → IsBelow e m b → IsAbove f n d
    → IsAbove (mul_of Up e f) (m *ℤ n) (b * d)
high_3 PosInf NegInf m n b d p e0 n0 xr yr = absurd xr
high_3 PosInf (Fin f) m n b d p e0 n0 xr yr = absurd xr
high_3 PosInf PosInf m n b d p e0 n0 xr yr = absurd xr
high_3 NegInf NegInf m n b d p e0 n0 xr yr = absurd (search rules)
high_3 NegInf (Fin f) m n b d p e0 n0 xr yr = absurd (search rules)
high_3 NegInf PosInf m n b d p e0 n0 xr yr = absurd (search rules)
high_3 (Fin e) NegInf m n b d p e0 n0 xr yr = absurd yr
high_3 (Fin (pos zero)) PosInf m n b d p e0 n0 xr yr = zero_above (m *ℤ n) (b * d) (times_pn m n (below_zero m b xr) n0)
high_3 (Fin (pos (suc e))) PosInf m n b d p e0 n0 xr yr = tt
high_3 (Fin (negsuc e)) PosInf m n b d p e0 n0 xr yr = absurd (search rules)
high_3 (Fin e) (Fin f) m n b d p e0 n0 xr yr = high_3_finite e f m n b d (fin_le (pos 0) e e0) n0 xr yr

pub high_4 : (e f : Extended) (m n : ℤ) (b d : ℕ) → 0 < d → IsTrue (le e nought) → n ≤ℤ pos 0 → IsBelow e m b → IsBelow f n d
    → IsAbove (mul_of Up e f) (m *ℤ n) (b * d)
high_4 PosInf NegInf m n b d p e0 n0 xr yr = absurd xr
high_4 PosInf (Fin f) m n b d p e0 n0 xr yr = absurd xr
high_4 PosInf PosInf m n b d p e0 n0 xr yr = absurd xr
high_4 NegInf PosInf m n b d p e0 n0 xr yr = absurd yr
high_4 NegInf NegInf m n b d p e0 n0 xr yr = tt
high_4 NegInf (Fin (pos zero)) m n b d p e0 n0 xr yr = zero_above (m *ℤ n) (b * d) (zero_product_high m n (below_zero n d yr) n0)
high_4 NegInf (Fin (pos (suc f))) m n b d p e0 n0 xr yr = not_below f n d p n0 yr
high_4 NegInf (Fin (negsuc f)) m n b d p e0 n0 xr yr = tt
high_4 (Fin e) PosInf m n b d p e0 n0 xr yr = absurd yr
high_4 (Fin (pos zero)) NegInf m n b d p e0 n0 xr yr = zero_above (m *ℤ n) (b * d) (times_pn m n (below_zero m b xr) n0)
high_4 (Fin (pos (suc e))) NegInf m n b d p e0 n0 xr yr = absurd (search rules)
high_4 (Fin (negsuc e)) NegInf m n b d p e0 n0 xr yr = tt
high_4 (Fin e) (Fin f) m n b d p e0 n0 xr yr = high_4_finite e f m n b d (fin_le e (pos 0) e0) n0 xr yr
