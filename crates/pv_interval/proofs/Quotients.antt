-- Quotients keep every rational result.
use Rattle.std.proofs.Common.{◌≡◌, ℕ, zero, suc, ◌<◌, ◌*◌, refl, arith, sym, ◌∙◌, ap, subst, rules}
use Rattle.std.specs.Prelude.{IsTrue, Bool, true, false, ◌&&◌, ℤ, pos, negsuc, ◌*ℤ◌, ◌≤ℤ◌, if◌then◌else◌, Option, Some, None}
use Rattle.std.proofs.Math.IntN.{*ℤ_comm, zero-*ℤ}
use Rattle.std.proofs.lemmas.Int.{ints}
use lib.IntN.{neg_ℤ}
use Rattle.pv_num.specs.Extended.{Extended, NegInf, Fin, PosInf}
use Rattle.pv_num.specs.Grid.{unit}
use Rattle.pv_num.specs.Order.{le, lt}
use Rattle.pv_num.specs.Arithmetic.{neg_of, div_of}
use Rattle.pv_num.specs.Rounding.{rounded}
use Rattle.pv_num.specs.declared.num.End.{End}
use Rattle.pv_num.specs.declared.num.End.TheVariants.{Down, Up}
use Rattle.pv_interval.specs.Bounds.{Bounds, everything}
use Rattle.pv_interval.specs.Fractions.{Fraction, over, over_parts}
use Rattle.pv_interval.specs.Points.{IsBelow, IsAbove, Lies, LiesIn, LiesInSome}
use Rattle.pv_interval.specs.Tables.{nought, quotient_of, quotient_across, of_ends, is_from_nought, is_to_nought, has_nought, is_nought, exactly}
use Rattle.pv_interval.proofs.Integers.{neg_left, times_assoc}
use Rattle.pv_interval.proofs.Products.{trans, times_from_zero, from_zero_times, to_zero_times}
use Rattle.pv_interval.proofs.Ends.{le_trans, fin_le, lt_from}
use Rattle.pv_interval.proofs.Values.{below_le, above_le, across, below_rounded, above_rounded}
use Rattle.pv_interval.proofs.Choices.{by_le, least_1, least_2, least_3, least_4, greatest_1, greatest_2, greatest_3, greatest_4}
use Rattle.pv_interval.proofs.Multiples.{cross, zero_below, zero_above, below_zero, above_zero, times_pp, times_np, up_from, down_to}
use Rattle.pv_interval.proofs.Keeps.{neg_below, neg_above, some_times}
use Rattle.pv_interval.proofs.Orders.{cond_keeps}
use Rattle.pv_interval.proofs.Powers.{turn_le, turn_from}

-- ---- finite ends, by a divisor above 0

left_side : (a : ℤ) (b k : ℕ) → (a *ℤ pos unit) *ℤ pos (b * k) ≡ (a *ℤ pos b) *ℤ (pos k *ℤ pos unit)
left_side a b k = cross a (pos unit) (pos b) (pos k) ∙ ap (λ w. (a *ℤ pos b) *ℤ w) (*ℤ_comm (pos unit) (pos k))

right_side : (m e : ℤ) (d : ℕ) → ((m *ℤ pos d) *ℤ pos unit) *ℤ e ≡ (m *ℤ pos unit) *ℤ (e *ℤ pos d)
right_side m e d = times_assoc (m *ℤ pos d) (pos unit) e ∙ cross m (pos d) (pos unit) e
    ∙ ap (λ w. (m *ℤ pos unit) *ℤ w) (*ℤ_comm (pos d) e)

quo_1_finite : (a m : ℤ) (c k b d : ℕ) → pos 0 ≤ℤ a → (a *ℤ pos b) ≤ℤ (m *ℤ pos unit) → (pos k *ℤ pos unit) ≤ℤ (pos (suc c) *ℤ pos d)
    → IsBelow (rounded Down (a *ℤ pos unit) (suc c)) (m *ℤ pos d) (b * k)
quo_1_finite a m c k b d a0 xr er =
    below_rounded (a *ℤ pos unit) (m *ℤ pos d) (suc c) (b * k) (omega arith)
    (let p = left_side a b k in let q = right_side m (pos (suc c)) d in
    let r = trans _ _ _ (from_zero_times (a *ℤ pos b) (pos k *ℤ pos unit) (pos (suc c) *ℤ pos d) (up_from a b a0) er) (times_from_zero (pos (suc c) *ℤ pos d) (a *ℤ pos b) (m *ℤ pos unit) (omega (arith, ints)) xr) in
    subst (λ w. w ≤ℤ (((m *ℤ pos d) *ℤ pos unit) *ℤ pos (suc c))) (sym p) (subst (λ w. ((a *ℤ pos b) *ℤ (pos k *ℤ pos unit)) ≤ℤ w) (sym q) r))

quo_2_finite : (a m : ℤ) (c k b d : ℕ) → a ≤ℤ pos 0 → (a *ℤ pos b) ≤ℤ (m *ℤ pos unit) → (pos (suc c) *ℤ pos d) ≤ℤ (pos k *ℤ pos unit)
    → IsBelow (rounded Down (a *ℤ pos unit) (suc c)) (m *ℤ pos d) (b * k)
quo_2_finite a m c k b d a0 xr er =
    below_rounded (a *ℤ pos unit) (m *ℤ pos d) (suc c) (b * k) (omega arith)
    (let p = left_side a b k in let q = right_side m (pos (suc c)) d in
    let r = trans _ _ _ (to_zero_times (a *ℤ pos b) (pos (suc c) *ℤ pos d) (pos k *ℤ pos unit) (down_to a b a0) er) (times_from_zero (pos (suc c) *ℤ pos d) (a *ℤ pos b) (m *ℤ pos unit) (omega (arith, ints)) xr) in
    subst (λ w. w ≤ℤ (((m *ℤ pos d) *ℤ pos unit) *ℤ pos (suc c))) (sym p) (subst (λ w. ((a *ℤ pos b) *ℤ (pos k *ℤ pos unit)) ≤ℤ w) (sym q) r))

quo_3_finite : (a m : ℤ) (c k b d : ℕ) → pos 0 ≤ℤ a → (m *ℤ pos unit) ≤ℤ (a *ℤ pos b) → (pos (suc c) *ℤ pos d) ≤ℤ (pos k *ℤ pos unit)
    → IsAbove (rounded Up (a *ℤ pos unit) (suc c)) (m *ℤ pos d) (b * k)
quo_3_finite a m c k b d a0 xr er =
    above_rounded (a *ℤ pos unit) (m *ℤ pos d) (suc c) (b * k) (omega arith)
    (let p = left_side a b k in let q = right_side m (pos (suc c)) d in
    let r = trans _ _ _ (times_from_zero (pos (suc c) *ℤ pos d) (m *ℤ pos unit) (a *ℤ pos b) (omega (arith, ints)) xr) (from_zero_times (a *ℤ pos b) (pos (suc c) *ℤ pos d) (pos k *ℤ pos unit) (up_from a b a0) er) in
    subst (λ w. (((m *ℤ pos d) *ℤ pos unit) *ℤ pos (suc c)) ≤ℤ w) (sym p) (subst (λ w. w ≤ℤ ((a *ℤ pos b) *ℤ (pos k *ℤ pos unit))) (sym q) r))

quo_4_finite : (a m : ℤ) (c k b d : ℕ) → a ≤ℤ pos 0 → (m *ℤ pos unit) ≤ℤ (a *ℤ pos b) → (pos k *ℤ pos unit) ≤ℤ (pos (suc c) *ℤ pos d)
    → IsAbove (rounded Up (a *ℤ pos unit) (suc c)) (m *ℤ pos d) (b * k)
quo_4_finite a m c k b d a0 xr er =
    above_rounded (a *ℤ pos unit) (m *ℤ pos d) (suc c) (b * k) (omega arith)
    (let p = left_side a b k in let q = right_side m (pos (suc c)) d in
    let r = trans _ _ _ (times_from_zero (pos (suc c) *ℤ pos d) (m *ℤ pos unit) (a *ℤ pos b) (omega (arith, ints)) xr) (to_zero_times (a *ℤ pos b) (pos k *ℤ pos unit) (pos (suc c) *ℤ pos d) (down_to a b a0) er) in
    subst (λ w. (((m *ℤ pos d) *ℤ pos unit) *ℤ pos (suc c)) ≤ℤ w) (sym p) (subst (λ w. w ≤ℤ ((a *ℤ pos b) *ℤ (pos k *ℤ pos unit))) (sym q) r))

-- ---- ends that may be infinite

-- no end up to 0 is above a number above 0
too_low : {P : Type 0} (e : Extended) (k d : ℕ) → 0 < k → IsTrue (le e nought) → IsAbove e (pos k) d → P
too_low e k d p h m =
    let f = above_zero (pos k) d (above_le e nought (pos k) d h m) in absurd (omega (arith, ints))

pub quo_1 : (a e : Extended) (m : ℤ) (k b d : ℕ) → 0 < k → 0 < d → IsTrue (le nought a) → IsBelow a m b → IsAbove e (pos k) d
    → IsBelow (div_of Down a e) (m *ℤ pos d) (b * k)
quo_1 PosInf NegInf m k b d kp dp a0 xr er = absurd xr
quo_1 PosInf (Fin e) m k b d kp dp a0 xr er = absurd xr
quo_1 PosInf PosInf m k b d kp dp a0 xr er = absurd xr
quo_1 NegInf NegInf m k b d kp dp a0 xr er = absurd (search rules)
quo_1 NegInf (Fin e) m k b d kp dp a0 xr er = absurd (search rules)
quo_1 NegInf PosInf m k b d kp dp a0 xr er = absurd (search rules)
quo_1 (Fin a) NegInf m k b d kp dp a0 xr er = absurd er
quo_1 (Fin a) PosInf m k b d kp dp a0 xr er = zero_below (m *ℤ pos d) (b * k) (times_pp m (pos d) (below_zero m b (below_le nought (Fin a) m b a0 xr)) (omega (arith, ints)))
quo_1 (Fin a) (Fin (pos zero)) m k b d kp dp a0 xr er = too_low (Fin (pos zero)) k d kp refl er
quo_1 (Fin a) (Fin (negsuc e)) m k b d kp dp a0 xr er = too_low (Fin (negsuc e)) k d kp refl er
quo_1 (Fin a) (Fin (pos (suc e))) m k b d kp dp a0 xr er = quo_1_finite a m e k b d (fin_le (pos 0) a a0) xr er

pub quo_2 : (a e : Extended) (m : ℤ) (k b d : ℕ) → 0 < k → 0 < d → IsTrue (le a nought) → le e nought ≡ false → IsBelow a m b → IsBelow e (pos k) d
    → IsBelow (div_of Down a e) (m *ℤ pos d) (b * k)
quo_2 PosInf NegInf m k b d kp dp a0 e0 xr er = absurd xr
quo_2 PosInf (Fin e) m k b d kp dp a0 e0 xr er = absurd xr
quo_2 PosInf PosInf m k b d kp dp a0 e0 xr er = absurd xr
quo_2 NegInf PosInf m k b d kp dp a0 e0 xr er = absurd er
quo_2 NegInf NegInf m k b d kp dp a0 e0 xr er = absurd (cc)
quo_2 NegInf (Fin (pos zero)) m k b d kp dp a0 e0 xr er = absurd (cc)
quo_2 NegInf (Fin (negsuc e)) m k b d kp dp a0 e0 xr er = absurd (cc)
quo_2 NegInf (Fin (pos (suc e))) m k b d kp dp a0 e0 xr er = tt
quo_2 (Fin a) PosInf m k b d kp dp a0 e0 xr er = absurd er
quo_2 (Fin a) NegInf m k b d kp dp a0 e0 xr er = absurd (cc)
quo_2 (Fin a) (Fin (pos zero)) m k b d kp dp a0 e0 xr er = absurd (cc)
quo_2 (Fin a) (Fin (negsuc e)) m k b d kp dp a0 e0 xr er = absurd (cc)
quo_2 (Fin a) (Fin (pos (suc e))) m k b d kp dp a0 e0 xr er = quo_2_finite a m e k b d (fin_le a (pos 0) a0) xr er

pub quo_3 : (a e : Extended) (m : ℤ) (k b d : ℕ) → 0 < k → 0 < d → IsTrue (le nought a) → le e nought ≡ false → IsAbove a m b → IsBelow e (pos k) d
    → IsAbove (div_of Up a e) (m *ℤ pos d) (b * k)
quo_3 NegInf NegInf m k b d kp dp a0 e0 xr er = absurd xr
quo_3 NegInf (Fin e) m k b d kp dp a0 e0 xr er = absurd xr
quo_3 NegInf PosInf m k b d kp dp a0 e0 xr er = absurd xr
quo_3 PosInf PosInf m k b d kp dp a0 e0 xr er = absurd er
quo_3 PosInf NegInf m k b d kp dp a0 e0 xr er = absurd (cc)
quo_3 PosInf (Fin (pos zero)) m k b d kp dp a0 e0 xr er = absurd (cc)
quo_3 PosInf (Fin (negsuc e)) m k b d kp dp a0 e0 xr er = absurd (cc)
quo_3 PosInf (Fin (pos (suc e))) m k b d kp dp a0 e0 xr er = tt
quo_3 (Fin a) PosInf m k b d kp dp a0 e0 xr er = absurd er
quo_3 (Fin a) NegInf m k b d kp dp a0 e0 xr er = absurd (cc)
quo_3 (Fin a) (Fin (pos zero)) m k b d kp dp a0 e0 xr er = absurd (cc)
quo_3 (Fin a) (Fin (negsuc e)) m k b d kp dp a0 e0 xr er = absurd (cc)
quo_3 (Fin a) (Fin (pos (suc e))) m k b d kp dp a0 e0 xr er = quo_3_finite a m e k b d (fin_le (pos 0) a a0) xr er

pub quo_4 : (a e : Extended) (m : ℤ) (k b d : ℕ) → 0 < k → 0 < d → IsTrue (le a nought) → IsAbove a m b → IsAbove e (pos k) d
    → IsAbove (div_of Up a e) (m *ℤ pos d) (b * k)
quo_4 NegInf NegInf m k b d kp dp a0 xr er = absurd xr
quo_4 NegInf (Fin e) m k b d kp dp a0 xr er = absurd xr
quo_4 NegInf PosInf m k b d kp dp a0 xr er = absurd xr
quo_4 PosInf NegInf m k b d kp dp a0 xr er = absurd (search rules)
quo_4 PosInf (Fin e) m k b d kp dp a0 xr er = absurd (search rules)
quo_4 PosInf PosInf m k b d kp dp a0 xr er = absurd (search rules)
quo_4 (Fin a) NegInf m k b d kp dp a0 xr er = absurd er
quo_4 (Fin a) PosInf m k b d kp dp a0 xr er = zero_above (m *ℤ pos d) (b * k) (times_np m (pos d) (above_zero m b (above_le (Fin a) nought m b a0 xr)) (omega (arith, ints)))
quo_4 (Fin a) (Fin (pos zero)) m k b d kp dp a0 xr er = too_low (Fin (pos zero)) k d kp refl er
quo_4 (Fin a) (Fin (negsuc e)) m k b d kp dp a0 xr er = too_low (Fin (negsuc e)) k d kp refl er
quo_4 (Fin a) (Fin (pos (suc e))) m k b d kp dp a0 xr er = quo_4_finite a m e k b d (fin_le a (pos 0) a0) xr er

-- ---- the four ends

-- f over the positive number (r + 1) / g.under
abbrev pub upright : Fraction → ℕ → ℕ → Fraction
upright f r s = record { top = f.top *ℤ pos s; under = f.under * suc r }

-- f over the negative number -(r + 1) / g.under
abbrev pub turned : Fraction → ℕ → ℕ → Fraction
turned f r s = record { top = neg_ℤ (f.top *ℤ pos s); under = f.under * suc r }

some_upright : (f : Fraction) (r : ℕ) → 0 < f.under → 0 < f.under * suc r
some_upright f r h = some_times f.under (suc r) h (omega arith)

positive_keeps : (f : Fraction) (r s : ℕ) (x y : Bounds) → LiesIn f x → Lies (pos (suc r)) s y → le y.lo nought ≡ false
    → LiesIn (upright f r s) (of_ends div_of x y)
positive_keeps f r s x y h k p =
    let m = (upright f r s).top in let d = (upright f r s).under in
    let one = div_of Down x.lo y.lo in let two = div_of Down x.lo y.hi in
    let three = div_of Down x.hi y.lo in let four = div_of Down x.hi y.hi in
    let five = div_of Up x.lo y.lo in let six = div_of Up x.lo y.hi in
    let seven = div_of Up x.hi y.lo in let eight = div_of Up x.hi y.hi in
    record {
      some = some_upright f r h.some;
      low = by_le nought x.lo
          (λ a. below_le (of_ends div_of x y).lo two m d (least_2 one two three four)
          (quo_1 x.lo y.hi f.top (suc r) f.under s (omega arith) k.some a h.low k.high))
          (λ a. below_le (of_ends div_of x y).lo one m d (least_1 one two three four)
          (quo_2 x.lo y.lo f.top (suc r) f.under s (omega arith) k.some a p h.low k.low));
      high = by_le nought x.hi
          (λ a. above_le seven (of_ends div_of x y).hi m d (greatest_3 five six seven eight)
          (quo_3 x.hi y.lo f.top (suc r) f.under s (omega arith) k.some a p h.high k.low))
          (λ a. above_le eight (of_ends div_of x y).hi m d (greatest_4 five six seven eight)
          (quo_4 x.hi y.hi f.top (suc r) f.under s (omega arith) k.some a h.high k.high));
    }

-- both signs turned, a quotient stays
pub div_turn : (t : End) (a e : Extended) → le nought e ≡ false → div_of t (neg_of a) (neg_of e) ≡ div_of t a e
div_turn t NegInf NegInf h = refl
div_turn t NegInf (Fin (pos e)) h = absurd (search rules)
div_turn t NegInf (Fin (negsuc e)) h = refl
div_turn t NegInf PosInf h = absurd (search rules)
div_turn t (Fin a) NegInf h = refl
div_turn t (Fin a) (Fin (pos e)) h = absurd (search rules)
div_turn t (Fin a) (Fin (negsuc e)) h = refl
div_turn t (Fin a) PosInf h = absurd (search rules)
div_turn t PosInf NegInf h = refl
div_turn t PosInf (Fin (pos e)) h = absurd (search rules)
div_turn t PosInf (Fin (negsuc e)) h = refl
div_turn t PosInf PosInf h = absurd (search rules)

pub not_turned : (e : Extended) → le nought e ≡ false → le (neg_of e) nought ≡ false
not_turned NegInf h = refl
not_turned (Fin (pos e)) h = absurd (search rules)
not_turned (Fin (negsuc e)) h = grind (arith, ints)
not_turned PosInf h = absurd (search rules)

-- the lower end of what lies below 0 is below 0
pub lower_too : (a b : Extended) → IsTrue (le a b) → le nought b ≡ false → le nought a ≡ false
lower_too a b h k = by_value (le nought a) refl
  where
    by_value : (t : Bool) → le nought a ≡ t → le nought a ≡ false
    by_value true e = let p = le_trans nought a b e h in absurd (cc)
    by_value false e = e

turned_below : (a e : Extended) (m : ℤ) (d s r : ℕ) → le nought e ≡ false
    → IsBelow (div_of Down (neg_of a) (neg_of e)) (neg_ℤ m *ℤ pos s) (d * suc r)
    → IsBelow (div_of Down a e) (neg_ℤ (m *ℤ pos s)) (d * suc r)
turned_below a e m d s r n h =
    subst (λ w. IsBelow w (neg_ℤ (m *ℤ pos s)) (d * suc r)) (div_turn Down a e n)
    (subst (λ w. IsBelow (div_of Down (neg_of a) (neg_of e)) w (d * suc r)) (neg_left m (pos s)) h)

turned_above : (a e : Extended) (m : ℤ) (d s r : ℕ) → le nought e ≡ false
    → IsAbove (div_of Up (neg_of a) (neg_of e)) (neg_ℤ m *ℤ pos s) (d * suc r)
    → IsAbove (div_of Up a e) (neg_ℤ (m *ℤ pos s)) (d * suc r)
turned_above a e m d s r n h =
    subst (λ w. IsAbove w (neg_ℤ (m *ℤ pos s)) (d * suc r)) (div_turn Up a e n)
    (subst (λ w. IsAbove (div_of Up (neg_of a) (neg_of e)) w (d * suc r)) (neg_left m (pos s)) h)

-- the quotient of the upper end by the lower one is below, where both are at most 0
turned_low : (a e : Extended) (f : Fraction) (r s : ℕ) → 0 < s → IsTrue (le a nought) → le nought e ≡ false
    → IsAbove a f.top f.under → IsBelow e (negsuc r) s → IsBelow (div_of Down a e) (turned f r s).top (turned f r s).under
turned_low a e f r s p h n xr er = turned_below a e f.top f.under s r n
    (quo_1 (neg_of a) (neg_of e) (neg_ℤ f.top) (suc r) f.under s (omega arith) p (turn_le a h)
    (neg_below a f.top f.under xr) (neg_above e (negsuc r) s er))

turned_high : (a e : Extended) (f : Fraction) (r s : ℕ) → 0 < s → IsTrue (le nought a) → le nought e ≡ false
    → IsBelow a f.top f.under → IsBelow e (negsuc r) s → IsAbove (div_of Up a e) (turned f r s).top (turned f r s).under
turned_high a e f r s p h n xr er = turned_above a e f.top f.under s r n
    (quo_4 (neg_of a) (neg_of e) (neg_ℤ f.top) (suc r) f.under s (omega arith) p (turn_from a h)
    (neg_above a f.top f.under xr) (neg_above e (negsuc r) s er))

negative_keeps : (f : Fraction) (r s : ℕ) (x y : Bounds) → LiesIn f x → Lies (negsuc r) s y → le nought y.hi ≡ false
    → LiesIn (turned f r s) (of_ends div_of x y)
negative_keeps f r s x y h k n =
    let m = (turned f r s).top in let d = (turned f r s).under in
    let l : le nought y.lo ≡ false = lower_too y.lo y.hi (across y.lo y.hi (negsuc r) s k.some k.low k.high) n in
    let one = div_of Down x.lo y.lo in let two = div_of Down x.lo y.hi in
    let three = div_of Down x.hi y.lo in let four = div_of Down x.hi y.hi in
    let five = div_of Up x.lo y.lo in let six = div_of Up x.lo y.hi in
    let seven = div_of Up x.hi y.lo in let eight = div_of Up x.hi y.hi in
    record {
      some = some_upright f r h.some;
      low = by_le nought x.hi
          (λ a. below_le (of_ends div_of x y).lo four m d (least_4 one two three four)
          (turned_below x.hi y.hi f.top f.under s r n
          (quo_2 (neg_of x.hi) (neg_of y.hi) (neg_ℤ f.top) (suc r) f.under s (omega arith) k.some (turn_from x.hi a) (not_turned y.hi n)
          (neg_below x.hi f.top f.under h.high) (neg_below y.hi (negsuc r) s k.high))))
          (λ a. below_le (of_ends div_of x y).lo three m d (least_3 one two three four)
          (turned_low x.hi y.lo f r s k.some a l h.high k.low));
      high = by_le nought x.lo
          (λ a. above_le five (of_ends div_of x y).hi m d (greatest_1 five six seven eight)
          (turned_high x.lo y.lo f r s k.some a l h.low k.low))
          (λ a. above_le six (of_ends div_of x y).hi m d (greatest_2 five six seven eight)
          (turned_above x.lo y.hi f.top f.under s r n
          (quo_3 (neg_of x.lo) (neg_of y.hi) (neg_ℤ f.top) (suc r) f.under s (omega arith) k.some (turn_le x.lo a) (not_turned y.hi n)
          (neg_above x.lo f.top f.under h.low) (neg_below y.hi (negsuc r) s k.high))));
    }

-- ---- a divisor that holds 0

-- an end above a number above 0 is not up to 0
above_up : (e : Extended) (r s : ℕ) → IsAbove e (pos (suc r)) s → le e nought ≡ false
above_up e r s h = by_value (le e nought) refl
  where
    by_value : (t : Bool) → le e nought ≡ t → le e nought ≡ false
    by_value true k = too_low e (suc r) s (omega arith) k h
    by_value false k = k

below_down : (e : Extended) (r s : ℕ) → 0 < s → IsBelow e (negsuc r) s → le nought e ≡ false
below_down e r s p h = by_value (le nought e) refl
  where
    by_value : (t : Bool) → le nought e ≡ t → le nought e ≡ false
    by_value true k = let z = below_zero (negsuc r) s (below_le nought e (negsuc r) s k h) in absurd (omega (arith, ints))
    by_value false k = k

pub both : (s t : Bool) → s ≡ true → t ≡ true → s && t ≡ false → ⊥
both s t h k e = grind rules

across_up : (f : Fraction) (r s : ℕ) (x y : Bounds) → LiesIn f x → Lies (pos (suc r)) s y
    → LiesIn (upright f r s) (quotient_across x y)
across_up f r s x y h k =
    let g : Fraction = upright f r s in let p = some_upright f r h.some in
    let one : Bounds = record { lo = div_of Down x.lo y.hi; hi = PosInf } in
    let two : Bounds = record { lo = NegInf; hi = div_of Up x.hi y.hi } in
    let three : Bounds = record { lo = NegInf; hi = div_of Up x.lo y.lo } in
    let four : Bounds = record { lo = div_of Down x.hi y.lo; hi = PosInf } in
    let up : Bounds = if is_from_nought x then one else if is_to_nought x then two else everything in
    let down : Bounds = if is_from_nought x then three else if is_to_nought x then four else everything in
    let all : LiesIn g everything = record { some = p; low = tt; high = tt } in
    cond_keeps (LiesIn g) (lt y.lo nought && lt nought y.hi) everything (if le nought y.lo then up else down)
    (λ t. all)
    (λ t. cond_keeps (LiesIn g) (le nought y.lo) up down
    (λ u. cond_keeps (LiesIn g) (is_from_nought x) one (if is_to_nought x then two else everything)
    (λ a. record { some = p; low = quo_1 x.lo y.hi f.top (suc r) f.under s (omega arith) k.some a h.low k.high; high = tt })
    (λ a. cond_keeps (LiesIn g) (is_to_nought x) two everything
    (λ b. record { some = p; low = tt; high = quo_4 x.hi y.hi f.top (suc r) f.under s (omega arith) k.some b h.high k.high })
    (λ b. all)))
    (λ u. absurd (both (lt y.lo nought) (lt nought y.hi) (lt_from y.lo nought u) (lt_from nought y.hi (above_up y.hi r s k.high)) t)))

across_down : (f : Fraction) (r s : ℕ) (x y : Bounds) → LiesIn f x → Lies (negsuc r) s y
    → LiesIn (turned f r s) (quotient_across x y)
across_down f r s x y h k =
    let g : Fraction = turned f r s in let p = some_upright f r h.some in
    let one : Bounds = record { lo = div_of Down x.lo y.hi; hi = PosInf } in
    let two : Bounds = record { lo = NegInf; hi = div_of Up x.hi y.hi } in
    let three : Bounds = record { lo = NegInf; hi = div_of Up x.lo y.lo } in
    let four : Bounds = record { lo = div_of Down x.hi y.lo; hi = PosInf } in
    let up : Bounds = if is_from_nought x then one else if is_to_nought x then two else everything in
    let down : Bounds = if is_from_nought x then three else if is_to_nought x then four else everything in
    let all : LiesIn g everything = record { some = p; low = tt; high = tt } in
    let n = below_down y.lo r s k.some k.low in
    cond_keeps (LiesIn g) (lt y.lo nought && lt nought y.hi) everything (if le nought y.lo then up else down)
    (λ t. all)
    (λ t. cond_keeps (LiesIn g) (le nought y.lo) up down
    (λ u. absurd (cc))
    (λ u. cond_keeps (LiesIn g) (is_from_nought x) three (if is_to_nought x then four else everything)
    (λ a. record { some = p; low = tt; high = turned_high x.lo y.lo f r s k.some a n h.low k.low })
    (λ a. cond_keeps (LiesIn g) (is_to_nought x) four everything
    (λ b. record { some = p; low = turned_low x.hi y.lo f r s k.some b n h.high k.low; high = tt })
    (λ b. all))))

-- ---- the table

pub and_left : (s t : Bool) → s && t ≡ true → s ≡ true
and_left s t h = grind rules

pub and_right : (s t : Bool) → s && t ≡ true → t ≡ true
and_right s t h = grind rules

pub zero_top : (f : Fraction) (x : Bounds) → is_nought x ≡ true → LiesIn f x → f.top ≡ pos 0
zero_top f x t h =
    let p = below_zero f.top f.under (below_le nought x.lo f.top f.under (and_left (le nought x.lo) (le x.hi nought) t) h.low) in
    let q = above_zero f.top f.under (above_le x.hi nought f.top f.under (and_right (le nought x.lo) (le x.hi nought) t) h.high) in
    omega (arith, ints)

zero_lies : (n : ℤ) (d : ℕ) → 0 < d → n ≡ pos 0 → Lies n d (exactly nought)
zero_lies n d p e = record { some = p; low = zero_below n d (omega (arith, ints)); high = zero_above n d (omega (arith, ints)) }

zero_upright : (f : Fraction) (s : ℕ) → f.top ≡ pos 0 → f.top *ℤ pos s ≡ pos 0
zero_upright f s e = ap (λ w. w *ℤ pos s) e ∙ zero-*ℤ (pos s)

-- one of two tests fails
one_fails : {P : Type 0} (t u : Bool) → t && u ≡ false → (t ≡ false → P) → (u ≡ false → P) → P
one_fails true true h f g = absurd (cc)
one_fails true false h f g = g refl
one_fails false u h f g = f refl

above_keeps : (f : Fraction) (r s : ℕ) (x y : Bounds) → LiesIn f x → Lies (pos (suc r)) s y
    → LiesInSome (upright f r s).top (upright f r s).under (quotient_of x y)
unfolding quotient_of
above_keeps f r s x y h k =
    let g : Fraction = upright f r s in
    let P : Option Bounds → Type 0 = LiesInSome g.top g.under in
    let at_zero : Bounds = if is_nought x then exactly nought else quotient_across x y in
    cond_keeps P (is_nought y) None (if has_nought y then Some at_zero else Some (of_ends div_of x y))
    (λ t. let e = zero_top (record { top = pos (suc r); under = s }) y t k in absurd (cc))
    (λ t. cond_keeps P (has_nought y) (Some at_zero) (Some (of_ends div_of x y))
    (λ u. cond_keeps (LiesIn g) (is_nought x) (exactly nought) (quotient_across x y)
    (λ v. zero_lies g.top g.under (some_upright f r h.some) (zero_upright f s (zero_top f x v h)))
    (λ v. across_up f r s x y h k))
    (λ u. positive_keeps f r s x y h k
    (one_fails (le y.lo nought) (le nought y.hi) u (λ e. e)
    (λ e. let z = le_trans nought (Fin (pos (suc r))) y.hi in absurd (high_clash y r s k e)))))
  where
    high_clash : (y : Bounds) (r s : ℕ) → Lies (pos (suc r)) s y → le nought y.hi ≡ false → ⊥
    high_clash y r s k e = let p = across nought y.hi (pos (suc r)) s k.some (zero_below (pos (suc r)) s (omega (arith, ints))) k.high in cc

below_keeps : (f : Fraction) (r s : ℕ) (x y : Bounds) → LiesIn f x → Lies (negsuc r) s y
    → LiesInSome (turned f r s).top (turned f r s).under (quotient_of x y)
unfolding quotient_of
below_keeps f r s x y h k =
    let g : Fraction = turned f r s in
    let P : Option Bounds → Type 0 = LiesInSome g.top g.under in
    let at_zero : Bounds = if is_nought x then exactly nought else quotient_across x y in
    cond_keeps P (is_nought y) None (if has_nought y then Some at_zero else Some (of_ends div_of x y))
    (λ t. let e = zero_top (record { top = negsuc r; under = s }) y t k in absurd (cc))
    (λ t. cond_keeps P (has_nought y) (Some at_zero) (Some (of_ends div_of x y))
    (λ u. cond_keeps (LiesIn g) (is_nought x) (exactly nought) (quotient_across x y)
    (λ v. zero_lies g.top g.under (some_upright f r h.some) (ap neg_ℤ (zero_upright f s (zero_top f x v h))))
    (λ v. across_down f r s x y h k))
    (λ u. negative_keeps f r s x y h k
    (one_fails (le y.lo nought) (le nought y.hi) u
    (λ e. absurd (low_clash y r s k e)) (λ e. e))))
  where
    low_clash : (y : Bounds) (r s : ℕ) → Lies (negsuc r) s y → le y.lo nought ≡ false → ⊥
    low_clash y r s k e = let p = across y.lo nought (negsuc r) s k.some k.low (zero_above (negsuc r) s (omega (arith, ints))) in cc

quotient_by : (f : Fraction) (n : ℤ) (s : ℕ) (h : Fraction) (x y : Bounds) → over_parts f n s ≡ Some h → LiesIn f x → Lies n s y
    → LiesInSome h.top h.under (quotient_of x y)
quotient_by f (pos zero) s h x y e p q = absurd (cc)
quotient_by f (pos (suc r)) s h x y e p q =
    let i : upright f r s ≡ h = cc in subst (λ w. LiesInSome w.top w.under (quotient_of x y)) i (above_keeps f r s x y p q)
quotient_by f (negsuc r) s h x y e p q =
    let i : turned f r s ≡ h = cc in subst (λ w. LiesInSome w.top w.under (quotient_of x y)) i (below_keeps f r s x y p q)

pub quotient_keeps : (f g h : Fraction) (x y : Bounds) → over f g ≡ Some h → LiesIn f x → LiesIn g y
    → LiesInSome h.top h.under (quotient_of x y)
quotient_keeps f g h x y e p q = quotient_by f g.top g.under h x y e p q
