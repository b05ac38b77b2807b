-- Powers keep every rational result.
use Rattle.std.proofs.Common.{◌≡◌, ◌≢◌, ℕ, zero, suc, ◌<◌, ◌*◌, ◌%◌, refl, arith, sym, ◌∙◌, ap, subst, rules}
use Rattle.std.specs.Prelude.{IsTrue, false, ℤ, pos, negsuc, ◌*ℤ◌, ◌≤ℤ◌, if◌then◌else◌, eqb}
use Rattle.std.proofs.Math.IntN.{neg_ℤ-neg_ℤ}
use Rattle.std.proofs.lemmas.Int.{ints}
use Rattle.std.proofs.lemmas.Bool.{eqb-true, eq-eqb}
use lib.IntN.{neg_ℤ}
use Rattle.pv_num.specs.Extended.{Extended, NegInf, Fin, PosInf}
use Rattle.pv_num.specs.Grid.{unit}
use Rattle.pv_num.specs.Order.{le, greater}
use Rattle.pv_num.specs.Arithmetic.{neg_of, mul_of, pow_of}
use Rattle.pv_num.specs.declared.num.End.{End}
use Rattle.pv_num.specs.declared.num.End.TheVariants.{Down, Up}
use Rattle.pv_interval.specs.Bounds.{Bounds}
use Rattle.pv_interval.specs.Fractions.{Fraction, times, opposite, power}
use Rattle.pv_interval.specs.Points.{IsBelow, IsAbove, LiesIn}
use Rattle.pv_interval.specs.Tables.{nought, power_of, odd_power, even_power, is_from_nought, is_to_nought, exactly}
use Rattle.pv_interval.proofs.Integers.{neg_left, neg_right}
use Rattle.pv_interval.proofs.Ends.{le_of_false, fin_le, le_fin}
use Rattle.pv_interval.proofs.Rounds.{rounded_from_zero}
use Rattle.pv_interval.proofs.Values.{below_le, above_le, across}
use Rattle.pv_interval.proofs.Choices.{greater_left, greater_right}
use Rattle.pv_interval.proofs.Multiples.{low_1, high_1, zero_below, zero_above, below_zero, above_zero, unit_some, times_pp}
use Rattle.pv_interval.proofs.Keeps.{neg_below, neg_above, by_sign, some_times}
use Rattle.pv_interval.proofs.Orders.{cond_keeps}

-- ---- powers of a fraction

pub power_some : (f : Fraction) (n : ℕ) → 0 < f.under → 0 < (power f n).under
power_some f zero h = omega arith
power_some f (suc n) h = some_times (power f n).under f.under (power_some f n h) h

pub power_from_zero : (f : Fraction) (n : ℕ) → pos 0 ≤ℤ f.top → pos 0 ≤ℤ (power f n).top
power_from_zero f zero h = omega (arith, ints)
power_from_zero f (suc n) h = times_pp (power f n).top f.top (power_from_zero f n h) h

turn_both : (f g : Fraction) → times (opposite f) (opposite g) ≡ times f g
turn_both f g = ap (λ w. record { top = w; under = f.under * g.under })
    (neg_left f.top (neg_ℤ g.top) ∙ ap neg_ℤ (neg_right f.top g.top) ∙ neg_ℤ-neg_ℤ (f.top *ℤ g.top))

turn_last : (f g : Fraction) → times f (opposite g) ≡ opposite (times f g)
turn_last f g = ap (λ w. record { top = w; under = f.under * g.under }) (neg_right f.top g.top)

-- the power of the opposite number: the same for even n, the opposite for odd n
power_opposite : (f : Fraction) (n : ℕ)
    → (n % 2 ≡ 0 → power (opposite f) n ≡ power f n) × (n % 2 ≡ 1 → power (opposite f) n ≡ opposite (power f n))
power_opposite f zero = (λ e. refl, λ e. absurd (omega arith))
power_opposite f (suc n) = let h = power_opposite f n in (
  λ e. let o : n % 2 ≡ 1 = omega arith in ap (λ w. times w (opposite f)) (h.1 o) ∙ turn_both (power f n) f,
  λ e. let o : n % 2 ≡ 0 = omega arith in ap (λ w. times w (opposite f)) (h.0 o) ∙ turn_last (power f n) f,
)

pub power_even : (f : Fraction) (n : ℕ) → n % 2 ≡ 0 → power (opposite f) n ≡ power f n
power_even f n = (power_opposite f n).0

pub power_odd : (f : Fraction) (n : ℕ) → n % 2 ≡ 1 → power (opposite f) n ≡ opposite (power f n)
power_odd f n = (power_opposite f n).1

pub opposite_twice : (f : Fraction) → opposite (opposite f) ≡ f
opposite_twice f = ap (λ w. record { top = w; under = f.under }) (neg_ℤ-neg_ℤ f.top)

-- ---- powers of an end

mul_from_zero : (s : End) (a b : Extended) → IsTrue (le nought a) → IsTrue (le nought b) → IsTrue (le nought (mul_of s a b))
mul_from_zero s NegInf b h k = absurd (search rules)
mul_from_zero s (Fin a) NegInf h k = absurd (search rules)
mul_from_zero s (Fin a) (Fin b) h k =
    rounded_from_zero s (a *ℤ b) unit unit_some (times_pp a b (fin_le (pos 0) a h) (fin_le (pos 0) b k))
mul_from_zero s (Fin (pos zero)) PosInf h k = refl
mul_from_zero s (Fin (pos (suc a))) PosInf h k = refl
mul_from_zero s (Fin (negsuc a)) PosInf h k = absurd (search rules)
mul_from_zero s PosInf NegInf h k = absurd (search rules)
mul_from_zero s PosInf (Fin (pos zero)) h k = refl
mul_from_zero s PosInf (Fin (pos (suc b))) h k = refl
mul_from_zero s PosInf (Fin (negsuc b)) h k = absurd (search rules)
mul_from_zero s PosInf PosInf h k = refl

pub pow_from_zero : (s : End) (a : Extended) (n : ℕ) → IsTrue (le nought a) → IsTrue (le nought (pow_of s a n))
pow_from_zero s a zero h = le_fin (pos 0) (pos unit) (omega (arith, ints))
pow_from_zero s a (suc zero) h = h
pow_from_zero s a (suc (suc n)) h = mul_from_zero s (pow_of s a (suc n)) a (pow_from_zero s a (suc n) h) h

one_times : (z : ℤ) → pos 1 *ℤ z ≡ z
one_times (pos n) = omega (arith, ints)
one_times (negsuc n) = omega (arith, ints)

pub first_power : (f : Fraction) → f ≡ power f 1
first_power f = let e : f.top ≡ pos 1 *ℤ f.top = sym (one_times f.top) in
    let u : f.under ≡ 1 * f.under = omega arith in
    ap (λ w. record { top = w; under = f.under }) e ∙ ap (λ w. record { top = pos 1 *ℤ f.top; under = w }) u

pub pow_low : (a : Extended) (f : Fraction) (n : ℕ) → 0 < f.under → IsTrue (le nought a) → IsBelow a f.top f.under
    → IsBelow (pow_of Down a n) (power f n).top (power f n).under
pow_low a f zero p h k = omega (arith, ints)
pow_low a f (suc zero) p h k = subst (λ w. IsBelow a w.top w.under) (first_power f) k
pow_low a f (suc (suc n)) p h k =
    low_1 (pow_of Down a (suc n)) a (power f (suc n)).top f.top (power f (suc n)).under f.under p
    (pow_from_zero Down a (suc n) h) (below_zero f.top f.under (below_le nought a f.top f.under h k))
    (pow_low a f (suc n) p h k) k

pub pow_high : (a : Extended) (f : Fraction) (n : ℕ) → 0 < f.under → pos 0 ≤ℤ f.top → IsAbove a f.top f.under
    → IsAbove (pow_of Up a n) (power f n).top (power f n).under
pow_high a f zero p h k = omega (arith, ints)
pow_high a f (suc zero) p h k = subst (λ w. IsAbove a w.top w.under) (first_power f) k
pow_high a f (suc (suc n)) p h k =
    high_1 (pow_of Up a (suc n)) a (power f (suc n)).top f.top (power f (suc n)).under f.under p
    (pow_from_zero Up a (suc n) (across nought a f.top f.under p (zero_below f.top f.under h) k)) h
    (pow_high a f (suc n) p h k) k

-- ---- the table

pub turn_le : (a : Extended) → IsTrue (le a nought) → IsTrue (le nought (neg_of a))
turn_le NegInf h = refl
turn_le (Fin a) h = let e = fin_le a (pos 0) h in le_fin (pos 0) (neg_ℤ a) (omega (arith, ints))
turn_le PosInf h = absurd (search rules)

pub turn_from : (a : Extended) → IsTrue (le nought a) → IsTrue (le (neg_of a) nought)
turn_from NegInf h = absurd (search rules)
turn_from (Fin a) h = let e = fin_le (pos 0) a h in le_fin (neg_ℤ a) (pos 0) (omega (arith, ints))
turn_from PosInf h = refl

turned_power : (f : Fraction) (n : ℕ) → n % 2 ≡ 1 → opposite (power (opposite f) n) ≡ power f n
turned_power f n o = ap opposite (power_odd f n o) ∙ opposite_twice (power f n)

odd_low : (f : Fraction) (x : Bounds) (n : ℕ) → n % 2 ≡ 1 → LiesIn f x
    → IsBelow (odd_power x n).lo (power f n).top (power f n).under
odd_low f x n o h = let g = power f n in
    cond_keeps (λ e. IsBelow e g.top g.under) (le nought x.lo) (pow_of Down x.lo n) (neg_of (pow_of Up (neg_of x.lo) n))
    (λ t. pow_low x.lo f n h.some t h.low)
    (λ t. by_sign f.top
    (λ s. below_le (neg_of (pow_of Up (neg_of x.lo) n)) nought g.top g.under
    (turn_from (pow_of Up (neg_of x.lo) n) (pow_from_zero Up (neg_of x.lo) n (turn_le x.lo (le_of_false nought x.lo t))))
    (zero_below g.top g.under (power_from_zero f n s)))
    (λ s. subst (λ w. IsBelow (neg_of (pow_of Up (neg_of x.lo) n)) w.top w.under) (turned_power f n o)
    (neg_below (pow_of Up (neg_of x.lo) n) (power (opposite f) n).top (power (opposite f) n).under
    (pow_high (neg_of x.lo) (opposite f) n h.some (omega (arith, ints)) (neg_above x.lo f.top f.under h.low)))))

odd_high : (f : Fraction) (x : Bounds) (n : ℕ) → n % 2 ≡ 1 → LiesIn f x
    → IsAbove (odd_power x n).hi (power f n).top (power f n).under
odd_high f x n o h = let g = power f n in
    cond_keeps (λ e. IsAbove e g.top g.under) (le nought x.hi) (pow_of Up x.hi n) (neg_of (pow_of Down (neg_of x.hi) n))
    (λ t. by_sign f.top
    (λ s. pow_high x.hi f n h.some s h.high)
    (λ s. above_le nought (pow_of Up x.hi n) g.top g.under (pow_from_zero Up x.hi n t)
    (zero_above g.top g.under (odd_to_zero f n o s))))
    (λ t. subst (λ w. IsAbove (neg_of (pow_of Down (neg_of x.hi) n)) w.top w.under) (turned_power f n o)
    (neg_above (pow_of Down (neg_of x.hi) n) (power (opposite f) n).top (power (opposite f) n).under
    (pow_low (neg_of x.hi) (opposite f) n h.some (turn_le x.hi (le_of_false nought x.hi t))
    (neg_below x.hi f.top f.under h.high))))
  where
    odd_to_zero : (f : Fraction) (n : ℕ) → n % 2 ≡ 1 → f.top ≤ℤ pos 0 → (power f n).top ≤ℤ pos 0
    odd_to_zero f n o s =
        let e = power_from_zero (opposite f) n (omega (arith, ints)) in
        let p = ap (λ w. w.top) (power_odd f n o) in omega (arith, ints)

pub odd_keeps : (f : Fraction) (x : Bounds) (n : ℕ) → n % 2 ≡ 1 → LiesIn f x → LiesIn (power f n) (odd_power x n)
odd_keeps f x n o h = record { some = power_some f n h.some; low = odd_low f x n o h; high = odd_high f x n o h }

pub even_from_zero : (f : Fraction) (n : ℕ) → n % 2 ≡ 0 → pos 0 ≤ℤ (power f n).top
even_from_zero f n o = by_sign f.top (power_from_zero f n)
    (λ s. let e = power_from_zero (opposite f) n (omega (arith, ints)) in
    let p = ap (λ w. w.top) (power_even f n o) in omega (arith, ints))

-- a power of the number or of its opposite, below an end
pow_high_turned : (a : Extended) (f : Fraction) (n : ℕ) → n % 2 ≡ 0 → 0 < f.under → f.top ≤ℤ pos 0 → IsBelow a f.top f.under
    → IsAbove (pow_of Up (neg_of a) n) (power f n).top (power f n).under
pow_high_turned a f n o p s h =
    subst (λ w. IsAbove (pow_of Up (neg_of a) n) w.top w.under) (power_even f n o)
    (pow_high (neg_of a) (opposite f) n p (omega (arith, ints)) (neg_above a f.top f.under h))

pub even_keeps : (f : Fraction) (x : Bounds) (n : ℕ) → n % 2 ≡ 0 → LiesIn f x → LiesIn (power f n) (even_power x n)
even_keeps f x n o h = let g = power f n in
    let up : Bounds = record { lo = pow_of Down x.lo n; hi = pow_of Up x.hi n } in
    let down : Bounds = record { lo = pow_of Down (neg_of x.hi) n; hi = pow_of Up (neg_of x.lo) n } in
    let wide : Bounds = record { lo = nought; hi = greater (pow_of Up (neg_of x.lo) n) (pow_of Up x.hi n) } in
    cond_keeps (LiesIn g) (is_from_nought x) up (if is_to_nought x then down else wide)
    (λ t. record {
      some = power_some f n h.some;
      low = pow_low x.lo f n h.some t h.low;
      high = pow_high x.hi f n h.some (below_zero f.top f.under (below_le nought x.lo f.top f.under t h.low)) h.high;
    })
    (λ t. cond_keeps (LiesIn g) (is_to_nought x) down wide
    (λ u. record {
      some = power_some f n h.some;
      low = subst (λ w. IsBelow (pow_of Down (neg_of x.hi) n) w.top w.under) (power_even f n o)
          (pow_low (neg_of x.hi) (opposite f) n h.some (turn_le x.hi u) (neg_below x.hi f.top f.under h.high));
      high = pow_high_turned x.lo f n o h.some (above_zero f.top f.under (above_le x.hi nought f.top f.under u h.high)) h.low;
    })
    (λ u. record {
      some = power_some f n h.some;
      low = zero_below g.top g.under (even_from_zero f n o);
      high = by_sign f.top
          (λ s. above_le (pow_of Up x.hi n) wide.hi g.top g.under (greater_right (pow_of Up (neg_of x.lo) n) (pow_of Up x.hi n))
          (pow_high x.hi f n h.some s h.high))
          (λ s. above_le (pow_of Up (neg_of x.lo) n) wide.hi g.top g.under (greater_left (pow_of Up (neg_of x.lo) n) (pow_of Up x.hi n))
          (pow_high_turned x.lo f n o h.some s h.low));
    }))

one_keeps : (f : Fraction) → LiesIn (power f 0) (exactly (Fin (pos unit)))
one_keeps f = record { some = omega arith; low = omega (arith, ints); high = omega (arith, ints) }

odd_is : (n : ℕ) → eqb (n % 2) 0 ≡ false → n % 2 ≡ 1
odd_is n h = let ne : n % 2 ≢ 0 = λ e. absurd (let k = eq-eqb (n % 2) 0 e in cc) in omega arith

pub power_keeps : (f : Fraction) (x : Bounds) (n : ℕ) → LiesIn f x → LiesIn (power f n) (power_of x n)
unfolding power_of
power_keeps f x n h = let g = power f n in
    cond_keeps (LiesIn g) (eqb n 0) (exactly (Fin (pos unit))) (if eqb (n % 2) 0 then even_power x n else odd_power x n)
    (λ t. subst (λ k. LiesIn (power f k) (exactly (Fin (pos unit)))) (sym (eqb-true n 0 t)) (one_keeps f))
    (λ t. cond_keeps (LiesIn g) (eqb (n % 2) 0) (even_power x n) (odd_power x n)
    (λ u. even_keeps f x n (eqb-true (n % 2) 0 u) h)
    (λ u. odd_keeps f x n (odd_is n u) h))
