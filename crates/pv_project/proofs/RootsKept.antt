-- No root is lost: the power is strictly increasing from 0 on.
use Rattle.std.proofs.Common.{◌≡◌, inl, inr, ℕ, zero, suc, ◌%◌, ◌<◌, refl, arith, sym, ◌∙◌, ap, subst}
use Rattle.std.specs.Prelude.{IsTrue, Bool, true, ◌&&◌, ℤ, pos, negsuc, ◌*ℤ◌, ◌≤ℤ◌, ◌<ℤ◌, Option, Some, None, if◌then◌else◌}
use Rattle.std.proofs.Math.IntN.{*ℤ_comm, zero-*ℤ}
use Rattle.std.proofs.lemmas.Int.{ints, by_lt_z}
use lib.IntN.{neg_ℤ}
use Rattle.pv_num.specs.Extended.{Extended, NegInf, Fin, PosInf}
use Rattle.pv_num.specs.Grid.{unit}
use Rattle.pv_num.specs.Order.{le}
use Rattle.pv_num.specs.Arithmetic.{neg_of, root_of, pow_of, is_root_below, is_root_above}
use Rattle.pv_num.specs.Rounding.{at_least_plus, greatest_upto, first_from, is_size, top_size}
use Rattle.pv_num.specs.declared.num.End.TheVariants.{Down, Up}
use Rattle.pv_num.proofs.Rounding.{greatest_upto-passes, first_from-found, Found, grid-size}
use Rattle.pv_num.proofs.Signs.{zero_grid}
use Rattle.pv_interval.specs.Bounds.{Bounds, between}
use Rattle.pv_interval.specs.Fractions.{Fraction, opposite, power}
use Rattle.pv_interval.specs.Points.{IsBelow, IsAbove, Lies, LiesIn, LiesInSome}
use Rattle.pv_interval.specs.Tables.{nought, meet_of, holds}
use Rattle.pv_interval.proofs.Products.{times_pos, cancel_pos, times_from_zero, times_pos_strict}
use Rattle.pv_interval.proofs.Ends.{le_trans, le_of_false, le_fin}
use Rattle.pv_interval.proofs.Values.{below_le, above_le, across}
use Rattle.pv_interval.proofs.Integers.{swap_last}
use Rattle.pv_interval.proofs.Multiples.{cross, unit_some, times_pp, zero_below, zero_above, below_zero}
use Rattle.pv_interval.proofs.Monotone.{zero_high}
use Rattle.pv_interval.proofs.Keeps.{neg_below, neg_above, by_sign}
use Rattle.pv_interval.proofs.Orders.{cond_keeps, meet_keeps}
use Rattle.pv_interval.proofs.Powers.{pow_low, pow_high, power_some, power_from_zero, power_even, power_odd, opposite_twice, first_power, turn_le, turn_from, even_from_zero}
use Rattle.pv_project.specs.Projections.{chain, back_pow_of, both_signs, even_roots, odd_low, odd_high}
use Rattle.pv_project.proofs.Kept.{signs_keep}
use Rattle.pv_project.proofs.Roots.{from_zero_low, power_row_zero, power_row_even, power_row_odd}
use Rattle.pv_interval.proofs.Quotients.{and_right}

-- ---- the power of a fraction is strictly increasing from 0 on

strict_second : (b c d : ℤ) → pos 0 <ℤ b → c <ℤ d → (b *ℤ c) <ℤ (b *ℤ d)
strict_second (pos k) c d h l =
    let p : 0 < k = omega (arith, ints) in
    let e = *ℤ_comm (pos k) c in let f = *ℤ_comm (pos k) d in let g = times_pos_strict k c d p l in omega (arith, ints)
strict_second (negsuc k) c d h l = absurd (omega (arith, ints))

strict_both : (a b c d : ℤ) → pos 0 ≤ℤ a → a <ℤ b → pos 0 ≤ℤ c → c <ℤ d → (a *ℤ c) <ℤ (b *ℤ d)
strict_both a b c d a0 h c0 k =
    let p = times_from_zero c a b c0 (omega (arith, ints)) in
    let q = strict_second b c d (omega (arith, ints)) k in omega (arith, ints)

-- g is less than f
pub record IsLess (g f : Fraction) : Type 0 where
  pub crosswise : (g.top *ℤ pos f.under) <ℤ (f.top *ℤ pos g.under)

power_strict : (f g : Fraction) (n : ℕ) → pos 0 ≤ℤ g.top → IsLess g f → IsLess (power g (suc n)) (power f (suc n))
power_strict f g zero h l = subst (λ w. IsLess w (power f 1)) (first_power g) (subst (λ w. IsLess g w) (first_power f) l)
power_strict f g (suc n) h l =
    let F = power f (suc n) in let G = power g (suc n) in
    record {
      crosswise =
          let p = cross G.top g.top (pos F.under) (pos f.under) in
          let q = cross F.top f.top (pos G.under) (pos g.under) in
          let r = strict_both (G.top *ℤ pos F.under) (F.top *ℤ pos G.under) (g.top *ℤ pos f.under) (f.top *ℤ pos g.under)
          (times_pp G.top (pos F.under) (power_from_zero g (suc n) h) (omega (arith, ints)))
          (power_strict f g n h l).crosswise
          (times_pp g.top (pos f.under) h (omega (arith, ints))) l.crosswise in
          omega (arith, ints);
    }

-- f is at most g where its power is
power_cancel : (f g : Fraction) (n : ℕ) → pos 0 ≤ℤ g.top
    → ((power f (suc n)).top *ℤ pos (power g (suc n)).under) ≤ℤ ((power g (suc n)).top *ℤ pos (power f (suc n)).under)
    → (f.top *ℤ pos g.under) ≤ℤ (g.top *ℤ pos f.under)
power_cancel f g n h m = by_lt_z (g.top *ℤ pos f.under) (f.top *ℤ pos g.under)
    (λ l. let s = power_strict f g n h (record { crosswise = l }) in let c = s.crosswise in absurd (omega (arith, ints)))
    (λ l. l)

-- from a number below an end to one above it
through_end : (e : Extended) (m n : ℤ) (b d : ℕ) → 0 < b → 0 < d → IsAbove e m b → IsBelow e n d → (m *ℤ pos d) ≤ℤ (n *ℤ pos b)
through_end NegInf m n b d p q h k = absurd h
through_end (Fin e) m n b d p q h k = cancel_pos unit (m *ℤ pos d) (n *ℤ pos b) unit_some
    (let r = times_pos d _ _ h in let s = times_pos b _ _ k in
    let t = swap_last m (pos d) (pos unit) in let u = swap_last n (pos b) (pos unit) in let v = swap_last e (pos b) (pos d) in
    omega (arith, ints))
through_end PosInf m n b d p q h k = absurd k

-- ---- what a root is

power_of_zero : (n : ℕ) → IsTrue (le (pow_of Up nought (suc n)) nought)
power_of_zero zero = refl
power_of_zero (suc n) = zero_high Up (pow_of Up nought (suc n))

zero_passes : (z : Extended) (n : ℕ) → IsTrue (le nought z) → is_root_below z (suc n) 0 ≡ true
zero_passes z n h =
    both_true (is_size 0) (le (pow_of Up nought (suc n)) z) (grid-size 0 zero_grid)
    (le_trans (pow_of Up nought (suc n)) nought z (power_of_zero n) h)
  where
    both_true : (s t : Bool) → s ≡ true → t ≡ true → s && t ≡ true
    both_true s t h k = ap (λ w. w && t) h ∙ k

-- the number f · 2^-512
abbrev pub units : ℕ → Fraction
units t = record { top = pos t; under = unit }

units_above : (t : ℕ) → IsAbove (Fin (pos t)) (pos t) unit
units_above t = omega (arith, ints)

units_below : (t : ℕ) → IsBelow (Fin (pos t)) (pos t) unit
units_below t = omega (arith, ints)

low_at : (t n : ℕ) (z : Extended) (f : Fraction) → IsTrue (le (pow_of Up (Fin (pos t)) (suc n)) z) → 0 < f.under → pos 0 ≤ℤ f.top
    → IsBelow z (power f (suc n)).top (power f (suc n)).under → IsBelow (Fin (pos t)) f.top f.under
low_at t n z f h p s k =
    let g = units t in let e = pow_of Up (Fin (pos t)) (suc n) in
    power_cancel g f n s
    (through_end e (power g (suc n)).top (power f (suc n)).top (power g (suc n)).under (power f (suc n)).under
    (power_some g (suc n) unit_some) (power_some f (suc n) p)
    (pow_high (Fin (pos t)) g (suc n) unit_some (omega (arith, ints)) (units_above t))
    (below_le e z (power f (suc n)).top (power f (suc n)).under h k))

pub root_low : (z : Extended) (n : ℕ) (f : Fraction) → IsTrue (le nought z) → 0 < f.under → pos 0 ≤ℤ f.top
    → IsBelow z (power f (suc n)).top (power f (suc n)).under → IsBelow (root_of Down z (suc n)) f.top f.under
unfolding root_of
root_low z n f h p s k =
    let t = greatest_upto (is_root_below z (suc n)) top_size in
    low_at t n z f (and_right (is_size t) (le (pow_of Up (Fin (pos t)) (suc n)) z)
    (greatest_upto-passes (is_root_below z (suc n)) top_size (zero_passes z n h))) p s k

high_at : (t n : ℕ) (z : Extended) (f : Fraction) → IsTrue (le z (pow_of Down (Fin (pos t)) (suc n))) → 0 < f.under → pos 0 ≤ℤ f.top
    → IsAbove z (power f (suc n)).top (power f (suc n)).under → IsAbove (Fin (pos t)) f.top f.under
high_at t n z f h p s k =
    let g = units t in let e = pow_of Down (Fin (pos t)) (suc n) in
    power_cancel f g n (omega (arith, ints))
    (through_end e (power f (suc n)).top (power g (suc n)).top (power f (suc n)).under (power g (suc n)).under
    (power_some f (suc n) p) (power_some g (suc n) unit_some)
    (above_le z e (power f (suc n)).top (power f (suc n)).under h k)
    (pow_low (Fin (pos t)) g (suc n) unit_some (le_fin (pos 0) (pos t) (omega (arith, ints))) (units_below t)))

high_by : (o : Option ℕ) (n : ℕ) (z : Extended) (f : Fraction) → Found (is_root_above z (suc n)) (suc top_size) 0 o → 0 < f.under → pos 0 ≤ℤ f.top
    → IsAbove z (power f (suc n)).top (power f (suc n)).under → IsAbove (at_least_plus o) f.top f.under
high_by None n z f h p s k = tt
high_by (Some t) n z f h p s k =
    high_at t n z f (and_right (is_size t) (le z (pow_of Down (Fin (pos t)) (suc n))) h.passes) p s k

pub root_high : (z : Extended) (n : ℕ) (f : Fraction) → 0 < f.under → pos 0 ≤ℤ f.top
    → IsAbove z (power f (suc n)).top (power f (suc n)).under → IsAbove (root_of Up z (suc n)) f.top f.under
unfolding root_of
root_high NegInf n f p s k = absurd k
root_high (Fin a) n f p s k =
    high_by (first_from (is_root_above (Fin a) (suc n)) (suc top_size) 0) n (Fin a) f
    (first_from-found (is_root_above (Fin a) (suc n)) (suc top_size) 0) p s k
root_high PosInf n f p s k = tt

plus_from_zero : (o : Option ℕ) → IsTrue (le nought (at_least_plus o))
plus_from_zero None = refl
plus_from_zero (Some t) = le_fin (pos 0) (pos t) (omega (arith, ints))

pub root_up_from_zero : (z : Extended) (n : ℕ) → IsTrue (le nought (root_of Up z n))
unfolding root_of
root_up_from_zero NegInf n = refl
root_up_from_zero (Fin a) n = plus_from_zero (first_from (is_root_above (Fin a) n) (suc top_size) 0)
root_up_from_zero PosInf n = refl

-- ---- even powers

chain_kept : (f g : Fraction) (o : Option Bounds) (step : Bounds → Option Bounds) → LiesInSome f.top f.under o
    → ((x : Bounds) → o ≡ Some x → LiesIn f x → LiesInSome g.top g.under (step x)) → LiesInSome g.top g.under (chain o step)
chain_kept f g None step h k = absurd h
chain_kept f g (Some x) step h k = k x refl h

roots_of : (f : Fraction) (w : Bounds) (n : ℕ) → IsTrue (le nought w.lo) → 0 < f.under → pos 0 ≤ℤ f.top → LiesIn (power f (suc n)) w
    → LiesIn f (even_roots w (suc n))
roots_of f w n z p s h = record {
  some = p;
  low = root_low w.lo n f z p s h.low;
  high = root_high w.hi n f p s h.high;
}

even_kept : (f : Fraction) (z x : Bounds) (n : ℕ) → suc n % 2 ≡ 0 → LiesIn f x → LiesIn (power f (suc n)) z
    → LiesInSome f.top f.under (chain (meet_of z (between nought PosInf)) (λ w. both_signs x (even_roots w (suc n))))
even_kept f z x n o h l = let P = power f (suc n) in
    chain_kept P f (meet_of z (between nought PosInf)) (λ w. both_signs x (even_roots w (suc n)))
    (meet_keeps P.top P.under z (between nought PosInf) l
    (record { some = l.some; low = zero_below P.top P.under (even_from_zero f (suc n) o); high = tt }))
    (λ w e i. signs_keep f x (even_roots w (suc n)) h (by_sign f.top
    (λ s. inl (roots_of f w n (from_zero_low z w e) h.some s i))
    (λ s. inr (roots_of (opposite f) w n (from_zero_low z w e) h.some (omega (arith, ints))
    (subst (λ v. LiesIn v w) (sym (power_even f (suc n) o)) i)))))

-- ---- odd powers

positive_power : (f : Fraction) (n : ℕ) → pos 0 <ℤ f.top → pos 0 <ℤ (power f n).top
positive_power f zero h = omega (arith, ints)
positive_power f (suc n) h =
    let e = strict_both (pos 0) (power f n).top (pos 0) f.top (omega (arith, ints)) (positive_power f n h) (omega (arith, ints)) h in
    let z = zero-*ℤ (pos 0) in omega (arith, ints)

-- an odd power has the sign of the number
odd_from_zero : (f : Fraction) (n : ℕ) → n % 2 ≡ 1 → pos 0 ≤ℤ (power f n).top → pos 0 ≤ℤ f.top
odd_from_zero f n o h = by_lt_z f.top (pos 0)
    (λ l. let e = positive_power (opposite f) n (omega (arith, ints)) in
    let p = ap (λ w. w.top) (power_odd f n o) in absurd (omega (arith, ints)))
    (λ l. l)

turned : (f : Fraction) (n : ℕ) → n % 2 ≡ 1 → opposite (power f n) ≡ power (opposite f) n
turned f n o = sym (power_odd f n o)

odd_low_kept : (e : Extended) (f : Fraction) (n : ℕ) → suc n % 2 ≡ 1 → 0 < f.under
    → IsBelow e (power f (suc n)).top (power f (suc n)).under → IsBelow (odd_low e (suc n)) f.top f.under
odd_low_kept NegInf f n o p h = tt
odd_low_kept PosInf f n o p h = absurd h
odd_low_kept (Fin a) f n o p h = let P = power f (suc n) in
    cond_keeps (λ e. IsBelow e f.top f.under) (le nought (Fin a)) (root_of Down (Fin a) (suc n)) (neg_of (root_of Up (neg_of (Fin a)) (suc n)))
    (λ t. root_low (Fin a) n f t p (odd_from_zero f (suc n) o (below_zero P.top P.under (below_le nought (Fin a) P.top P.under t h))) h)
    (λ t. let r = root_of Up (neg_of (Fin a)) (suc n) in
    by_sign f.top
    (λ s. below_le (neg_of r) nought f.top f.under (turn_from r (root_up_from_zero (neg_of (Fin a)) (suc n))) (zero_below f.top f.under s))
    (λ s. subst (λ w. IsBelow (neg_of r) w.top w.under) (opposite_twice f)
    (neg_below r (neg_ℤ f.top) f.under
    (root_high (neg_of (Fin a)) n (opposite f) p (omega (arith, ints))
    (subst (λ w. IsAbove (neg_of (Fin a)) w.top w.under) (turned f (suc n) o) (neg_above (Fin a) P.top P.under h))))))

odd_high_kept : (e : Extended) (f : Fraction) (n : ℕ) → suc n % 2 ≡ 1 → 0 < f.under
    → IsAbove e (power f (suc n)).top (power f (suc n)).under → IsAbove (odd_high e (suc n)) f.top f.under
odd_high_kept e f n o p h = let P = power f (suc n) in
    cond_keeps (λ v. IsAbove v f.top f.under) (le nought e) (root_of Up e (suc n)) (neg_of (root_of Down (neg_of e) (suc n)))
    (λ t. by_sign f.top
    (λ s. root_high e n f p s h)
    (λ s. above_le nought (root_of Up e (suc n)) f.top f.under (root_up_from_zero e (suc n)) (zero_above f.top f.under s)))
    (λ t. let r = root_of Down (neg_of e) (suc n) in
    by_sign f.top
    (λ s. let c = across nought e P.top P.under (power_some f (suc n) p) (zero_below P.top P.under (power_from_zero f (suc n) s)) h in absurd (cc))
    (λ s. subst (λ w. IsAbove (neg_of r) w.top w.under) (opposite_twice f)
    (neg_above r (neg_ℤ f.top) f.under
    (root_low (neg_of e) n (opposite f) (turn_le e (le_of_false nought e t)) p (omega (arith, ints))
    (subst (λ w. IsBelow (neg_of e) w.top w.under) (turned f (suc n) o) (neg_below e P.top P.under h))))))

odd_kept : (f : Fraction) (z x : Bounds) (n : ℕ) → suc n % 2 ≡ 1 → LiesIn f x → LiesIn (power f (suc n)) z
    → LiesInSome f.top f.under (meet_of x (between (odd_low z.lo (suc n)) (odd_high z.hi (suc n))))
odd_kept f z x n o h l =
    meet_keeps f.top f.under x (between (odd_low z.lo (suc n)) (odd_high z.hi (suc n))) h (record {
      some = h.some;
      low = odd_low_kept z.lo f n o h.some l.low;
      high = odd_high_kept z.hi f n o h.some l.high;
    })

-- ---- the table

one_holds : (z : Bounds) → Lies (pos 1) 1 z → holds z (Fin (pos unit)) ≡ true
one_holds z l =
    both_true (le z.lo (Fin (pos unit))) (le (Fin (pos unit)) z.hi)
    (across z.lo (Fin (pos unit)) (pos 1) 1 l.some l.low (omega (arith, ints)))
    (across (Fin (pos unit)) z.hi (pos 1) 1 l.some (omega (arith, ints)) l.high)
  where
    both_true : (s t : Bool) → s ≡ true → t ≡ true → s && t ≡ true
    both_true s t h k = ap (λ w. w && t) h ∙ k

zero_kept : (f : Fraction) (z x : Bounds) → LiesIn f x → Lies (pos 1) 1 z → LiesInSome f.top f.under (if holds z (Fin (pos unit)) then Some x else None)
zero_kept f z x h l = cond_keeps (LiesInSome f.top f.under) (holds z (Fin (pos unit))) (Some x) None
    (λ t. h) (λ t. let e = one_holds z l in absurd (cc))

pub back_pow_keeps : (f : Fraction) (z x : Bounds) (n : ℕ) → LiesIn f x → LiesIn (power f n) z → LiesInSome f.top f.under (back_pow_of z x n)
back_pow_keeps f z x zero h l =
    subst (LiesInSome f.top f.under) (sym (power_row_zero z x 0 refl)) (zero_kept f z x h l)
back_pow_keeps f z x (suc n) h l = by_parity (suc n % 2) refl
  where
    by_parity : (r : ℕ) → suc n % 2 ≡ r → LiesInSome f.top f.under (back_pow_of z x (suc n))
    by_parity zero e = subst (LiesInSome f.top f.under) (sym (power_row_even z x (suc n) (λ q. absurd (omega arith)) e)) (even_kept f z x n e h l)
    by_parity (suc r) e = let o : suc n % 2 ≡ 1 = omega arith in
        subst (LiesInSome f.top f.under) (sym (power_row_odd z x (suc n) o)) (odd_kept f z x n o h l)
