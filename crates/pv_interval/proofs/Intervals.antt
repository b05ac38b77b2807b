-- Each table gives an interval: it holds the result of numbers of its arguments.
use Rattle.std.proofs.Common.{◌≡◌, ◌≢◌, ℕ, zero, suc, ◌%◌, refl, arith, subst, cond, rules}
use Rattle.std.specs.Prelude.{IsTrue, Bool, true, false, ℤ, pos, negsuc, ◌≤ℤ◌, Option, Some, None}
use Rattle.std.specs.Int.RustNames.{unsigned_abs}
use Rattle.std.proofs.lemmas.Int.{ints}
use lib.IntN.{neg_ℤ}
use Rattle.pv_num.specs.Extended.{Extended, NegInf, Fin, PosInf}
use Rattle.pv_num.specs.Grid.{unit}
use Rattle.pv_num.specs.Order.{le, lesser, greater}
use Rattle.pv_interval.specs.Bounds.{Bounds, IsInterval, between}
use Rattle.pv_interval.specs.Fractions.{Fraction, plus, minus, times, power, least, greatest}
use Rattle.pv_interval.specs.Points.{IsBelow, IsAbove, Lies, LiesIn, LiesInSome}
use Rattle.pv_interval.specs.Tables.{sum_of, difference_of, product_of, quotient_of, negated, absolute, least_of, greatest_of, power_of, hull_of, meet_of, is_nought, odd_power, even_power}
use Rattle.pv_interval.proofs.Products.{times_pos}
use Rattle.pv_interval.proofs.Ends.{fin_le, le_fin}
use Rattle.pv_interval.proofs.Values.{interval_of}
use Rattle.pv_interval.proofs.Multiples.{unit_some}
use Rattle.pv_interval.proofs.Keeps.{sum_keeps, difference_keeps, product_keeps, opposite_keeps}
use Rattle.pv_interval.proofs.Orders.{least_keeps, greatest_keeps, absolute_keeps, hull_keeps_left, cond_keeps}
use Rattle.pv_interval.proofs.Powers.{power_keeps, odd_keeps, even_keeps}
use Rattle.pv_interval.proofs.Quotients.{quotient_keeps, upright, turned}

-- the whole number of units e
abbrev pub in_units : ℤ → Fraction
in_units e = record { top = e; under = unit }

units_lie : (e : ℤ) (x : Bounds) → IsTrue (le x.lo (Fin e)) → IsTrue (le (Fin e) x.hi) → LiesIn (in_units e) x
units_lie e x h k = record { some = unit_some; low = low x.lo h; high = high x.hi k }
  where
    low : (f : Extended) → IsTrue (le f (Fin e)) → IsBelow f e unit
    low NegInf h = tt
    low (Fin f) h = times_pos unit f e (fin_le f e h)
    low PosInf h = absurd (search rules)

    high : (f : Extended) → IsTrue (le (Fin e) f) → IsAbove f e unit
    high NegInf h = absurd (search rules)
    high (Fin f) h = times_pos unit e f (fin_le e f h)
    high PosInf h = tt

-- a number of an interval
pub record Member (x : Bounds) : Type 0 where
  pub number : ℤ
  pub lies : LiesIn (in_units number) x

within : (lo hi : Extended) (e : ℤ) → IsTrue (le lo (Fin e)) → IsTrue (le (Fin e) hi) → Member (between lo hi)
within lo hi e h k = record { number = e; lies = units_lie e (between lo hi) h k }

self_le : (e : ℤ) → IsTrue (le (Fin e) (Fin e))
self_le e = le_fin e e (omega (arith, ints))

member_between : (lo hi : Extended) → IsTrue (le lo hi) → lo ≢ PosInf → hi ≢ NegInf → Member (between lo hi)
member_between (Fin e) hi o h k = within (Fin e) hi e (self_le e) o
member_between NegInf (Fin e) o h k = within NegInf (Fin e) e refl (self_le e)
member_between NegInf PosInf o h k = within NegInf PosInf (pos 0) refl refl
member_between NegInf NegInf o h k = absurd (k refl)
member_between PosInf hi o h k = absurd (h refl)

pub member : (x : Bounds) → IsInterval x → Member x
member x h = member_between x.lo x.hi h.ordered h.lo_open h.hi_open

pub sum_interval : (x y : Bounds) → IsInterval x → IsInterval y → IsInterval (sum_of x y)
sum_interval x y h k = let m = member x h in let n = member y k in
    let f = plus (in_units m.number) (in_units n.number) in
    interval_of f.top f.under (sum_of x y) (sum_keeps (in_units m.number) (in_units n.number) x y m.lies n.lies)

pub difference_interval : (x y : Bounds) → IsInterval x → IsInterval y → IsInterval (difference_of x y)
difference_interval x y h k = let m = member x h in let n = member y k in
    let f = minus (in_units m.number) (in_units n.number) in
    interval_of f.top f.under (difference_of x y) (difference_keeps (in_units m.number) (in_units n.number) x y m.lies n.lies)

pub product_interval : (x y : Bounds) → IsInterval x → IsInterval y → IsInterval (product_of x y)
product_interval x y h k = let m = member x h in let n = member y k in
    let f = times (in_units m.number) (in_units n.number) in
    interval_of f.top f.under (product_of x y) (product_keeps (in_units m.number) (in_units n.number) x y m.lies n.lies)

pub least_interval : (x y : Bounds) → IsInterval x → IsInterval y → IsInterval (least_of x y)
least_interval x y h k = let m = member x h in let n = member y k in
    let f = least (in_units m.number) (in_units n.number) in
    interval_of f.top f.under (least_of x y) (least_keeps (in_units m.number) (in_units n.number) x y m.lies n.lies)

pub greatest_interval : (x y : Bounds) → IsInterval x → IsInterval y → IsInterval (greatest_of x y)
greatest_interval x y h k = let m = member x h in let n = member y k in
    let f = greatest (in_units m.number) (in_units n.number) in
    interval_of f.top f.under (greatest_of x y) (greatest_keeps (in_units m.number) (in_units n.number) x y m.lies n.lies)

pub hull_interval : (x y : Bounds) → IsInterval x → IsInterval (hull_of x y)
hull_interval x y h = let m = member x h in
    interval_of m.number unit (hull_of x y) (hull_keeps_left m.number unit x y m.lies)

pub negated_interval : (x : Bounds) → IsInterval x → IsInterval (negated x)
negated_interval x h = let m = member x h in
    interval_of (neg_ℤ m.number) unit (negated x) (opposite_keeps (in_units m.number) x m.lies)

pub absolute_interval : (x : Bounds) → IsInterval x → IsInterval (absolute x)
absolute_interval x h = let m = member x h in
    interval_of (pos (unsigned_abs m.number)) unit (absolute x) (absolute_keeps (in_units m.number) x m.lies)

pub power_interval : (x : Bounds) (n : ℕ) → IsInterval x → IsInterval (power_of x n)
power_interval x n h = let m = member x h in let f = power (in_units m.number) n in
    interval_of f.top f.under (power_of x n) (power_keeps (in_units m.number) x n m.lies)

-- ---- meets

meet_by : (t : Bool) (x y z : Bounds) → IsInterval x → IsInterval y → le (greater x.lo y.lo) (lesser x.hi y.hi) ≡ t
    → cond t (Some (between (greater x.lo y.lo) (lesser x.hi y.hi))) None ≡ Some z → IsInterval z
meet_by true x y z h k e i =
    let p : between (greater x.lo y.lo) (lesser x.hi y.hi) ≡ z = cc in
    subst IsInterval p (record {
      ordered = e;
      lo_open = cond_keeps (λ e. e ≢ PosInf) (le x.lo y.lo) y.lo x.lo (λ t. k.lo_open) (λ t. h.lo_open);
      hi_open = cond_keeps (λ e. e ≢ NegInf) (le x.hi y.hi) x.hi y.hi (λ t. h.hi_open) (λ t. k.hi_open);
    })
meet_by false x y z h k e i = absurd (cc)

pub meet_interval : (x y z : Bounds) → IsInterval x → IsInterval y → meet_of x y ≡ Some z → IsInterval z
unfolding meet_of
meet_interval x y z h k e = meet_by (le (greater x.lo y.lo) (lesser x.hi y.hi)) x y z h k refl e

-- ---- quotients

-- a number of an interval that is above 0, or one that is below 0
pub data Signed (y : Bounds) : Type 0 where
  above : (r : ℕ) → Lies (pos (suc r)) unit y → Signed y
  below : (r : ℕ) → Lies (negsuc r) unit y → Signed y

far : (lo : Extended) → lo ≢ PosInf → (r : ℕ) × IsTrue (le lo (Fin (pos (suc r))))
far NegInf h = (0, refl)
far (Fin e) h = (unsigned_abs e, le_fin e (pos (suc (unsigned_abs e))) (most e))
  where
    most : (e : ℤ) → e ≤ℤ pos (suc (unsigned_abs e))
    most (pos n) = omega (arith, ints)
    most (negsuc n) = omega (arith, ints)
far PosInf h = absurd (h refl)

near : (hi : Extended) → hi ≢ NegInf → (r : ℕ) × IsTrue (le (Fin (negsuc r)) hi)
near PosInf h = (0, refl)
near (Fin e) h = (unsigned_abs e, le_fin (negsuc (unsigned_abs e)) e (most e))
  where
    most : (e : ℤ) → negsuc (unsigned_abs e) ≤ℤ e
    most (pos n) = omega (arith, ints)
    most (negsuc n) = omega (arith, ints)
near NegInf h = absurd (h refl)

signed_between : (lo hi : Extended) → IsInterval (between lo hi) → is_nought (between lo hi) ≡ false → Signed (between lo hi)
signed_between lo PosInf h n = let f = far lo h.lo_open in above f.0 (units_lie (pos (suc f.0)) (between lo PosInf) f.1 refl)
signed_between lo (Fin (pos (suc e))) h n =
    above e (units_lie (pos (suc e)) (between lo (Fin (pos (suc e)))) h.ordered (self_le (pos (suc e))))
signed_between NegInf hi h n = let f = near hi h.hi_open in below f.0 (units_lie (negsuc f.0) (between NegInf hi) refl f.1)
signed_between (Fin (negsuc e)) hi h n =
    below e (units_lie (negsuc e) (between (Fin (negsuc e)) hi) (self_le (negsuc e)) h.ordered)
signed_between (Fin (pos e)) NegInf h n = absurd (h.hi_open refl)
signed_between (Fin (pos zero)) (Fin (pos zero)) h n = absurd (search rules)
signed_between (Fin (pos (suc e))) (Fin (pos zero)) h n =
    let p = fin_le (pos (suc e)) (pos 0) h.ordered in absurd (omega (arith, ints))
signed_between (Fin (pos e)) (Fin (negsuc f)) h n =
    let p = fin_le (pos e) (negsuc f) h.ordered in absurd (omega (arith, ints))
signed_between PosInf hi h n = absurd (h.lo_open refl)

pub signed : (y : Bounds) → IsInterval y → is_nought y ≡ false → Signed y
signed y h n = signed_between y.lo y.hi h n

of_some : (n : ℤ) (d : ℕ) (z : Bounds) (o : Option Bounds) → o ≡ Some z → LiesInSome n d o → IsInterval z
of_some n d z None e h = absurd h
of_some n d z (Some w) e h = let p : w ≡ z = cc in subst IsInterval p (interval_of n d w h)

none_at : {A : Type 0} (t : Bool) (o : Option A) (z : A) → cond t None o ≡ Some z → t ≡ false
none_at true o z e = absurd (cc)
none_at false o z e = refl

pub not_nought : (x y z : Bounds) → quotient_of x y ≡ Some z → is_nought y ≡ false
unfolding quotient_of
not_nought x y z e = none_at (is_nought y) _ z e

pub quotient_interval : (x y z : Bounds) → IsInterval x → IsInterval y → quotient_of x y ≡ Some z → IsInterval z
quotient_interval x y z h k e = let m = member x h in
    elim (signed y k (not_nought x y z e)) [
      | above r l ↦ let n : Fraction = record { top = pos (suc r); under = unit } in
          of_some _ _ z (quotient_of x y) e (quotient_keeps (in_units m.number) n (upright (in_units m.number) r unit) x y refl m.lies l)
      | below r l ↦ let n : Fraction = record { top = negsuc r; under = unit } in
          of_some _ _ z (quotient_of x y) e (quotient_keeps (in_units m.number) n (turned (in_units m.number) r unit) x y refl m.lies l)
    ]

-- ---- powers by parity

pub odd_interval : (x : Bounds) (n : ℕ) → n % 2 ≡ 1 → IsInterval x → IsInterval (odd_power x n)
odd_interval x n o h = let m = member x h in let f = power (in_units m.number) n in
    interval_of f.top f.under (odd_power x n) (odd_keeps (in_units m.number) x n o m.lies)

pub even_interval : (x : Bounds) (n : ℕ) → n % 2 ≡ 0 → IsInterval x → IsInterval (even_power x n)
even_interval x n o h = let m = member x h in let f = power (in_units m.number) n in
    interval_of f.top f.under (even_power x n) (even_keeps (in_units m.number) x n o m.lies)
