-- The numbers of the three points of a box.
use Rattle.std.proofs.Common.{◌≡◌, suc, true, IsTrue, List, [], ◌∷◌, refl, sym, ◌∙◌, ap, arith}
use Rattle.std.specs.Prelude.{Option, Some, None, IfSome, All, pos, ◌*ℤ◌}
use Rattle.std.specs.Int.Signed.{≤ℤ_refl}
use Rattle.std.proofs.lemmas.Bool.{true≢false}
use Rattle.std.specs.Ordering.{is_lt, is_le}
use Rattle.std.specs.declared.cmp.Ordering.{Ordering}
use Rattle.std.specs.declared.cmp.Ordering.TheVariants.{Less, Equal, Greater}
use Rattle.pv_num.specs.Extended.{Extended, NegInf, Fin, PosInf}
use Rattle.pv_num.specs.Order.{le, lt, order_of}
use Rattle.pv_num.specs.Grid.{unit}
use Rattle.pv_num.specs.Arithmetic.{middle_of}
use Rattle.pv_num.proofs.Orders.{le-refl}
use Rattle.pv_num.proofs.Scales.{unit_pos}
use Rattle.pv_interval.specs.Bounds.{Bounds, IsInterval, between}
use Rattle.pv_interval.specs.Points.{Lies, IsBelow, IsAbove}
use Rattle.pv_interval.proofs.Values.{below_le, above_le}
use Rattle.pv_box.specs.Boxes.{IsInside, PointIn}
use Rattle.pv_box.proofs.Inside.{middle_inside}
use Rattle.pv_least.specs.declared.candidate.Candidate.{Candidate}
use Rattle.pv_least.specs.declared.candidate.Candidate.TheVariants.{Low, Centre, High}
use Rattle.pv_least.specs.Points.{IsFinite, AreFinite, exact_box, lows_of, units_of, rational}
use Rattle.pv_least.specs.Candidates.{finite_or, some_or, centre_of, number_of, point_in, exactly_at}

less_or_equal : (o : Ordering) → is_lt o ≡ true → is_le o ≡ true
less_or_equal Less h = refl
less_or_equal Equal h = absurd (true≢false (sym h))
less_or_equal Greater h = absurd (true≢false (sym h))

pub lt_le : (a b : Extended) → IsTrue (lt a b) → IsTrue (le a b)
lt_le a b h = less_or_equal (order_of a b) h

-- a finite number of an interval
pub record IsNumberIn (x : Bounds) (n : Extended) : Type 0 where
  pub finite : IsFinite n
  pub low : IsTrue (le x.lo n)
  pub high : IsTrue (le n x.hi)

between_finite : (lo n hi : Extended) → IsTrue (lt lo n) → IsTrue (lt n hi) → IsFinite n
between_finite NegInf NegInf hi h k = absurd (true≢false (sym h))
between_finite (Fin a) NegInf hi h k = absurd (true≢false (sym h))
between_finite PosInf NegInf hi h k = absurd (true≢false (sym h))
between_finite lo (Fin n) hi h k = tt
between_finite lo PosInf NegInf h k = absurd (true≢false (sym k))
between_finite lo PosInf (Fin b) h k = absurd (true≢false (sym k))
between_finite lo PosInf PosInf h k = absurd (true≢false (sym k))

some_number : (x : Bounds) (o : Option Extended) (other : Extended) → IfSome o (λ a. IsInside a x) → IsNumberIn x other → IsNumberIn x (some_or o other)
some_number x None other h k = k
some_number x (Some n) other h k = record { finite = between_finite x.lo n x.hi h.above h.below; low = lt_le x.lo n h.above; high = lt_le n x.hi h.below }

finite_end : (lo hi : Extended) → IsInterval (between lo hi) → IsNumberIn (between lo hi) (finite_or lo (finite_or hi (Fin (pos 0))))
finite_end NegInf NegInf i = absurd (i.hi_open refl)
finite_end NegInf (Fin b) i = record { finite = tt; low = refl; high = le-refl (Fin b) }
finite_end NegInf PosInf i = record { finite = tt; low = refl; high = refl }
finite_end (Fin a) hi i = record { finite = tt; low = le-refl (Fin a); high = i.ordered }
finite_end PosInf hi i = absurd (i.lo_open refl)

centre_is : (x : Bounds) → IsInterval x → IsNumberIn x (centre_of x)
centre_is x i = some_number x (middle_of x.lo x.hi) (finite_or x.lo (finite_or x.hi (Fin (pos 0)))) (middle_inside x.lo x.hi) (finite_end x.lo x.hi i)

low_or : (lo hi other : Extended) → IsInterval (between lo hi) → IsNumberIn (between lo hi) other → IsNumberIn (between lo hi) (finite_or lo other)
low_or NegInf hi other i h = h
low_or (Fin a) hi other i h = record { finite = tt; low = le-refl (Fin a); high = i.ordered }
low_or PosInf hi other i h = h

high_or : (lo hi other : Extended) → IsInterval (between lo hi) → IsNumberIn (between lo hi) other → IsNumberIn (between lo hi) (finite_or hi other)
high_or lo NegInf other i h = h
high_or lo (Fin b) other i h = record { finite = tt; low = i.ordered; high = le-refl (Fin b) }
high_or lo PosInf other i h = h

pub number_is : (c : Candidate) (x : Bounds) → IsInterval x → IsNumberIn x (number_of c x)
number_is Low x i = low_or x.lo x.hi (centre_of x) i (centre_is x i)
number_is Centre x i = centre_is x i
number_is High x i = high_or x.lo x.hi (centre_of x) i (centre_is x i)

own_below : (n : Extended) → IsFinite n → IsBelow n (units_of n) unit
own_below NegInf h = absurd h
own_below (Fin n) h = ≤ℤ_refl (n *ℤ pos unit)
own_below PosInf h = absurd h

own_above : (n : Extended) → IsFinite n → IsAbove n (units_of n) unit
own_above NegInf h = absurd h
own_above (Fin n) h = ≤ℤ_refl (n *ℤ pos unit)
own_above PosInf h = absurd h

number_lies : (x : Bounds) (n : Extended) → IsNumberIn x n → Lies (units_of n) unit x
number_lies x n h = record {
  some = unit_pos;
  low = below_le x.lo n (units_of n) unit h.low (own_below n h.finite);
  high = above_le n x.hi (units_of n) unit h.high (own_above n h.finite);
}

first_interval : (x : Bounds) (b : List Bounds) → All IsInterval (x ∷ b) → IsInterval x
first_interval x b h = h 0 x (omega arith)

rest_intervals : (x : Bounds) (b : List Bounds) → All IsInterval (x ∷ b) → All IsInterval b
rest_intervals x b h = λ k d l. h (suc k) d (omega (arith, l))

pub numbers_lie : (c : Candidate) (to : List Bounds) → All IsInterval to → PointIn (rational (point_in c to)) to
numbers_lie c [] h = tt
numbers_lie c (x ∷ to) h = (number_lies x (number_of c x) (number_is c x (first_interval x to h)), numbers_lie c to (rest_intervals x to h))

pub numbers_finite : (c : Candidate) (to : List Bounds) → All IsInterval to → AreFinite (point_in c to)
numbers_finite c [] h = tt
numbers_finite c (x ∷ to) h = ((number_is c x (first_interval x to h)).finite, numbers_finite c to (rest_intervals x to h))

lows_exact : (p : List Extended) → lows_of (exact_box p) ≡ p
lows_exact [] = refl
lows_exact (n ∷ p) = ap (λ q. n ∷ q) (lows_exact p)

pub lows_at : (c : Candidate) (to b : List Bounds) → b ≡ exactly_at c to → lows_of b ≡ point_in c to
lows_at c to b e = ap lows_of e ∙ lows_exact (point_in c to)

pub exactly_lies : (p : List Extended) → AreFinite p → PointIn (rational p) (exact_box p)
exactly_lies [] h = tt
exactly_lies (n ∷ p) h = (record { some = unit_pos; low = own_below n h.0; high = own_above n h.0 }, exactly_lies p h.1)
