-- The centre of a box as a point of it.
use Rattle.std.proofs.Common.{◌≡◌, List, [], ◌∷◌, refl, sym, subst, arith, rules}
use Rattle.std.specs.Prelude.{IsTrue, IfSome, Option, Some, None, Bool, true, false, ◌&&◌, ℤ, pos, map, All, unwrap_or}
use Rattle.std.proofs.lemmas.Int.{ints}
use Rattle.std.proofs.lemmas.List.Elements.{All-head, All-tail}
use Rattle.pv_num.specs.Extended.{Extended, NegInf, Fin, PosInf}
use Rattle.pv_num.specs.Arithmetic.{middle_of}
use Rattle.pv_num.specs.Grid.{unit}
use Rattle.pv_num.specs.Order.{le}
use Rattle.pv_interval.specs.Bounds.{Bounds, IsInterval}
use Rattle.pv_interval.specs.Points.{Lies, Point}
use Rattle.pv_interval.specs.Tables.{exactly}
use Rattle.pv_interval.proofs.Ends.{le_refl}
use Rattle.pv_interval.proofs.Multiples.{unit_some}
use Rattle.pv_interval.proofs.Values.{below_le, above_le}
use Rattle.pv_box.specs.Boxes.{IsInside, PointIn}
use Rattle.pv_box.proofs.Inside.{middle_inside}
use Rattle.pv_slope.specs.Centres.{centre_of}
use Rattle.pv_slope.specs.Centered.{is_finite, has_finite_ends}
use Rattle.pv_settle.proofs.Halving.{lt_le}

-- a finite end in units
abbrev pub units : Extended → ℤ
units NegInf = pos 0
units (Fin a) = a
units PosInf = pos 0

finite_is : (e : Extended) → is_finite e ≡ true → e ≡ Fin (units e)
finite_is NegInf h = absurd (cc)
finite_is (Fin a) h = refl
finite_is PosInf h = absurd (cc)

pub both_true : (s t : Bool) → (s && t) ≡ true → (s ≡ true) × (t ≡ true)
both_true true t e = (refl, e)
both_true false t e = absurd (cc)

-- a finite number of an interval
pub record IsHeld (c : Extended) (x : Bounds) : Type 0 where
  pub finite : is_finite c ≡ true
  pub low : IsTrue (le x.lo c)
  pub high : IsTrue (le c x.hi)

inside_held : (a b : ℤ) (c : Extended) → IsInside c (record { lo = Fin a; hi = Fin b }) → IsHeld c (record { lo = Fin a; hi = Fin b })
inside_held a b NegInf h = let k = h.above in absurd (search rules)
inside_held a b (Fin c) h = record { finite = refl; low = lt_le (Fin a) (Fin c) h.above; high = lt_le (Fin c) (Fin b) h.below }
inside_held a b PosInf h = let k = h.below in absurd (search rules)

ends_held : (a b : Extended) → is_finite a ≡ true → is_finite b ≡ true → IsTrue (le a b) → IsHeld (unwrap_or (middle_of a b) a) (record { lo = a; hi = b })
ends_held NegInf b h k o = absurd (cc)
ends_held PosInf b h k o = absurd (cc)
ends_held (Fin a) NegInf h k o = absurd (cc)
ends_held (Fin a) PosInf h k o = absurd (cc)
ends_held (Fin a) (Fin b) h k o = go (middle_of (Fin a) (Fin b)) (middle_inside (Fin a) (Fin b))
  where
    go : (m : Option Extended) → IfSome m (λ c. IsInside c (record { lo = Fin a; hi = Fin b })) → IsHeld (unwrap_or m (Fin a)) (record { lo = Fin a; hi = Fin b })
    go None i = record { finite = refl; low = le_refl (Fin a); high = o }
    go (Some c) i = inside_held a b c i

pub centre_held : (x : Bounds) → IsInterval x → (is_finite x.lo && is_finite x.hi) ≡ true → IsHeld (centre_of x) x
centre_held x i h = let t = both_true (is_finite x.lo) (is_finite x.hi) h in ends_held x.lo x.hi t.0 t.1 i.ordered

lies_at : (a : ℤ) (e : Extended) → e ≡ Fin a → Lies a unit (exactly e)
lies_at a e h = subst (λ (f : Extended). Lies a unit (exactly f)) (sym h) (record { some = unit_some; low = omega (arith, ints); high = omega (arith, ints) })

-- the centre's number, and that it lies where it should
pub centre_lies : (x : Bounds) → IsInterval x → (is_finite x.lo && is_finite x.hi) ≡ true → Lies (units (centre_of x)) unit (exactly (centre_of x))
centre_lies x i h = lies_at (units (centre_of x)) (centre_of x) (finite_is (centre_of x) (centre_held x i h).finite)

centre_in : (x : Bounds) → IsInterval x → (is_finite x.lo && is_finite x.hi) ≡ true → Lies (units (centre_of x)) unit x
centre_in x i h =
    let l = centre_lies x i h in let k = centre_held x i h in
    record { some = l.some; low = below_le x.lo (centre_of x) _ _ k.low l.low; high = above_le (centre_of x) x.hi _ _ k.high l.high }

-- the centre of a box
abbrev pub centre_point : List Bounds → Point
centre_point b = record { places = map (λ x. units (centre_of x)) b; under = unit }

abbrev pub centres : List Bounds → List Bounds
centres b = map (λ x. exactly (centre_of x)) b

pub centre_in_box : (b : List Bounds) → All IsInterval b → has_finite_ends b ≡ true → PointIn (centre_point b) b
centre_in_box [] i h = tt
centre_in_box (x ∷ b) i h =
    let t = both_true (is_finite x.lo && is_finite x.hi) (has_finite_ends b) h in
    (centre_in x (All-head IsInterval x b i) t.0, centre_in_box b (All-tail IsInterval x b i) t.1)

pub centre_in_centres : (b : List Bounds) → All IsInterval b → has_finite_ends b ≡ true → PointIn (centre_point b) (centres b)
centre_in_centres [] i h = tt
centre_in_centres (x ∷ b) i h =
    let t = both_true (is_finite x.lo && is_finite x.hi) (has_finite_ends b) h in
    (centre_lies x (All-head IsInterval x b i) t.0, centre_in_centres b (All-tail IsInterval x b i) t.1)
