-- The pixels of a side against the numbers in them.
use Rattle.std.proofs.Common.{◌≡◌, inl, inr, ℕ, suc, ◌+◌, ◌*◌, ◌<◌, ◌≤◌, min, max, IsTrue, true, false, arith, sym, ◌∙◌, ap, subst, ℤ, pos, ◌+ℤ◌, ◌*ℤ◌, neg_ℤ, ◌≤ℤ◌, ◌<ℤ◌}
use Rattle.std.specs.Prelude.{nat_lt, cond, ◌&&◌}
use Rattle.std.proofs.Math.Nat.{mul-le-mul}
use Rattle.std.proofs.lemmas.Int.{ints}
use Rattle.std.proofs.lemmas.Bool.{and_parts, and_from, cond_both, cases_lt}
use Rattle.std.proofs.lemmas.Bool.Decides.{nat_tests}
use Rattle.pv_num.specs.Extended.{Extended, Fin}
use Rattle.pv_num.specs.Grid.{unit}
use Rattle.pv_num.specs.Order.{le}
use Rattle.pv_num.proofs.Orders.{le-trans}
use Rattle.pv_interval.specs.Bounds.{Bounds, IsInterval}
use Rattle.pv_interval.specs.Points.{IsBelow, IsAbove, Lies}
use Rattle.pv_interval.specs.Tables.{holds}
use Rattle.pv_interval.proofs.Integers.{right_distrib}
use Rattle.pv_svg.specs.Pixels.{IsFinite, is_flat, has, first_pixel, some_from, lower_pixel, upper_pixel, filled, touched, side_of}
use Rattle.pv_svg.specs.Rectangles.{LiesWithin}
use Rattle.pv_svg.specs.declared.rectangle.Class.TheVariants.{Removed, Inner, Small, OpenLeaf}
use Rattle.pv_svg.specs.declared.side.Side.{Side}
use Rattle.pv_svg.proofs.Axes.{IsSpread, IsAlong, spread_of, along_axis, lower_low, upper_high, no_length, nothing}
use Rattle.pv_svg.specs.Shows.{beyond, edge, Compares, LiesInPixel, LiesWithinPixel}

-- ---- Whole numbers

-- a number p above l, over d
far_out : (m l : ℤ) (p d : ℕ) → (m +ℤ neg_ℤ l) ≡ pos p → (m *ℤ pos d) ≡ ((l *ℤ pos d) +ℤ pos (p * d))
far_out m l p d e =
    let f : m ≡ (l +ℤ pos p) = omega (arith, ints, e) in
    ap (λ (x : ℤ). x *ℤ pos d) f ∙ right_distrib l (pos p) (pos d)

edge_is : (l h : ℤ) (q k d : ℕ) → (h +ℤ neg_ℤ l) ≡ pos q → edge l h k d ≡ pos (k * (q * d))
edge_is l h q k d e = ap (λ (x : ℤ). pos k *ℤ (x *ℤ pos d)) e

thousand_low : (x y : ℕ) (z : ℤ) → 1000 * x ≤ y → pos y ≤ℤ (pos 1000 *ℤ z) → pos x ≤ℤ z
thousand_low x y z l h = omega (arith, ints, l, h)

thousand_high : (x y : ℕ) (z : ℤ) → y ≤ 1000 * x → (pos 1000 *ℤ z) ≤ℤ pos y → z ≤ℤ pos x
thousand_high x y z l h = omega (arith, ints, l, h)

below_edge : (x y w : ℕ) (z : ℤ) → y ≤ 1000 * x → pos x ≤ℤ z → (pos 1000 *ℤ z) <ℤ pos w → y < w
below_edge x y w z l m h = omega (arith, ints, l, m, h)

above_edge : (x y w : ℕ) (z : ℤ) → 1000 * x ≤ y → z ≤ℤ pos x → pos w <ℤ (pos 1000 *ℤ z) → w < y
above_edge x y w z l m h = omega (arith, ints, l, m, h)

fewer : (j k c : ℕ) → j * c < k * c → j < k
fewer j k c h = elim (cases_lt j k) [
  | inl l ↦ l
  | inr m ↦
      let more : k * c ≤ j * c = mul-le-mul (omega (arith, m)) (omega arith) in
      absurd (omega (arith, more, h))
]

wide_low : (p u q k d : ℕ) → 1000 * p ≤ u * q → u ≤ k → 1000 * (p * d) ≤ k * (q * d)
wide_low p u q k d h l =
    let a : 1000 * p * d ≤ u * q * d = mul-le-mul h (omega arith) in
    let b : u * (q * d) ≤ k * (q * d) = mul-le-mul l (omega arith) in
    let e : 1000 * p * d ≡ 1000 * (p * d) = grind arith in
    let f : u * q * d ≡ u * (q * d) = grind arith in
    omega (arith, a, b, e, f)

wide_high : (p u q k d : ℕ) → u * q ≤ 1000 * p → k ≤ u → k * (q * d) ≤ 1000 * (p * d)
wide_high p u q k d h l =
    let a : u * q * d ≤ 1000 * p * d = mul-le-mul h (omega arith) in
    let b : k * (q * d) ≤ u * (q * d) = mul-le-mul l (omega arith) in
    let e : 1000 * p * d ≡ 1000 * (p * d) = grind arith in
    let f : u * q * d ≡ u * (q * d) = grind arith in
    omega (arith, a, b, e, f)

nought : (k d : ℕ) → k * (0 * d) ≡ 0
nought k d = grind arith

none_of : (p d : ℕ) → p ≡ 0 → p * d ≡ 0
none_of p d e = ap (λ (x : ℕ). x * d) e ∙ omega arith

zeroed : (k q d : ℕ) → q ≡ 0 → k * (q * d) ≡ 0
zeroed k q d e = ap (λ (x : ℕ). k * (x * d)) e ∙ nought k d

-- ---- Pixels of a side

lt_of : (a b : ℕ) → nat_lt a b ≡ true → a < b
lt_of a b t = grind (arith, nat_tests)

lt_is : (a b : ℕ) → a < b → nat_lt a b ≡ true
lt_is a b l = grind (arith, nat_tests)

has_bounds : (first past k : ℕ) → (nat_lt k past && nat_lt first (suc k)) ≡ true → (k < past) × (first ≤ k)
has_bounds first past k h =
    let parts = and_parts (nat_lt k past) (nat_lt first (suc k)) h in
    let f : first < suc k = lt_of first (suc k) parts.1 in
    (lt_of k past parts.0, omega (arith, f))

bounds_has : (first past k : ℕ) → k < past → first ≤ k → (nat_lt k past && nat_lt first (suc k)) ≡ true
bounds_has first past k l m = and_from (nat_lt k past) (nat_lt first (suc k)) (lt_is k past l) (lt_is first (suc k) (omega (arith, m)))

-- ---- An axis and a part of it, as whole numbers

record IsPart (axis part : Bounds) : Type 0 where
  pub spread : IsSpread axis
  pub low : IsAlong axis spread part.lo
  pub high : IsAlong axis spread part.hi
  pub low_on : IsTrue (holds axis part.lo)
  pub high_on : IsTrue (holds axis part.hi)

part_of : (axis part : Bounds) → IsFinite axis → LiesWithin axis part → IsInterval part → IsPart axis part
part_of axis part f w i =
    let low : IsTrue (holds axis part.lo) = and_from (le axis.lo part.lo) (le part.lo axis.hi) w.0 (le-trans part.lo part.hi axis.hi i.ordered w.1) in
    let high : IsTrue (holds axis part.hi) = and_from (le axis.lo part.hi) (le part.hi axis.hi) (le-trans axis.lo part.lo part.hi w.0 i.ordered) w.1 in
    let s = spread_of axis part.lo f low in
    record { spread = s; low = along_axis axis s part.lo low; high = along_axis axis s part.hi high; low_on = low; high_on = high }

compared : (order : ℤ → ℤ → Type 0) (axis : Bounds) (s : IsSpread axis) (k : ℕ) (n : ℤ) (d : ℕ) → Compares order axis.lo axis.hi k n d
    → order (pos (k * (s.length * d))) (pos 1000 *ℤ beyond s.low n d)
compared order axis s k n d h =
    let a = subst (λ (x : Extended). Compares order x axis.hi k n d) s.low_is h in
    let b = subst (λ (x : Extended). Compares order (Fin s.low) x k n d) s.high_is a in
    subst (λ (x : ℤ). order x (pos 1000 *ℤ beyond s.low n d)) (edge_is s.low s.high s.length k d s.long) b

module _ (axis : Bounds) (s : IsSpread axis) (v : Extended) (a : IsAlong axis s v) (n : ℤ) (d : ℕ) where
  is_below : pos (a.far * d) ≤ℤ beyond s.low n d → IsBelow v n d
  is_below h = let e = far_out a.at s.low a.far d a.is_far in subst (λ (x : Extended). IsBelow x n d) (sym a.at_is) (omega (arith, ints, e, h))

  below_is : IsBelow v n d → pos (a.far * d) ≤ℤ beyond s.low n d
  below_is h =
      let e = far_out a.at s.low a.far d a.is_far in
      let l : (a.at *ℤ pos d) ≤ℤ (n *ℤ pos unit) = subst (λ (x : Extended). IsBelow x n d) a.at_is h in
      omega (arith, ints, e, l)

  is_above : beyond s.low n d ≤ℤ pos (a.far * d) → IsAbove v n d
  is_above h = let e = far_out a.at s.low a.far d a.is_far in subst (λ (x : Extended). IsAbove x n d) (sym a.at_is) (omega (arith, ints, e, h))

  above_is : IsAbove v n d → beyond s.low n d ≤ℤ pos (a.far * d)
  above_is h =
      let e = far_out a.at s.low a.far d a.is_far in
      let l : (n *ℤ pos unit) ≤ℤ (a.at *ℤ pos d) = subst (λ (x : Extended). IsAbove x n d) a.at_is h in
      omega (arith, ints, e, l)

-- ---- Pixels that lie within a part

module _ (axis part : Bounds) (p : IsPart axis part) (k : ℕ) (n : ℤ) (d : ℕ) (some : 0 < d) (in_pixel : LiesInPixel axis k n d) where
  abbrev from_edge : pos (k * (p.spread.length * d)) ≤ℤ (pos 1000 *ℤ beyond p.spread.low n d)
  from_edge = compared (λ a b. a ≤ℤ b) axis p.spread k n d in_pixel.from

  abbrev to_edge : (pos 1000 *ℤ beyond p.spread.low n d) ≤ℤ pos (suc k * (p.spread.length * d))
  to_edge = compared (λ a b. b ≤ℤ a) axis p.spread (suc k) n d in_pixel.to

  filled_lies : is_flat axis ≡ false → upper_pixel axis part.lo ≤ k → k < lower_pixel axis part.hi → Lies n d part
  filled_lies long l m =
      let s = p.spread in
      let low : 1000 * p.low.far ≤ upper_pixel axis part.lo * s.length = upper_high axis s part.lo p.low long in
      let high : lower_pixel axis part.hi * s.length ≤ 1000 * p.high.far = lower_low axis s part.hi p.high long in record {
        some = some;
        low = is_below axis s part.lo p.low n d
            (thousand_low (p.low.far * d) (k * (s.length * d)) (beyond s.low n d) (wide_low p.low.far (upper_pixel axis part.lo) s.length k d low l) from_edge);
        high = is_above axis s part.hi p.high n d
            (thousand_high (p.high.far * d) (suc k * (s.length * d)) (beyond s.low n d) (wide_high p.high.far (lower_pixel axis part.hi) s.length (suc k) d high m) to_edge);
      }

  -- on an axis without length there is one number
  flat_lies : is_flat axis ≡ true → Lies n d part
  flat_lies flat =
      let s = p.spread in
      let none : s.length ≡ 0 = no_length axis s flat in
      let z : k * (s.length * d) ≡ 0 = zeroed k s.length d none in
      let w : suc k * (s.length * d) ≡ 0 = zeroed (suc k) s.length d none in
      let from : pos 0 ≤ℤ (pos 1000 *ℤ beyond s.low n d) = subst (λ (x : ℕ). pos x ≤ℤ (pos 1000 *ℤ beyond s.low n d)) z from_edge in
      let to : (pos 1000 *ℤ beyond s.low n d) ≤ℤ pos 0 = subst (λ (x : ℕ). (pos 1000 *ℤ beyond s.low n d) ≤ℤ pos x) w to_edge in
      let low : p.low.far * d ≡ 0 = none_of p.low.far d (nothing p.low.far s.length p.low.within none) in
      let high : p.high.far * d ≡ 0 = none_of p.high.far d (nothing p.high.far s.length p.high.within none) in record {
        some = some;
        low = is_below axis s part.lo p.low n d (thousand_low (p.low.far * d) 0 (beyond s.low n d) (omega (arith, low)) from);
        high = is_above axis s part.hi p.high n d (thousand_high (p.high.far * d) 0 (beyond s.low n d) (omega (arith, high)) to);
      }

-- ---- Pixels that a part touches

module _ (axis part : Bounds) (p : IsPart axis part) (k : ℕ) (n : ℤ) (d : ℕ) (lies : Lies n d part) (in_pixel : LiesWithinPixel axis k n d) where
  abbrev after_edge : pos (k * (p.spread.length * d)) <ℤ (pos 1000 *ℤ beyond p.spread.low n d)
  after_edge = compared (λ a b. a <ℤ b) axis p.spread k n d in_pixel.from

  abbrev before_edge : (pos 1000 *ℤ beyond p.spread.low n d) <ℤ pos (suc k * (p.spread.length * d))
  before_edge = compared (λ a b. b <ℤ a) axis p.spread (suc k) n d in_pixel.to

  touched_low : is_flat axis ≡ false → lower_pixel axis part.lo ≤ k
  touched_low long =
      let s = p.spread in
      let low : lower_pixel axis part.lo * s.length ≤ 1000 * p.low.far = lower_low axis s part.lo p.low long in
      let less : lower_pixel axis part.lo * (s.length * d) < suc k * (s.length * d)
      = below_edge (p.low.far * d) (lower_pixel axis part.lo * (s.length * d)) (suc k * (s.length * d)) (beyond s.low n d)
      (wide_high p.low.far (lower_pixel axis part.lo) s.length (lower_pixel axis part.lo) d low (omega arith)) (below_is axis s part.lo p.low n d lies.low) before_edge in
      let f : lower_pixel axis part.lo < suc k = fewer (lower_pixel axis part.lo) (suc k) (s.length * d) less in
      omega (arith, f)

  touched_high : is_flat axis ≡ false → k < upper_pixel axis part.hi
  touched_high long =
      let s = p.spread in
      let high : 1000 * p.high.far ≤ upper_pixel axis part.hi * s.length = upper_high axis s part.hi p.high long in
      let less : k * (s.length * d) < upper_pixel axis part.hi * (s.length * d)
      = above_edge (p.high.far * d) (upper_pixel axis part.hi * (s.length * d)) (k * (s.length * d)) (beyond s.low n d)
      (wide_low p.high.far (upper_pixel axis part.hi) s.length (upper_pixel axis part.hi) d high (omega arith)) (above_is axis s part.hi p.high n d lies.high) after_edge in
      fewer k (upper_pixel axis part.hi) (s.length * d) less

  -- an axis without length has no number within a pixel
  flat_within : is_flat axis ≡ true → ⊥
  flat_within flat =
      let s = p.spread in
      let none : s.length ≡ 0 = no_length axis s flat in
      let z : k * (s.length * d) ≡ 0 = zeroed k s.length d none in
      let w : suc k * (s.length * d) ≡ 0 = zeroed (suc k) s.length d none in
      let from : pos 0 <ℤ (pos 1000 *ℤ beyond s.low n d) = subst (λ (x : ℕ). pos x <ℤ (pos 1000 *ℤ beyond s.low n d)) z after_edge in
      let to : (pos 1000 *ℤ beyond s.low n d) <ℤ pos 0 = subst (λ (x : ℕ). (pos 1000 *ℤ beyond s.low n d) <ℤ pos x) w before_edge in
      omega (arith, ints, from, to)

-- ---- The side of a class

-- A side has pixels that lie within its part alone.
abbrev IsFilled : Bounds → Bounds → Side → Type 0
IsFilled axis part side = (k : ℕ) (n : ℤ) (d : ℕ) → 0 < d → LiesInPixel axis k n d → IsTrue (has side k) → Lies n d part

all_filled : (axis part : Bounds) → IsFinite axis → LiesWithin axis part → IsInterval part → IsFilled axis part (cond (is_flat axis) first_pixel (filled axis part))
all_filled axis part f w i =
    let p = part_of axis part f w i in
    cond_both (is_flat axis) first_pixel (filled axis part) (IsFilled axis part) (λ flat k n d some h m. flat_lies axis part p k n d some h flat)
    (λ long k n d some h m. let b = has_bounds (upper_pixel axis part.lo) (lower_pixel axis part.hi) k m in filled_lies axis part p k n d some h long b.1 b.0)

-- A side has each pixel that its part touches.
abbrev IsTouched : Bounds → Bounds → Side → Type 0
IsTouched axis part side = (k : ℕ) (n : ℤ) (d : ℕ) → LiesWithinPixel axis k n d → Lies n d part → IsTrue (has side k)

some_has : (low high k : ℕ) → low ≤ k → k < high → IsTrue (has (some_from (min low 999) high) k)
some_has low high k l m = bounds_has (min low 999) (max high (min low 999 + 1)) k (omega (arith, m)) (omega (arith, l))

all_touched : (axis part : Bounds) → IsFinite axis → LiesWithin axis part → IsInterval part → IsTouched axis part (cond (is_flat axis) first_pixel (touched axis part))
all_touched axis part f w i =
    let p = part_of axis part f w i in
    cond_both (is_flat axis) first_pixel (touched axis part) (IsTouched axis part) (λ flat k n d h lies. absurd (flat_within axis part p k n d lies h flat))
    (λ long k n d h lies. some_has (lower_pixel axis part.lo) (upper_pixel axis part.hi) k (touched_low axis part p k n d lies h long) (touched_high axis part p k n d lies h long))

pub inner_lies : (axis part : Bounds) → IsFinite axis → LiesWithin axis part → IsInterval part → IsFilled axis part (side_of Inner axis part)
unfolding side_of
inner_lies axis part f w i = all_filled axis part f w i

pub removed_lies : (axis part : Bounds) → IsFinite axis → LiesWithin axis part → IsInterval part → IsFilled axis part (side_of Removed axis part)
unfolding side_of
removed_lies axis part f w i = all_filled axis part f w i

pub small_touched : (axis part : Bounds) → IsFinite axis → LiesWithin axis part → IsInterval part → IsTouched axis part (side_of Small axis part)
unfolding side_of
small_touched axis part f w i = all_touched axis part f w i

pub open_touched : (axis part : Bounds) → IsFinite axis → LiesWithin axis part → IsInterval part → IsTouched axis part (side_of OpenLeaf axis part)
unfolding side_of
open_touched axis part f w i = all_touched axis part f w i

-- A side has a pixel of the picture.
pub record HasSome (side : Side) : Type 0 where
  pub at : ℕ
  pub few : at < 1000
  pub there : IsTrue (has side at)

some_there : (axis part : Bounds) → HasSome (cond (is_flat axis) first_pixel (touched axis part))
some_there axis part = cond_both (is_flat axis) first_pixel (touched axis part) HasSome
    (λ flat. record { at = 0; few = omega arith; there = bounds_has 0 1 0 (omega arith) (omega arith) })
    (λ long. record {
      at = min (lower_pixel axis part.lo) 999;
      few = omega arith;
      there = bounds_has (min (lower_pixel axis part.lo) 999) (max (upper_pixel axis part.hi) (min (lower_pixel axis part.lo) 999 + 1)) (min (lower_pixel axis part.lo) 999) (omega arith) (omega arith);
    })

pub small_there : (axis part : Bounds) → HasSome (side_of Small axis part)
unfolding side_of
small_there axis part = some_there axis part

pub open_there : (axis part : Bounds) → HasSome (side_of OpenLeaf axis part)
unfolding side_of
open_there axis part = some_there axis part
