-- Where a number lies on a finite axis, in pixels.
use Rattle.std.proofs.Common.{◌≡◌, ◌≢◌, inl, inr, ℕ, ◌+◌, ◌-◌, ◌*◌, ◌/◌, ◌<◌, ◌≤◌, IsTrue, Bool, true, false, arith, refl, sym, ◌∙◌, ap, subst, add-mul, ℤ, pos, negsuc, neg_ℤ, ◌+ℤ◌, ◌≤ℤ◌}
use Rattle.std.specs.Ordering.{eq_by_cmp}
use Rattle.std.specs.Int.Signed.{≤ℤ_refl}
use Rattle.std.proofs.Math.Nat.{mul-le-mul}
use Rattle.std.proofs.lemmas.Int.{ints}
use Rattle.std.proofs.lemmas.Bool.{true≢false, false_from_ne_true, and_parts, and_from, cond-true, cond-false, cases_Bool, cases_lt, both_ways}
use Rattle.pv_num.specs.Extended.{Extended, NegInf, Fin, PosInf}
use Rattle.pv_num.specs.Grid.{unit, IsGrid}
use Rattle.pv_num.specs.Order.{order_of, le}
use Rattle.pv_num.specs.Rounding.{rounded}
use Rattle.pv_num.specs.Arithmetic.{neg_of, sub_of, div_of, mul_of, floor_of, ratio_of}
use Rattle.pv_num.specs.Laws.{equivalence, same-Decides}
use Rattle.pv_num.specs.declared.num.End.TheVariants.{Down, Up}
use Rattle.pv_num.proofs.Orders.{le-Fin, Fin-le, le-trans}
use Rattle.pv_num.proofs.Signs.{pos_le, le_pos}
use Rattle.pv_num.proofs.Scales.{at_unit}
use Rattle.pv_num.proofs.Monotone.{rounded-grid}
use Rattle.pv_interval.specs.Bounds.{Bounds}
use Rattle.pv_interval.specs.Tables.{holds, negated, width_of}
use Rattle.pv_interval.proofs.Monotone.{neg_order}
use Rattle.pv_svg.specs.Pixels.{IsFinite, IsOn, is_flat, share_of, thousand, lower_pixel, upper_pixel}
use Rattle.pv_svg.proofs.Shares.{share_nat, scaled_there, scaled_few, part_few, part_low, up_above}
use Rattle.pv_interval.proofs.Picks.{neg_not_pos, neg_not_neg}

-- ---- A finite axis and a number on it, as whole numbers

pub record IsSpread (axis : Bounds) : Type 0 where
  pub low : ℤ
  pub high : ℤ
  pub low_is : axis.lo ≡ Fin low
  pub high_is : axis.hi ≡ Fin high
  pub length : ℕ
  pub long : (high +ℤ neg_ℤ low) ≡ pos length

pub record IsAlong (axis : Bounds) (s : IsSpread axis) (v : Extended) : Type 0 where
  pub at : ℤ
  pub at_is : v ≡ Fin at
  pub far : ℕ
  pub is_far : (at +ℤ neg_ℤ s.low) ≡ pos far
  pub within : far ≤ s.length

no : {P : Type 0} → false ≡ true → P
no e = absurd (true≢false (sym e))

from_zero : (z : ℤ) → pos 0 ≤ℤ z → (n : ℕ) × (z ≡ pos n)
from_zero (pos n) l = (n, refl)
from_zero (negsuc n) l = absurd (omega (arith, ints, l))

distance : (a b : ℤ) → a ≤ℤ b → (n : ℕ) × ((b +ℤ neg_ℤ a) ≡ pos n)
distance a b l = from_zero (b +ℤ neg_ℤ a) (omega (arith, ints, l))

spread_ends : (lo hi : Extended) → lo ≢ NegInf → hi ≢ PosInf → IsTrue (le lo hi) → IsSpread (record { lo = lo; hi = hi })
spread_ends NegInf hi n p l = absurd (n refl)
spread_ends (Fin a) NegInf n p l = no l
spread_ends (Fin a) (Fin b) n p l =
    let d = distance a b (le-Fin a b l) in
    record { low = a; high = b; low_is = refl; high_is = refl; length = d.0; long = d.1 }
spread_ends (Fin a) PosInf n p l = absurd (p refl)
spread_ends PosInf NegInf n p l = no l
spread_ends PosInf (Fin b) n p l = no l
spread_ends PosInf PosInf n p l = absurd (p refl)

pub spread_of : (axis : Bounds) (v : Extended) → IsFinite axis → IsTrue (holds axis v) → IsSpread axis
spread_of axis v f h =
    let parts = and_parts (le axis.lo v) (le v axis.hi) h in
    spread_ends axis.lo axis.hi f.lo f.hi (le-trans axis.lo v axis.hi parts.0 parts.1)

nearer : (l m h : ℤ) (p q : ℕ) → m ≤ℤ h → (m +ℤ neg_ℤ l) ≡ pos p → (h +ℤ neg_ℤ l) ≡ pos q → p ≤ q
nearer l m h p q le e f =
    let k : (m +ℤ neg_ℤ l) ≤ℤ (h +ℤ neg_ℤ l) = omega (arith, ints, le) in
    le_pos p q (subst (λ (x : ℤ). pos p ≤ℤ x) f (subst (λ (x : ℤ). x ≤ℤ (h +ℤ neg_ℤ l)) e k))

along : (axis : Bounds) (s : IsSpread axis) (v : Extended) → IsTrue (le (Fin s.low) v) → IsTrue (le v (Fin s.high)) → IsAlong axis s v
along axis s NegInf l h = no l
along axis s (Fin m) l h =
    let d = distance s.low m (le-Fin s.low m l) in
    record { at = m; at_is = refl; far = d.0; is_far = d.1; within = nearer s.low m s.high d.0 s.length (le-Fin m s.high h) d.1 s.long }
along axis s PosInf l h = no h

pub along_axis : (axis : Bounds) (s : IsSpread axis) (v : Extended) → IsTrue (holds axis v) → IsAlong axis s v
along_axis axis s v h =
    let parts = and_parts (le axis.lo v) (le v axis.hi) h in
    along axis s v (subst (λ (x : Extended). IsTrue (le x v)) s.low_is parts.0) (subst (λ (x : Extended). IsTrue (le v x)) s.high_is parts.1)

-- ---- The length, and the share of it

long_is : (axis : Bounds) (s : IsSpread axis) → width_of axis ≡ rounded Up (pos s.length) 1
unfolding width_of
long_is axis s =
    ap (λ x. sub_of Up x axis.lo) s.high_is ∙ ap (λ x. sub_of Up (Fin s.high) x) s.low_is ∙ ap (λ z. rounded Up z 1) s.long

far_is : (axis : Bounds) (s : IsSpread axis) (v : Extended) (a : IsAlong axis s v) → sub_of Down v axis.lo ≡ rounded Down (pos a.far) 1
far_is axis s v a =
    ap (λ x. sub_of Down x axis.lo) a.at_is ∙ ap (λ x. sub_of Down (Fin a.at) x) s.low_is ∙ ap (λ z. rounded Down z 1) a.is_far

share_is : (axis : Bounds) (s : IsSpread axis) (v : Extended) (a : IsAlong axis s v) → share_of axis v ≡ share_nat a.far s.length
share_is axis s v a =
    ap (λ x. div_of Down x (width_of axis)) (far_is axis s v a) ∙ ap (λ x. div_of Down (rounded Down (pos a.far) 1) x) (long_is axis s)

same_ends : (l h : ℤ) (q : ℕ) → (h +ℤ neg_ℤ l) ≡ pos q → q ≡ 0 → l ≡ h
same_ends l h q e z = let f : (h +ℤ neg_ℤ l) ≡ pos 0 = e ∙ ap pos z in omega (arith, ints, f)

some_length : (axis : Bounds) (s : IsSpread axis) → is_flat axis ≡ false → 0 < s.length
some_length axis s e = elim (cases_lt 0 s.length) [
  | inl some ↦ some
  | inr none ↦
      let z : s.length ≡ 0 = omega arith in
      let same : axis.hi ≡ axis.lo = s.high_is ∙ ap Fin (sym (same_ends s.low s.high s.length s.long z)) ∙ sym s.low_is in
      absurd (both_ways (is_flat axis) e (ap (λ x. eq_by_cmp order_of axis.lo x) same ∙ equivalence.refl axis.lo))
]

fin_same : (a b : ℤ) → Fin a ≡ Fin b → a ≡ b
fin_same a b e = cc

turned_length : (l h : ℤ) (q : ℕ) → (h +ℤ neg_ℤ l) ≡ pos q → (neg_ℤ l +ℤ neg_ℤ (neg_ℤ h)) ≡ pos q
turned_length l h q e = omega (arith, ints, e)

turned_far : (l m h : ℤ) (p q : ℕ) → (m +ℤ neg_ℤ l) ≡ pos p → (h +ℤ neg_ℤ l) ≡ pos q → p ≤ q → (neg_ℤ m +ℤ neg_ℤ (neg_ℤ h)) ≡ pos (q - p)
turned_far l m h p q e f w = omega (arith, ints, e, f, w)

turned_back : (e : Extended) → neg_of (neg_of e) ≡ e
turned_back NegInf = refl
turned_back (Fin a) = ap Fin (grind (arith, ints))
turned_back PosInf = refl

turned_long : (lo hi : Extended) → eq_by_cmp order_of lo hi ≡ false → eq_by_cmp order_of (neg_of hi) (neg_of lo) ≡ false
turned_long lo hi h = false_from_ne_true (eq_by_cmp order_of (neg_of hi) (neg_of lo)) (λ e.
    let same : hi ≡ lo = sym (turned_back hi) ∙ ap neg_of ((same-Decides (neg_of hi) (neg_of lo)).0 e) ∙ turned_back lo in
    both_ways (eq_by_cmp order_of lo hi) h (ap (λ x. eq_by_cmp order_of lo x) same ∙ equivalence.refl lo))

same_length : (l h : ℤ) (q : ℕ) → l ≡ h → (h +ℤ neg_ℤ l) ≡ pos q → q ≡ 0
same_length l h q e f = omega (arith, ints, e, f)

pub no_length : (axis : Bounds) (s : IsSpread axis) → is_flat axis ≡ true → s.length ≡ 0
no_length axis s e =
    let same : Fin s.low ≡ Fin s.high = sym s.low_is ∙ (same-Decides axis.lo axis.hi).0 e ∙ s.high_is in
    same_length s.low s.high s.length (fin_same s.low s.high same) s.long

pub nothing : (p q : ℕ) → p ≤ q → q ≡ 0 → p ≡ 0
nothing p q l e = omega (arith, l, e)

-- ---- Pixels from the lower end

abbrev scaled_of : Bounds → Extended → Extended
scaled_of axis v = mul_of Down (share_of axis v) thousand

pub end_pixel : (axis : Bounds) (v : Extended) → eq_by_cmp order_of v axis.hi ≡ true → lower_pixel axis v ≡ 1000
unfolding lower_pixel
end_pixel axis v e = cond-true (eq_by_cmp order_of v axis.hi) 1000 _ e

inner_pixel : (axis : Bounds) (v : Extended) → eq_by_cmp order_of v axis.hi ≡ false → lower_pixel axis v ≡ floor_of (scaled_of axis v)
unfolding lower_pixel
inner_pixel axis v e = cond-false (eq_by_cmp order_of v axis.hi) 1000 _ e

-- what 1000 times the share is
record IsScaledTo (axis : Bounds) (s : IsSpread axis) (v : Extended) (a : IsAlong axis s v) (t : ℕ) : Type 0 where
  pub is : scaled_of axis v ≡ Fin (pos t)
  pub few : t ≤ 1000 * unit
  pub low : (t / unit) * s.length ≤ 1000 * a.far

scaled_to : (axis : Bounds) (s : IsSpread axis) (v : Extended) (a : IsAlong axis s v) → is_flat axis ≡ false → (t : ℕ) × IsScaledTo axis s v a t
scaled_to axis s v a e =
    let some = some_length axis s e in
    let t = scaled_there a.far s.length some in (
      t.0,
      record {
        is = ap (λ x. mul_of Down x thousand) (share_is axis s v a) ∙ t.1.is;
        few = scaled_few a.far s.length t.0 a.within some t.1.low;
        low = part_low a.far s.length t.0 t.1.low;
      },
    )

-- at the upper end all of the axis lies below
all_far : (l m h : ℤ) (p q : ℕ) → m ≡ h → (m +ℤ neg_ℤ l) ≡ pos p → (h +ℤ neg_ℤ l) ≡ pos q → q ≤ p
all_far l m h p q e f g = nearer l h m q p (subst (λ (x : ℤ). x ≤ℤ m) e (≤ℤ_refl m)) g f

-- the pixels do not reach above the number
pub lower_low : (axis : Bounds) (s : IsSpread axis) (v : Extended) (a : IsAlong axis s v) → is_flat axis ≡ false → lower_pixel axis v * s.length ≤ 1000 * a.far
lower_low axis s v a long = elim (cases_Bool (eq_by_cmp order_of v axis.hi)) [
  | inl e ↦
      let same : Fin a.at ≡ Fin s.high = sym a.at_is ∙ (same-Decides v axis.hi).0 e ∙ s.high_is in
      let all : s.length ≤ a.far = all_far s.low a.at s.high a.far s.length (fin_same a.at s.high same) a.is_far s.long in
      subst (λ (k : ℕ). k * s.length ≤ 1000 * a.far) (sym (end_pixel axis v e)) (omega (arith, all))
  | inr e ↦
      let t = scaled_to axis s v a long in
      subst (λ (k : ℕ). k * s.length ≤ 1000 * a.far) (sym (inner_pixel axis v e ∙ ap floor_of t.1.is)) t.1.low
]

-- ---- Pixels from the upper end: an axis turned round

turned_spread : (axis : Bounds) → IsSpread axis → IsSpread (negated axis)
unfolding negated
turned_spread axis s = record {
  low = neg_ℤ s.high;
  high = neg_ℤ s.low;
  low_is = ap neg_of s.high_is;
  high_is = ap neg_of s.low_is;
  length = s.length;
  long = turned_length s.low s.high s.length s.long;
}

turned_along : (axis : Bounds) (s : IsSpread axis) (v : Extended) → IsAlong axis s v → IsAlong (negated axis) (turned_spread axis s) (neg_of v)
unfolding turned_spread
turned_along axis s v a = record {
  at = neg_ℤ a.at;
  at_is = ap neg_of a.at_is;
  far = s.length - a.far;
  is_far = turned_far s.low a.at s.high a.far s.length a.is_far s.long a.within;
  within = omega arith;
}

turned_on : (axis : Bounds) (v : Extended) → IsOn axis v → IsOn (negated axis) (neg_of v)
unfolding negated
turned_on axis v on =
    let parts = and_parts (le axis.lo v) (le v axis.hi) on.there in record {
      finite = record { lo = neg_not_neg axis.hi on.finite.hi; hi = neg_not_pos axis.lo on.finite.lo };
      long = turned_long axis.lo axis.hi on.long;
      there = and_from (le (neg_of axis.hi) (neg_of v)) (le (neg_of v) (neg_of axis.lo)) (neg_order v axis.hi parts.1) (neg_order axis.lo v parts.0);
    }

pub turned_is_on : (axis other : Bounds) (v w : Extended) → IsOn axis v → other ≡ negated axis → w ≡ neg_of v → IsOn other w
turned_is_on axis other v w on e f = subst (λ (x : Extended). IsOn other x) (sym f) (subst (λ (x : Bounds). IsOn x (neg_of v)) (sym e) (turned_on axis v on))

left_over : (p q m : ℕ) → p ≤ q → m * q ≤ 1000 * (q - p) → 1000 * p ≤ (1000 - m) * q
left_over p q m l h =
    elim (cases_lt m 1000) [
      | inl few ↦
          let e : (1000 - m) * q + m * q ≡ 1000 * q = sym (add-mul (1000 - m) m q) ∙ ap (λ (k : ℕ). k * q) (omega (arith, few)) in
          omega (arith, e, h)
      | inr all ↦
          let more : 1000 * q ≤ m * q = mul-le-mul (omega (arith, all)) (omega arith) in
          omega (arith, more, h, l)
    ]

-- the pixels reach up to the number
pub upper_high : (axis : Bounds) (s : IsSpread axis) (v : Extended) (a : IsAlong axis s v) → is_flat axis ≡ false → 1000 * a.far ≤ upper_pixel axis v * s.length
unfolding turned_spread turned_along negated
upper_high axis s v a long =
    left_over a.far s.length (lower_pixel (negated axis) (neg_of v)) a.within
    (lower_low (negated axis) (turned_spread axis s) (neg_of v) (turned_along axis s v a) (turned_long axis.lo axis.hi long))

-- ---- The steps of the code

pub some_width : (axis : Bounds) (v w : Extended) → IsOn axis v → w ≡ width_of axis → w ≡ Fin (pos 0) → ⊥
some_width axis v w on ew z =
    let s = spread_of axis v on.finite on.there in
    let some : 0 < s.length = some_length axis s on.long in
    let above : s.length ≤ 0 * 1 = up_above s.length 1 0 (omega arith) (sym (long_is axis s) ∙ sym ew ∙ z) in
    omega (arith, some, above)

pub record IsFound (axis : Bounds) (v m : Extended) : Type 0 where
  pub low : IsTrue (le (Fin (pos 0)) m)
  pub high : IsTrue (le m (Fin (pos (1000 * unit))))
  pub pixel : (hi : Extended) (b : Bool) → hi ≡ axis.hi → b ≡ eq_by_cmp order_of v hi → b ≡ false → floor_of m ≡ lower_pixel axis v
  pub few : floor_of m ≤ 1000

found_at : (axis : Bounds) (v m : Extended) (t : ℕ) → m ≡ Fin (pos t) → t ≤ 1000 * unit → (eq_by_cmp order_of v axis.hi ≡ false → lower_pixel axis v ≡ t / unit) → IsFound axis v m
found_at axis v m t e l p = subst (IsFound axis v) (sym e) (record {
  low = Fin-le (pos 0) (pos t) (pos_le 0 t (omega arith));
  high = Fin-le (pos t) (pos (1000 * unit)) (pos_le t (1000 * unit) l);
  pixel = λ hi b eh eb k. sym (p (ap (λ x. eq_by_cmp order_of v x) (sym eh) ∙ sym eb ∙ k));
  few = part_few t l;
})

pub found : (axis : Bounds) (v lo d w s k m : Extended) → IsOn axis v → lo ≡ axis.lo → d ≡ sub_of Down v lo → w ≡ width_of axis → s ≡ div_of Down d w → k ≡ thousand
    → m ≡ mul_of Down s k → IsFound axis v m
found axis v lo d w s k m on el ed ew es ek em =
    let spread = spread_of axis v on.finite on.there in
    let t = scaled_to axis spread v (along_axis axis spread v on.there) on.long in
    let share : s ≡ share_of axis v = es ∙ ap (λ x. div_of Down x w) (ed ∙ ap (λ x. sub_of Down v x) el) ∙ ap (λ x. div_of Down (sub_of Down v axis.lo) x) ew in
    found_at axis v m t.0 (em ∙ ap (λ x. mul_of Down x k) share ∙ ap (λ x. mul_of Down (share_of axis v) x) ek ∙ t.1.is) t.1.few
    (λ e. inner_pixel axis v e ∙ ap floor_of t.1.is)

-- at the upper end
pub end_found : (axis : Bounds) (v hi : Extended) (b : Bool) → hi ≡ axis.hi → b ≡ eq_by_cmp order_of v hi → b ≡ true → 1000 ≡ lower_pixel axis v
end_found axis v hi b eh eb e = sym (end_pixel axis v (ap (λ x. eq_by_cmp order_of v x) (sym eh) ∙ sym eb ∙ e))

thousand_grid : IsGrid (pos (1000 * unit))
thousand_grid = at_unit (λ u. IsGrid (pos (1000 * u))) (λ s e. record { mantissa = 1000; exponent = s; mantissa_fits = omega arith; exponent_fits = omega (arith, e); value = refl })

pub thousand_is : ratio_of Down (pos 1000) 1 ≡ thousand
thousand_is =
    let one : 1000 * unit ≡ 1000 * unit * 1 = omega arith in
    ap (λ n. rounded Down (pos n) 1) one ∙ rounded-grid Down (pos (1000 * unit)) 1 (omega arith) thousand_grid
