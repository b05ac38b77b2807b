-- Sums with [0,0], products with [1,1] and first powers of intervals whose ends are numbers of the format: nothing is
-- rounded, so each is the interval itself.
use Rattle.std.proofs.Common.{◌≡◌, ℕ, zero, suc, ◌<◌, refl, ap, sym, ◌∙◌, ◌-◌, arith, IsTrue, ℤ, pos, neg_ℤ, ◌+ℤ◌, ◌*ℤ◌}
use Rattle.std.proofs.Math.IntN.{*ℤ-one, *ℤ_comm, neg_ℤ-neg_ℤ}
use Rattle.std.proofs.lemmas.Int.{ints}
use Rattle.std.specs.Prelude.{Bool, true, false, if◌then◌else◌}
use Rattle.pv_num.specs.Arithmetic.{add_of, mul_of, neg_of, infinite_by}
use Rattle.pv_num.specs.Extended.{Extended, NegInf, Fin, PosInf}
use Rattle.pv_num.specs.Grid.{unit, IsGrid}
use Rattle.pv_num.specs.Order.{le, lesser, greater}
use Rattle.pv_num.specs.Parts.{IsNumber}
use Rattle.pv_num.specs.Rounding.{rounded}
use Rattle.pv_num.specs.declared.num.End.{End}
use Rattle.pv_num.specs.declared.num.End.TheVariants.{Down, Up}
use Rattle.pv_num.proofs.Monotone.{rounded-grid}
use Rattle.pv_num.proofs.Scales.{unit_pos}
use Rattle.pv_num.proofs.Signs.{neg_grid}
use Rattle.pv_interval.specs.Bounds.{Bounds, IsInterval}
use Rattle.pv_interval.specs.Tables.{nought, least_of_four, greatest_of_four, sum_of, difference_of, product_of, negated, quotient_of, power_of}
use Rattle.pv_interval.proofs.Choices.{lesser_first, greater_second}
use Rattle.pv_interval.proofs.Ends.{le_refl}
use Rattle.pv_slope.specs.Centres.{known}
use Rattle.pv_slope.specs.SlopeTable.{zero_slope, one_slope, power_term, quotient_slope}
use Rattle.pv_slope.proofs.Rounds.{one_power}
use Rattle.pv_slope.proofs.Zeros.{same_ends, times_zero, zero_times}

-- ---- ends

whole_rounded : (side : End) (z w : ℤ) → IsGrid z → w ≡ z *ℤ pos 1 → rounded side w 1 ≡ Fin z
whole_rounded side z w g e = ap (λ x. rounded side x 1) e ∙ rounded-grid side z 1 (omega arith) g

end_add_nought : (side : End) (e : Extended) → IsNumber e → add_of side e nought ≡ e
unfolding lib.IntN.one
end_add_nought side NegInf h = refl
end_add_nought side (Fin z) h =
    let same : z +ℤ pos 0 ≡ z = omega (arith, ints) in
    whole_rounded side z (z +ℤ pos 0) h (same ∙ sym (*ℤ-one z))
end_add_nought side PosInf h = refl

end_nought_add : (side : End) (e : Extended) → IsNumber e → add_of side nought e ≡ e
unfolding lib.IntN.one
end_nought_add side NegInf h = refl
end_nought_add side (Fin z) h =
    let same : pos 0 +ℤ z ≡ z = omega (arith, ints) in
    whole_rounded side z (pos 0 +ℤ z) h (same ∙ sym (*ℤ-one z))
end_nought_add side PosInf h = refl

pub neg_number : (e : Extended) → IsNumber e → IsNumber (neg_of e)
neg_number NegInf h = h
neg_number (Fin z) h = neg_grid z h
neg_number PosInf h = h

neg_twice : (e : Extended) → neg_of (neg_of e) ≡ e
neg_twice NegInf = refl
neg_twice (Fin z) = ap Fin (neg_ℤ-neg_ℤ z)
neg_twice PosInf = refl

by_one : (n : ℕ) → 0 < n → infinite_by (pos n) ≡ PosInf
by_one zero h = absurd (omega arith)
by_one (suc n) h = refl

by_minus_one : (n : ℕ) → 0 < n → infinite_by (neg_ℤ (pos n)) ≡ NegInf
by_minus_one zero h = absurd (omega arith)
by_minus_one (suc n) h = refl

end_by_one : (side : End) (e : Extended) → IsNumber e → mul_of side e (Fin (pos unit)) ≡ e
end_by_one side NegInf h = by_minus_one unit unit_pos
end_by_one side (Fin z) h = rounded-grid side z unit unit_pos h
end_by_one side PosInf h = by_one unit unit_pos

end_one_by : (side : End) (e : Extended) → IsNumber e → mul_of side (Fin (pos unit)) e ≡ e
end_one_by side NegInf h = by_minus_one unit unit_pos
end_one_by side (Fin z) h = ap (λ x. rounded side x unit) (*ℤ_comm (pos unit) z) ∙ rounded-grid side z unit unit_pos h
end_one_by side PosInf h = by_one unit unit_pos

-- the least and the greatest of four that are one or the other of two in order
least_same : (p q r s a b : Extended) → IsTrue (le a b) → p ≡ a → q ≡ a → r ≡ b → s ≡ b → least_of_four p q r s ≡ a
least_same p q r s a b l e f g h =
    let x : lesser a a ≡ a = lesser_first a a (le_refl a) in
    let y : lesser b b ≡ b = lesser_first b b (le_refl b) in
    let z : lesser a b ≡ a = lesser_first a b l in
    cc

least_mixed : (p q r s a b : Extended) → IsTrue (le a b) → p ≡ a → q ≡ b → r ≡ a → s ≡ b → least_of_four p q r s ≡ a
least_mixed p q r s a b l e f g h =
    let x : lesser a a ≡ a = lesser_first a a (le_refl a) in
    let z : lesser a b ≡ a = lesser_first a b l in
    cc

greatest_same : (p q r s a b : Extended) → IsTrue (le a b) → p ≡ a → q ≡ a → r ≡ b → s ≡ b → greatest_of_four p q r s ≡ b
greatest_same p q r s a b l e f g h =
    let x : greater a a ≡ a = greater_second a a (le_refl a) in
    let y : greater b b ≡ b = greater_second b b (le_refl b) in
    let z : greater a b ≡ b = greater_second a b l in
    cc

greatest_mixed : (p q r s a b : Extended) → IsTrue (le a b) → p ≡ a → q ≡ b → r ≡ a → s ≡ b → greatest_of_four p q r s ≡ b
greatest_mixed p q r s a b l e f g h =
    let y : greater b b ≡ b = greater_second b b (le_refl b) in
    let z : greater a b ≡ b = greater_second a b l in
    cc

-- ---- intervals

pub add_nought : (x : Bounds) → IsNumber x.lo → IsNumber x.hi → sum_of x zero_slope ≡ x
unfolding sum_of
add_nought x l h = same_ends (sum_of x zero_slope) x (end_add_nought Down x.lo l) (end_add_nought Up x.hi h)

pub nought_add : (x : Bounds) → IsNumber x.lo → IsNumber x.hi → sum_of zero_slope x ≡ x
unfolding sum_of
nought_add x l h = same_ends (sum_of zero_slope x) x (end_nought_add Down x.lo l) (end_nought_add Up x.hi h)

pub take_nought : (x : Bounds) → IsNumber x.lo → IsNumber x.hi → difference_of x zero_slope ≡ x
unfolding difference_of
take_nought x l h = same_ends (difference_of x zero_slope) x (end_add_nought Down x.lo l) (end_add_nought Up x.hi h)

pub nought_take : (x : Bounds) → IsNumber x.lo → IsNumber x.hi → difference_of zero_slope x ≡ negated x
unfolding difference_of negated
nought_take x l h =
    same_ends (difference_of zero_slope x) (negated x)
    (end_nought_add Down (neg_of x.hi) (neg_number x.hi h)) (end_nought_add Up (neg_of x.lo) (neg_number x.lo l))

pub times_one : (x : Bounds) → IsNumber x.lo → IsNumber x.hi → IsInterval x → product_of x one_slope ≡ x
unfolding product_of
times_one x l h i =
    same_ends (product_of x one_slope) x
    (least_same _ _ _ _ x.lo x.hi i.ordered (end_by_one Down x.lo l) (end_by_one Down x.lo l) (end_by_one Down x.hi h) (end_by_one Down x.hi h))
    (greatest_same _ _ _ _ x.lo x.hi i.ordered (end_by_one Up x.lo l) (end_by_one Up x.lo l) (end_by_one Up x.hi h) (end_by_one Up x.hi h))

pub one_times : (x : Bounds) → IsNumber x.lo → IsNumber x.hi → IsInterval x → product_of one_slope x ≡ x
unfolding product_of
one_times x l h i =
    same_ends (product_of one_slope x) x
    (least_mixed _ _ _ _ x.lo x.hi i.ordered (end_one_by Down x.lo l) (end_one_by Down x.hi h) (end_one_by Down x.lo l) (end_one_by Down x.hi h))
    (greatest_mixed _ _ _ _ x.lo x.hi i.ordered (end_one_by Up x.lo l) (end_one_by Up x.hi h) (end_one_by Up x.lo l) (end_one_by Up x.hi h))

either_way : (t : Bool) (e d : Extended) → d ≡ e → (if t then e else d) ≡ e
either_way true e d h = refl
either_way false e d h = h

pub first_power : (x : Bounds) → power_of x 1 ≡ x
unfolding power_of
first_power x =
    same_ends (power_of x 1) x
    (either_way (le nought x.lo) x.lo (neg_of (neg_of x.lo)) (neg_twice x.lo))
    (either_way (le nought x.hi) x.hi (neg_of (neg_of x.hi)) (neg_twice x.hi))

-- ---- rows of the table where one part's slope is [0,0]; f and d are what the parts' slopes are multiplied by

pub first_product : (f d s : Bounds) → IsNumber (product_of d s).lo → IsNumber (product_of d s).hi
    → sum_of (product_of f zero_slope) (product_of d s) ≡ product_of d s
first_product f d s l h = ap (λ x. sum_of x (product_of d s)) (times_zero f) ∙ nought_add (product_of d s) l h

pub second_product : (f d t : Bounds) → IsNumber (product_of f t).lo → IsNumber (product_of f t).hi
    → sum_of (product_of f t) (product_of d zero_slope) ≡ product_of f t
second_product f d t l h = ap (sum_of (product_of f t)) (times_zero d) ∙ add_nought (product_of f t) l h

pub first_quotient : (by g s : Bounds) → IsNumber s.lo → IsNumber s.hi → quotient_slope by g s zero_slope ≡ known (quotient_of s g)
first_quotient by g s l h =
    ap (λ x. known (quotient_of (difference_of s x) g)) (times_zero by) ∙ ap (λ x. known (quotient_of x g)) (take_nought s l h)

pub second_quotient : (by g t : Bounds) → IsNumber (product_of by t).lo → IsNumber (product_of by t).hi
    → quotient_slope by g zero_slope t ≡ known (quotient_of (negated (product_of by t)) g)
second_quotient by g t l h = ap (λ x. known (quotient_of x g)) (nought_take (product_of by t) l h)

-- a slope [0,0] adds nothing
pub add_still : (sum slope x : Bounds) → IsNumber sum.lo → IsNumber sum.hi → slope ≡ zero_slope → sum_of sum (product_of slope x) ≡ sum
add_still sum slope x l h e = ap (λ y. sum_of sum (product_of y x)) e ∙ ap (sum_of sum) (zero_times x) ∙ add_nought sum l h

-- ---- the first and the last of the terms of a power's factor

pub first_term : (f c : Bounds) (n k : ℕ) → IsNumber (power_of c n).lo → IsNumber (power_of c n).hi → IsInterval (power_of c n) → k ≡ 0 → power_of c n ≡ power_term f c n k
first_term f c n k l h i e =
    let all : n - 0 ≡ n = omega arith in
    sym (ap (power_term f c n) e ∙ ap (λ j. product_of (power_of f 0) (power_of c j)) all
    ∙ ap (λ x. product_of x (power_of c n)) (one_power f) ∙ one_times (power_of c n) l h i)

pub last_term : (f c : Bounds) (n k : ℕ) → IsNumber (power_of f n).lo → IsNumber (power_of f n).hi → IsInterval (power_of f n) → k ≡ n → power_of f n ≡ power_term f c n k
last_term f c n k l h i e =
    let none : n - n ≡ 0 = omega arith in
    sym (ap (power_term f c n) e ∙ ap (λ j. product_of (power_of f n) (power_of c j)) none
    ∙ ap (product_of (power_of f n)) (one_power c) ∙ times_one (power_of f n) l h i)
