-- What settles a box in numbers of the format leaves numbers of the format: so each stage of the open search box has them.
use Rattle.std.proofs.Common.{◌≡◌, ℕ, zero, suc, ◌+◌, ◌-◌, ◌%◌, ◌/◌, Bool, true, false, cond, arith, ℤ, pos, negsuc, neg_ℤ}
use Rattle.std.specs.Prelude.{Option, Some, None, eqb, ◌&&◌}
use Rattle.pv_num.specs.Extended.{Extended, NegInf, Fin, PosInf}
use Rattle.pv_num.specs.Grid.{unit}
use Rattle.pv_num.specs.Order.{le, lt, lesser, greater}
use Rattle.pv_num.specs.Parts.{IsNumber}
use Rattle.pv_num.specs.Rounding.{rounded, is_size, top_size, size_below, size_above, greatest_upto, at_most_minus, at_least_plus}
use Rattle.pv_num.specs.Arithmetic.{neg_of, add_of, mul_of, div_of, end_of, infinite_by, rounded_quotient, pow_of, root_of, is_root_below, is_root_above}
use Rattle.pv_num.specs.declared.num.End.{End}
use Rattle.pv_num.specs.declared.num.End.TheVariants.{Down, Up}
use Rattle.pv_num.proofs.Signs.{neg_grid, zero_grid}
use Rattle.pv_num.proofs.Rounds.{is_grid}
use Rattle.pv_num.proofs.Rounding.{Found, first_from-found, greatest_upto-passes, size-grid, grid-size}
use Rattle.pv_interval.specs.Bounds.{Bounds, everything, between}
use Rattle.pv_interval.specs.Tables.{nought, exactly, is_from_nought, is_to_nought, is_nought, has_nought, crosses_nought, holds, sum_of, difference_of, of_ends, product_of, negated, absolute, least_of, greatest_of, signed_power, odd_power, even_power, power_of, over_from_nought, over_to_nought, quotient_across, quotient_of, hull_of, meet_of}
use Rattle.pv_interval.proofs.Orders.{cond_keeps}
use Rattle.pv_project.specs.Projections.{chain, narrowed, factor_of, back_add_of, back_sub_of, back_mul_of, back_div_of, least_side, back_min_of, greatest_side, back_max_of, back_neg_of, hull_of_parts, both_signs, back_abs_of, odd_low, odd_high, even_roots, back_pow_of}
use Rattle.pv_file.specs.Readings.{HasNumberEnds}
use Rattle.pv_ctc.proofs.Noting.{and_first}
use Rattle.pv_slope.proofs.Numbers.{neg_number}

-- ---- Numbers

-- whichever of two is chosen
pub either : {A : Type 0} (P : A → Type 0) (t : Bool) (x y : A) → P x → P y → P (cond t x y)
either P true x y p q = p
either P false x y p q = q

pub nought_is : IsNumber (Fin (pos 0))
nought_is = zero_grid

unit_is : IsNumber (Fin (pos unit))
unfolding unit
unit_is = is_grid 1 512 (omega arith) (omega arith)

below_is : (p : ℕ → Bool) (n : ℕ) → p 0 ≡ true → ((m : ℕ) → p m ≡ true → is_size m ≡ true) → IsNumber (Fin (pos (greatest_upto p n)))
below_is p n z sizes = size-grid _ (sizes _ (greatest_upto-passes p n z))

found_low : (count n : ℕ) (o : Option ℕ) → Found is_size count n o → IsNumber (at_most_minus o)
found_low count n None f = tt
found_low count n (Some r) f = neg_grid (pos r) (size-grid r f.passes)

found_high : (p : ℕ → Bool) (count n : ℕ) (o : Option ℕ) → ((m : ℕ) → p m ≡ true → is_size m ≡ true) → Found p count n o → IsNumber (at_least_plus o)
found_high p count n None sizes f = tt
found_high p count n (Some r) sizes f = size-grid r (sizes r f.passes)

size_below_is : (n : ℕ) → IsNumber (Fin (pos (size_below n)))
unfolding size_below
size_below_is n = below_is is_size n (grid-size 0 zero_grid) (λ m t. t)

above_low : (n : ℕ) → IsNumber (at_most_minus (size_above n))
unfolding size_above
above_low n = found_low (suc top_size - n) n _ (first_from-found is_size (suc top_size - n) n)

above_high : (n : ℕ) → IsNumber (at_least_plus (size_above n))
unfolding size_above
above_high n = found_high is_size (suc top_size - n) n _ (λ m t. t) (first_from-found is_size (suc top_size - n) n)

pub rounded_is : (side : End) (a : ℤ) (b : ℕ) → IsNumber (rounded side a b)
unfolding rounded
rounded_is Down (pos n) b = size_below_is (n / b)
rounded_is Down (negsuc n) b = above_low ((suc n + (b - 1)) / b)
rounded_is Up (pos n) b = above_high ((n + (b - 1)) / b)
rounded_is Up (negsuc n) b = neg_number (Fin (pos (size_below (suc n / b)))) (size_below_is (suc n / b))

end_is : (side : End) → IsNumber (end_of side)
end_is Down = tt
end_is Up = tt

add_is : (side : End) (x y : Extended) → IsNumber (add_of side x y)
add_is side NegInf NegInf = tt
add_is side NegInf (Fin b) = tt
add_is side NegInf PosInf = end_is side
add_is side (Fin a) NegInf = tt
add_is side (Fin a) (Fin b) = rounded_is side _ 1
add_is side (Fin a) PosInf = tt
add_is side PosInf NegInf = end_is side
add_is side PosInf (Fin b) = tt
add_is side PosInf PosInf = tt

infinite_is : (z : ℤ) → IsNumber (infinite_by z)
infinite_is (pos zero) = nought_is
infinite_is (pos (suc n)) = tt
infinite_is (negsuc n) = tt

mul_is : (side : End) (x y : Extended) → IsNumber (mul_of side x y)
mul_is side NegInf NegInf = tt
mul_is side NegInf (Fin b) = infinite_is (neg_ℤ b)
mul_is side NegInf PosInf = tt
mul_is side (Fin a) NegInf = infinite_is (neg_ℤ a)
mul_is side (Fin a) (Fin b) = rounded_is side _ unit
mul_is side (Fin a) PosInf = infinite_is a
mul_is side PosInf NegInf = tt
mul_is side PosInf (Fin b) = infinite_is b
mul_is side PosInf PosInf = tt

rounded_quotient_is : (side : End) (a b : ℤ) → IsNumber (rounded_quotient side a b)
rounded_quotient_is side a (pos b) = rounded_is side _ b
rounded_quotient_is side a (negsuc b) = rounded_is side _ (suc b)

div_is : (side : End) (x y : Extended) → IsNumber (div_of side x y)
div_is side NegInf NegInf = nought_is
div_is side NegInf (Fin b) = infinite_is (neg_ℤ b)
div_is side NegInf PosInf = nought_is
div_is side (Fin a) NegInf = nought_is
div_is side (Fin a) (Fin b) = rounded_quotient_is side a b
div_is side (Fin a) PosInf = nought_is
div_is side PosInf NegInf = nought_is
div_is side PosInf (Fin b) = infinite_is b
div_is side PosInf PosInf = nought_is

pow_is : (side : End) (x : Extended) (n : ℕ) → IsNumber x → IsNumber (pow_of side x n)
pow_is side x zero h = unit_is
pow_is side x (suc zero) h = h
pow_is side x (suc (suc n)) h = mul_is side (pow_of side x (suc n)) x

root_below_is : (z : Extended) (n k : ℕ) → IsNumber (Fin (pos (greatest_upto (is_root_below z n) k)))
unfolding greatest_upto
root_below_is z n zero = nought_is
root_below_is z n (suc k) =
    cond_keeps (λ (m : ℕ). IsNumber (Fin (pos m))) (is_root_below z n (suc k)) (suc k) (greatest_upto (is_root_below z n) k)
    (λ t. size-grid (suc k) (and_first (is_size (suc k)) (le (pow_of Up (Fin (pos (suc k))) n) z) t)) (λ f. root_below_is z n k)

root_is : (side : End) (z : Extended) (n : ℕ) → IsNumber (root_of side z n)
unfolding root_of
root_is Down z n = root_below_is z n top_size
root_is Up NegInf n = nought_is
root_is Up (Fin a) n = found_high (is_root_above (Fin a) n) (suc top_size) 0 _ (λ m t. and_first _ _ t) (first_from-found (is_root_above (Fin a) n) (suc top_size) 0)
root_is Up PosInf n = tt

pub lesser_is : (x y : Extended) → IsNumber x → IsNumber y → IsNumber (lesser x y)
lesser_is x y h k = either IsNumber (le x y) x y h k

pub greater_is : (x y : Extended) → IsNumber x → IsNumber y → IsNumber (greater x y)
greater_is x y h k = either IsNumber (le x y) y x k h

-- ---- Intervals

pub everything_is : HasNumberEnds everything
everything_is = record { lo = tt; hi = tt }

-- what is said of something, where it is there
abbrev pub Leaves : {A : Type 0} → (A → Type 0) → Option A → Type 0
Leaves P None = Unit {0}
Leaves P (Some x) = P x

pub sum_is : (x y : Bounds) → HasNumberEnds (sum_of x y)
unfolding sum_of
sum_is x y = record { lo = add_is Down x.lo y.lo; hi = add_is Up x.hi y.hi }

pub difference_is : (x y : Bounds) → HasNumberEnds (difference_of x y)
unfolding difference_of
difference_is x y = record { lo = add_is Down x.lo (neg_of y.hi); hi = add_is Up x.hi (neg_of y.lo) }

ends_are : (op : End → Extended → Extended → Extended) → ((side : End) (a b : Extended) → IsNumber (op side a b)) → (x y : Bounds) → HasNumberEnds (of_ends op x y)
ends_are op h x y = record {
  lo = lesser_is _ _ (lesser_is _ _ (h Down x.lo y.lo) (h Down x.lo y.hi)) (lesser_is _ _ (h Down x.hi y.lo) (h Down x.hi y.hi));
  hi = greater_is _ _ (greater_is _ _ (h Up x.lo y.lo) (h Up x.lo y.hi)) (greater_is _ _ (h Up x.hi y.lo) (h Up x.hi y.hi));
}

pub product_is : (x y : Bounds) → HasNumberEnds (product_of x y)
unfolding product_of
product_is x y = ends_are mul_of mul_is x y

pub negated_is : (x : Bounds) → HasNumberEnds x → HasNumberEnds (negated x)
unfolding negated
negated_is x h = record { lo = neg_number x.hi h.hi; hi = neg_number x.lo h.lo }

pub absolute_is : (x : Bounds) → HasNumberEnds x → HasNumberEnds (absolute x)
unfolding absolute
absolute_is x h =
    either HasNumberEnds (is_from_nought x) x _ h
    (either HasNumberEnds (is_to_nought x) (negated x) _ (negated_is x h) (record { lo = nought_is; hi = greater_is (neg_of x.lo) x.hi (neg_number x.lo h.lo) h.hi }))

pub least_is : (x y : Bounds) → HasNumberEnds x → HasNumberEnds y → HasNumberEnds (least_of x y)
unfolding least_of
least_is x y h k = record { lo = lesser_is x.lo y.lo h.lo k.lo; hi = lesser_is x.hi y.hi h.hi k.hi }

pub greatest_is : (x y : Bounds) → HasNumberEnds x → HasNumberEnds y → HasNumberEnds (greatest_of x y)
unfolding greatest_of
greatest_is x y h k = record { lo = greater_is x.lo y.lo h.lo k.lo; hi = greater_is x.hi y.hi h.hi k.hi }

signed_power_is : (side other : End) (e : Extended) (n : ℕ) → IsNumber e → IsNumber (signed_power side other e n)
signed_power_is side other e n h =
    either IsNumber (le nought e) (pow_of side e n) (neg_of (pow_of other (neg_of e) n)) (pow_is side e n h)
    (neg_number (pow_of other (neg_of e) n) (pow_is other (neg_of e) n (neg_number e h)))

even_power_is : (x : Bounds) (n : ℕ) → HasNumberEnds x → HasNumberEnds (even_power x n)
even_power_is x n h =
    either HasNumberEnds (is_from_nought x) _ _ (record { lo = pow_is Down x.lo n h.lo; hi = pow_is Up x.hi n h.hi })
    (either HasNumberEnds (is_to_nought x) _ _ (record { lo = pow_is Down (neg_of x.hi) n (neg_number x.hi h.hi); hi = pow_is Up (neg_of x.lo) n (neg_number x.lo h.lo) })
    (record { lo = nought_is; hi = greater_is _ _ (pow_is Up (neg_of x.lo) n (neg_number x.lo h.lo)) (pow_is Up x.hi n h.hi) }))

pub power_is : (x : Bounds) (n : ℕ) → HasNumberEnds x → HasNumberEnds (power_of x n)
unfolding power_of
power_is x n h =
    either HasNumberEnds (eqb n 0) _ _ (record { lo = unit_is; hi = unit_is })
    (either HasNumberEnds (eqb (n % 2) 0) (even_power x n) (odd_power x n) (even_power_is x n h)
    (record { lo = signed_power_is Down Up x.lo n h.lo; hi = signed_power_is Up Down x.hi n h.hi }))

from_nought_is : (x : Bounds) (d : Extended) → HasNumberEnds (over_from_nought x d)
from_nought_is x d =
    either HasNumberEnds (is_from_nought x) _ _ (record { lo = div_is Down x.lo d; hi = tt })
    (either HasNumberEnds (is_to_nought x) _ _ (record { lo = tt; hi = div_is Up x.hi d }) everything_is)

to_nought_is : (x : Bounds) (c : Extended) → HasNumberEnds (over_to_nought x c)
to_nought_is x c =
    either HasNumberEnds (is_from_nought x) _ _ (record { lo = tt; hi = div_is Up x.lo c })
    (either HasNumberEnds (is_to_nought x) _ _ (record { lo = div_is Down x.hi c; hi = tt }) everything_is)

across_is : (x y : Bounds) → HasNumberEnds (quotient_across x y)
across_is x y =
    either HasNumberEnds (crosses_nought y) _ _ everything_is
    (either HasNumberEnds (le nought y.lo) _ _ (from_nought_is x y.hi) (to_nought_is x y.lo))

pub quotient_is : (x y : Bounds) → Leaves HasNumberEnds (quotient_of x y)
unfolding quotient_of
quotient_is x y =
    either (Leaves HasNumberEnds) (is_nought y) _ _ tt
    (either (Leaves HasNumberEnds) (has_nought y) _ _
    (either HasNumberEnds (is_nought x) (exactly nought) (quotient_across x y) (record { lo = nought_is; hi = nought_is }) (across_is x y))
    (ends_are div_of div_is x y))

pub hull_is : (x y : Bounds) → HasNumberEnds x → HasNumberEnds y → HasNumberEnds (hull_of x y)
unfolding hull_of
hull_is x y h k = record { lo = lesser_is x.lo y.lo h.lo k.lo; hi = greater_is x.hi y.hi h.hi k.hi }

pub meet_is : (x y : Bounds) → HasNumberEnds x → HasNumberEnds y → Leaves HasNumberEnds (meet_of x y)
unfolding meet_of
meet_is x y h k =
    either (Leaves HasNumberEnds) (le (greater x.lo y.lo) (lesser x.hi y.hi)) _ _
    (record { lo = greater_is x.lo y.lo h.lo k.lo; hi = lesser_is x.hi y.hi h.hi k.hi }) tt

-- ---- Projections

abbrev pub HaveBoth : Bounds × Bounds → Type 0
HaveBoth p = HasNumberEnds p.0 × HasNumberEnds p.1

pub chain_is : {A B : Type 0} (P : A → Type 0) (Q : B → Type 0) (o : Option A) (f : A → Option B) → Leaves P o → ((x : A) → P x → Leaves Q (f x)) → Leaves Q (chain o f)
chain_is P Q None f h k = tt
chain_is P Q (Some x) f h k = k x h

narrowed_is : (o : Option Bounds) (f : Bounds → Option Bounds) → Leaves HasNumberEnds o → ((x : Bounds) → HasNumberEnds x → Leaves HasNumberEnds (f x)) → Leaves HaveBoth (narrowed o f)
narrowed_is o f h k =
    chain_is HasNumberEnds HaveBoth o (λ x. chain (f x) (λ y. Some (x, y))) h
    (λ x n. chain_is HasNumberEnds HaveBoth (f x) (λ y. Some (x, y)) (k x n) (λ y m. (n, m)))

factor_is : (z y : Bounds) → Leaves HasNumberEnds (factor_of z y)
factor_is z y = either (Leaves HasNumberEnds) (has_nought z && has_nought y) (Some everything) (quotient_of z y) everything_is (quotient_is z y)

meet_factor_is : (x z y : Bounds) → HasNumberEnds x → Leaves HasNumberEnds (chain (factor_of z y) (λ q. meet_of x q))
meet_factor_is x z y h = chain_is HasNumberEnds HasNumberEnds (factor_of z y) (λ q. meet_of x q) (factor_is z y) (λ q n. meet_is x q h n)

pub back_add_is : (z x y : Bounds) → HasNumberEnds x → HasNumberEnds y → Leaves HaveBoth (back_add_of z x y)
unfolding back_add_of
back_add_is z x y h k =
    narrowed_is (meet_of x (difference_of z y)) (λ w. meet_of y (difference_of z w)) (meet_is x _ h (difference_is z y)) (λ w n. meet_is y _ k (difference_is z w))

pub back_sub_is : (z x y : Bounds) → HasNumberEnds x → HasNumberEnds y → Leaves HaveBoth (back_sub_of z x y)
unfolding back_sub_of
back_sub_is z x y h k =
    narrowed_is (meet_of x (sum_of z y)) (λ w. meet_of y (difference_of w z)) (meet_is x _ h (sum_is z y)) (λ w n. meet_is y _ k (difference_is w z))

pub back_mul_is : (z x y : Bounds) → HasNumberEnds x → HasNumberEnds y → Leaves HaveBoth (back_mul_of z x y)
unfolding back_mul_of
back_mul_is z x y h k =
    narrowed_is (chain (factor_of z y) (λ q. meet_of x q)) (λ w. chain (factor_of z w) (λ q. meet_of y q)) (meet_factor_is x z y h) (λ w n. meet_factor_is y z w k)

pub back_div_is : (z x y : Bounds) → HasNumberEnds x → HasNumberEnds y → Leaves HaveBoth (back_div_of z x y)
unfolding back_div_of
back_div_is z x y h k =
    either (Leaves HaveBoth) (is_nought y) None _ tt
    (narrowed_is (meet_of x (product_of z y)) (λ w. chain (factor_of w z) (λ q. meet_of y q)) (meet_is x _ h (product_is z y)) (λ w n. meet_factor_is y w z k))

least_side_is : (z y : Bounds) → HasNumberEnds z → HasNumberEnds (least_side z y)
least_side_is z y h = either HasNumberEnds (lt z.hi y.lo) z (between z.lo PosInf) h (record { lo = h.lo; hi = tt })

greatest_side_is : (z y : Bounds) → HasNumberEnds z → HasNumberEnds (greatest_side z y)
greatest_side_is z y h = either HasNumberEnds (lt y.hi z.lo) z (between NegInf z.hi) h (record { lo = tt; hi = h.hi })

pub back_min_is : (z x y : Bounds) → HasNumberEnds z → HasNumberEnds x → HasNumberEnds y → Leaves HaveBoth (back_min_of z x y)
unfolding back_min_of
back_min_is z x y g h k =
    narrowed_is (meet_of x (least_side z y)) (λ w. meet_of y (least_side z w)) (meet_is x _ h (least_side_is z y g)) (λ w n. meet_is y _ k (least_side_is z w g))

pub back_max_is : (z x y : Bounds) → HasNumberEnds z → HasNumberEnds x → HasNumberEnds y → Leaves HaveBoth (back_max_of z x y)
unfolding back_max_of
back_max_is z x y g h k =
    narrowed_is (meet_of x (greatest_side z y)) (λ w. meet_of y (greatest_side z w)) (meet_is x _ h (greatest_side_is z y g)) (λ w n. meet_is y _ k (greatest_side_is z w g))

pub back_neg_is : (z x : Bounds) → HasNumberEnds z → HasNumberEnds x → Leaves HasNumberEnds (back_neg_of z x)
unfolding back_neg_of
back_neg_is z x g h = meet_is x (negated z) h (negated_is z g)

parts_are : (o p : Option Bounds) → Leaves HasNumberEnds o → Leaves HasNumberEnds p → Leaves HasNumberEnds (hull_of_parts o p)
parts_are None None h k = tt
parts_are None (Some b) h k = k
parts_are (Some a) None h k = h
parts_are (Some a) (Some b) h k = hull_is a b h k

signs_are : (x w : Bounds) → HasNumberEnds x → HasNumberEnds w → Leaves HasNumberEnds (both_signs x w)
signs_are x w h k = parts_are (meet_of x w) (meet_of x (negated w)) (meet_is x w h k) (meet_is x (negated w) h (negated_is w k))

from_nought_on : HasNumberEnds (between nought PosInf)
from_nought_on = record { lo = nought_is; hi = tt }

pub back_abs_is : (z x : Bounds) → HasNumberEnds z → HasNumberEnds x → Leaves HasNumberEnds (back_abs_of z x)
unfolding back_abs_of
back_abs_is z x g h =
    chain_is HasNumberEnds HasNumberEnds (meet_of z (between nought PosInf)) (λ w. both_signs x w) (meet_is z _ g from_nought_on) (λ w n. signs_are x w h n)

odd_low_is : (e : Extended) (n : ℕ) → IsNumber (odd_low e n)
odd_low_is NegInf n = tt
odd_low_is (Fin a) n =
    either IsNumber (le nought (Fin a)) (root_of Down (Fin a) n) (neg_of (root_of Up (neg_of (Fin a)) n)) (root_is Down (Fin a) n)
    (neg_number (root_of Up (neg_of (Fin a)) n) (root_is Up (neg_of (Fin a)) n))
odd_low_is PosInf n = root_is Down PosInf n

odd_high_is : (e : Extended) (n : ℕ) → IsNumber (odd_high e n)
odd_high_is e n =
    either IsNumber (le nought e) (root_of Up e n) (neg_of (root_of Down (neg_of e) n)) (root_is Up e n)
    (neg_number (root_of Down (neg_of e) n) (root_is Down (neg_of e) n))

even_roots_are : (w : Bounds) (n : ℕ) → HasNumberEnds (even_roots w n)
even_roots_are w n = record { lo = root_is Down w.lo n; hi = root_is Up w.hi n }

pub back_pow_is : (z x : Bounds) (n : ℕ) → HasNumberEnds z → HasNumberEnds x → Leaves HasNumberEnds (back_pow_of z x n)
unfolding back_pow_of
back_pow_is z x n g h =
    either (Leaves HasNumberEnds) (eqb n 0) _ _ (either (Leaves HasNumberEnds) (holds z (Fin (pos unit))) (Some x) None h tt)
    (either (Leaves HasNumberEnds) (eqb (n % 2) 0) _ _
    (chain_is HasNumberEnds HasNumberEnds (meet_of z (between nought PosInf)) (λ w. both_signs x (even_roots w n)) (meet_is z _ g from_nought_on)
    (λ w m. signs_are x (even_roots w n) h (even_roots_are w n)))
    (meet_is x (between (odd_low z.lo n) (odd_high z.hi n)) h (record { lo = odd_low_is z.lo n; hi = odd_high_is z.hi n })))
