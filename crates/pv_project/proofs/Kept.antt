-- The projections lose no argument that a result in z allows.
use Rattle.std.proofs.Common.{◌≡◌, ◌≢◌, ◌⊎◌, inl, inr, ℕ, zero, suc, ◌<◌, ◌*◌, refl, arith, ◌∙◌, ap, subst, cond}
use Rattle.std.specs.Prelude.{Bool, true, false, ◌&&◌, ℤ, pos, negsuc, ◌*ℤ◌, ◌≤ℤ◌, Option, Some, None}
use Rattle.std.proofs.lemmas.Int.{ints}
use Rattle.std.proofs.Math.IntN.{*ℤ-zero}
use Rattle.std.specs.Int.RustNames.{unsigned_abs}
use lib.IntN.{neg_ℤ}
use Rattle.pv_num.specs.Extended.{Extended, NegInf, PosInf}
use Rattle.pv_num.specs.Order.{le, lt}
use Rattle.pv_interval.specs.Bounds.{Bounds, between, everything}
use Rattle.pv_interval.specs.Fractions.{Fraction, plus, minus, times, over, over_parts, opposite, size, least, greatest, below}
use Rattle.pv_interval.specs.Points.{IsBelow, IsAbove, Lies, LiesIn, LiesInSome}
use Rattle.pv_interval.specs.Tables.{nought, has_nought, is_nought, sum_of, difference_of, product_of, quotient_of, negated, meet_of}
use Rattle.pv_interval.proofs.Ends.{lt_not}
use Rattle.pv_interval.proofs.Values.{across}
use Rattle.pv_interval.proofs.Multiples.{zero_below, zero_above}
use Rattle.pv_interval.proofs.Keeps.{sum_keeps, difference_keeps, product_keeps, opposite_keeps, by_sign, some_times}
use Rattle.pv_interval.proofs.Orders.{meet_keeps, hull_keeps_left, hull_keeps_right, cond_keeps, above_down, below_up, lt_fact, not_lt_fact, size_from, size_to}
use Rattle.pv_interval.proofs.Powers.{opposite_twice}
use Rattle.pv_interval.proofs.Quotients.{quotient_keeps, zero_top, both}
use Rattle.pv_project.specs.Projections.{chain, narrowed, factor_of, back_add_of, back_sub_of, back_mul_of, back_div_of, back_neg_of, back_min_of, back_max_of, back_abs_of, least_side, greatest_side, hull_of_parts, both_signs}
use Rattle.pv_project.specs.Kept.{PairIn}
use Rattle.pv_project.proofs.Same.{IsSame, same_back, same_lies, plus_swap, times_swap, same_add, same_sub, same_less, same_quotient_up, same_quotient_down, same_product_up, same_product_down}

-- ---- one step after another

pair_by : (f g : Fraction) (x : Bounds) (o : Option Bounds) → LiesIn f x → LiesInSome g.top g.under o
    → PairIn f g (chain o (λ y. Some (x, y)))
pair_by f g x None h k = absurd k
pair_by f g x (Some y) h k = (h, k)

pub narrowed_keeps : (f g : Fraction) (o : Option Bounds) (step : Bounds → Option Bounds) → LiesInSome f.top f.under o
    → ((x : Bounds) → LiesIn f x → LiesInSome g.top g.under (step x)) → PairIn f g (narrowed o step)
narrowed_keeps f g None step h k = absurd h
narrowed_keeps f g (Some x) step h k = pair_by f g x (step x) h (k x h)

pub chain_keeps : (f g : Fraction) (o : Option Bounds) (step : Bounds → Option Bounds) → LiesInSome f.top f.under o
    → ((x : Bounds) → LiesIn f x → LiesInSome g.top g.under (step x)) → LiesInSome g.top g.under (chain o step)
chain_keeps f g None step h k = absurd h
chain_keeps f g (Some x) step h k = k x h

-- ---- sums and differences

left_of_sum : (f g : Fraction) (z y : Bounds) → LiesIn (plus f g) z → 0 < f.under → LiesIn g y → LiesIn f (difference_of z y)
left_of_sum f g z y h p k =
    same_lies f (minus (plus f g) g) (difference_of z y) (same_add f g) p (difference_keeps (plus f g) g z y h k)

pub back_add_keeps : (f g : Fraction) (z x y : Bounds) → LiesIn f x → LiesIn g y → LiesIn (plus f g) z
    → PairIn f g (back_add_of z x y)
unfolding back_add_of
back_add_keeps f g z x y h k l = narrowed_keeps f g (meet_of x (difference_of z y)) (λ x'. meet_of y (difference_of z x'))
    (meet_keeps f.top f.under x (difference_of z y) h (left_of_sum f g z y l h.some k))
    (λ x' i. meet_keeps g.top g.under y (difference_of z x') k
    (left_of_sum g f z x' (subst (λ w. LiesIn w z) (plus_swap f g) l) k.some i))

pub back_sub_keeps : (f g : Fraction) (z x y : Bounds) → LiesIn f x → LiesIn g y → LiesIn (minus f g) z
    → PairIn f g (back_sub_of z x y)
unfolding back_sub_of
back_sub_keeps f g z x y h k l = narrowed_keeps f g (meet_of x (sum_of z y)) (λ x'. meet_of y (difference_of x' z))
    (meet_keeps f.top f.under x (sum_of z y) h
    (same_lies f (plus (minus f g) g) (sum_of z y) (same_sub f g) h.some (sum_keeps (minus f g) g z y l k)))
    (λ x' i. meet_keeps g.top g.under y (difference_of x' z) k
    (same_lies g (minus f (minus f g)) (difference_of x' z) (same_less f g) k.some (difference_keeps f (minus f g) x' z i l)))

-- ---- products and quotients

same_lies_some : (f g : Fraction) (o : Option Bounds) → IsSame f g → 0 < f.under → LiesInSome g.top g.under o → LiesInSome f.top f.under o
same_lies_some f g None s p h = absurd h
same_lies_some f g (Some x) s p h = same_lies f g x s p h

holds_zero : (n : ℤ) (d : ℕ) (x : Bounds) → n ≡ pos 0 → Lies n d x → has_nought x ≡ true
holds_zero n d x e h =
    both_true (le x.lo nought) (le nought x.hi)
    (across x.lo nought n d h.some h.low (zero_above n d (omega (arith, ints))))
    (across nought x.hi n d h.some (zero_below n d (omega (arith, ints))) h.high)
  where
    both_true : (s t : Bool) → s ≡ true → t ≡ true → s && t ≡ true
    both_true s t h k = ap (λ w. w && t) h ∙ k

all_lies : (n : ℤ) (d : ℕ) → 0 < d → Lies n d everything
all_lies n d p = record { some = p; low = tt; high = tt }

factor_by : (f : Fraction) (n : ℤ) (s : ℕ) (z y : Bounds) → LiesIn (times f (record { top = n; under = s })) z → 0 < f.under → Lies n s y
    → LiesInSome f.top f.under (factor_of z y)
factor_by f (pos zero) s z y l p k =
    cond_keeps (LiesInSome f.top f.under) (has_nought z && has_nought y) (Some everything) (quotient_of z y)
    (λ t. all_lies f.top f.under p)
    (λ t. absurd (both (has_nought z) (has_nought y)
    (holds_zero (f.top *ℤ pos 0) (f.under * s) z (*ℤ-zero f.top) l) (holds_zero (pos 0) s y refl k) t))
factor_by f (pos (suc r)) s z y l p k =
    cond_keeps (LiesInSome f.top f.under) (has_nought z && has_nought y) (Some everything) (quotient_of z y)
    (λ t. all_lies f.top f.under p)
    (λ t. let g : Fraction = record { top = pos (suc r); under = s } in
    let h : Fraction = record { top = (f.top *ℤ pos (suc r)) *ℤ pos s; under = (f.under * s) * suc r } in
    same_lies_some f h (quotient_of z y) (same_quotient_up f r s) p (quotient_keeps (times f g) g h z y refl l k))
factor_by f (negsuc r) s z y l p k =
    cond_keeps (LiesInSome f.top f.under) (has_nought z && has_nought y) (Some everything) (quotient_of z y)
    (λ t. all_lies f.top f.under p)
    (λ t. let g : Fraction = record { top = negsuc r; under = s } in
    let h : Fraction = record { top = neg_ℤ ((f.top *ℤ negsuc r) *ℤ pos s); under = (f.under * s) * suc r } in
    same_lies_some f h (quotient_of z y) (same_quotient_down f r s) p (quotient_keeps (times f g) g h z y refl l k))

pub factor_keeps : (f g : Fraction) (z y : Bounds) → LiesIn (times f g) z → 0 < f.under → LiesIn g y → LiesInSome f.top f.under (factor_of z y)
factor_keeps f g z y l p k = factor_by f g.top g.under z y l p k

meet_factor : (f g : Fraction) (x z y : Bounds) → LiesIn f x → LiesIn (times f g) z → LiesIn g y
    → LiesInSome f.top f.under (chain (factor_of z y) (λ q. meet_of x q))
meet_factor f g x z y h l k = chain_keeps f f (factor_of z y) (λ q. meet_of x q) (factor_keeps f g z y l h.some k)
    (λ q i. meet_keeps f.top f.under x q h i)

pub back_mul_keeps : (f g : Fraction) (z x y : Bounds) → LiesIn f x → LiesIn g y → LiesIn (times f g) z
    → PairIn f g (back_mul_of z x y)
unfolding back_mul_of
back_mul_keeps f g z x y h k l =
    narrowed_keeps f g (chain (factor_of z y) (λ q. meet_of x q)) (λ x'. chain (factor_of z x') (λ q. meet_of y q))
    (meet_factor f g x z y h l k)
    (λ x' i. meet_factor g f y z x' k (subst (λ w. LiesIn w z) (times_swap f g) l) i)

-- h is f / g, so f is h g
div_with : (f g h : Fraction) (z x y : Bounds) → IsSame f (times h g) → is_nought y ≡ false → LiesIn f x → LiesIn g y → LiesIn h z
    → PairIn f g (back_div_of z x y)
unfolding back_div_of
div_with f g h z x y s n p q l =
    cond_keeps (PairIn f g) (is_nought y) None (narrowed (meet_of x (product_of z y)) (λ x'. chain (factor_of x' z) (λ q. meet_of y q)))
    (λ t. absurd (cc))
    (λ t. narrowed_keeps f g (meet_of x (product_of z y)) (λ x'. chain (factor_of x' z) (λ q. meet_of y q))
    (meet_keeps f.top f.under x (product_of z y) p
    (same_lies f (times h g) (product_of z y) s p.some (product_keeps h g z y l q)))
    (λ x' i. meet_factor g h y x' z q
    (subst (λ w. LiesIn w x') (times_swap h g)
    (same_lies (times h g) f x' (same_back f (times h g) s) (some_times h.under g.under l.some q.some) i)) l))

not_zero : (n : ℤ) (s : ℕ) (y : Bounds) → n ≢ pos 0 → Lies n s y → is_nought y ≡ false
not_zero n s y e h = by_value (is_nought y) refl
  where
    by_value : (t : Bool) → is_nought y ≡ t → is_nought y ≡ false
    by_value true k = absurd (e (zero_top (record { top = n; under = s }) y k h))
    by_value false k = k

div_by : (f : Fraction) (n : ℤ) (s : ℕ) (h : Fraction) (z x y : Bounds) → over_parts f n s ≡ Some h → LiesIn f x → Lies n s y → LiesIn h z
    → PairIn f (record { top = n; under = s }) (back_div_of z x y)
div_by f (pos zero) s h z x y e p q l = absurd (cc)
div_by f (pos (suc r)) s h z x y e p q l =
    let g : Fraction = record { top = pos (suc r); under = s } in
    let k : Fraction = record { top = f.top *ℤ pos s; under = f.under * suc r } in
    let i : h ≡ k = cc in
    div_with f g k z x y (same_product_up f r s) (not_zero (pos (suc r)) s y (λ w. cc) q) p q (subst (λ w. LiesIn w z) i l)
div_by f (negsuc r) s h z x y e p q l =
    let g : Fraction = record { top = negsuc r; under = s } in
    let k : Fraction = record { top = neg_ℤ (f.top *ℤ pos s); under = f.under * suc r } in
    let i : h ≡ k = cc in
    div_with f g k z x y (same_product_down f r s) (not_zero (negsuc r) s y (λ w. cc) q) p q (subst (λ w. LiesIn w z) i l)

pub back_div_keeps : (f g h : Fraction) (z x y : Bounds) → over f g ≡ Some h → LiesIn f x → LiesIn g y → LiesIn h z
    → PairIn f g (back_div_of z x y)
back_div_keeps f g h z x y e p q l = div_by f g.top g.under h z x y e p q l

-- ---- opposite and absolute values

pub back_neg_keeps : (f : Fraction) (z x : Bounds) → LiesIn f x → LiesIn (opposite f) z → LiesInSome f.top f.under (back_neg_of z x)
unfolding back_neg_of
back_neg_keeps f z x h l = meet_keeps f.top f.under x (negated z) h
    (subst (λ w. LiesIn w (negated z)) (opposite_twice f) (opposite_keeps (opposite f) z l))

parts_left : (n : ℤ) (d : ℕ) (a b : Option Bounds) → LiesInSome n d a → LiesInSome n d (hull_of_parts a b)
parts_left n d None b h = absurd h
parts_left n d (Some a) None h = h
parts_left n d (Some a) (Some b) h = hull_keeps_left n d a b h

parts_right : (n : ℤ) (d : ℕ) (a b : Option Bounds) → LiesInSome n d b → LiesInSome n d (hull_of_parts a b)
parts_right n d a None h = absurd h
parts_right n d None (Some b) h = h
parts_right n d (Some a) (Some b) h = hull_keeps_right n d a b h

-- a number, or its opposite, in w
pub signs_keep : (f : Fraction) (x w : Bounds) → LiesIn f x → (LiesIn f w ⊎ LiesIn (opposite f) w) → LiesInSome f.top f.under (both_signs x w)
signs_keep f x w h (inl k) = parts_left f.top f.under (meet_of x w) (meet_of x (negated w)) (meet_keeps f.top f.under x w h k)
signs_keep f x w h (inr k) = parts_right f.top f.under (meet_of x w) (meet_of x (negated w))
    (meet_keeps f.top f.under x (negated w) h
    (subst (λ v. LiesIn v (negated w)) (opposite_twice f) (opposite_keeps (opposite f) w k)))

from_zero : (n : ℤ) (d : ℕ) → 0 < d → pos 0 ≤ℤ n → Lies n d (between nought PosInf)
from_zero n d p h = record { some = p; low = zero_below n d h; high = tt }

size_not_negative : (n : ℤ) → pos 0 ≤ℤ pos (unsigned_abs n)
size_not_negative n = omega (arith, ints)

pub back_abs_keeps : (f : Fraction) (z x : Bounds) → LiesIn f x → LiesIn (size f) z → LiesInSome f.top f.under (back_abs_of z x)
unfolding back_abs_of
back_abs_keeps f z x h l = chain_keeps (size f) f (meet_of z (between nought PosInf)) (λ w. both_signs x w)
    (meet_keeps (size f).top f.under z (between nought PosInf) l (from_zero (size f).top f.under h.some (size_not_negative f.top)))
    (λ w i. signs_keep f x w h (by_sign f.top
    (λ s. inl (subst (λ v. Lies v f.under w) (size_from f.top s) i))
    (λ s. inr (subst (λ v. Lies v f.under w) (size_to f.top s) i))))

-- ---- least and greatest values

apart_clash : {P : Type 0} (a b : Extended) (n : ℤ) (d : ℕ) → lt a b ≡ true → 0 < d → IsAbove a n d → IsBelow b n d → P
apart_clash a b n d t p h k = let e = lt_not a b t in let q = across b a n d p k h in absurd (cc)

least_left : (f g : Fraction) (z y : Bounds) → 0 < f.under → LiesIn g y → LiesIn (least f g) z → LiesIn f (least_side z y)
least_left f g z y p k l = by_value (below g f) refl l
  where
    by_value : (b : Bool) → below g f ≡ b → LiesIn (cond b g f) z → LiesIn f (least_side z y)
    by_value true e l = cond_keeps (LiesIn f) (lt z.hi y.lo) z (between z.lo PosInf)
        (λ t. apart_clash z.hi y.lo g.top g.under t k.some l.high k.low)
        (λ t. record { some = p; low = below_up z.lo g.top f.top g.under f.under k.some (lt_fact _ _ e) l.low; high = tt })
    by_value false e l = cond_keeps (LiesIn f) (lt z.hi y.lo) z (between z.lo PosInf)
        (λ t. l) (λ t. record { some = p; low = l.low; high = tt })

least_right : (f g : Fraction) (z x : Bounds) → 0 < g.under → LiesIn f x → LiesIn (least f g) z → LiesIn g (least_side z x)
least_right f g z x p k l = by_value (below g f) refl l
  where
    by_value : (b : Bool) → below g f ≡ b → LiesIn (cond b g f) z → LiesIn g (least_side z x)
    by_value true e l = cond_keeps (LiesIn g) (lt z.hi x.lo) z (between z.lo PosInf)
        (λ t. l) (λ t. record { some = p; low = l.low; high = tt })
    by_value false e l = cond_keeps (LiesIn g) (lt z.hi x.lo) z (between z.lo PosInf)
        (λ t. apart_clash z.hi x.lo f.top f.under t k.some l.high k.low)
        (λ t. record { some = p; low = below_up z.lo f.top g.top f.under g.under k.some (not_lt_fact _ _ e) l.low; high = tt })

pub back_min_keeps : (f g : Fraction) (z x y : Bounds) → LiesIn f x → LiesIn g y → LiesIn (least f g) z
    → PairIn f g (back_min_of z x y)
unfolding back_min_of
back_min_keeps f g z x y h k l = narrowed_keeps f g (meet_of x (least_side z y)) (λ x'. meet_of y (least_side z x'))
    (meet_keeps f.top f.under x (least_side z y) h (least_left f g z y h.some k l))
    (λ x' i. meet_keeps g.top g.under y (least_side z x') k (least_right f g z x' k.some i l))

greatest_left : (f g : Fraction) (z y : Bounds) → 0 < f.under → LiesIn g y → LiesIn (greatest f g) z → LiesIn f (greatest_side z y)
greatest_left f g z y p k l = by_value (below f g) refl l
  where
    by_value : (b : Bool) → below f g ≡ b → LiesIn (cond b g f) z → LiesIn f (greatest_side z y)
    by_value true e l = cond_keeps (LiesIn f) (lt y.hi z.lo) z (between NegInf z.hi)
        (λ t. apart_clash y.hi z.lo g.top g.under t k.some k.high l.low)
        (λ t. record { some = p; low = tt; high = above_down z.hi g.top f.top g.under f.under k.some (lt_fact _ _ e) l.high })
    by_value false e l = cond_keeps (LiesIn f) (lt y.hi z.lo) z (between NegInf z.hi)
        (λ t. l) (λ t. record { some = p; low = tt; high = l.high })

greatest_right : (f g : Fraction) (z x : Bounds) → 0 < g.under → LiesIn f x → LiesIn (greatest f g) z → LiesIn g (greatest_side z x)
greatest_right f g z x p k l = by_value (below f g) refl l
  where
    by_value : (b : Bool) → below f g ≡ b → LiesIn (cond b g f) z → LiesIn g (greatest_side z x)
    by_value true e l = cond_keeps (LiesIn g) (lt x.hi z.lo) z (between NegInf z.hi)
        (λ t. l) (λ t. record { some = p; low = tt; high = l.high })
    by_value false e l = cond_keeps (LiesIn g) (lt x.hi z.lo) z (between NegInf z.hi)
        (λ t. apart_clash x.hi z.lo f.top f.under t k.some k.high l.low)
        (λ t. record { some = p; low = tt; high = above_down z.hi f.top g.top f.under g.under k.some (not_lt_fact _ _ e) l.high })

pub back_max_keeps : (f g : Fraction) (z x y : Bounds) → LiesIn f x → LiesIn g y → LiesIn (greatest f g) z
    → PairIn f g (back_max_of z x y)
unfolding back_max_of
back_max_keeps f g z x y h k l = narrowed_keeps f g (meet_of x (greatest_side z y)) (λ x'. meet_of y (greatest_side z x'))
    (meet_keeps f.top f.under x (greatest_side z y) h (greatest_left f g z y h.some k l))
    (λ x' i. meet_keeps g.top g.under y (greatest_side z x') k (greatest_right f g z x' k.some i l))
