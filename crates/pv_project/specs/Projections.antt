-- The projections of an operation: what its arguments can be where its result lies in z. None is empty.
use Rattle.std.specs.Prelude.{ℕ, ◌%◌, ◌&&◌, pos, Option, Some, None, if◌then◌else◌, eqb}
use Rattle.pv_num.specs.Extended.{Extended, NegInf, Fin, PosInf}
use Rattle.pv_num.specs.Grid.{unit}
use Rattle.pv_num.specs.Order.{le, lt}
use Rattle.pv_num.specs.Arithmetic.{neg_of, root_of}
use Rattle.pv_num.specs.declared.num.End.TheVariants.{Down, Up}
use Rattle.pv_interval.specs.Bounds.{Bounds, between, everything}
use Rattle.pv_interval.specs.Tables.{nought, has_nought, is_nought, holds, sum_of, difference_of, product_of, quotient_of, negated, meet_of, hull_of}

-- the second step on what the first one gives; empty where one of them is
abbrev pub chain : {A B : Type 0} → Option A → (A → Option B) → Option B
chain None f = None
chain (Some x) f = f x

-- both arguments, the second one narrowed by the first
abbrev pub narrowed : Option Bounds → (Bounds → Option Bounds) → Option (Bounds × Bounds)
narrowed x f = chain x (λ x'. chain (f x') (λ y'. Some (x', y')))

-- the numbers that times one of y can give one of z
abbrev pub factor_of : Bounds → Bounds → Option Bounds
factor_of z y = if has_nought z && has_nought y then Some everything else quotient_of z y

unfoldable pub back_add_of : Bounds → Bounds → Bounds → Option (Bounds × Bounds)
back_add_of z x y = narrowed (meet_of x (difference_of z y)) (λ x'. meet_of y (difference_of z x'))

unfoldable pub back_sub_of : Bounds → Bounds → Bounds → Option (Bounds × Bounds)
back_sub_of z x y = narrowed (meet_of x (sum_of z y)) (λ x'. meet_of y (difference_of x' z))

unfoldable pub back_mul_of : Bounds → Bounds → Bounds → Option (Bounds × Bounds)
back_mul_of z x y =
    narrowed (chain (factor_of z y) (λ q. meet_of x q)) (λ x'. chain (factor_of z x') (λ q. meet_of y q))

unfoldable pub back_div_of : Bounds → Bounds → Bounds → Option (Bounds × Bounds)
back_div_of z x y =
    if is_nought y then None
    else narrowed (meet_of x (product_of z y)) (λ x'. chain (factor_of x' z) (λ q. meet_of y q))

-- what one argument can be where the least of it and one of y lies in z
abbrev pub least_side : Bounds → Bounds → Bounds
least_side z y = if lt z.hi y.lo then z else between z.lo PosInf

unfoldable pub back_min_of : Bounds → Bounds → Bounds → Option (Bounds × Bounds)
back_min_of z x y = narrowed (meet_of x (least_side z y)) (λ x'. meet_of y (least_side z x'))

-- what one argument can be where the greatest of it and one of y lies in z
abbrev pub greatest_side : Bounds → Bounds → Bounds
greatest_side z y = if lt y.hi z.lo then z else between NegInf z.hi

unfoldable pub back_max_of : Bounds → Bounds → Bounds → Option (Bounds × Bounds)
back_max_of z x y = narrowed (meet_of x (greatest_side z y)) (λ x'. meet_of y (greatest_side z x'))

unfoldable pub back_neg_of : Bounds → Bounds → Option Bounds
back_neg_of z x = meet_of x (negated z)

-- the hull of two parts, of which each may be empty
abbrev pub hull_of_parts : Option Bounds → Option Bounds → Option Bounds
hull_of_parts None None = None
hull_of_parts None (Some b) = Some b
hull_of_parts (Some a) None = Some a
hull_of_parts (Some a) (Some b) = Some (hull_of a b)

-- the numbers of x in w, and those whose opposite is in w
abbrev pub both_signs : Bounds → Bounds → Option Bounds
both_signs x w = hull_of_parts (meet_of x w) (meet_of x (negated w))

unfoldable pub back_abs_of : Bounds → Bounds → Option Bounds
back_abs_of z x = chain (meet_of z (between nought PosInf)) (λ w. both_signs x w)

-- the ends between which the odd roots of z lie
abbrev pub odd_low : Extended → ℕ → Extended
odd_low NegInf n = NegInf
odd_low (Fin a) n = if le nought (Fin a) then root_of Down (Fin a) n else neg_of (root_of Up (neg_of (Fin a)) n)
odd_low PosInf n = root_of Down PosInf n

abbrev pub odd_high : Extended → ℕ → Extended
odd_high e n = if le nought e then root_of Up e n else neg_of (root_of Down (neg_of e) n)

-- the roots that are not negative
abbrev pub even_roots : Bounds → ℕ → Bounds
even_roots w n = between (root_of Down w.lo n) (root_of Up w.hi n)

unfoldable pub back_pow_of : Bounds → Bounds → ℕ → Option Bounds
back_pow_of z x n =
    if eqb n 0 then (if holds z (Fin (pos unit)) then Some x else None)
    else if eqb (n % 2) 0 then chain (meet_of z (between nought PosInf)) (λ w. both_signs x (even_roots w n))
    else meet_of x (between (odd_low z.lo n) (odd_high z.hi n))
