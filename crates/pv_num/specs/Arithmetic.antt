use Rattle.std.specs.Prelude.{suc, zero, ℕ, ◌/◌, ℤ, pos, negsuc, neg_ℤ, ◌+ℤ◌, ◌*ℤ◌, unsigned_abs, Bool, ◌&&◌, cond, Option, Some, None}
use Rattle.pv_num.specs.Extended.{Extended, NegInf, Fin, PosInf}
use Rattle.pv_num.specs.Order.{lt, le}
use Rattle.pv_num.specs.Grid.{unit}
use Rattle.pv_num.specs.Rounding.{rounded, greatest_upto, first_from, is_size, top_size, at_least_plus}
use Rattle.pv_num.specs.declared.num.End.{End}
use Rattle.pv_num.specs.declared.num.End.TheVariants.{Down, Up}

abbrev pub neg_of : Extended → Extended
neg_of NegInf = PosInf
neg_of (Fin a) = Fin (neg_ℤ a)
neg_of PosInf = NegInf

abbrev pub abs_of : Extended → Extended
abs_of NegInf = PosInf
abs_of (Fin a) = Fin (pos (unsigned_abs a))
abs_of PosInf = PosInf

abbrev pub end_of : End → Extended
end_of Down = NegInf
end_of Up = PosInf

-- Opposite infinite ends give the end of the side.
abbrev pub add_of : End → Extended → Extended → Extended
add_of side NegInf NegInf = NegInf
add_of side NegInf (Fin b) = NegInf
add_of side NegInf PosInf = end_of side
add_of side (Fin a) NegInf = NegInf
add_of side (Fin a) (Fin b) = rounded side (a +ℤ b) 1
add_of side (Fin a) PosInf = PosInf
add_of side PosInf NegInf = end_of side
add_of side PosInf (Fin b) = PosInf
add_of side PosInf PosInf = PosInf

abbrev pub sub_of : End → Extended → Extended → Extended
sub_of side a b = add_of side a (neg_of b)

-- +oo times a finite number: 0 times an infinite end is 0.
abbrev pub infinite_by : ℤ → Extended
infinite_by (pos zero) = Fin (pos 0)
infinite_by (pos (suc n)) = PosInf
infinite_by (negsuc n) = NegInf

abbrev pub mul_of : End → Extended → Extended → Extended
mul_of side NegInf NegInf = PosInf
mul_of side NegInf (Fin b) = infinite_by (neg_ℤ b)
mul_of side NegInf PosInf = NegInf
mul_of side (Fin a) NegInf = infinite_by (neg_ℤ a)
mul_of side (Fin a) (Fin b) = rounded side (a *ℤ b) unit
mul_of side (Fin a) PosInf = infinite_by a
mul_of side PosInf NegInf = NegInf
mul_of side PosInf (Fin b) = infinite_by b
mul_of side PosInf PosInf = PosInf

-- A quotient of finite numbers, with the signs turned so that the divisor is positive.
abbrev pub rounded_quotient : End → ℤ → ℤ → Extended
rounded_quotient side a (pos b) = rounded side (a *ℤ pos unit) b
rounded_quotient side a (negsuc b) = rounded side (neg_ℤ a *ℤ pos unit) (suc b)

-- Anything over an infinite end is 0. Of a divisor 0 nothing is meant.
abbrev pub div_of : End → Extended → Extended → Extended
div_of side NegInf NegInf = Fin (pos 0)
div_of side NegInf (Fin b) = infinite_by (neg_ℤ b)
div_of side NegInf PosInf = Fin (pos 0)
div_of side (Fin a) NegInf = Fin (pos 0)
div_of side (Fin a) (Fin b) = rounded_quotient side a b
div_of side (Fin a) PosInf = Fin (pos 0)
div_of side PosInf NegInf = Fin (pos 0)
div_of side PosInf (Fin b) = infinite_by b
div_of side PosInf PosInf = Fin (pos 0)

-- p / q rounded to a side.
abbrev pub ratio_of : End → ℤ → ℕ → Extended
ratio_of side p q = rounded side (p *ℤ pos unit) q

-- A product of n factors, each step rounded, from the left.
abbrev pub pow_of : End → Extended → ℕ → Extended
pow_of side r zero = Fin (pos unit)
pow_of side r (suc zero) = r
pow_of side r (suc (suc n)) = mul_of side (pow_of side r (suc n)) r

abbrev pub is_root_below : Extended → ℕ → ℕ → Bool
is_root_below z n f = is_size f && le (pow_of Up (Fin (pos f)) n) z

abbrev pub is_root_above : Extended → ℕ → ℕ → Bool
is_root_above z n f = is_size f && le z (pow_of Down (Fin (pos f)) n)

-- Down: the greatest finite number whose power, rounded up, is at most z. Up: the least finite number whose power,
-- rounded down, is at least z, or +oo for +oo.
unfoldable pub root_of : End → Extended → ℕ → Extended
root_of Down z n = Fin (pos (greatest_upto (is_root_below z n) top_size))
root_of Up NegInf n = Fin (pos 0)
root_of Up (Fin a) n = at_least_plus (first_from (is_root_above (Fin a) n) (suc top_size) 0)
root_of Up PosInf n = PosInf

-- c, where it lies strictly between a and b.
abbrev pub between : Extended → Extended → Extended → Option Extended
between a b c = cond (lt a c && lt c b) (Some c) None

-- Half the sum rounded down where that is above a, else rounded up, if it lies strictly between.
abbrev pub middle_of : Extended → Extended → Option Extended
middle_of (Fin a) (Fin b) = between (Fin a) (Fin b) (cond (lt (Fin a) (rounded Down (a +ℤ b) 2)) (rounded Down (a +ℤ b) 2) (rounded Up (a +ℤ b) 2))
middle_of a b = None

-- The greatest whole number that is not above a number from 0 on.
abbrev pub floor_of : Extended → ℕ
floor_of (Fin (pos n)) = n / unit
floor_of a = 0
