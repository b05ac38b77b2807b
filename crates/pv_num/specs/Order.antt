use Rattle.std.specs.Prelude.{Bool, cond}
use Rattle.std.specs.Ordering.{int_cmp, is_lt, is_le}
use Rattle.std.specs.declared.cmp.Ordering.{Ordering}
use Rattle.std.specs.declared.cmp.Ordering.TheVariants.{Less, Equal, Greater}
use Rattle.pv_num.specs.Extended.{Extended, NegInf, Fin, PosInf}

-- -oo is least, +oo is greatest, and between them stand the numbers in their order.
abbrev pub order_of : Extended → Extended → Ordering
order_of NegInf NegInf = Equal
order_of NegInf (Fin b) = Less
order_of NegInf PosInf = Less
order_of (Fin a) NegInf = Greater
order_of (Fin a) (Fin b) = int_cmp a b
order_of (Fin a) PosInf = Less
order_of PosInf NegInf = Greater
order_of PosInf (Fin b) = Greater
order_of PosInf PosInf = Equal

abbrev pub lt : Extended → Extended → Bool
lt a b = is_lt (order_of a b)

abbrev pub le : Extended → Extended → Bool
le a b = is_le (order_of a b)

abbrev pub lesser : Extended → Extended → Extended
lesser a b = cond (le a b) a b

abbrev pub greater : Extended → Extended → Extended
greater a b = cond (le a b) b a
