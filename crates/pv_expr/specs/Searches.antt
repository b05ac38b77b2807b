-- The interval that a search begins with: a domain with its bounds rounded outward.
use Rattle.pv_num.specs.Extended.{Extended, NegInf, PosInf}
use Rattle.pv_num.specs.declared.num.End.{End}
use Rattle.pv_num.specs.declared.num.End.TheVariants.{Down, Up}
use Rattle.pv_num.specs.Arithmetic.{ratio_of}
use Rattle.pv_interval.specs.Bounds.{Bounds, between}
use Rattle.pv_expr.specs.declared.domain.Bound.{Bound}
use Rattle.pv_expr.specs.declared.domain.Bound.TheVariants.{MinusOo, Value, PlusOo}
use Rattle.pv_expr.specs.declared.domain.Domain.{Domain}

-- a bound, rounded to a side
abbrev pub end_of : End → Bound → Extended
end_of side MinusOo = NegInf
end_of side (Value p q) = ratio_of side p q
end_of side PlusOo = PosInf

-- the lower bound rounded down and the upper bound rounded up
abbrev pub search_bounds : Domain → Bounds
search_bounds d = between (end_of Down d.lo) (end_of Up d.hi)
