use Rattle.std.specs.Prelude.{suc, zero, ◌≡◌, ℕ, ◌+◌, ◌*◌, ◌/◌, ◌^◌, ◌<◌, ◌≤◌, pos, negsuc, neg_ℤ, cond, nat_le}
use Rattle.pv_num.specs.Extended.{Extended, NegInf, Fin, PosInf}
use Rattle.pv_num.specs.declared.num.Class.{Class}
use Rattle.pv_num.specs.declared.num.Class.TheVariants.{MinusOo, Negative, NonNegative, PlusOo}
use Rattle.pv_num.specs.declared.num.Num.TheInside.{Inside}

-- The exponent of the one left-justified spelling of a size, counted down from a bound.
unfoldable pub exponent_within : ℕ → ℕ → ℕ
exponent_within n zero = 0
exponent_within n (suc k) = cond (nat_le (2 ^ (62 + k)) n) (suc k) (exponent_within n k)

unfoldable pub exponent_of : ℕ → ℕ
exponent_of n = exponent_within n 962

abbrev pub number_of : Class → ℕ → Extended
number_of MinusOo n = NegInf
number_of Negative n = Fin (neg_ℤ (pos n))
number_of NonNegative n = Fin (pos n)
number_of PlusOo n = PosInf

-- The class of a number that is not zero with the other sign.
abbrev pub opposite_of : Class → Class
opposite_of MinusOo = PlusOo
opposite_of Negative = NonNegative
opposite_of NonNegative = Negative
opposite_of PlusOo = MinusOo

abbrev pub value_of : Inside → Extended
value_of a = number_of a.class (a.mantissa * 2 ^ a.exponent)

abbrev pub inside_of : Extended → Inside
inside_of NegInf = record { class = MinusOo; exponent = 0; mantissa = 0 }
inside_of (Fin (pos n)) = record { class = NonNegative; exponent = exponent_of n; mantissa = n / 2 ^ exponent_of n }
inside_of (Fin (negsuc n)) = record { class = Negative; exponent = exponent_of (suc n); mantissa = suc n / 2 ^ exponent_of (suc n) }
inside_of PosInf = record { class = PlusOo; exponent = 0; mantissa = 0 }

abbrev pub IsClassOf : Class → ℕ → ℕ → Type 0
IsClassOf MinusOo e m = (e ≡ 0) × (m ≡ 0)
IsClassOf Negative e m = 0 < m
IsClassOf NonNegative e m = Unit {0}
IsClassOf PlusOo e m = (e ≡ 0) × (m ≡ 0)

-- The mantissa is left-justified unless the exponent is 0, zero is not negative, and the ends have no mantissa.
pub record IsJustified (a : Inside) : Type 0 where
  pub mantissa_fits : a.mantissa < 2 ^ 62
  pub exponent_fits : a.exponent ≤ 962
  pub justified : 0 < a.exponent → 2 ^ 61 ≤ a.mantissa
  pub classed : IsClassOf a.class a.exponent a.mantissa
