-- Constants are fractions in lowest terms, within the limits on constants.
use Rattle.std.specs.Prelude.{Bool, true, false, neg_ℤ}
use Rattle.pv_expr.specs.Systems.{IsFraction}
use Rattle.pv_code.specs.declared.fraction.Fraction.{Fraction}

abbrev pub IsLowest : Fraction → Type 0
IsLowest v = IsFraction v.p v.q

-- with the other sign where a `-` stands before it
abbrev pub signed : Bool → Fraction → Fraction
signed true v = record { p = neg_ℤ v.p; q = v.q }
signed false v = v
