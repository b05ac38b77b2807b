-- Plain fraction arithmetic without reduction: top / under, where under is above 0.
use Rattle.std.specs.Prelude.{ℕ, zero, suc, ◌*◌, ℤ, pos, negsuc, ◌+ℤ◌, ◌-ℤ◌, ◌*ℤ◌, Bool, int_lt, Option, Some, None, if◌then◌else◌}
use lib.IntN.{neg_ℤ}
use Rattle.std.specs.Int.RustNames.{unsigned_abs}

pub record Fraction : Type 0 where
  pub top : ℤ
  pub under : ℕ

abbrev pub plus : Fraction → Fraction → Fraction
plus f g = record {
  top = f.top *ℤ pos g.under +ℤ g.top *ℤ pos f.under;
  under = f.under * g.under;
}

abbrev pub minus : Fraction → Fraction → Fraction
minus f g = record {
  top = f.top *ℤ pos g.under -ℤ g.top *ℤ pos f.under;
  under = f.under * g.under;
}

abbrev pub times : Fraction → Fraction → Fraction
times f g = record { top = f.top *ℤ g.top; under = f.under * g.under }

-- top / under over r / s: (top · s) / (under · r), with the signs turned so that the lower part is above 0
abbrev pub over_parts : Fraction → ℤ → ℕ → Option Fraction
over_parts f (pos zero) s = None
over_parts f (pos (suc r)) s = Some (record { top = f.top *ℤ pos s; under = f.under * suc r })
over_parts f (negsuc r) s = Some (record { top = neg_ℤ (f.top *ℤ pos s); under = f.under * suc r })

-- the quotient; None where the divisor is 0
abbrev pub over : Fraction → Fraction → Option Fraction
over f g = over_parts f g.top g.under

abbrev pub opposite : Fraction → Fraction
opposite f = record { top = neg_ℤ f.top; under = f.under }

abbrev pub size : Fraction → Fraction
size f = record { top = pos (unsigned_abs f.top); under = f.under }

-- a repeated product; the power 0 is 1
abbrev pub power : Fraction → ℕ → Fraction
power f zero = record { top = pos 1; under = 1 }
power f (suc n) = times (power f n) f

-- f is below g, compared crosswise
abbrev pub below : Fraction → Fraction → Bool
below f g = int_lt (f.top *ℤ pos g.under) (g.top *ℤ pos f.under)

abbrev pub least : Fraction → Fraction → Fraction
least f g = if below g f then g else f

abbrev pub greatest : Fraction → Fraction → Fraction
greatest f g = if below f g then g else f
