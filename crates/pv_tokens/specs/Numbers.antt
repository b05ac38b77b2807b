-- The value of a number in decimal digits, and which numbers are too wide.
use Rattle.std.specs.Prelude.{slice_index, ◌≤◌, ◌≡◌, ℕ, ◌+◌, ◌-◌, ◌*◌, ◌^◌, ◌<◌, max, min, ◌⊎◌, List, ◌++◌, length, slice_range, if◌then◌else◌, ℤ, pos}
use Rattle.std.specs.Int.{IsGcd}
use Rattle.std.specs.Int.Digits.{digits_of}
use Rattle.std.specs.Str.Parse.{digits_value}
use Rattle.pv_tokens.specs.declared.number.Decimal.{Decimal}
use Rattle.pv_tokens.specs.declared.numeral.Parts.{Parts}
use Rattle.pv_tokens.specs.Tokens.{IsDigit, IsNumber}

-- a number's digits without its point
abbrev pub digits_in : List ℕ → Parts → List ℕ
digits_in t p = slice_range t 0 p.point ++ slice_range t (p.point + 1) p.tail

-- how many of them stand behind the point
abbrev pub places_in : Parts → ℕ
places_in p = p.tail - (p.point + 1)

-- the exponent without its sign, which is 0 where there is none
abbrev pub power_in : List ℕ → Parts → ℕ
power_in t p = digits_value 10 (slice_range t p.power p.end)

-- a number of these parts that begins the text, as digits·10^(up - down)
abbrev pub decimal_in : List ℕ → Parts → Decimal
decimal_in t p = record {
  digits = digits_value 10 (digits_in t p);
  up = if p.negative then 0 else power_in t p;
  down = if p.negative then places_in p + power_in t p else places_in p;
}

-- the text is an unsigned number, and this one
pub record IsNumeral (t : List ℕ) (d : Decimal) : Type 0 where
  pub parts : Parts
  pub number : IsNumber t 0 parts
  pub whole : parts.end ≡ length t
  pub decimal : d ≡ decimal_in t parts

-- how many digits a number has without leading zeros; 0 has one
abbrev pub figures : ℕ → ℕ
figures n = max 1 (length (digits_of 10 n))

-- digits·10^s is too wide: s is below -36 or above 36, or the digits with s zeros behind them are more than 37
abbrev pub TooWide : Decimal → Type 0
TooWide d = (d.up + 36 < d.down) ⊎ ((d.down + 36 < d.up) ⊎ (37 < figures d.digits + (d.up - d.down)))

-- the numerator and the denominator v are the quotient a/b in lowest terms
pub record IsLowest (a b : ℕ) (v : ℤ × ℕ) : Type 0 where
  pub above : ℕ
  pub numerator : v.0 ≡ pos above
  pub same_value : above * b ≡ a * v.1
  pub not_zero : 0 < v.1
  pub no_common_factor : IsGcd above v.1 1

-- the value of digits·10^(up - down)
abbrev pub IsValue : Decimal → ℤ × ℕ → Type 0
IsValue d v = IsLowest (d.digits * 10 ^ (d.up - d.down)) (10 ^ (d.down - d.up)) v

-- the text is a number that is not too wide, with this value
pub record IsRead (t : List ℕ) (v : ℤ × ℕ) : Type 0 where
  pub decimal : Decimal
  pub numeral : IsNumeral t decimal
  pub narrow : ¬ TooWide decimal
  pub value : IsValue decimal v

-- c is d, but that digits of 10^37 and more are kept as 10^37, and a power of ten that is too far from 0 as another such
pub record Caps (c d : Decimal) : Type 0 where
  pub digits : c.digits ≡ min (10 ^ 37) d.digits
  pub powers :
      ((c.up ≡ d.up) × (c.down ≡ d.down))
      ⊎ (((c.up + 36 < c.down) × (d.up + 36 < d.down)) ⊎ ((c.down + 36 < c.up) × (d.down + 36 < d.up)))

-- digits alone, with a value of at most 32
pub record IsExponentText (t : List ℕ) (n : ℕ) : Type 0 where
  pub digits : (k : ℕ) → k < length t → IsDigit (slice_index t k)
  pub value : n ≡ digits_value 10 t
  pub most : n ≤ 32
