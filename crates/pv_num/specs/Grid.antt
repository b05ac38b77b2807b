use Rattle.std.specs.Prelude.{◌≡◌, ℕ, ◌*◌, ◌^◌, ◌<◌, ◌≤◌, ℤ, unsigned_abs}

-- One, in units of 2 ^ -512.
unfoldable pub unit : ℕ
unit = 2 ^ 512

-- A whole number of units is the size of a format number.
pub record IsGridSize (n : ℕ) : Type 0 where
  pub mantissa : ℕ
  pub exponent : ℕ
  pub mantissa_fits : mantissa < 2 ^ 62
  pub exponent_fits : exponent ≤ 962
  pub value : n ≡ mantissa * 2 ^ exponent

-- A whole number of units is a format number.
abbrev pub IsGrid : ℤ → Type 0
IsGrid z = IsGridSize (unsigned_abs z)
