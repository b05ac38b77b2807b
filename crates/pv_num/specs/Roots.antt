use Rattle.std.specs.Prelude.{◌≡◌, ℕ, ◌+◌, ◌-◌, ◌*◌, ◌/◌, ◌^◌, pos, Bool, true, false, not}
use Rattle.pv_num.specs.Extended.{Extended, Fin}
use Rattle.pv_num.specs.Order.{le}
use Rattle.pv_num.specs.Arithmetic.{pow_of}
use Rattle.pv_num.specs.declared.num.End.{End}
use Rattle.pv_num.specs.declared.num.End.TheVariants.{Down, Up}

-- ---- The sizes in their order, by an index from 0 on

abbrev pub exponent_at : ℕ → ℕ
exponent_at i = i / 2 ^ 61 - 1

abbrev pub mantissa_at : ℕ → ℕ
mantissa_at i = i - exponent_at i * 2 ^ 61

abbrev pub size_at : ℕ → ℕ
size_at i = mantissa_at i * 2 ^ exponent_at i

-- Down: the power of f, rounded up, is above z. Up: its power, rounded down, is at least z.
abbrev pub is_reached : End → Extended → ℕ → ℕ → Bool
is_reached Down z n f = not (le (pow_of Up (Fin (pos f)) n) z)
is_reached Up z n f = le z (pow_of Down (Fin (pos f)) n)

-- m times 2^k, times 2^512, is w times the square of 2^t
abbrev pub IsSquareOf : ℕ → ℕ → ℕ → ℕ → Type 0
IsSquareOf m k w t = m * 2 ^ (k + 512) ≡ w * (2 ^ t * 2 ^ t)

-- the first index whose square is beyond a number, by the index of the whole part of its root
abbrev pub first_index : End → Bool → ℕ → ℕ
first_index Down exact i = i + 1
first_index Up true i = i
first_index Up false i = i + 1
