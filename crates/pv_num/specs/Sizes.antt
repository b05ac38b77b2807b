use Rattle.std.specs.Prelude.{◌≡◌, ℕ, ◌+◌, ◌*◌, ◌^◌, ◌<◌, ◌≤◌, Option, Some, None, Bool, true, false, ℤ, pos, negsuc, neg_ℤ, unsigned_abs}
use Rattle.pv_num.specs.Grid.{IsGridSize}
use Rattle.pv_num.specs.Extended.{Extended, NegInf, Fin, PosInf}
use Rattle.pv_num.specs.declared.num.End.{End}
use Rattle.pv_num.specs.declared.num.End.TheVariants.{Down, Up}
use Rattle.pv_num.specs.declared.magnitude.Magnitude.{Magnitude}
use Rattle.pv_num.specs.declared.magnitude.Toward.{Toward}
use Rattle.pv_num.specs.declared.magnitude.Toward.TheVariants.{Zero, Away}

-- The whole number of units that a size stands for.
abbrev pub size_of : Magnitude → ℕ
size_of m = m.mantissa * 2 ^ m.exponent

abbrev pub IsSizeOf : Option Magnitude → ℕ → Type 0
IsSizeOf None n = ⊥
IsSizeOf (Some m) n = size_of m ≡ n

-- The size next above a left-justified one; none above the largest.
abbrev pub IsSizeAbove : Option Magnitude → ℕ → ℕ → Type 0
IsSizeAbove None m e = (m + 1 ≡ 2 ^ 62) × (e ≡ 962)
IsSizeAbove (Some n) m e = size_of n ≡ (m + 1) * 2 ^ e

-- ---- Rounding without a sign

-- 2 ^ 1024, by which values are divided before they are rounded.
unfoldable pub fine : ℕ
fine = 2 ^ 1024

-- n is the greatest size that is at most a / b.
pub record IsFloorSize (a b n : ℕ) : Type 0 where
  pub grid : IsGridSize n
  pub below : n * b ≤ a
  pub greatest : (f : ℕ) → IsGridSize f → f * b ≤ a → f ≤ n

-- n is the least size that is at least a / b.
pub record IsCeilingSize (a b n : ℕ) : Type 0 where
  pub grid : IsGridSize n
  pub above : a ≤ n * b
  pub least : (f : ℕ) → IsGridSize f → a ≤ f * b → n ≤ f

abbrev pub IsFloor : ℕ → ℕ → Option Magnitude → Type 0
IsFloor a b None = ⊥
IsFloor a b (Some m) = IsFloorSize a b (size_of m)

abbrev pub IsCeiling : ℕ → ℕ → Option Magnitude → Type 0
IsCeiling a b None = (f : ℕ) → IsGridSize f → f * b < a
IsCeiling a b (Some m) = IsCeilingSize a b (size_of m)

-- r is a / b rounded toward zero, or away from it; none where it is above all sizes.
abbrev pub IsSized : Toward → ℕ → ℕ → Option Magnitude → Type 0
IsSized Zero a b r = IsFloor a b r
IsSized Away a b r = IsCeiling a b r

-- w is v / u as a whole number, rounded toward zero or away from it.
abbrev pub IsWhole : Toward → ℕ → ℕ → ℕ → Type 0
IsWhole Zero v u w = (w * u ≤ v) × (v < (w + 1) * u)
IsWhole Away v u w = (v ≤ w * u) × (w * u < v + u)

-- ---- Numbers as a sign and a size

abbrev pub magnitude_of : Extended → ℕ
magnitude_of NegInf = 0
magnitude_of (Fin a) = unsigned_abs a
magnitude_of PosInf = 0

abbrev pub is_negative_of : Extended → Bool
is_negative_of NegInf = true
is_negative_of (Fin (pos n)) = false
is_negative_of (Fin (negsuc n)) = true
is_negative_of PosInf = false

abbrev pub is_infinite_of : Extended → Bool
is_infinite_of NegInf = true
is_infinite_of (Fin a) = false
is_infinite_of PosInf = true

abbrev pub infinite_of : Bool → Extended
infinite_of true = NegInf
infinite_of false = PosInf

-- The number of a sign and a size; none stands for the infinite end.
abbrev pub signed_of : Bool → Option Magnitude → Extended
signed_of true None = NegInf
signed_of true (Some m) = Fin (neg_ℤ (pos (size_of m)))
signed_of false None = PosInf
signed_of false (Some m) = Fin (pos (size_of m))

abbrev pub toward_of : End → Bool → Toward
toward_of Down true = Away
toward_of Down false = Zero
toward_of Up true = Zero
toward_of Up false = Away

-- The whole number of units of a finite number.
abbrev pub whole_of : Extended → ℤ
whole_of NegInf = pos 0
whole_of (Fin a) = a
whole_of PosInf = pos 0

-- The whole number of a sign and a size.
abbrev pub with_sign : Bool → ℕ → ℤ
with_sign true n = neg_ℤ (pos n)
with_sign false n = pos n

-- A size is exactly v / fine; none where no size is.
abbrev pub IsExact : ℕ → Option Magnitude → Type 0
IsExact v None = (f : ℕ) → IsGridSize f → f * fine ≡ v → ⊥
IsExact v (Some m) = size_of m * fine ≡ v
