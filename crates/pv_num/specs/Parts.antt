use Rattle.std.specs.Prelude.{suc, zero, ◌≡◌, ℕ, ◌/◌, ◌%◌, ◌^◌, ◌==◌, ◌⊎◌, ℤ, pos, negsuc, neg_ℤ, ◌+ℤ◌, ◌-ℤ◌, ◌*ℤ◌, ◌<ℤ◌, ◌≤◌, ◌<◌, unsigned_abs, List, ◌∷◌, ◌++◌, codes, length, slice_index, Option, Some, None}
use Rattle.std.specs.Fmt.{signed_decimal}
use Rattle.pv_num.specs.Extended.{Extended, NegInf, Fin, PosInf}
use Rattle.pv_num.specs.Grid.{IsGrid}
use Rattle.pv_num.specs.Rounding.{greatest_upto}
use Rattle.pv_num.specs.declared.convert.Parts.{Parts}
use Rattle.pv_num.specs.declared.convert.Parts.TheVariants.{NegInf as NegInfParts, Fin as FinParts, PosInf as PosInfParts}

-- ---- Which number m * 2 ^ e is

abbrev pub IsValueAt : ℤ → ℤ → ℤ → Type 0
IsValueAt m (pos k) z = z ≡ m *ℤ pos (2 ^ k)
IsValueAt m (negsuc k) z = z *ℤ pos (2 ^ suc k) ≡ m

-- z units of 2 ^ -512 are the number m * 2 ^ e.
abbrev pub IsValue : ℤ → ℤ → ℤ → Type 0
IsValue m e z = IsValueAt m (e +ℤ pos 512) z

-- m * 2 ^ e as a format number: none where it is none.
abbrev pub IsFin : ℤ → ℤ → Option Extended → Type 0
IsFin m e None = (z : ℤ) → IsGrid z → IsValue m e z → ⊥
IsFin m e (Some r) = (z : ℤ) × (r ≡ Fin z) × IsGrid z × IsValue m e z

-- ---- The canonical parts

-- m is odd, or m and e are both 0.
abbrev pub IsCanonical : ℤ → ℤ → Type 0
IsCanonical m e = (unsigned_abs m % 2 ≡ 1) ⊎ ((m ≡ pos 0) × (e ≡ pos 0))

abbrev pub IsPartsOf : Extended → Parts → Type 0
IsPartsOf NegInf NegInfParts = Unit {0}
IsPartsOf NegInf (FinParts m e) = ⊥
IsPartsOf NegInf PosInfParts = ⊥
IsPartsOf (Fin z) NegInfParts = ⊥
IsPartsOf (Fin z) (FinParts m e) = IsValue m e z × IsCanonical m e
IsPartsOf (Fin z) PosInfParts = ⊥
IsPartsOf PosInf NegInfParts = ⊥
IsPartsOf PosInf (FinParts m e) = ⊥
IsPartsOf PosInf PosInfParts = Unit {0}

-- The greatest k such that 2 ^ k divides n, where n is not 0.
unfoldable pub twos : ℕ → ℕ
twos n = greatest_upto (λ k. n % 2 ^ k == 0) n

-- n without its factors 2.
unfoldable pub odd_of : ℕ → ℕ
odd_of n = n / 2 ^ twos n

abbrev pub exponent_parts : ℕ → ℤ
exponent_parts n = pos (twos n) -ℤ pos 512

abbrev pub parts_of : Extended → Parts
parts_of NegInf = NegInfParts
parts_of (Fin (pos zero)) = FinParts (pos 0) (pos 0)
parts_of (Fin (pos (suc n))) = FinParts (pos (odd_of (suc n))) (exponent_parts (suc n))
parts_of (Fin (negsuc n)) = FinParts (neg_ℤ (pos (odd_of (suc n)))) (exponent_parts (suc n))
parts_of PosInf = PosInfParts

-- ---- The spelling

-- m, a colon and e, in decimal.
abbrev pub parts_text : Parts → List ℕ
parts_text NegInfParts = codes "-oo"
parts_text (FinParts m e) = signed_decimal m ++ 58 ∷ signed_decimal e
parts_text PosInfParts = codes "+oo"

-- The one spelling of a number.
unfoldable pub number_text : Extended → List ℕ
number_text x = parts_text (parts_of x)

-- e + 1536: none where that is not from 0 to 4096.
abbrev pub IsFineExponent : ℤ → Option ℕ → Type 0
IsFineExponent e None = (e <ℤ negsuc 1535) ⊎ (pos 2560 <ℤ e)
IsFineExponent e (Some at) = (pos at ≡ e +ℤ pos 1536) × (at ≤ 4096)

-- ---- Reading

-- x is a number of the format or an infinite end.
abbrev pub IsNumber : Extended → Type 0
IsNumber NegInf = Unit {0}
IsNumber (Fin z) = IsGrid z
IsNumber PosInf = Unit {0}

-- No byte is a colon.
abbrev pub HasNoColon : List ℕ → Type 0
HasNoColon bytes = (k : ℕ) → k < length bytes → slice_index bytes k ≡ 58 → ⊥
