-- A number in digits, as `parse` reads it.
use Rattle.std.proofs.Common.{◌≡◌, inl, inr, ℕ, ◌<◌, ◌≤◌, ◌^◌, ◌==◌, Bool, true, false, cond, List, [], ◌∷◌, length, drop, sym, ◌∙◌, ap, subst, arith, lit<}
use Rattle.std.specs.Prelude.{Result, Ok, Err, slice_index}
use Rattle.std.specs.Char.{digit_value}
use Rattle.std.specs.Str.Parse.{AllDigits, IsNumeral, ParsesUnsigned, digits_value, without_leading_plus}
use Rattle.std.proofs.lemmas.Bool.Decides.{eqb_tells}
use Rattle.std.proofs.lemmas.Int.Digits.{digits_value-lt}
use Rattle.std.proofs.lemmas.Result.{OkIff-at_ok, OkIff-at_err}
use Rattle.std.proofs.Math.Nat.{pow-le-pow_right}
use Rattle.pv_request.specs.Requests.{IsDigits}

no_plus : (t : List ℕ) → (slice_index t 0 == 43) ≡ false → without_leading_plus t ≡ t
no_plus t e = ap (λ (b : Bool). drop (cond b 1 0) t) e

no_digit : (c : ℕ) → c ≡ 43 → digit_value c < 10 → ⊥
no_digit c e h = let bad : digit_value 43 < 10 = subst (λ (n : ℕ). digit_value n < 10) e h in absurd (omega arith)

-- a plus is no digit
pub plus_is_none : (t : List ℕ) → AllDigits 10 t → (slice_index t 0 == 43) ≡ true → ⊥
plus_is_none [] h e = absurd (cc)
plus_is_none (c ∷ cs) h e = elim (eqb_tells c 43) [
  | inl is ↦ no_digit c is.1 h.0
  | inr other ↦ let bad : true ≡ false = sym e ∙ other.0 in absurd (cc)
]

pub small_value : (t : List ℕ) → AllDigits 10 t → length t ≤ 10 → digits_value 10 t < 2 ^ 64
small_value t h few =
    let below : digits_value 10 t < 10 ^ length t = digits_value-lt 10 t h in
    let most : 10 ^ length t ≤ 10 ^ 10 = pow-le-pow_right (omega arith) few in
    let room : 10 ^ 10 < 2 ^ 64 = lit< tt in
    omega arith

pub read_digits : {E : Type 0} (t : List ℕ) (r : Result ℕ E) (n : ℕ) → ParsesUnsigned 64 10 t r → (slice_index t 0 == 43) ≡ false → length t ≤ 10 → r ≡ Ok n → IsDigits t n
read_digits t r n parses plain few is =
    let same : without_leading_plus t ≡ t = no_plus t plain in
    let told = OkIff-at_ok r _ (digits_value 10 (without_leading_plus t)) n parses is in
    let numeral : IsNumeral 10 t = subst (IsNumeral 10) same told.0.0 in
    record { some = numeral.0; few = few; digits = numeral.1; value = told.1 ∙ ap (λ (u : List ℕ). digits_value 10 u) same }

pub no_digits : {E : Type 0} (t : List ℕ) (r : Result ℕ E) (e : E) (n : ℕ) → ParsesUnsigned 64 10 t r → (slice_index t 0 == 43) ≡ false → r ≡ Err e → IsDigits t n → ⊥
no_digits t r e n parses plain is d =
    let same : without_leading_plus t ≡ t = no_plus t plain in
    let good : IsNumeral 10 t × (digits_value 10 t < 2 ^ 64) = ((d.some, d.digits), small_value t d.digits d.few) in
    OkIff-at_err r _ (digits_value 10 (without_leading_plus t)) e parses is
    (subst (λ (u : List ℕ). IsNumeral 10 u × (digits_value 10 u < 2 ^ 64)) (sym same) good)
