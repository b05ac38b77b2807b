-- The token of a whole number: what is written of it is read as it.
use Rattle.std.proofs.Common.{◌≡◌, ℕ, ◌+◌, ◌-◌, ◌%◌, ◌^◌, ◌<◌, ◌≤◌, Bool, true, false, leb, if◌then◌else◌, inl, List, ◌++◌, decimal, drop, length, get_or, take, take_all, append-nil, Some, None, refl, sym, ap, ◌∙◌, arith, pos}
use Rattle.std.specs.Str.Parse.{AllDigits, digits_value}
use Rattle.std.proofs.lemmas.Bool.Decides.{nat_tests}
use Rattle.std.proofs.lemmas.Fmt.{decimal_is_IsNumeral}
use Rattle.std.proofs.lemmas.Nat.Gcd.{IsGcd-from_mod, IsGcd-from_zero}
use Rattle.std.proofs.lemmas.Str.Parse.{digit_at}
use Rattle.pv_grammar.specs.declared.symbol.Symbol.TheVariants.{Number as NumberToken}
use Rattle.pv_tokens.specs.declared.number.Decimal.{Decimal}
use Rattle.pv_tokens.specs.declared.numeral.Parts.{Parts}
use Rattle.pv_tokens.specs.declared.token.Kind.TheVariants.{Number}
use Rattle.pv_tokens.specs.Numbers.{IsNumeral, IsRead, digits_in, power_in}
use Rattle.pv_tokens.specs.Tokens.{IsDigit, IsNumber}
use Rattle.pv_tokens.specs.Tokens.IsWord.{number}
use Rattle.pv_tokens.proofs.Decimals.{narrow_decimal}
use Rattle.pv_parse.specs.Sentences.{IsNumberSymbol, MayRaise}
use Rattle.pv_parse.proofs.Pieces.{IsPiece, Piece}
use Rattle.pv_circles.proofs.MadeTrees.{exponent_of, whole}

-- the parts of a number that is digits alone
abbrev ends_in : ℕ → Parts
ends_in j = record { point = j; tail = j; negative = false; power = j; end = j }

abbrev integer : ℕ → Decimal
integer n = record { digits = n; up = 0; down = 0 }

digits_number : (w : List ℕ) (i j : ℕ) → i < j → j ≤ length w → ((k : ℕ) → i ≤ k → k < j → IsDigit (get_or w k 0)) → IsNumber w i (ends_in j)
digits_number w i j some within each = record {
  some = some;
  whole = record { ordered = omega arith; within = within; each = each };
  fraction = inl refl;
  exponent = inl (record { negative = refl; power = refl; end = refl });
}

digits_all : (t : List ℕ) → digits_in t (ends_in (length t)) ≡ t
digits_all t =
    let all : length t - 0 ≡ length t = omega arith in
    let none : length t - (length t + 1) ≡ 0 = omega arith in
    ap (λ m. take m t ++ take (length t - (length t + 1)) (drop (length t + 1) t)) all
    ∙ (ap (λ m. take (length t) t ++ take m (drop (length t + 1) t)) none ∙ (append-nil (take (length t) t) ∙ take_all (length t) t (omega arith)))

no_power : (t : List ℕ) → power_in t (ends_in (length t)) ≡ 0
no_power t = let none : length t - length t ≡ 0 = omega arith in ap (λ m. digits_value 10 (take m (drop (length t) t))) none

-- the bytes are the digits of this number
pub record IsWritten (t : List ℕ) (n : ℕ) : Type 0 where
  pub some : 0 < length t
  pub digits : AllDigits 10 t
  pub value : digits_value 10 t ≡ n
  pub small : n < 2 ^ 64

pub decimal_written : (n : ℕ) → n < 2 ^ 64 → IsWritten (decimal n) n
decimal_written n small = let is = decimal_is_IsNumeral n small in record { some = is.0.0; digits = is.0.1; value = is.1; small = small }

abbrev pub numbered : List ℕ → Piece
numbered t = record { kind = Number; bytes = t }

module _ (t : List ℕ) (n : ℕ) (h : IsWritten t n) where
  pub number_piece : IsPiece (numbered t)
  number_piece =
      let first = digit_at t 0 h.digits h.some in
      record {
        some = h.some;
        inner = λ e. grind arith;
        word = λ w i p.
            number refl (ends_in (i + length t))
            (digits_number w i (i + length t) (omega (arith, h.some)) p.within (λ k low high. grind (arith, p.each (k - i), digit_at t (k - i) h.digits))) refl;
        begins = λ c o. grind (arith, first);
      }

  numeral : IsNumeral t (integer n)
  numeral = record {
    parts = ends_in (length t);
    number = digits_number t 0 (length t) h.some (omega arith) (λ k low high. digit_at t k h.digits high);
    whole = refl;
    decimal =
        let digits : n ≡ digits_value 10 (digits_in t (ends_in (length t))) = sym (ap (digits_value 10) (digits_all t) ∙ h.value) in
        let places : 0 ≡ length t - (length t + 1) = omega arith in
        λ i. record { digits = digits i; up = sym (no_power t) i; down = places i };
  }

  number_read : IsRead t (pos n, 1)
  number_read =
      let rest : n % 1 ≡ 0 = omega arith in
      record {
        decimal = integer n;
        numeral = numeral;
        narrow = let small = h.small in narrow_decimal (integer n) 0 (omega arith) (omega arith) refl (omega arith);
        value = record {
          above = n;
          numerator = refl;
          same_value = omega arith;
          not_zero = omega arith;
          no_common_factor = IsGcd-from_mod n 1 1 (IsGcd-from_zero 1 (n % 1) rest);
        };
      }

  may_raise : (b : Bool) → leb n 32 ≡ b → MayRaise t (if b then Some n else None)
  may_raise true few = record { digits = λ k l. digit_at t k h.digits l; value = sym h.value; most = grind (arith, nat_tests) }
  may_raise false many = λ (m, e). grind (arith, nat_tests, e.value, e.most, h.value)

  pub number_stands : IsNumberSymbol t (NumberToken (whole n) (exponent_of n))
  number_stands = (number_read, may_raise (leb n 32) refl)
