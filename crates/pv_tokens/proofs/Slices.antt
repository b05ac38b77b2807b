-- The bytes of a number in a text are a number of their own; those of a number token have one value by digits and a power of ten.
use Rattle.std.proofs.Common.{◌≡◌, ℕ, ◌+◌, ◌-◌, ◌<◌, ◌≤◌, inl, inr, List, length, get_or, drop, refl, sym, ◌∙◌, ap, subst, arith, ⊎_elim, length-take, length-drop, get_or-take, get_or-drop}
use Rattle.std.specs.List.{slice_range}
use Rattle.pv_tokens.specs.declared.token.Kind.{Kind}
use Rattle.pv_tokens.specs.declared.token.Kind.TheVariants.{Number}
use Rattle.pv_tokens.specs.declared.token.Token.{Token}
use Rattle.pv_tokens.specs.declared.number.Decimal.{Decimal}
use Rattle.pv_tokens.specs.declared.numeral.Parts.{Parts}
use Rattle.pv_tokens.specs.Numbers.{IsNumeral, decimal_in}
use Rattle.pv_tokens.specs.Tokens.{IsDigit, IsExponent, IsNext, IsNumber, IsWord, Run}
use Rattle.pv_tokens.specs.Tokens.IsWord.{name, number, less_equal, greater_equal, single, finish}
use Rattle.pv_tokens.proofs.Decimals.{number_within, one_numeral}
use Rattle.pv_tokens.proofs.Numerals.{exponent_longer, exponent_on, fraction_on}

pub length_slice : (t : List ℕ) (i j : ℕ) → j ≤ length t → length (slice_range t i j) ≡ j - i
length_slice t i j within = omega (arith, length-take (j - i) (drop i t), length-drop i t)

-- the byte at place k of the text
pub byte_in : (t : List ℕ) (i j k m : ℕ) → k ≡ i + m → k < j → get_or (slice_range t i j) m 0 ≡ get_or t k 0
byte_in t i j k m is before =
    get_or-take (j - i) (drop i t) m 0 (omega arith) ∙ get_or-drop i t m 0 ∙ ap (λ n. get_or t n 0) (sym is)

digits_in_slice : (t : List ℕ) (i j from to m n : ℕ) → from ≡ i + m → to ≡ i + n → j ≤ length t → to ≤ j → Run IsDigit t from to → Run IsDigit (slice_range t i j) m n
digits_in_slice t i j from to m n first last within before run = record {
  ordered = omega (arith, run.ordered);
  within = omega (arith, length_slice t i j within);
  each = λ k low high. subst IsDigit (sym (byte_in t i j (i + k) k refl (omega arith))) (run.each (i + k) (omega arith) (omega arith));
}

-- the same parts, counted from place i
abbrev shifted : ℕ → Parts → Parts
shifted i p = record { point = p.point - i; tail = p.tail - i; negative = p.negative; power = p.power - i; end = p.end - i }

exponent_in_slice : (t : List ℕ) (i : ℕ) (p : Parts) → i ≤ p.tail → p.end ≤ length t → IsExponent t p → IsExponent (slice_range t i p.end) (shifted i p)
exponent_in_slice t i p after within some =
    let longer : p.tail + 1 < p.end = grind (arith, exponent_longer) in
    let power : p.tail ≤ p.power = grind arith in
    let first : get_or (slice_range t i p.end) (p.tail - i) 0 ≡ get_or t p.tail 0 = byte_in t i p.end p.tail (p.tail - i) (omega arith) (omega arith) in
    let second : get_or (slice_range t i p.end) (p.tail - i + 1) 0 ≡ get_or t (p.tail + 1) 0 = byte_in t i p.end (p.tail + 1) (p.tail - i + 1) (omega arith) longer in
    record {
      letter = grind arith;
      sign = grind arith;
      digits = digits_in_slice t i p.end p.power p.end _ _ (omega arith) (omega arith) within (omega arith) some.digits;
      some = let more = some.some in omega arith;
    }

number_in_slice : (t : List ℕ) (i : ℕ) (p : Parts) → IsNumber t i p → IsNumber (slice_range t i p.end) 0 (shifted i p)
number_in_slice t i p is =
    let within : p.end ≤ length t = number_within t i p is in
    let on : (i < p.point) × (p.point ≤ p.tail) × (p.tail ≤ p.end) = (is.some, fraction_on t p.point p.tail is.fraction, exponent_on t p is.exponent) in
    record {
      some = omega arith;
      whole = digits_in_slice t i p.end i p.point _ _ (omega arith) (omega arith) within (omega arith) is.whole;
      fraction =
          ⊎_elim
          (λ same. inl (omega arith))
          (λ (point, run). inr (
            byte_in t i p.end p.point (p.point - i) (omega arith) (omega (arith, run.ordered)) ∙ point,
            digits_in_slice t i p.end (p.point + 1) p.tail _ _ (omega arith) (omega arith) within (omega arith) run,
          ))
          is.fraction;
      exponent = ⊎_elim (λ none. inl (record { negative = none.negative; power = omega (arith, none.power); end = omega (arith, none.end) })) (λ some. inr (exponent_in_slice t i p (omega arith) within some)) is.exponent;
    }

-- the bytes of a number are the text of a number
numeral_in_slice : (t : List ℕ) (i : ℕ) (p : Parts) → IsNumber t i p → IsNumeral (slice_range t i p.end) (decimal_in (slice_range t i p.end) (shifted i p))
numeral_in_slice t i p is = record {
  parts = shifted i p;
  number = number_in_slice t i p is;
  whole = sym (length_slice t i p.end (number_within t i p is));
  decimal = refl;
}

-- ---- The numbers of tokens

-- a text is at most one number
pub same_numeral : (t : List ℕ) (d e : Decimal) → IsNumeral t d → IsNumeral t e → d ≡ e
same_numeral t d e of_d of_e = one_numeral t of_e.parts d of_e.number of_e.whole of_d ∙ sym of_e.decimal

number_word : (t : List ℕ) (i : ℕ) (kind : Kind) (j : ℕ) → IsWord t i kind j → kind ≡ Number → (p : Parts) × IsNumber t i p × (p.end ≡ j)
number_word t i kind j (number _ p n ends) is = (p, n, ends)
number_word t i kind j (name other _) is = absurd (grind arith)
number_word t i kind j (less_equal other _ _ _) is = absurd (grind arith)
number_word t i kind j (greater_equal other _ _ _) is = absurd (grind arith)
number_word t i kind j (single other _ _) is = absurd (grind arith)
number_word t i kind j (finish other _ _) is = absurd (grind arith)

word_numeral : (t : List ℕ) (i : ℕ) (kind : Kind) (j : ℕ) → IsWord t i kind j → kind ≡ Number → (d : Decimal) × IsNumeral (slice_range t i j) d
word_numeral t i kind j word is =
    let (p, n, ends) = number_word t i kind j word is in
    subst (λ e. (d : Decimal) × IsNumeral (slice_range t i e) d) ends (decimal_in (slice_range t i p.end) (shifted i p), numeral_in_slice t i p n)

-- the bytes of a number token are a number
pub token_numeral : (t : List ℕ) (from : ℕ) (x : Token) → IsNext t from x → x.kind ≡ Number → (d : Decimal) × IsNumeral (slice_range t x.start x.end) d
token_numeral t from x next is = word_numeral t x.start x.kind x.end next.longest.word is
