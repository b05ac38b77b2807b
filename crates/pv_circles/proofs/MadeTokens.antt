-- A token in the middle of a text: it is the longest one at its place where the byte behind it ends it.
use Rattle.std.proofs.Common.{◌≡◌, ℕ, ◌+◌, ◌<◌, ◌≤◌, ◌⊎◌, inl, Bool, true, eqb, leb, not, ◌||◌, List, get_or, arith, ⊎_elim, sym, ◌∙◌, subst}
use Rattle.std.proofs.lemmas.Bool.Decides.{nat_tests}
use Rattle.std.proofs.lemmas.List.{get_or_past}
use Rattle.pv_tokens.specs.declared.numeral.Parts.{Parts}
use Rattle.pv_tokens.specs.declared.token.Kind.{Kind}
use Rattle.pv_tokens.specs.declared.token.Kind.TheVariants.{Name, Number, Less, Greater}
use Rattle.pv_tokens.specs.Tokens.{IsDigit, IsExponent, IsLongest, IsNamed, IsNumber, IsWord}
use Rattle.pv_tokens.proofs.Exists.{longest_of_number}
use Rattle.pv_tokens.proofs.Numerals.{exponent_on, fraction_on}
use Rattle.pv_tokens.specs.Tokens.IsWord.{name, number, less_equal, greater_equal, single, finish}

-- a byte that is no part of a name, and of a number at most a sign
abbrev pub is_break : ℕ → Bool
is_break b = leb b 45 || (eqb b 59 || eqb b 93)

-- whether a token of this kind ends before the byte
abbrev pub ends_at : Kind → ℕ → Bool
ends_at Name b = is_break b
ends_at Number b = is_break b
ends_at Less b = not (eqb b 61)
ends_at Greater b = not (eqb b 61)
ends_at k b = true

no_part : (b : ℕ) → is_break b ≡ true → (¬ IsNamed b) × (¬ (b ≡ 46))
no_part b h = (λ e. grind (arith, nat_tests), λ e. grind (arith, nat_tests))

-- a number ends with a digit or with its point
last_byte : (w : List ℕ) (i k : ℕ) (p : Parts) → IsNumber w i p → k + 1 ≡ p.end → IsDigit (get_or w k 0) ⊎ (get_or w k 0 ≡ 46)
last_byte w i k p is before =
    ⊎_elim
    (λ none. ⊎_elim (λ same. inl (is.whole.each k (omega (arith, is.some, none.end)) (omega (arith, none.end)))) (λ fraction. grind (arith, none.end, fraction.1.each, fraction.1.ordered)) is.fraction)
    (λ some. inl (some.digits.each k (omega (arith, some.some)) (omega arith)))
    is.exponent

number_on : (w : List ℕ) (i : ℕ) (p : Parts) → IsNumber w i p → i < p.end
number_on w i p is = omega (arith, is.some, fraction_on w p.point p.tail is.fraction, exponent_on w p is.exponent)

module _ (w : List ℕ) (i j : ℕ) (h : (¬ IsNamed (get_or w j 0)) × (¬ (get_or w j 0 ≡ 46))) (after : i ≤ j) (last : (k : ℕ) → k + 1 ≡ j → IsDigit (get_or w k 0) ⊎ (get_or w k 0 ≡ 46)) where
  whole_stops : (q : Parts) → IsNumber w i q → q.point ≤ j
  whole_stops q is = grind (arith, h.0, is.whole.each)

  fraction_stops : (q : Parts) → IsNumber w i q → q.tail ≤ j
  fraction_stops q is = grind (arith, h.0, h.1, is.fraction, whole_stops q is)

  exponent_stops : (q : Parts) → q.tail ≤ j → IsExponent w q → q.end ≤ j
  exponent_stops q on some = grind (arith, h.0, last q.tail, some.letter, some.sign, some.digits.each)

  number_stops : (q : Parts) → IsNumber w i q → q.end ≤ j
  number_stops q is = ⊎_elim (λ none. omega (arith, none.end, fraction_stops q is)) (λ some. exponent_stops q (fraction_stops q is) some) is.exponent

stops : (w : List ℕ) (i : ℕ) (kind : Kind) (j : ℕ) → IsWord w i kind j → ends_at kind (get_or w j 0) ≡ true → (other : Kind) (k : ℕ) → IsWord w i other k → k ≤ j
stops w i kind j word ends other k longer =
    elim word [
      | name is n ↦
          let break : is_break (get_or w j 0) ≡ true = grind arith in
          let behind = no_part (get_or w j 0) break in
          grind (arith, behind.0, n.letter, n.others.ordered)
      | number is p n same ↦
          let break : is_break (get_or w j 0) ≡ true = grind arith in
          let long = number_on w i p n in
          let most = number_stops w i j (no_part (get_or w j 0) break) (omega arith) (λ m e. last_byte w i m p n (e ∙ sym same)) in
          subst (λ m. k ≤ m) same ((longest_of_number w i p n (λ q m. omega (arith, most q m))).longest other k longer)
      | less_equal is first second after ↦ grind arith
      | greater_equal is first second after ↦ grind arith
      | single is m after ↦ grind (arith, nat_tests, m.no_letter, m.no_digit)
      | finish is at same ↦ grind (arith, get_or_past)
    ]

-- a word is the longest one in front of a byte that ends it
pub longest_word : (w : List ℕ) (i : ℕ) (kind : Kind) (j : ℕ) → IsWord w i kind j → ends_at kind (get_or w j 0) ≡ true → IsLongest w i kind j
longest_word w i kind j word ends = record { word = word; longest = stops w i kind j word ends }
