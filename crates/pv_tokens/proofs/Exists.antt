-- Each text has a next token at each place, and so a list of tokens.
use Rattle.std.proofs.Common.{◌≡◌, ℕ, zero, suc, ◌+◌, ◌-◌, ◌<◌, ◌≤◌, ◌⊎◌, inl, inr, Bool, true, false, List, [], ◌∷◌, length, get_or, refl, sym, subst, arith, ⊎_elim}
use Rattle.std.proofs.str.Laws.{order}
use Rattle.std.proofs.lemmas.Bool.{cases_eq}
use Rattle.std.proofs.lemmas.List.{get_or_past}
use Rattle.pv_tokens.specs.declared.token.Kind.{Kind}
use Rattle.pv_tokens.specs.declared.token.Kind.TheVariants.{Name, Number, LessEqual, GreaterEqual, End}
use Rattle.pv_tokens.specs.declared.token.Token.{Token}
use Rattle.pv_tokens.specs.declared.numeral.Parts.{Parts}
use Rattle.pv_tokens.specs.Tokens.{AreTokensFrom, Closes, IsBlank, IsDigit, IsExponent, IsFraction, IsLetter, IsLongest, IsNamed, IsNext, IsNumber, IsSign, IsWord, NoExponent, Run, Separated, Separates, mark}
use Rattle.pv_tokens.specs.Tokens.Separates.{blank, line, closed, unclosed}
use Rattle.pv_tokens.specs.Tokens.IsWord.{name, number, less_equal, greater_equal, single, finish}
use Rattle.pv_tokens.proofs.Numerals.{exponent_on, inside, longest_number}

-- ---- How far a property goes

-- the first of n places from i on where P fails, or the place behind them
record Stops (P : ℕ → Type 0) (i stop : ℕ) : Type 0 where
  at : ℕ
  ordered : i ≤ at
  within : at ≤ stop
  each : (k : ℕ) → i ≤ k → k < at → P k
  ends : (at ≡ stop) ⊎ ¬ P at

first_stop : (P : ℕ → Type 0) → ((k : ℕ) → P k ⊎ ¬ P k) → (n i stop : ℕ) → i + n ≡ stop → Stops P i stop
first_stop P decide zero i stop is = record { at = i; ordered = omega arith; within = omega arith; each = λ k low high. absurd (omega arith); ends = inl (omega arith) }
first_stop P decide (suc n) i stop is =
    ⊎_elim
    (λ here.
    let rest = first_stop P decide n (i + 1) stop (omega arith) in
    record {
      at = rest.at;
      ordered = omega (arith, rest.ordered);
      within = rest.within;
      each = λ k low high. ⊎_elim (λ after. rest.each k (omega arith) high) (λ at_first. let same : i ≡ k = omega arith in subst P same here) (order i k);
      ends = rest.ends;
    })
    (λ fails. record { at = i; ordered = omega arith; within = omega arith; each = λ k low high. absurd (omega arith); ends = inr fails })
    (decide i)

stop_from : (t : List ℕ) (P : ℕ → Type 0) → ((k : ℕ) → P k ⊎ ¬ P k) → (i : ℕ) → i ≤ length t → Stops P i (length t)
stop_from t P decide i within = first_stop P decide (length t - i) i (length t) (omega arith)

-- bytes with a property that the byte behind a text has not
run_from : (P : ℕ → Type 0) → ((b : ℕ) → P b ⊎ ¬ P b) → ¬ P 0 → (t : List ℕ) (i : ℕ) → i ≤ length t → (j : ℕ) × (Run P t i j × (¬ P (get_or t j 0)))
run_from P decide none t i within =
    let stop = stop_from t (λ k. P (get_or t k 0)) (λ k. decide (get_or t k 0)) i within in
    (stop.at, (record { ordered = stop.ordered; within = stop.within; each = stop.each }, ⊎_elim (λ whole h. none (subst P (get_or_past t stop.at 0 (omega arith)) h)) (λ h. h) stop.ends))

digit_or : (b : ℕ) → IsDigit b ⊎ ¬ IsDigit b
digit_or b = grind arith

pub digits_from : (t : List ℕ) (i : ℕ) → i ≤ length t → (j : ℕ) × (Run IsDigit t i j × (¬ IsDigit (get_or t j 0)))
digits_from = run_from IsDigit digit_or (λ h. grind arith)

-- ---- The longest number at a digit

record LongestFraction (t : List ℕ) (i : ℕ) : Type 0 where
  tail : ℕ
  fraction : IsFraction t i tail
  within : tail ≤ length t
  longest : (j : ℕ) → IsFraction t i j → j ≤ tail

fraction_from : (t : List ℕ) (i : ℕ) → i ≤ length t → LongestFraction t i
fraction_from t i within =
    ⊎_elim
    (λ point.
    let (tail, digits) = digits_from t (i + 1) (let some = inside t i (omega arith) in omega arith) in
    record { tail = tail; fraction = inr (point, digits.0); within = digits.0.within; longest = λ j other. grind (arith, digits.0.ordered, digits.1) })
    (λ no_point. record { tail = i; fraction = inl refl; within = within; longest = λ j other. grind arith })
    (cases_eq (get_or t i 0) 46)

-- an exponent of these parts behind whole digits and a fraction
abbrev parts_by : ℕ → ℕ → Bool → ℕ → ℕ → Parts
parts_by point tail negative power end = record { point = point; tail = tail; negative = negative; power = power; end = end }

record LongestExponent (t : List ℕ) (point tail : ℕ) : Type 0 where
  negative : Bool
  power : ℕ
  end : ℕ
  exponent : NoExponent (parts_by point tail negative power end) ⊎ IsExponent t (parts_by point tail negative power end)
  longest : (p : Parts) → p.tail ≡ tail → IsExponent t p → p.end ≤ end

no_exponent : (t : List ℕ) (point tail : ℕ) → ((p : Parts) → p.tail ≡ tail → ¬ IsExponent t p) → LongestExponent t point tail
no_exponent t point tail none =
    record { negative = false; power = tail; end = tail; exponent = inl (record { negative = refl; power = refl; end = refl }); longest = λ p same some. absurd (none p same some) }

abbrev IsMarked : List ℕ → ℕ → Type 0
IsMarked t tail = (get_or t tail 0 ≡ 101) ⊎ (get_or t tail 0 ≡ 69)

-- the digits behind a letter and a sign
signed_exponent : (t : List ℕ) (point tail power : ℕ) (negative : Bool) → IsMarked t tail → IsSign t tail negative power → power ≤ length t →
    ((p : Parts) → p.tail ≡ tail → IsExponent t p → p.power ≡ power) → LongestExponent t point tail
signed_exponent t point tail power negative letter sign within one =
    let (end, digits) = digits_from t power within in
    ⊎_elim
    (λ some. record {
      negative = negative;
      power = power;
      end = end;
      exponent = inr (record { letter = letter; sign = sign; digits = digits.0; some = some });
      longest = λ p same other. grind (arith, one p same other, digits.0.ordered, digits.1, other.digits.each);
    })
    (λ none. no_exponent t point tail (λ p same other. grind (arith, one p same other, digits.0.ordered, digits.1, other.digits.each, other.some)))
    (order power end)

exponent_from : (t : List ℕ) (point tail : ℕ) → LongestExponent t point tail
exponent_from t point tail =
    ⊎_elim
    (λ letter.
    let within : tail < length t = inside t tail (grind arith) in
    ⊎_elim
    (λ minus. signed_exponent t point tail (tail + 2) true letter (inl (refl, minus, refl)) (let more = inside t (tail + 1) (omega arith) in omega arith) (λ p same other. grind arith))
    (λ no_minus.
    ⊎_elim
    (λ plus. signed_exponent t point tail (tail + 2) false letter (inr (refl, inl (plus, refl))) (let more = inside t (tail + 1) (omega arith) in omega arith) (λ p same other. grind arith))
    (λ no_plus. signed_exponent t point tail (tail + 1) false letter (inr (refl, inr refl)) (omega arith) (λ p same other. grind arith))
    (cases_eq (get_or t (tail + 1) 0) 43))
    (cases_eq (get_or t (tail + 1) 0) 45))
    (λ no_letter. no_exponent t point tail (λ p same some. grind arith))
    (let h : IsMarked t tail ⊎ ¬ IsMarked t tail = grind arith in h)

number_from : (t : List ℕ) (i : ℕ) → IsDigit (get_or t i 0) → (p : Parts) × (IsNumber t i p × ((q : Parts) → IsNumber t i q → q.end ≤ p.end))
number_from t i digit =
    let (point, whole) = digits_from t i (let some = inside t i (omega (arith, digit.0)) in omega arith) in
    let some : i < point = grind (arith, whole.0.ordered, whole.1) in
    let fraction = fraction_from t point whole.0.within in
    let exponent = exponent_from t point fraction.tail in
    let p = parts_by point fraction.tail exponent.negative exponent.power exponent.end in
    let on : p.tail ≤ p.end = exponent_on t p exponent.exponent in (
      p,
      (
        record { some = some; whole = whole.0; fraction = fraction.fraction; exponent = exponent.exponent },
        longest_number t i point fraction.tail p.end whole.0 whole.1 fraction.fraction fraction.longest on exponent.longest,
      ),
    )

-- ---- Blanks and comments

-- the bytes with which a blank or a comment begins
abbrev pub Opens : ℕ → ℕ → Type 0
Opens b c = IsBlank b ⊎ ((b ≡ 47) × ((c ≡ 47) ⊎ (c ≡ 42)))

pub opens : (t : List ℕ) (i k : ℕ) → Separates t i k → Opens (get_or t i 0) (get_or t (i + 1) 0)
opens t i k s = grind arith

line_from : (t : List ℕ) (i : ℕ) → get_or t i 0 ≡ 47 → get_or t (i + 1) 0 ≡ 47 → (k : ℕ) × Separates t i k
line_from t i first second =
    let stop = stop_from t (λ k. ¬ (get_or t k 0 ≡ 10)) (λ k. grind arith) (i + 2) (let some = inside t (i + 1) (omega arith) in omega arith) in
    (stop.at, line (record { first = first; second = second; after = stop.ordered; within = stop.within; one_line = stop.each; ends = grind (arith, stop.ends) }))

block_from : (t : List ℕ) (i : ℕ) → get_or t i 0 ≡ 47 → get_or t (i + 1) 0 ≡ 42 → (k : ℕ) × Separates t i k
block_from t i first second =
    let stop = stop_from t (λ k. ¬ Closes t k) (λ k. grind arith) (i + 2) (let some = inside t (i + 1) (omega arith) in omega arith) in
    ⊎_elim
    (λ closes. (stop.at + 2, closed (record { close = stop.at; first = first; second = second; after = stop.ordered; closes = closes; next = stop.each; ends = refl })))
    (λ never. (length t, unclosed (record { first = first; second = second; never = λ k low closes. stop.each k low (grind (arith, inside t k, stop.ends)) closes; ends = refl })))
    (let h : Closes t stop.at ⊎ ¬ Closes t stop.at = grind arith in h)

pub separator_from : (t : List ℕ) (i : ℕ) → Opens (get_or t i 0) (get_or t (i + 1) 0) → (k : ℕ) × Separates t i k
separator_from t i h =
    ⊎_elim (λ is. (i + 1, blank is refl)) (λ (slash, second). ⊎_elim (λ also. line_from t i slash also) (λ star. block_from t i slash star) second) h

pub separates_on : (t : List ℕ) (i j : ℕ) → Separates t i j → (i < j) × (j ≤ length t)
separates_on t i j s = (grind (arith, inside), grind (arith, inside))

record Gap (t : List ℕ) (i : ℕ) : Type 0 where
  ends : ℕ
  count : ℕ
  gap : Separated t count i ends
  begins : (k : ℕ) → ¬ Separates t ends k
  within : ends ≤ length t

gap_from : (t : List ℕ) (n i : ℕ) → length t < i + n → i ≤ length t → Gap t i
gap_from t zero i few within = absurd (omega arith)
gap_from t (suc n) i few within =
    ⊎_elim
    (λ h.
    let (k, s) = separator_from t i h in
    let on = separates_on t i k s in
    let rest = gap_from t n k (omega (arith, on.0)) on.1 in
    record { ends = rest.ends; count = suc rest.count; gap = (k, s, rest.gap); begins = rest.begins; within = rest.within })
    (λ none. record { ends = i; count = 0; gap = refl; begins = λ k s. none (opens t i k s); within = within })
    (let h : Opens (get_or t i 0) (get_or t (i + 1) 0) ⊎ ¬ Opens (get_or t i 0) (get_or t (i + 1) 0) = grind arith in h)

-- ---- The longest word

-- a number's longest word is the longest number
pub longest_of_number : (t : List ℕ) (i : ℕ) (p : Parts) → IsNumber t i p → ((q : Parts) → IsNumber t i q → q.end ≤ p.end) → IsLongest t i Number p.end
longest_of_number t i p is longest = record { word = number refl p is refl; longest = λ other k word. grind arith }

Word : List ℕ → ℕ → Type 0
Word t i = (kind : Kind) × (ends : ℕ) × IsLongest t i kind ends

name_word : (t : List ℕ) (i : ℕ) → IsLetter (get_or t i 0) → Word t i
unfolding Word
name_word t i letter =
    let (ends, others) = run_from IsNamed (λ b. grind arith) (λ h. grind arith) t (i + 1) (grind (arith, inside t i)) in
    (Name, ends, record { word = name refl (record { letter = letter; others = others.0 }); longest = λ other k word. grind (arith, others.1, others.0.ordered) })

word_from : (t : List ℕ) (i : ℕ) → i ≤ length t → Word t i
unfolding Word
word_from t i within =
    ⊎_elim
    (λ whole. (End, i, record { word = finish refl whole refl; longest = λ other k word. grind (arith, get_or_past) }))
    (λ some.
    ⊎_elim
    (λ letter. name_word t i letter)
    (λ no_letter.
    ⊎_elim
    (λ digit. let (p, found) = number_from t i digit in (Number, p.end, longest_of_number t i p found.0 found.1))
    (λ no_digit.
    ⊎_elim
    (λ (first, second). (LessEqual, i + 2, record { word = less_equal refl first second refl; longest = λ other k word. grind arith }))
    (λ no_less.
    ⊎_elim
    (λ (first, second). (GreaterEqual, i + 2, record { word = greater_equal refl first second refl; longest = λ other k word. grind arith }))
    (λ no_greater. (mark (get_or t i 0), i + 1, record { word = single refl (record { inside = omega arith; no_letter = no_letter; no_digit = no_digit }) refl; longest = λ other k word. grind arith }))
    (let h : ((get_or t i 0 ≡ 62) × (get_or t (i + 1) 0 ≡ 61)) ⊎ ¬ ((get_or t i 0 ≡ 62) × (get_or t (i + 1) 0 ≡ 61)) = grind arith in h))
    (let h : ((get_or t i 0 ≡ 60) × (get_or t (i + 1) 0 ≡ 61)) ⊎ ¬ ((get_or t i 0 ≡ 60) × (get_or t (i + 1) 0 ≡ 61)) = grind arith in h))
    (digit_or (get_or t i 0)))
    (let h : IsLetter (get_or t i 0) ⊎ ¬ IsLetter (get_or t i 0) = grind arith in h))
    (cases_eq i (length t))

-- ---- The tokens

pub next_from : (t : List ℕ) (from : ℕ) → from ≤ length t → (x : Token) × IsNext t from x
unfolding Word
next_from t from within =
    let gap = gap_from t (suc (length t)) from (omega arith) within in
    let (kind, ends, longest) = word_from t gap.ends gap.within in
    (record { kind = kind; start = gap.ends; end = ends }, record { separators = gap.count; gap = gap.gap; begins = gap.begins; longest = longest })

-- one more behind them
pub separated_more : (t : List ℕ) (n i j k : ℕ) → Separated t n i j → Separates t j k → Separated t (suc n) i k
separated_more t zero i j k same one = (k, subst (λ m. Separates t m k) (sym same) one, refl)
separated_more t (suc n) i j k (m, first, rest) one = (m, first, separated_more t n m j k rest one)

pub separated_on : (t : List ℕ) (n i j : ℕ) → Separated t n i j → i ≤ j
separated_on t zero i j s = omega arith
separated_on t (suc n) i j (k, first, rest) = omega (arith, separated_on t n k j rest, (separates_on t i k first).0)

-- a token stands at its place or behind it, within the text, and takes a byte but at the end
pub next_on : (t : List ℕ) (from : ℕ) (x : Token) → IsNext t from x → from ≤ x.start
next_on t from x next = separated_on t next.separators from x.start next.gap

pub word_within : (t : List ℕ) (i : ℕ) (kind : Kind) (j : ℕ) → IsWord t i kind j → j ≤ length t
word_within t i kind j w = grind (arith, inside)

pub next_within : (t : List ℕ) (from : ℕ) (x : Token) → IsNext t from x → x.end ≤ length t
next_within t from x next = word_within t x.start x.kind x.end next.longest.word

word_more : (t : List ℕ) (i : ℕ) (kind : Kind) (j : ℕ) → IsWord t i kind j → (kind ≡ End) ⊎ ((¬ (kind ≡ End)) × (i < j))
word_more t i kind j w = grind arith

pub next_more : (t : List ℕ) (from : ℕ) (x : Token) → IsNext t from x → (x.kind ≡ End) ⊎ ((¬ (x.kind ≡ End)) × (x.start < x.end))
next_more t from x next = word_more t x.start x.kind x.end next.longest.word

pub next_takes : (t : List ℕ) (from : ℕ) (x : Token) → ¬ (x.kind ≡ End) → IsNext t from x → x.start < x.end
next_takes t from x inner next = ⊎_elim (λ is_end. absurd (inner is_end)) (λ more. more.1) (next_more t from x next)

-- all tokens from a place on
pub list_from : (t : List ℕ) (n from : ℕ) → length t < from + n → from ≤ length t → (xs : List Token) × AreTokensFrom t from xs
list_from t zero from few within = absurd (omega arith)
list_from t (suc n) from few within =
    let (x, next) = next_from t from within in
    ⊎_elim
    (λ is_end. (x ∷ [], (next, inl (is_end, refl))))
    (λ (more, on). let (rest, are) = list_from t n x.end (omega (arith, next_on t from x next)) (next_within t from x next) in (x ∷ rest, (next, inr (more, are))))
    (next_more t from x next)
