-- How many digits a number has, what is kept of a long one, and which numbers are too wide.
use Rattle.std.proofs.Common.{◌≡◌, ℕ, ◌+◌, ◌-◌, ◌*◌, ◌^◌, ◌<◌, ◌≤◌, ◌⊎◌, min, inl, inr, true, false, cond, List, [], ◌∷◌, ◌++◌, length, get_or, take, drop, append_assoc, length-take, length-drop, refl, sym, ◌∙◌, ap, subst, ℤ, arith, ⊎_elim}
use Rattle.std.specs.Int.Digits.{digits_of, number_from_digits}
use Rattle.std.specs.Char.{digit_value}
use Rattle.std.specs.Str.Parse.{digits_value}
use Rattle.std.proofs.lemmas.Str.{digit_value_digit}
use Rattle.std.proofs.str.Laws.{order}
use Rattle.std.proofs.lemmas.List.{take_more}
use Rattle.std.specs.Prelude.{Option, None, Some, slice_range, MatchOption}
use Rattle.std.proofs.Math.Nat.{mul-le-mul_right, mul-lt-mul_of_pos_right}
use Rattle.std.proofs.lemmas.Nat.{pow-add}
use Rattle.std.proofs.lemmas.Int.Digits.{all_below_base_digits_of, digits_value_push, length-digits_of-le, number_digits_of, number_lt}
use Rattle.pv_tokens.specs.declared.number.Decimal.{Decimal}
use Rattle.pv_tokens.specs.declared.numeral.Parts.{Parts}
use Rattle.pv_tokens.specs.Numbers.{Caps, IsLowest, IsNumeral, IsRead, IsValue, TooWide, decimal_in, figures, digits_in, places_in, power_in}
use Rattle.pv_tokens.specs.Tokens.{IsDigit, IsNumber}
use Rattle.pv_tokens.proofs.Numerals.{same_parts}
use Rattle.pv_tokens.proofs.Powers.{least_power, most_power}

-- a number with at most k digits is below 10^k
below_from_figures : (n k : ℕ) → figures n ≤ k → n < 10 ^ k
below_from_figures n k few =
    let below : number_from_digits 10 (digits_of 10 n) < 10 ^ length (digits_of 10 n) = number_lt 10 (digits_of 10 n) (all_below_base_digits_of 10 n (omega arith)) in
    omega (arith, number_digits_of 10 n (omega arith), most_power (length (digits_of 10 n)) k (omega arith), below)

split_power : (k z : ℕ) → z ≤ k → 10 ^ k ≡ 10 ^ (k - z) * 10 ^ z
split_power k z few = let whole : k ≡ (k - z) + z = omega arith in ap (λ n. 10 ^ n) whole ∙ pow-add 10 (k - z) z

-- the digits with zeros behind them reach 10^k exactly where they are more than k
wide_from : (k n z : ℕ) → z ≤ k → 10 ^ k ≤ n * 10 ^ z → k < figures n + z
wide_from k n z few reaches =
    ⊎_elim
    (λ h. h)
    (λ narrow.
    let product : n * 10 ^ z < 10 ^ (k - z) * 10 ^ z = mul-lt-mul_of_pos_right (below_from_figures n (k - z) (omega arith)) (omega (arith, least_power z)) in
    absurd (omega (arith, split_power k z few, product)))
    (order k (figures n + z))

narrow_from : (k n z : ℕ) → z < k → n * 10 ^ z < 10 ^ k → figures n + z ≤ k
narrow_from k n z few below =
    ⊎_elim
    (λ fits. omega (arith, length-digits_of-le 10 (k - z) n (omega arith) fits))
    (λ reaches. absurd (omega (arith, split_power k z (omega arith), mul-le-mul_right {m = 10 ^ (k - z)} {n = n} (10 ^ z) reaches)))
    (order n (10 ^ (k - z)))

-- ---- What is kept of a long number

many_figures : (n : ℕ) → 10 ^ 37 ≤ n → 37 < figures n
many_figures n reaches = ⊎_elim (λ h. h) (λ few. absurd (omega (arith, below_from_figures n 37 few))) (order 37 (figures n))

same_figures : (c d : Decimal) → c.digits ≡ min (10 ^ 37) d.digits → (c.digits ≡ d.digits) ⊎ ((37 < figures c.digits) × (37 < figures d.digits))
same_figures c d kept = ⊎_elim (λ below. inl (omega arith)) (λ reaches. inr (many_figures c.digits (omega arith), many_figures d.digits reaches)) (order d.digits (10 ^ 37))

capped_wide : (c d : Decimal) → Caps c d → TooWide c → TooWide d
capped_wide c d caps wide =
    ⊎_elim
    (λ same. let figures_same : figures c.digits ≡ figures d.digits = ap figures same in grind (arith, caps.powers))
    (λ many. grind (arith, caps.powers))
    (same_figures c d caps.digits)

capped_narrow : (c d : Decimal) → Caps c d → ¬ TooWide c → c ≡ d
capped_narrow c d caps narrow =
    ⊎_elim
    (λ (up, down). ⊎_elim (λ same i. record { digits = same i; up = up i; down = down i }) (λ many. absurd (narrow (inr (inr (omega arith))))) (same_figures c d caps.digits))
    (λ far. absurd (narrow (grind (arith, far))))
    caps.powers

-- ---- Too wide or not, by the digits with their zeros

pub wide_decimal : (d : Decimal) (z : ℕ) → d.up ≤ d.down + 36 → z ≡ d.up - d.down → 10 ^ 37 ≤ d.digits * 10 ^ z → TooWide d
wide_decimal d z few is reaches = inr (inr (omega (arith, wide_from 37 d.digits z (omega arith) reaches)))

pub narrow_decimal : (d : Decimal) (z : ℕ) → d.up ≤ d.down + 36 → d.down ≤ d.up + 36 → z ≡ d.up - d.down → d.digits * 10 ^ z < 10 ^ 37 → ¬ TooWide d
narrow_decimal d z few_up few_down is below wide = grind (arith, narrow_from 37 d.digits z (omega arith) below)

pub value_is : (d : Decimal) (z p n b : ℕ) (v : ℤ × ℕ) → z ≡ d.up - d.down → p ≡ d.down - d.up → n ≡ d.digits * 10 ^ z → b ≡ 10 ^ p → IsLowest n b v → IsValue d v
value_is d z p n b v zeros places above below lowest =
    subst (λ m. IsLowest m (10 ^ (d.down - d.up)) v) (above ∙ ap (λ k. d.digits * 10 ^ k) zeros) (subst (λ m. IsLowest n m v) (below ∙ ap (λ k. 10 ^ k) places) lowest)

-- ---- Digits of a text

-- a value that is kept up to a limit takes one more digit
one_more_digit : (limit x d : ℕ) → 0 < limit → min limit (min limit x * 10 + d) ≡ min limit (x * 10 + d)
one_more_digit limit x d some = omega arith

pub kept_more : (limit all next : ℕ) (before ds : List ℕ) (k : ℕ) → 0 < limit → k < length ds → IsDigit (get_or ds k 0) → all ≡ min limit (digits_value 10 (before ++ take k ds)) → next ≡ min limit (all * 10 + (get_or ds k 0 - 48)) → next ≡ min limit (digits_value 10 (before ++ take (k + 1) ds))
kept_more limit all next before ds k some within digit kept is =
    let value : digit_value (get_or ds k 0) ≡ get_or ds k 0 - 48 = omega (arith, digit_value_digit (get_or ds k 0) digit) in
    let longer : before ++ take (k + 1) ds ≡ (before ++ take k ds) ++ get_or ds k 0 ∷ [] = ap (λ l. before ++ l) (take_more ds k 0 within) ∙ sym (append_assoc before (take k ds) (get_or ds k 0 ∷ [])) in
    let pushed : digits_value 10 (before ++ take (k + 1) ds) ≡ digits_value 10 (before ++ take k ds) * 10 + (get_or ds k 0 - 48) = ap (digits_value 10) longer ∙ digits_value_push 10 (before ++ take k ds) (get_or ds k 0) ∙ ap (λ n. digits_value 10 (before ++ take k ds) * 10 + n) value in
    is ∙ ap (λ n. min limit (n * 10 + (get_or ds k 0 - 48))) kept ∙ one_more_digit limit (digits_value 10 (before ++ take k ds)) (get_or ds k 0 - 48) some ∙ ap (min limit) (sym pushed)

-- the digits behind the point, where a text without a point has none
behind_same : (t : List ℕ) (point tail first : ℕ) → first ≡ min (point + 1) tail → take (tail - first) (drop first t) ≡ slice_range t (point + 1) tail
behind_same t point tail first is =
    ⊎_elim
    (λ none.
    let left : tail - first ≡ 0 = omega arith in
    let right : tail - (point + 1) ≡ 0 = omega arith in
    ap (λ n. take n (drop first t)) left ∙ sym (ap (λ n. take n (drop (point + 1) t)) right))
    (λ some. let same : first ≡ point + 1 = omega arith in ap (λ n. take (tail - n) (drop n t)) same)
    (order tail (point + 1))

-- the number of them
pub behind_length : (t : List ℕ) (point tail first : ℕ) → first ≡ min (point + 1) tail → tail ≤ length t → length (take (tail - first) (drop first t)) ≡ tail - (point + 1)
behind_length t point tail first is within = omega (arith, length-take (tail - first) (drop first t), length-drop first t)

pub kept_digits : (t : List ℕ) (p : Parts) (limit whole digits first : ℕ) → first ≡ min (p.point + 1) p.tail → ((before : List ℕ) → 0 ≡ min limit (digits_value 10 before) → whole ≡ min limit (digits_value 10 (before ++ slice_range t 0 p.point))) → ((before : List ℕ) → whole ≡ min limit (digits_value 10 before) → digits ≡ min limit (digits_value 10 (before ++ take (p.tail - first) (drop first t)))) → digits ≡ min limit (digits_value 10 (digits_in t p))
kept_digits t p limit whole digits first is front back =
    back (slice_range t 0 p.point) (front [] (omega arith)) ∙ ap (λ l. min limit (digits_value 10 (slice_range t 0 p.point ++ l))) (behind_same t p.point p.tail first is)

pub caps_negative : (t : List ℕ) (p : Parts) (digits down power first : ℕ) → p.negative ≡ true → digits ≡ min (10 ^ 37) (digits_value 10 (digits_in t p)) → down ≡ p.tail - (p.point + 1) + power → power ≡ min (10 ^ 37) (power_in t p) → Caps (record { digits = digits; up = 0; down = down }) (decimal_in t p)
caps_negative t p digits down power first negative kept places powers =
    let up_is : (decimal_in t p).up ≡ 0 = ap (λ b. cond b 0 (power_in t p)) negative in
    let down_is : (decimal_in t p).down ≡ places_in p + power_in t p = ap (λ b. cond b (places_in p + power_in t p) (places_in p)) negative in
    record {
      digits = kept;
      powers = ⊎_elim (λ below. inl (sym up_is, omega arith)) (λ far. inr (inl (omega arith, omega arith))) (order (power_in t p) (10 ^ 37));
    }

pub caps_positive : (t : List ℕ) (p : Parts) (digits down power : ℕ) → p.negative ≡ false → digits ≡ min (10 ^ 37) (digits_value 10 (digits_in t p)) → down ≡ p.tail - (p.point + 1) → p.tail < 2 ^ 64 → power ≡ min (10 ^ 37) (power_in t p) → Caps (record { digits = digits; up = power; down = down }) (decimal_in t p)
caps_positive t p digits down power negative kept places short powers =
    let up_is : (decimal_in t p).up ≡ power_in t p = ap (λ b. cond b 0 (power_in t p)) negative in
    let down_is : (decimal_in t p).down ≡ places_in p = ap (λ b. cond b (places_in p + power_in t p) (places_in p)) negative in
    record {
      digits = kept;
      powers = ⊎_elim (λ below. inl (omega arith, omega arith)) (λ far. inr (inr (omega arith, omega arith))) (order (power_in t p) (10 ^ 37));
    }

-- ---- The whole text

pub tail_within : (t : List ℕ) (i : ℕ) (p : Parts) → IsNumber t i p → p.tail ≤ length t
tail_within t i p is = grind arith

pub number_within : (t : List ℕ) (i : ℕ) (p : Parts) → IsNumber t i p → p.end ≤ length t
number_within t i p is = grind arith

pub one_numeral : (t : List ℕ) (p : Parts) (d : Decimal) → IsNumber t 0 p → p.end ≡ length t → IsNumeral t d → d ≡ decimal_in t p
one_numeral t p d is whole numeral = numeral.decimal ∙ ap (decimal_in t) (same_parts t 0 numeral.parts p numeral.number is (numeral.whole ∙ sym whole))

-- a text that goes on behind its longest number is no number
pub no_numeral : (t : List ℕ) (p : Parts) → IsNumber t 0 p → ((q : Parts) → IsNumber t 0 q → q.end ≤ p.end) → ¬ (p.end ≡ length t) → (d : Decimal) → IsNumeral t d → TooWide d
no_numeral t p is longest not_whole d numeral =
    absurd (not_whole (omega (arith, numeral.whole, longest numeral.parts numeral.number, number_within t 0 p is)))

pub read_of : (t : List ℕ) (p : Parts) (c : Decimal) (r : Option (ℤ × ℕ)) → IsNumber t 0 p → p.end ≡ length t → Caps c (decimal_in t p) → MatchOption r (TooWide c) (λ v. (¬ TooWide c) × IsValue c v) → MatchOption r ((d : Decimal) → IsNumeral t d → TooWide d) (λ v. IsRead t v)
read_of t p c None is whole caps wide = λ d numeral. subst TooWide (sym (one_numeral t p d is whole numeral)) (capped_wide c (decimal_in t p) caps wide)
read_of t p c (Some v) is whole caps (narrow, value) =
    let same : c ≡ decimal_in t p = capped_narrow c (decimal_in t p) caps narrow in
    record {
      decimal = decimal_in t p;
      numeral = record { parts = p; number = is; whole = whole; decimal = refl };
      narrow = subst (λ d. ¬ TooWide d) same narrow;
      value = subst (λ d. IsValue d v) same value;
    }

-- what is kept of a small value is the value
pub small_is : (limit n v : ℕ) → 32 < limit → n ≡ min limit v → n ≤ 32 → n ≡ v
small_is limit n v most kept few = omega arith

pub small_kept : (limit n v : ℕ) → 32 < limit → n ≡ min limit v → v ≤ 32 → n ≤ 32
small_kept limit n v most kept few = omega arith
