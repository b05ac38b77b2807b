-- The first token of what is left of a text.
use Rattle.std.proofs.Common.{◌≡◌, ℕ, zero, suc, ◌+◌, ◌-◌, ◌*◌, ◌^◌, ◌<◌, ◌≤◌, Bool, true, false, cond, nat_lt, List, [], ◌∷◌, length, take, drop, get_or, refl, ap, sym, ◌∙◌, subst, arith}
use Rattle.std.specs.List.{prefix_len}
use Rattle.std.specs.Str.Parse.{AllDigits, digits_value}
use Rattle.std.specs.Char.{digit_value}
use Rattle.std.proofs.lemmas.List.{at_drop_more, at_drop_all}
use Rattle.std.proofs.lemmas.List.Sums.{prefix_len-le-length}
use Rattle.std.proofs.lemmas.Str.{digit_value_digit}
use Rattle.std.proofs.lemmas.Str.Parse.{numerals_by_value, tells_digits, digit_at, digits_value-take-le}
use Rattle.std.proofs.lemmas.Int.Digits.{digits_value_more}
use Rattle.std.proofs.lemmas.Fmt.{decimal-digits_value}
use Rattle.std.proofs.lemmas.Bool.Decides.{nat_tests}
use Rattle.std.specs.Prelude.{decimal}
use Rattle.pv_ctc.specs.declared.token.Token.{Token}
use Rattle.pv_ctc.specs.declared.token.Token.TheVariants.{Word, Number, TooBig, Open, Close, Comma, Bad, End}
use Rattle.pv_ctc.specs.Words.{Spells, StandsBefore}
use Rattle.pv_ctc.specs.Symbols.{Placed, tokens_from, tokens_at, behind, token_of, further, name_token, digits_token, mark_token, is_letter, is_digit, is_named, leads_with_zero}
use Rattle.pv_ctc.proofs.Pieces.{drop_again, stands}

pub skip : (k at : ℕ) (bs : List ℕ) → k ≤ length bs → tokens_from k at bs ≡ tokens_from 0 (at + k) (drop k bs)
skip zero at bs h = let e : at ≡ at + 0 = omega arith in ap (λ n. tokens_from 0 n bs) e
skip (suc k) at [] h = absurd (omega arith)
skip (suc k) at (b ∷ bs) h =
    let l : k ≤ length bs = omega arith in
    let e : (at + 1) + k ≡ at + suc k = omega arith in
    skip k (at + 1) bs l ∙ ap (λ n. tokens_from 0 n (drop k bs)) e

pub further_within : (b : ℕ) (bs : List ℕ) → further b bs ≤ length bs
unfolding further
further_within b bs = cases (is_letter b) (is_digit b)
  where
    cases : (l d : Bool) → cond l (prefix_len is_named bs) (cond d (prefix_len is_digit bs) 0) ≤ length bs
    cases true d = prefix_len-le-length is_named bs
    cases false true = prefix_len-le-length is_digit bs
    cases false false = omega arith

first_token : (text : List ℕ) (at : ℕ) → at < length text → tokens_at text at ≡ record { place = at; token = token_of (get_or text at 0) (drop (at + 1) text) } ∷ tokens_at text ((at + 1) + further (get_or text at 0) (drop (at + 1) text))
unfolding tokens_at
first_token text at h =
    let k = further (get_or text at 0) (drop (at + 1) text) in
    at_drop_more (tokens_from 0 at) text at 0 h
    ∙ ap (λ ps. record { place = at; token = token_of (get_or text at 0) (drop (at + 1) text) } ∷ ps)
    (skip k (at + 1) (drop (at + 1) text) (further_within (get_or text at 0) (drop (at + 1) text)) ∙ ap (tokens_from 0 ((at + 1) + k)) (drop_again (at + 1) k text))

behind_spelled : (t : Token) (piece : List ℕ) (ps : List Placed) → Spells t piece → behind t ps ≡ ps
behind_spelled (Word w) piece ps s = refl
behind_spelled (Number n) piece ps s = refl
behind_spelled TooBig piece ps s = refl
behind_spelled Open piece ps s = refl
behind_spelled Close piece ps s = refl
behind_spelled Comma piece ps s = refl
behind_spelled Bad piece ps s = refl
behind_spelled End piece ps s = absurd s

pub piece_at : (text : List ℕ) (at end k : ℕ) → at < length text → end ≡ (at + 1) + k → take (end - at) (drop at text) ≡ get_or text at 0 ∷ take k (drop (at + 1) text)
piece_at text at end k h e =
    let n : end - at ≡ suc k = omega arith in
    at_drop_more (take (end - at)) text at 0 h ∙ ap (λ m. take m (get_or text at 0 ∷ drop (at + 1) text)) n

here : (text : List ℕ) (at end : ℕ) (t : Token) (piece : List ℕ) → at < length text → t ≡ token_of (get_or text at 0) (drop (at + 1) text) → end ≡ (at + 1) + further (get_or text at 0) (drop (at + 1) text) → Spells t piece → tokens_at text at ≡ record { place = at; token = t } ∷ behind t (tokens_at text end)
here text at end t piece h i e s =
    first_token text at h
    ∙ ap (λ u. record { place = at; token = u } ∷ tokens_at text ((at + 1) + further (get_or text at 0) (drop (at + 1) text))) (sym i)
    ∙ ap (λ n. record { place = at; token = t } ∷ tokens_at text n) (sym e)
    ∙ ap (λ ps. record { place = at; token = t } ∷ ps) (sym (behind_spelled t piece (tokens_at text end) s))

pub name_here : (text : List ℕ) (at end : ℕ) (t : Token) → at < length text → is_letter (get_or text at 0) ≡ true → end ≡ (at + 1) + prefix_len is_named (drop (at + 1) text) → t ≡ name_token (take (end - at) (drop at text)) → Spells t (take (end - at) (drop at text)) → tokens_at text at ≡ record { place = at; token = t } ∷ behind t (tokens_at text end)
unfolding further token_of
name_here text at end t h l e i s =
    let b = get_or text at 0 in
    let bs = drop (at + 1) text in
    here text at end t (take (end - at) (drop at text)) h
    (i ∙ ap name_token (piece_at text at end (prefix_len is_named bs) h e) ∙ ap (λ x. cond x (name_token (b ∷ take (prefix_len is_named bs) bs)) (cond (is_digit b) (digits_token (b ∷ take (prefix_len is_digit bs) bs)) (mark_token b))) (sym l))
    (e ∙ ap (λ x. (at + 1) + cond x (prefix_len is_named bs) (cond (is_digit b) (prefix_len is_digit bs) 0)) (sym l))
    s

pub number_here : (text : List ℕ) (at end : ℕ) (t : Token) → at < length text → is_letter (get_or text at 0) ≡ false → is_digit (get_or text at 0) ≡ true → end ≡ (at + 1) + prefix_len is_digit (drop (at + 1) text) → t ≡ digits_token (take (end - at) (drop at text)) → Spells t (take (end - at) (drop at text)) → tokens_at text at ≡ record { place = at; token = t } ∷ behind t (tokens_at text end)
unfolding further token_of
number_here text at end t h l d e i s =
    let b = get_or text at 0 in
    let bs = drop (at + 1) text in
    here text at end t (take (end - at) (drop at text)) h
    (i ∙ ap digits_token (piece_at text at end (prefix_len is_digit bs) h e) ∙ ap (λ x. cond x (digits_token (b ∷ take (prefix_len is_digit bs) bs)) (mark_token b)) (sym d) ∙ ap (λ x. cond x (name_token (b ∷ take (prefix_len is_named bs) bs)) (cond (is_digit b) (digits_token (b ∷ take (prefix_len is_digit bs) bs)) (mark_token b))) (sym l))
    (e ∙ ap (λ x. (at + 1) + cond x (prefix_len is_digit bs) 0) (sym d) ∙ ap (λ x. (at + 1) + cond x (prefix_len is_named bs) (cond (is_digit b) (prefix_len is_digit bs) 0)) (sym l))
    s

pub mark_here : (text : List ℕ) (at : ℕ) (t : Token) → at < length text → is_letter (get_or text at 0) ≡ false → is_digit (get_or text at 0) ≡ false → t ≡ mark_token (get_or text at 0) → Spells t (get_or text at 0 ∷ []) → tokens_at text at ≡ record { place = at; token = t } ∷ behind t (tokens_at text (at + 1))
unfolding further token_of
mark_here text at t h l d i s =
    let b = get_or text at 0 in
    let bs = drop (at + 1) text in
    let e : at + 1 ≡ (at + 1) + 0 = omega arith in
    here text at (at + 1) t (b ∷ []) h
    (i ∙ ap (λ x. cond x (digits_token (b ∷ take (prefix_len is_digit bs) bs)) (mark_token b)) (sym d) ∙ ap (λ x. cond x (name_token (b ∷ take (prefix_len is_named bs) bs)) (cond (is_digit b) (digits_token (b ∷ take (prefix_len is_digit bs) bs)) (mark_token b))) (sym l))
    (e ∙ ap (λ x. (at + 1) + cond x (prefix_len is_digit bs) 0) (sym d) ∙ ap (λ x. (at + 1) + cond x (prefix_len is_named bs) (cond (is_digit b) (prefix_len is_digit bs) 0)) (sym l))
    s

pub end_here : (text : List ℕ) (at : ℕ) → at ≡ length text → tokens_at text at ≡ record { place = at; token = End } ∷ []
unfolding tokens_at
end_here text at e = let l : length text ≤ at = omega arith in at_drop_all (tokens_from 0 at) text at l

-- the mark at a place stands there
pub mark_stands : (text : List ℕ) (at : ℕ) (t : Token) → at < length text → Spells t (get_or text at 0 ∷ []) → StandsBefore t (drop at text) (drop (at + 1) text)
mark_stands text at t h s = stands t (get_or text at 0 ∷ []) (drop at text) (drop (at + 1) text) (at_drop_more (λ x. x) text at 0 h) s

pub digit_small : (b : ℕ) → is_digit b ≡ true → digit_value b < 10
digit_small b h =
    let low : 48 ≤ b = grind (arith, nat_tests) in
    let high : b ≤ 57 = grind (arith, nat_tests) in
    let e = digit_value_digit b (low, high) in
    omega arith

pub digits_front : (bs : List ℕ) → AllDigits 10 (take (prefix_len is_digit bs) bs)
digits_front [] = tt
digits_front (b ∷ bs) = cases (digits_front bs) (is_digit b) refl
  where
    cases : AllDigits 10 (take (prefix_len is_digit bs) bs) → (x : Bool) → is_digit b ≡ x → AllDigits 10 (take (cond x (1 + prefix_len is_digit bs) 0) (b ∷ bs))
    cases h true e = let s : 1 + prefix_len is_digit bs ≡ suc (prefix_len is_digit bs) = omega arith in subst (λ n. AllDigits 10 (take n (b ∷ bs))) (sym s) (digit_small b e, h)
    cases h false e = tt

pub digits_at : (text : List ℕ) (at end : ℕ) → at < length text → is_digit (get_or text at 0) ≡ true → end ≡ (at + 1) + prefix_len is_digit (drop (at + 1) text) → AllDigits 10 (take (end - at) (drop at text))
digits_at text at end h d e = subst (AllDigits 10) (sym (piece_at text at end (prefix_len is_digit (drop (at + 1) text)) h e)) (digit_small (get_or text at 0) d, digits_front (drop (at + 1) text))

-- digits without a leading zero are what is written of their value
pub digits_spelled : (ds : List ℕ) → AllDigits 10 ds → 0 < length ds → leads_with_zero ds ≡ false → digits_value 10 ds < 2 ^ 32 → ds ≡ decimal (digits_value 10 ds)
digits_spelled ds a some lead small = sym (decimal-digits_value (numerals_by_value _ tells_digits) ds a some (alone ds lead) (omega arith))
  where
    alone : (xs : List ℕ) → leads_with_zero xs ≡ false → get_or xs 0 0 ≡ 48 → length xs ≡ 1
    alone [] l e = absurd (omega arith)
    alone (b ∷ []) l e = refl
    alone (b ∷ c ∷ xs) l e = absurd (grind (arith, nat_tests))

pub small_digits : (ds : List ℕ) (n : ℕ) → leads_with_zero ds ≡ false → n ≡ digits_value 10 ds → n < 2 ^ 32 → Number n ≡ digits_token ds
unfolding digits_token
small_digits ds n l e h =
    let t : nat_lt n (2 ^ 32) ≡ true = grind (arith, nat_tests) in
    ap (λ x. cond x (Number n) TooBig) (sym t) ∙ ap (λ m. cond (nat_lt m (2 ^ 32)) (Number m) TooBig) e
    ∙ ap (λ x. cond x TooBig (cond (nat_lt (digits_value 10 ds) (2 ^ 32)) (Number (digits_value 10 ds)) TooBig)) (sym l)

pub great_digits : (ds : List ℕ) → 2 ^ 32 ≤ digits_value 10 ds → TooBig ≡ digits_token ds
unfolding digits_token
great_digits ds h =
    let t : nat_lt (digits_value 10 ds) (2 ^ 32) ≡ false = grind (arith, nat_tests) in
    cases (leads_with_zero ds) ∙ ap (λ x. cond (leads_with_zero ds) TooBig (cond x (Number (digits_value 10 ds)) TooBig)) (sym t)
  where
    cases : (x : Bool) → TooBig ≡ cond x TooBig TooBig
    cases true = refl
    cases false = refl

pub zero_digits : (ds : List ℕ) → leads_with_zero ds ≡ true → TooBig ≡ digits_token ds
unfolding digits_token
zero_digits ds h = ap (λ x. cond x TooBig (cond (nat_lt (digits_value 10 ds) (2 ^ 32)) (Number (digits_value 10 ds)) TooBig)) (sym h)

pub digit_range : (ds : List ℕ) (i : ℕ) → AllDigits 10 ds → i < length ds → (48 ≤ get_or ds i 0) × (get_or ds i 0 ≤ 57)
digit_range ds i a h = digit_at ds i a h

pub one_more : (ds : List ℕ) (i value : ℕ) → AllDigits 10 ds → i < length ds → value ≡ digits_value 10 (take i ds) → digits_value 10 (take (i + 1) ds) + 48 ≡ value * 10 + get_or ds i 0
one_more ds i value a h e =
    let m = digits_value_more 10 ds i h in
    let d = digit_value_digit (get_or ds i 0) (digit_range ds i a h) in
    omega arith

pub too_great : (ds : List ℕ) (i value : ℕ) → AllDigits 10 ds → i < length ds → value ≡ digits_value 10 (take i ds) → 2 ^ 32 + 48 ≤ value * 10 + get_or ds i 0 → 2 ^ 32 ≤ digits_value 10 ds
too_great ds i value a h e g =
    let m = one_more ds i value a h e in
    let l = digits_value-take-le 10 ds (i + 1) (omega arith) in
    omega arith

pub leads_other : (ds : List ℕ) → (get_or ds 0 0 ≡ 48 → ⊥) → leads_with_zero ds ≡ false
leads_other [] h = refl
leads_other (b ∷ []) h = refl
leads_other (b ∷ c ∷ ds) h = let n = h in grind (arith, nat_tests, n)
