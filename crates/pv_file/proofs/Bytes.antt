-- Texts up to a mark, as words up to a space and lines up to a line feed.
use Rattle.std.proofs.Common.{◌≡◌, ◌⊎◌, inl, inr, ℕ, zero, suc, ◌+◌, ◌<◌, ◌≤◌, ◌==◌, nat_lt, Bool, true, false, not, cond, List, [], ◌∷◌, ◌++◌, take, drop, length, get_or, Some, None, refl, sym, ◌∙◌, ap, subst, arith, append_assoc}
use Rattle.std.specs.Prelude.{◌≢◌, unwrap_or}
use Rattle.std.specs.List.{position, position_or_len}
use Rattle.std.proofs.lemmas.Bool.{eqb-true, eqb-false, ltb-false}
use Rattle.std.proofs.lemmas.Bool.Decides.{eqb_tells}
use Rattle.memchr.specs.Find.{IsFirstByte, is_byte}
use Rattle.std.proofs.lemmas.List.Sums.{prefix_len-le-length}
use Rattle.std.proofs.lemmas.List.{take-append-drop}
use Rattle.pv_file.specs.Readings.{IsFree}
use Rattle.std.specs.Fmt.{decimal}
use Rattle.pv_num.specs.Extended.{Extended}
use Rattle.pv_num.specs.Parts.{number_text}
use Rattle.pv_file.specs.Lines.{pair_text, cut_text}
use Rattle.pv_file.specs.Words.{IsPlain, EndsAt}

-- ---- The first mark

free_step : (mark c : ℕ) (cs : List ℕ) (n : ℕ) (b : Bool) → (c == mark) ≡ b → IsFree mark (take n cs) → IsFree mark (take (cond (not b) (1 + n) 0) (c ∷ cs))
free_step mark c cs n true e h = tt
free_step mark c cs n false e h =
    let one : suc n ≡ 1 + n = omega arith in
    subst (λ (k : ℕ). IsFree mark (take k (c ∷ cs))) one (eqb-false c mark e, h)

pub free_front : (mark : ℕ) (xs : List ℕ) → IsFree mark (take (position_or_len (λ b. b == mark) xs) xs)
free_front mark [] = tt
free_front mark (c ∷ cs) = free_step mark c cs _ (c == mark) refl (free_front mark cs)

ends_step : (mark c : ℕ) (cs : List ℕ) (n : ℕ) (b : Bool) → (c == mark) ≡ b → EndsAt mark (drop n cs) → EndsAt mark (drop (cond (not b) (1 + n) 0) (c ∷ cs))
ends_step mark c cs n true e h = eqb-true c mark e
ends_step mark c cs n false e h =
    let one : suc n ≡ 1 + n = omega arith in
    subst (λ (k : ℕ). EndsAt mark (drop k (c ∷ cs))) one h

pub ends_back : (mark : ℕ) (xs : List ℕ) → EndsAt mark (drop (position_or_len (λ b. b == mark) xs) xs)
ends_back mark [] = tt
ends_back mark (c ∷ cs) = ends_step mark c cs _ (c == mark) refl (ends_back mark cs)

-- The place of the first mark, or the length where there is none.
found_or_len : (n l : ℕ) (b : Bool) → nat_lt n l ≡ b → n ≤ l → unwrap_or (cond b (Some n) None) l ≡ n
found_or_len n l true e h = refl
found_or_len n l false e h = let other : l ≤ n = ltb-false n l e in omega (arith, other, h)

pub first_mark : (mark : ℕ) (xs : List ℕ) → unwrap_or (position (λ b. b == mark) xs) (length xs) ≡ position_or_len (λ b. b == mark) xs
first_mark mark xs = found_or_len _ _ _ refl (prefix_len-le-length _ xs)

pub free_to_mark : (mark at : ℕ) (xs : List ℕ) → at ≡ unwrap_or (position (λ b. b == mark) xs) (length xs) → IsFree mark (take at xs)
free_to_mark mark at xs e = subst (λ (k : ℕ). IsFree mark (take k xs)) (sym (e ∙ first_mark mark xs)) (free_front mark xs)

pub ends_at_mark : (mark at : ℕ) (xs : List ℕ) → at ≡ unwrap_or (position (λ b. b == mark) xs) (length xs) → EndsAt mark (drop at xs)
ends_at_mark mark at xs e = subst (λ (k : ℕ). EndsAt mark (drop k xs)) (sym (e ∙ first_mark mark xs)) (ends_back mark xs)

-- ---- A text is split at its first mark in one way

abbrev tail_of : List ℕ → List ℕ
tail_of [] = []
tail_of (c ∷ cs) = cs

pub heads_same : (a b : ℕ) (xs ys : List ℕ) → a ∷ xs ≡ b ∷ ys → a ≡ b
heads_same a b xs ys e = ap (λ l. get_or l 0 0) e

pub tails_same : (a b : ℕ) (xs ys : List ℕ) → a ∷ xs ≡ b ∷ ys → xs ≡ ys
tails_same a b xs ys e = ap tail_of e

pub no_cons : (a : ℕ) (xs : List ℕ) → [] ≡ a ∷ xs → ⊥
no_cons a xs e = let l : 0 ≡ suc (length xs) = ap length e in omega (arith, l)

pub split_once : (mark : ℕ) (a b r s : List ℕ) → IsFree mark a → IsFree mark b → EndsAt mark r → EndsAt mark s → a ++ r ≡ b ++ s → (a ≡ b) × (r ≡ s)
split_once mark [] [] r s fa fb er es e = (refl, e)
split_once mark [] (c ∷ cs) [] s fa fb er es e = absurd (no_cons c (cs ++ s) e)
split_once mark [] (c ∷ cs) (d ∷ ds) s fa fb er es e = absurd (fb.0 (sym (heads_same d c ds (cs ++ s) e) ∙ er))
split_once mark (c ∷ cs) [] r [] fa fb er es e = absurd (no_cons c (cs ++ r) (sym e))
split_once mark (c ∷ cs) [] r (d ∷ ds) fa fb er es e = absurd (fa.0 (heads_same c d (cs ++ r) ds e ∙ es))
split_once mark (c ∷ cs) (d ∷ ds) r s fa fb er es e =
    let h : c ≡ d = heads_same c d (cs ++ r) (ds ++ s) e in
    let rest : (cs ≡ ds) × (r ≡ s) = split_once mark cs ds r s fa.1 fb.1 er es (tails_same c d (cs ++ r) (ds ++ s) e) in
    (ap (λ x. x ∷ cs) h ∙ ap (λ (x : List ℕ). d ∷ x) rest.0, rest.1)

-- ---- Plain texts

above_not : (c mark : ℕ) → mark ≤ 32 → 32 < c → c ≢ mark
above_not c mark h k e = omega (arith, h, k, e)

pub plain_free : (mark : ℕ) (xs : List ℕ) → mark ≤ 32 → IsPlain xs → IsFree mark xs
plain_free mark [] h p = tt
plain_free mark (c ∷ cs) h p = (above_not c mark h p.0, plain_free mark cs h p.1)

pub plain_append : (xs ys : List ℕ) → IsPlain xs → IsPlain ys → IsPlain (xs ++ ys)
plain_append [] ys p q = q
plain_append (c ∷ cs) ys p q = (p.0, plain_append cs ys p.1 q)

-- A word is cut where the first space is, or where the text ends.
pub cut_once : (text word more : List ℕ) (c at : ℕ) → IsFree 32 (take at text) → EndsAt 32 (drop at text) → IsPlain word → EndsAt 32 more
    → c ∷ text ≡ 32 ∷ (word ++ more) → (take at text ≡ word) × (drop at text ≡ more)
cut_once text word more c at free ends plain stops e =
    split_once 32 (take at text) word (drop at text) more free (plain_free 32 word (omega arith) plain) ends stops
    (take-append-drop at text ∙ tails_same c 32 text (word ++ more) e)

-- ---- Two words

pub pair_around : (a b more : List ℕ) → pair_text a b ++ more ≡ 32 ∷ (a ++ (32 ∷ (b ++ more)))
pair_around a b more = ap (λ (x : List ℕ). 32 ∷ x) (append_assoc a (32 ∷ b) more)

pub pair_grown : (bytes a rest b more : List ℕ) → bytes ≡ 32 ∷ (a ++ rest) → rest ≡ 32 ∷ (b ++ more) → bytes ≡ pair_text a b ++ more
pair_grown bytes a rest b more e f = e ∙ ap (λ (x : List ℕ). 32 ∷ (a ++ x)) f ∙ sym (pair_around a b more)

pub cut_pair : (bytes : List ℕ) (var : ℕ) (at : Extended) (more : List ℕ) → 67 ∷ bytes ≡ cut_text var at ++ more → bytes ≡ pair_text (decimal var) (number_text at) ++ more
cut_pair bytes var at more e = tails_same 67 67 bytes (pair_text (decimal var) (number_text at) ++ more) e

pub same_words : (a b c d r s : List ℕ) → IsPlain a → IsPlain b → IsPlain c → IsPlain d → EndsAt 32 r → EndsAt 32 s → pair_text a b ++ r ≡ pair_text c d ++ s
    → (a ≡ c) × (b ≡ d) × (r ≡ s)
same_words a b c d r s pa pb pc pd er es e =
    let whole : a ++ (32 ∷ (b ++ r)) ≡ c ++ (32 ∷ (d ++ s)) =
    sym (append_assoc a (32 ∷ b) r) ∙ tails_same 32 32 ((a ++ (32 ∷ b)) ++ r) ((c ++ (32 ∷ d)) ++ s) e ∙ append_assoc c (32 ∷ d) s in
    let one = split_once 32 a c (32 ∷ (b ++ r)) (32 ∷ (d ++ s)) (plain_free 32 a (omega arith) pa) (plain_free 32 c (omega arith) pc) refl refl whole in
    let two = split_once 32 b d r s (plain_free 32 b (omega arith) pb) (plain_free 32 d (omega arith) pd) er es (tails_same 32 32 (b ++ r) (d ++ s) one.1) in
    (one.0, two.0, two.1)

-- ---- The first mark by its place

-- the byte at each place in front of an end is no mark
free_below : (mark n : ℕ) (xs : List ℕ) → ((k : ℕ) → k < n → get_or xs k 0 ≢ mark) → IsFree mark (take n xs)
free_below mark zero xs h = tt
free_below mark (suc n) [] h = tt
free_below mark (suc n) (c ∷ cs) h =
    let first : 0 < suc n = omega arith in
    (h 0 first, free_below mark n cs (λ k below. h (suc k) (omega (arith, below))))

marked : (mark c : ℕ) → c ≡ mark → (c == mark) ≡ true
marked mark c e = by (eqb_tells c mark)
  where
    by : (((c == mark) ≡ true) × (c ≡ mark)) ⊎ (((c == mark) ≡ false) × (c ≡ mark → ⊥)) → (c == mark) ≡ true
    by (inl h) = h.0
    by (inr h) = absurd (h.1 e)

ends_there : (mark n : ℕ) (xs : List ℕ) → get_or xs n 0 ≡ mark → n < length xs → EndsAt mark (drop n xs)
ends_there mark n [] e h = absurd (omega arith)
ends_there mark zero (c ∷ cs) e h = e
ends_there mark (suc n) (c ∷ cs) e h = ends_there mark n cs e (omega (arith, h))

ends_after : (mark : ℕ) (xs : List ℕ) → EndsAt mark (drop (length xs) xs)
ends_after mark [] = tt
ends_after mark (c ∷ cs) = ends_after mark cs

-- a first mark was found
pub found_free : (mark at : ℕ) (xs : List ℕ) → IsFirstByte (is_byte mark) xs (Some at) → IsFree mark (take at xs)
found_free mark at xs h = free_below mark at xs (λ k below e. h.0.before k (omega arith) below (marked mark (get_or xs k 0) e))

pub found_ends : (mark at : ℕ) (xs : List ℕ) → IsFirstByte (is_byte mark) xs (Some at) → EndsAt mark (drop at xs)
found_ends mark at xs h = ends_there mark at xs (eqb-true (get_or xs at 0) mark h.1) h.0.high

pub found_within : (mark at : ℕ) (xs : List ℕ) → IsFirstByte (is_byte mark) xs (Some at) → at ≤ length xs
found_within mark at xs h = let high = h.0.high in omega arith

-- none was found
pub none_free : (mark : ℕ) (xs : List ℕ) → IsFirstByte (is_byte mark) xs None → IsFree mark (take (length xs) xs)
none_free mark xs h = free_below mark (length xs) xs (λ k below e. h k (omega arith) below (marked mark (get_or xs k 0) e))

pub none_ends : (mark : ℕ) (xs : List ℕ) → IsFirstByte (is_byte mark) xs None → EndsAt mark (drop (length xs) xs)
none_ends mark xs h = ends_after mark xs
