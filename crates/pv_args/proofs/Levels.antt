-- Parts of a text at a mark, and the numbers between commas.
use Rattle.std.proofs.Common.{length-append, append_assoc, ◌≡◌, ℕ, ℤ, ◌+◌, ◌<◌, ◌==◌, ◌++◌, Bool, true, false, List, [], ◌∷◌, length, drop, sym, ◌∙◌, ap, ap₂, subst, arith, if◌then◌else◌}
use Rattle.std.specs.Prelude.{neg_ℤ, Option, Some, None, MatchOption}
use Rattle.std.specs.List.{position_or_len, slice_split}
use Rattle.std.specs.Borrow.{Bor}
use Rattle.std.proofs.lemmas.Str.Pattern.{IsSplitOnceResult, split_once_first, split_parts}
use Rattle.std.proofs.lemmas.List.Splits.{slice_split_none, slice_split_first}
use Rattle.std.proofs.lemmas.List.Sums.{fails_before_first}
use Rattle.clap.specs.Words.{Text}
use Rattle.pv_num.specs.Extended.{Extended}
use Rattle.pv_num.specs.Arithmetic.{ratio_of}
use Rattle.pv_num.specs.declared.num.End.TheVariants.{Down}
use Rattle.pv_tokens.specs.Numbers.{IsRead}
use Rattle.pv_request.specs.Requests.{IsLevel, IsWidth, AreLevels, words_between, has_minus, behind_minus, with_minus}
use Rattle.pv_args.specs.Found.{RefusesValues, EndsWithLevel}
use Rattle.pv_request.specs.declared.refusal.Refusal.{Refusal}
use Rattle.pv_request.specs.declared.refusal.Refusal.TheVariants.{Usage, System, Contract, Objective, NoFile, ReadFault, Paving, NotStored, KeeperFault, NotPrinted, Memory, TreeLimit, Disagree, Differs}

-- ---- The words

-- the parts of a text at a mark
abbrev parts_at : ℕ → List ℕ → List (List ℕ)
parts_at mark bs = slice_split (λ c. c == mark) bs

one_part : (mark : ℕ) (bs : List ℕ) → position_or_len (λ c. c == mark) bs ≡ length bs → parts_at mark bs ≡ bs ∷ []
one_part mark bs e =
    slice_split_none (λ (c : ℕ). c == mark) bs
    (λ k d l. fails_before_first (λ (c : ℕ). c == mark) bs k d (let same : position_or_len (λ (c : ℕ). c == mark) bs ≡ length bs = e in omega arith))

pub split_at : (mark : ℕ) → mark < 128 → (bs : List ℕ) (r : Option (Bor (List ℕ) × Bor (List ℕ))) → IsSplitOnceResult mark bs r
    → MatchOption r (parts_at mark bs ≡ bs ∷ []) (λ x. (parts_at mark bs ≡ x.0.now ∷ parts_at mark x.1.now) × (length x.1.now < length bs))
split_at mark low bs None h = one_part mark bs (split_once_first mark bs None h low)
split_at mark low bs (Some x) h =
    let first = split_once_first mark bs (Some x) h low in
    let parts = split_parts mark bs (Some x) h low in
    let count : length bs ≡ length x.0.now + length (mark ∷ x.1.now) = ap length parts.0 ∙ length-append x.0.now (mark ∷ x.1.now) in (
      slice_split_first (λ (c : ℕ). c == mark) bs 0 first.0 ∙ ap₂ (λ (a b : List ℕ). a ∷ parts_at mark b) (sym first.1) (sym first.2),
      omega arith,
    )

pub split_words : (bs : List ℕ) (r : Option (Bor (List ℕ) × Bor (List ℕ))) → IsSplitOnceResult 44 bs r
    → MatchOption r (words_between bs ≡ bs ∷ []) (λ x. (words_between bs ≡ x.0.now ∷ words_between x.1.now) × (length x.1.now < length bs))
split_words bs r h = split_at 44 (omega arith) bs r h

-- ---- One number

pub plain_level : (t : Text) (n : Extended) → has_minus t ≡ false → IsWidth t n → IsLevel t n
plain_level t n plain h = record {
  ratio = h.ratio;
  read = subst (λ (b : Bool). IsRead (if b then drop 1 t else t) h.ratio) (sym plain) h.read;
  rounded = h.rounded ∙ ap (λ (b : Bool). ratio_of Down (with_minus b h.ratio.0) h.ratio.1) (sym plain);
}

pub plain_width : (t : Text) (n : Extended) → has_minus t ≡ false → IsLevel t n → IsWidth t n
plain_width t n plain h = record {
  ratio = h.ratio;
  read = subst (λ (b : Bool). IsRead (if b then drop 1 t else t) h.ratio) plain h.read;
  rounded = h.rounded ∙ ap (λ (b : Bool). ratio_of Down (with_minus b h.ratio.0) h.ratio.1) plain;
}

pub plain_by : (t : Text) (r : Option Extended) → has_minus t ≡ false → MatchOption r ((n : Extended) → IsWidth t n → ⊥) (λ n. IsWidth t n)
    → MatchOption r ((n : Extended) → IsLevel t n → ⊥) (λ n. IsLevel t n)
plain_by t None plain h = λ n level. h n (plain_width t n plain level)
plain_by t (Some n) plain h = plain_level t n plain h

-- ---- Several numbers

module _ (words : List Text) where
  abbrev pub Fills : List Text → List Extended → Type 0
  Fills rest numbers = (ms : List Extended) → AreLevels rest ms → AreLevels words (numbers ++ ms)

  abbrev pub HasRest : List Text → Type 0
  HasRest rest = (ns : List Extended) → AreLevels words ns → (ms : List Extended) × AreLevels rest ms

  pub fills_on : (word : Text) (rest : List Text) (before after : List Extended) → EndsWithLevel word before after → Fills (word ∷ rest) before → Fills rest after
  fills_on word rest before after added fills = λ ms h.
      subst (AreLevels words) (sym (ap (λ (x : List Extended). x ++ ms) added.added ∙ append_assoc before (added.number ∷ []) ms)) (fills (added.number ∷ ms) (added.is, h))

  pub rest_on : (word : Text) (rest : List Text) → HasRest (word ∷ rest) → HasRest rest
  rest_on word rest has = λ ns h. by (has ns h).0 (has ns h).1
    where
      by : (ms : List Extended) → AreLevels (word ∷ rest) ms → (ms : List Extended) × AreLevels rest ms
      by [] h = absurd h
      by (m ∷ ms) h = (ms, h.1)

  none_at : (word : Text) (rest : List Text) → HasRest (word ∷ rest) → ((n : Extended) → IsLevel word n → ⊥) → (ns : List Extended) → AreLevels words ns → ⊥
  none_at word rest has none ns h = by (has ns h).0 (has ns h).1
    where
      by : (ms : List Extended) → AreLevels (word ∷ rest) ms → ⊥
      by [] h = h
      by (m ∷ ms) h = none m h.0

  pub refused_at : (word : Text) (rest : List Text) (r : Refusal) → HasRest (word ∷ rest) → RefusesValues ((n : Extended) → IsLevel word n → ⊥) r
      → RefusesValues ((ns : List Extended) → AreLevels words ns → ⊥) r
  refused_at word rest Usage has h = none_at word rest has h
  refused_at word rest Memory has h = tt
  refused_at word rest (System line column byte cause) has h = h
  refused_at word rest (Contract byte) has h = h
  refused_at word rest (Objective byte cause) has h = h
  refused_at word rest (NoFile n) has h = h
  refused_at word rest (ReadFault n) has h = h
  refused_at word rest (Paving n f) has h = h
  refused_at word rest (NotStored n) has h = h
  refused_at word rest (KeeperFault n) has h = h
  refused_at word rest NotPrinted has h = h
  refused_at word rest (TreeLimit n) has h = h
  refused_at word rest (Disagree p a b) has h = h
  refused_at word rest (Differs p a b) has h = h

-- ---- A number behind a minus

pub digits_are : (t digits : Text) (c : ℕ) → t ≡ c ∷ digits → has_minus t ≡ true → behind_minus t ≡ digits
digits_are t digits c e h = ap (λ (b : Bool). if b then drop 1 t else t) h ∙ ap (drop 1) e

pub minus_level : (t digits : Text) (v : ℤ × ℕ) (n : Extended) → behind_minus t ≡ digits → has_minus t ≡ true → IsRead digits v → n ≡ ratio_of Down (neg_ℤ v.0) v.1 → IsLevel t n
minus_level t digits v n e h read is = record {
  ratio = v;
  read = subst (λ (u : Text). IsRead u v) (sym e) read;
  rounded = is ∙ ap (λ (b : Bool). ratio_of Down (with_minus b v.0) v.1) (sym h);
}
