-- What is read of what is due.
use Rattle.std.proofs.Common.{◌≡◌, ℕ, ◌<◌, ◌≤◌, true, false, cond, nat_lt, List, [], ◌∷◌, ◌++◌, refl, ap, sym, ◌∙◌, subst, arith, append_assoc, Some, None, Result, Ok, Err, IfErr}
use Rattle.std.specs.Result.{IsErrAnd}
use Rattle.std.proofs.lemmas.Bool.Decides.{nat_tests}
use Rattle.pv_ctc.specs.declared.token.Word.{Word as Name}
use Rattle.pv_ctc.specs.declared.token.Token.{Token}
use Rattle.pv_ctc.specs.declared.token.Token.TheVariants.{Word, Number, Open, Close, Comma, End}
use Rattle.pv_ctc.specs.declared.reading.ProgramRefused.{ProgramRefused}
use Rattle.pv_ctc.specs.declared.reading.ProgramRefused.TheVariants as refused
use Rattle.pv_ctc.specs.Symbols.{Placed}
use Rattle.pv_ctc.specs.Refusals.{Due, Counted, exactly, a_program, a_number, is_mark, in_range, due_after, counted_due, arguments_due, named_with, in_front, met, refusal}
use Rattle.pv_ctc.specs.Taking.{Took, Stopped}

-- an error is passed on
pub passed : {A : Type 0} (r : Result A ProgramRefused) (e : ProgramRefused) (P : ProgramRefused → Type 0) → IsErrAnd r (λ x. x ≡ e) → P e → IfErr r P
passed (Ok x) e P h p = tt
passed (Err x) e P h p = subst P (sym h) p

-- what is refused is refused whatever is due behind it
pub stops_more : (count : ℕ) (due more : List Due) (named : ℕ) (ps : List Placed) (e : ProgramRefused) → Stopped count due named ps e → Stopped count (due ++ more) named ps e
stops_more count due more named ps refused.Memory s = tt
stops_more count due more named ps (refused.Bad byte) s = λ rest. ap (refusal ps count named) (append_assoc due more rest) ∙ s (more ++ rest)

-- what is refused behind what was taken
pub stops_behind : (count count' named named' : ℕ) (due now : List Due) (ps ps' : List Placed) (e : ProgramRefused) → count' ≡ count → Took count due named ps now named' ps' → Stopped count' now named' ps' e → Stopped count due named ps e
stops_behind count count' named named' due now ps ps' refused.Memory same t s = tt
stops_behind count count' named named' due now ps ps' (refused.Bad byte) same t s = λ rest. t rest ∙ ap (λ k. refusal ps' k named' (now ++ rest)) (sym same) ∙ s rest

pub then_took : (count count' named named' named'' : ℕ) (due now later : List Due) (ps ps' ps'' : List Placed) → count' ≡ count → Took count due named ps now named' ps' → Took count' now named' ps' later named'' ps'' → Took count due named ps later named'' ps''
then_took count count' named named' named'' due now later ps ps' ps'' same t u =
    λ rest. t rest ∙ ap (λ k. refusal ps' k named' (now ++ rest)) (sym same) ∙ u rest ∙ ap (λ k. refusal ps'' k named'' (later ++ rest)) same

-- a mark that is another one than what is due
pub other_mark : (count named : ℕ) (u t : Token) (at : ℕ) (before after : List Placed) → before ≡ record { place = at; token = t } ∷ after → is_mark u u ≡ true → (t ≡ u → ⊥) → Stopped count (exactly u ∷ []) named before (refused.Bad at)
other_mark count named u t at before after e m h = λ rest. ap (λ ps. refusal ps count named (exactly u ∷ rest)) e ∙ ap (λ b. met (in_front (cond b (Some []) None) rest) at (λ now. refusal after count (named_with t named) now)) (differs u t m h)
  where
    differs : (u t : Token) → is_mark u u ≡ true → (t ≡ u → ⊥) → is_mark u t ≡ false
    differs Open Open m h = absurd (h refl)
    differs Close Close m h = absurd (h refl)
    differs Comma Comma m h = absurd (h refl)
    differs End End m h = absurd (h refl)
    differs u t m h = refl

-- the token is no number in the range
pub record IsOut (low limit : ℕ) (t : Token) : Type 0 where
  pub out : (n : ℕ) → t ≡ Number n → in_range low limit n ≡ false

pub too_low : (low limit : ℕ) (t : Token) (n : ℕ) → t ≡ Number n → n < low → IsOut low limit t
too_low low limit t n e h = record { out = λ m f. let same : m ≡ n = cc in let l : m < low = omega arith in grind (arith, nat_tests) }

pub too_high : (low limit : ℕ) (t : Token) (n : ℕ) → t ≡ Number n → limit ≤ n → IsOut low limit t
too_high low limit t n e h = record { out = λ m f. let same : m ≡ n = cc in let l : limit ≤ m = omega arith in grind (arith, nat_tests) }

pub other_kind : (low limit : ℕ) (t : Token) → ((n : ℕ) → t ≡ Number n → ⊥) → IsOut low limit t
other_kind low limit t h = record { out = λ m f. absurd (h m f) }

-- the token is no word, or so many programs are named that it may not be one
pub record IsFull (named : ℕ) (t : Token) : Type 0 where
  pub full : (w : Name) → t ≡ Word w → 256 ≤ named

pub full : (named : ℕ) (t : Token) → 256 ≤ named → IsFull named t
full named t h = record { full = λ w f. h }

pub no_name : (named : ℕ) (t : Token) → ((w : Name) → t ≡ Word w → ⊥) → IsFull named t
no_name named t h = record { full = λ w f. absurd (h w f) }

pub no_number : (count named low limit : ℕ) (c : Counted) (t : Token) (at : ℕ) (before after : List Placed) → before ≡ record { place = at; token = t } ∷ after → IsOut low limit t → Stopped count (a_number low limit c ∷ []) named before (refused.Bad at)
no_number count named low limit c t at before after e h = λ rest. ap (λ ps. refusal ps count named (a_number low limit c ∷ rest)) e ∙ ap (λ o. met (in_front o rest) at (λ now. refusal after count (named_with t named) now)) (none t h.out)
  where
    none : (t : Token) → ((n : ℕ) → t ≡ Number n → in_range low limit n ≡ false) → due_after count named (a_number low limit c) t ≡ None
    none (Number n) h = ap (λ b. cond b (Some (counted_due c n)) None) (h n refl)
    none t h = refl

-- a token that is no word, or names a program too many
pub no_word : (count named : ℕ) (t : Token) (at : ℕ) (before after : List Placed) → before ≡ record { place = at; token = t } ∷ after → IsFull named t → Stopped count (a_program ∷ []) named before (refused.Bad at)
no_word count named t at before after e h = λ rest. ap (λ ps. refusal ps count named (a_program ∷ rest)) e ∙ ap (λ o. met (in_front o rest) at (λ now. refusal after count (named_with t named) now)) (none t h.full)
  where
    none : (t : Token) → ((w : Name) → t ≡ Word w → 256 ≤ named) → due_after count named a_program t ≡ None
    none (Word w) h = let l : 256 ≤ named = h w refl in let f : nat_lt named 256 ≡ false = grind (arith, nat_tests) in ap (λ b. cond b (Some (exactly Open ∷ arguments_due count w)) None) f
    none t h = refl
