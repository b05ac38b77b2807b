-- A text of tokens side by side, each with the blanks behind it, is spelled as they are.
use Rattle.std.proofs.Common.{◌≡◌, ℕ, ◌+◌, ◌-◌, ◌≤◌, Bool, true, eqb, ◌&&◌, ◌||◌, List, [], ◌∷◌, ◌++◌, drop, drop_at, drop-drop, get_or, get_or-drop, length, length-append, length-drop, take, take_at, refl, sym, ap, ◌∙◌, subst, arith}
use Rattle.std.proofs.lemmas.Bool.{and_parts}
use Rattle.std.proofs.lemmas.Bool.Decides.{nat_tests}
use Rattle.std.proofs.lemmas.List.{get_or_append_left}
use Rattle.pv_grammar.specs.declared.symbol.Symbol.{Symbol}
use Rattle.pv_grammar.specs.Standings.{Standing, standing_behind}
use Rattle.pv_tokens.specs.declared.token.Kind.TheVariants.{End}
use Rattle.pv_tokens.specs.declared.token.Token.{Token}
use Rattle.pv_tokens.specs.Tokens.{IsNext, Separated}
use Rattle.pv_tokens.specs.Tokens.Separates.{blank}
use Rattle.pv_tokens.proofs.Exists.{Opens, opens}
use Rattle.pv_parse.specs.Meanings.{Names, learnt}
use Rattle.pv_parse.specs.Sentences.{Spells, SpellsTo, StandsFor, bytes_of}
use Rattle.pv_parse.proofs.Continued.{next_end}
use Rattle.pv_parse.proofs.Pieces.{IsPiece, Piece, Placed}
use Rattle.pv_circles.proofs.MadeTokens.{ends_at, longest_word}

-- a token, and the blanks behind it
pub record Part : Type 0 where
  pub piece : Piece
  pub gap : List ℕ

abbrev pub part : Piece → List ℕ → Part
part piece gap = record { piece = piece; gap = gap }

abbrev pub text_in : List Part → List ℕ
text_in [] = []
text_in (x ∷ xs) = x.piece.bytes ++ (x.gap ++ text_in xs)

abbrev are_blanks : List ℕ → Bool
are_blanks [] = true
are_blanks (b ∷ bs) = (eqb b 32 || eqb b 10) && are_blanks bs

-- blanks are behind the token, and it ends before what follows
abbrev pub fits : Part → List Part → Bool
fits x xs = are_blanks x.gap && ends_at x.piece.kind (get_or (x.gap ++ text_in xs) 0 0)

-- the tokens are these for the grammar, where the names and the standing begin as given
abbrev pub ReadAs : Names → Standing → List Part → List Symbol → Type 0
ReadAs n y [] [] = Unit {0}
ReadAs n y (x ∷ xs) (s ∷ ss) =
    IsPiece x.piece × (fits x xs ≡ true) × StandsFor y.phase n x.piece.bytes x.piece.kind s × ReadAs (learnt y s x.piece.bytes n) (standing_behind y s) xs ss
ReadAs n y xs ss = ⊥

-- from a place on a text is these bytes
record Rest (w : List ℕ) (at : ℕ) (p : List ℕ) : Type 0 where
  within : at ≤ length w
  is : drop at w ≡ p

-- the tokens from a place on, up to the end of the text
abbrev SpellsFrom : List ℕ → Names → Standing → ℕ → List Symbol → Type 0
SpellsFrom w n y from ss = (to : ℕ) × (m : Names) × (x : Token) × SpellsTo w n y from ss to m × IsNext w to x × (x.kind ≡ End)

module _ (w : List ℕ) where
  byte_at : (at k : ℕ) (p : List ℕ) → Rest w at p → get_or w (at + k) 0 ≡ get_or p k 0
  byte_at at k p h = sym (get_or-drop at w k 0) ∙ ap (λ x. get_or x k 0) h.is

  first_byte : (at : ℕ) (p : List ℕ) → Rest w at p → get_or w at 0 ≡ get_or p 0 0
  first_byte at p h = let e : at ≡ at + 0 = omega arith in ap (λ k. get_or w k 0) e ∙ byte_at at 0 p h

  long : (at : ℕ) (p : List ℕ) → Rest w at p → at + length p ≡ length w
  long at p h = let same : length (drop at w) ≡ length p = ap length h.is in omega (arith, h.within, same, length-drop at w)

  behind : (at : ℕ) (p rest : List ℕ) → Rest w at (p ++ rest) → Rest w (at + length p) rest
  behind at p rest h = record {
    within = omega (arith, long at (p ++ rest) h, length-append p rest);
    is = sym (drop-drop (length p) at w) ∙ (ap (drop (length p)) h.is ∙ drop_at p rest (length p) refl);
  }

  placed : (at : ℕ) (p rest : List ℕ) → Rest w at (p ++ rest) → Placed w at p
  placed at p rest h = record {
    each = λ k l. byte_at at k (p ++ rest) h ∙ get_or_append_left p rest 0 k l;
    within = omega (arith, long at (p ++ rest) h, length-append p rest);
  }

  separated : (gap rest : List ℕ) (at : ℕ) → are_blanks gap ≡ true → Rest w at (gap ++ rest) → Separated w (length gap) at (at + length gap)
  separated [] rest at b h = omega arith
  separated (b ∷ bs) rest at blanks h =
      let first : get_or w at 0 ≡ b = first_byte at (b ∷ (bs ++ rest)) h in
      let more : Separated w (length bs) (at + 1) (at + 1 + length bs) = separated bs rest (at + 1) (grind arith) (behind at (b ∷ []) (bs ++ rest) h) in
      (at + 1, blank (grind (arith, nat_tests, first)) refl, subst (Separated w (length bs) (at + 1)) (omega arith) more)

  abbrev token_at : ℕ → Piece → Token
  token_at at x = record { kind = x.kind; start = at; end = at + length x.bytes }

  next_token : (at : ℕ) (gap : List ℕ) (x : Piece) (rest : List ℕ) → are_blanks gap ≡ true → IsPiece x → Rest w at (gap ++ (x.bytes ++ rest)) → ends_at x.kind (get_or rest 0 0) ≡ true →
      IsNext w at (token_at (at + length gap) x)
  next_token at gap x rest blanks is h ends =
      let i : ℕ = at + length gap in
      let here : Rest w i (x.bytes ++ rest) = behind at gap (x.bytes ++ rest) h in
      let first : get_or w i 0 ≡ get_or x.bytes 0 0 = first_byte i (x.bytes ++ rest) here ∙ get_or_append_left x.bytes rest 0 0 is.some in
      let last : get_or w (i + length x.bytes) 0 ≡ get_or rest 0 0 = first_byte (i + length x.bytes) rest (behind i x.bytes rest here) in
      record {
        separators = length gap;
        gap = separated gap (x.bytes ++ rest) at blanks h;
        begins = λ k s. is.begins (get_or w (i + 1) 0) (subst (λ b. Opens b (get_or w (i + 1) 0)) first (opens w i k s));
        longest = longest_word w i x.kind (i + length x.bytes) (is.word w i (placed i x.bytes rest here)) (ap (ends_at x.kind) last ∙ ends);
      }

  bytes_there : (i : ℕ) (x : Piece) (rest : List ℕ) → Rest w i (x.bytes ++ rest) → x.bytes ≡ bytes_of w (token_at i x)
  bytes_there i x rest h =
      let n : i + length x.bytes - i ≡ length x.bytes = omega arith in
      sym (ap (λ m. take m (drop i w)) n ∙ (ap (take (length x.bytes)) h.is ∙ take_at x.bytes rest (length x.bytes) refl))

  -- behind blanks the text ends
  end_next : (at : ℕ) (gap : List ℕ) → are_blanks gap ≡ true → Rest w at (gap ++ []) → IsNext w at (record { kind = End; start = length w; end = length w })
  end_next at gap blanks h =
      let e : at + length gap ≡ length w = omega (arith, long at (gap ++ []) h, length-append gap []) in
      record {
        separators = length gap;
        gap = subst (Separated w (length gap) at) e (separated gap [] at blanks h);
        begins = (next_end w).begins;
        longest = (next_end w).longest;
      }

  spells : (xs : List Part) (ss : List Symbol) (n : Names) (y : Standing) (at : ℕ) (gap : List ℕ) → are_blanks gap ≡ true → Rest w at (gap ++ text_in xs) → ReadAs n y xs ss → SpellsFrom w n y at ss
  spells [] [] n y at gap blanks h read = (at, n, record { kind = End; start = length w; end = length w }, (refl, refl), end_next at gap blanks h, refl)
  spells [] (s ∷ ss) n y at gap blanks h read = absurd read
  spells (x ∷ xs) [] n y at gap blanks h read = absurd read
  spells (x ∷ xs) (s ∷ ss) n y at gap blanks h (is, fit, stands, more) =
      let p : Piece = x.piece in
      let i : ℕ = at + length gap in
      let rest : List ℕ = x.gap ++ text_in xs in
      let here : Rest w i (p.bytes ++ rest) = behind at gap (p.bytes ++ rest) h in
      let fit_parts = and_parts (are_blanks x.gap) (ends_at p.kind (get_or rest 0 0)) fit in
      let bytes : p.bytes ≡ bytes_of w (token_at i p) = bytes_there i p rest here in
      let (to, m, e, spelled, next, last) =
      spells xs ss (learnt y s p.bytes n) (standing_behind y s) (i + length p.bytes) x.gap fit_parts.0 (behind i p.bytes rest here) more in (
        to,
        m,
        e,
        (
          token_at i p,
          next_token at gap p rest blanks is h fit_parts.1,
          is.inner,
          subst (λ (z : List ℕ). StandsFor y.phase n z p.kind s) bytes stands,
          subst (λ (z : List ℕ). SpellsTo w (learnt y s z n) (standing_behind y s) (i + length p.bytes) ss to m) bytes spelled,
        ),
        next,
        last,
      )

-- the tokens of the text are these for the grammar
pub made_text : (n : Names) (y : Standing) (xs : List Part) (ss : List Symbol) → ReadAs n y xs ss → Spells (text_in xs) n y ss
made_text n y xs ss read = spells (text_in xs) xs ss n y 0 [] refl (record { within = omega arith; is = refl }) read
