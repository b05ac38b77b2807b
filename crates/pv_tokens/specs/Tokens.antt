-- The tokens of a text, by the places between which they stand, counted in bytes from 0.
-- Behind its end a text reads as 0, a byte that is part of no token, blank or comment.
use Rattle.std.specs.Prelude.{◌≡◌, ℕ, zero, suc, ◌+◌, ◌<◌, ◌≤◌, ◌⊎◌, List, [], ◌∷◌, Bool, true, false, length, slice_index, nat_eq, if◌then◌else◌}
use Rattle.pv_tokens.specs.declared.token.Kind.{Kind}
use Rattle.pv_tokens.specs.declared.token.Kind.TheVariants.{Name, Number, LessEqual, GreaterEqual, Less, Greater, Equal, Plus, Minus, Star, Slash, Caret, Open, Close, OpenBracket, CloseBracket, Comma, Semicolon, Bad, End}
use Rattle.pv_tokens.specs.declared.token.Token.{Token}
use Rattle.pv_tokens.specs.declared.numeral.Parts.{Parts}

-- 0 to 9
abbrev pub IsDigit : ℕ → Type 0
IsDigit b = (48 ≤ b) × (b ≤ 57)

-- A to Z, a to z, or _
abbrev pub IsLetter : ℕ → Type 0
IsLetter b = ((65 ≤ b) × (b ≤ 90)) ⊎ (((97 ≤ b) × (b ≤ 122)) ⊎ (b ≡ 95))

-- what may stand in a name behind its first letter
abbrev pub IsNamed : ℕ → Type 0
IsNamed b = IsLetter b ⊎ IsDigit b

-- space, tab, carriage return, line feed
abbrev pub IsBlank : ℕ → Type 0
IsBlank b = (b ≡ 32) ⊎ ((b ≡ 9) ⊎ ((b ≡ 13) ⊎ (b ≡ 10)))

-- each byte from place i up to place j has the property
pub record Run (P : ℕ → Type 0) (t : List ℕ) (i j : ℕ) : Type 0 where
  pub ordered : i ≤ j
  pub within : j ≤ length t
  pub each : (k : ℕ) → i ≤ k → k < j → P (slice_index t k)

-- ---- Blanks and comments

-- from `//` up to the next line feed, or to the end of the text
pub record IsLineComment (t : List ℕ) (i j : ℕ) : Type 0 where
  pub first : slice_index t i ≡ 47
  pub second : slice_index t (i + 1) ≡ 47
  pub after : i + 2 ≤ j
  pub within : j ≤ length t
  pub one_line : (k : ℕ) → i + 2 ≤ k → k < j → ¬ (slice_index t k ≡ 10)
  pub ends : (j ≡ length t) ⊎ (slice_index t j ≡ 10)

-- `*/` stands at place k
abbrev pub Closes : List ℕ → ℕ → Type 0
Closes t k = (slice_index t k ≡ 42) × (slice_index t (k + 1) ≡ 47)

-- from `/*` up to and with the next `*/` behind it
pub record IsClosedComment (t : List ℕ) (i j : ℕ) : Type 0 where
  pub close : ℕ
  pub first : slice_index t i ≡ 47
  pub second : slice_index t (i + 1) ≡ 42
  pub after : i + 2 ≤ close
  pub closes : Closes t close
  pub next : (k : ℕ) → i + 2 ≤ k → k < close → ¬ Closes t k
  pub ends : j ≡ close + 2

-- from `/*` to the end of the text, where no `*/` stands behind it
pub record IsOpenComment (t : List ℕ) (i j : ℕ) : Type 0 where
  pub first : slice_index t i ≡ 47
  pub second : slice_index t (i + 1) ≡ 42
  pub never : (k : ℕ) → i + 2 ≤ k → ¬ Closes t k
  pub ends : j ≡ length t

-- one blank or one comment stands from place i up to place j
pub data Separates (t : List ℕ) (i j : ℕ) : Type 0 where
  blank : IsBlank (slice_index t i) → j ≡ i + 1 → Separates t i j
  line : IsLineComment t i j → Separates t i j
  closed : IsClosedComment t i j → Separates t i j
  unclosed : IsOpenComment t i j → Separates t i j

-- n blanks and comments, one behind another, stand from place i up to place j
abbrev pub Separated : List ℕ → ℕ → ℕ → ℕ → Type 0
Separated t zero i j = i ≡ j
Separated t (suc n) i j = (k : ℕ) × Separates t i k × Separated t n k j

-- ---- Words

-- no fraction, or a point and any digits
abbrev pub IsFraction : List ℕ → ℕ → ℕ → Type 0
IsFraction t i j = (j ≡ i) ⊎ ((slice_index t i ≡ 46) × Run IsDigit t (i + 1) j)

-- behind the letter of an exponent, at place i, a sign or none
abbrev pub IsSign : List ℕ → ℕ → Bool → ℕ → Type 0
IsSign t i negative j =
    ((negative ≡ true) × (slice_index t (i + 1) ≡ 45) × (j ≡ i + 2))
    ⊎ ((negative ≡ false) × (((slice_index t (i + 1) ≡ 43) × (j ≡ i + 2)) ⊎ (j ≡ i + 1)))

-- e or E, a sign or none, and at least one digit
pub record IsExponent (t : List ℕ) (p : Parts) : Type 0 where
  pub letter : (slice_index t p.tail ≡ 101) ⊎ (slice_index t p.tail ≡ 69)
  pub sign : IsSign t p.tail p.negative p.power
  pub digits : Run IsDigit t p.power p.end
  pub some : p.power < p.end

pub record NoExponent (p : Parts) : Type 0 where
  pub negative : p.negative ≡ false
  pub power : p.power ≡ p.tail
  pub end : p.end ≡ p.tail

-- a number with these parts begins at place i
pub record IsNumber (t : List ℕ) (i : ℕ) (p : Parts) : Type 0 where
  pub some : i < p.point
  pub whole : Run IsDigit t i p.point
  pub fraction : IsFraction t p.point p.tail
  pub exponent : NoExponent p ⊎ IsExponent t p

-- the token of a byte that stands alone and is neither a letter nor a digit
abbrev pub mark : ℕ → Kind
mark b =
    if nat_eq b 60 then Less
    else (if nat_eq b 62 then Greater
    else (if nat_eq b 61 then Equal
    else (if nat_eq b 43 then Plus
    else (if nat_eq b 45 then Minus
    else (if nat_eq b 42 then Star
    else (if nat_eq b 47 then Slash
    else (if nat_eq b 94 then Caret
    else (if nat_eq b 40 then Open
    else (if nat_eq b 41 then Close
    else (if nat_eq b 91 then OpenBracket
    else (if nat_eq b 93 then CloseBracket
    else (if nat_eq b 44 then Comma
    else (if nat_eq b 59 then Semicolon
    else Bad)))))))))))))

pub record IsName (t : List ℕ) (i j : ℕ) : Type 0 where
  pub letter : IsLetter (slice_index t i)
  pub others : Run IsNamed t (i + 1) j

-- a byte that begins no name and no number
pub record IsMark (t : List ℕ) (i : ℕ) : Type 0 where
  pub inside : i < length t
  pub no_letter : ¬ IsLetter (slice_index t i)
  pub no_digit : ¬ IsDigit (slice_index t i)

-- the bytes from place i up to place j are a token of the kind, as long as it may be or shorter
pub data IsWord (t : List ℕ) (i : ℕ) (kind : Kind) (j : ℕ) : Type 0 where
  name : kind ≡ Name → IsName t i j → IsWord t i kind j
  number : kind ≡ Number → (p : Parts) → IsNumber t i p → p.end ≡ j → IsWord t i kind j
  less_equal : kind ≡ LessEqual → slice_index t i ≡ 60 → slice_index t (i + 1) ≡ 61 → j ≡ i + 2 → IsWord t i kind j
  greater_equal : kind ≡ GreaterEqual → slice_index t i ≡ 62 → slice_index t (i + 1) ≡ 61 → j ≡ i + 2 → IsWord t i kind j
  single : kind ≡ mark (slice_index t i) → IsMark t i → j ≡ i + 1 → IsWord t i kind j
  finish : kind ≡ End → i ≡ length t → j ≡ i → IsWord t i kind j

-- the longest token that begins at place i
pub record IsLongest (t : List ℕ) (i : ℕ) (kind : Kind) (j : ℕ) : Type 0 where
  pub word : IsWord t i kind j
  pub longest : (other : Kind) (k : ℕ) → IsWord t i other k → k ≤ j

-- the first token at or after a place: what stands before it are blanks and comments, and it begins with none
pub record IsNext (t : List ℕ) (from : ℕ) (token : Token) : Type 0 where
  pub separators : ℕ
  pub gap : Separated t separators from token.start
  pub begins : (k : ℕ) → ¬ Separates t token.start k
  pub longest : IsLongest t token.start token.kind token.end

-- the tokens from a place on: each is the first at or after the end of the one before it, and the last is the text's end
abbrev pub AreTokensFrom : List ℕ → ℕ → List Token → Type 0
AreTokensFrom t from [] = ⊥
AreTokensFrom t from (x ∷ rest) =
    IsNext t from x × (((x.kind ≡ End) × (rest ≡ [])) ⊎ ((¬ (x.kind ≡ End)) × AreTokensFrom t x.end rest))

-- all tokens of a text
abbrev pub AreTokens : List ℕ → List Token → Type 0
AreTokens t tokens = AreTokensFrom t 0 tokens

-- a text is one list of tokens
pub record HasOneList (t : List ℕ) : Type 0 where
  pub tokens : List Token
  pub are : AreTokens t tokens
  pub one : (others : List Token) → AreTokens t others → others ≡ tokens
