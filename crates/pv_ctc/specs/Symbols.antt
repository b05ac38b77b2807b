-- The tokens of a text, each the longest that begins at its place. Places are counted in bytes from 0.
use Rattle.std.specs.Prelude.{ℕ, zero, suc, ◌+◌, ◌^◌, List, [], ◌∷◌, Bool, false, ◌&&◌, ◌||◌, nat_eq, nat_lt, nat_le, take, drop, codes, if◌then◌else◌}
use Rattle.std.specs.List.{prefix_len}
use Rattle.std.specs.Str.{bytes_eq}
use Rattle.std.specs.Str.Parse.{digits_value}
use Rattle.pv_ctc.specs.declared.token.Word.TheVariants.{Hc4, Compose, Union, QInter, Fix, Prop}
use Rattle.pv_ctc.specs.declared.token.Token.{Token}
use Rattle.pv_ctc.specs.declared.token.Token.TheVariants.{Word, Number, TooBig, Open, Close, Comma, Bad, End}

-- a token, and the byte where it begins
pub record Placed : Type 0 where
  pub place : ℕ
  pub token : Token

-- 0 to 9
abbrev pub is_digit : ℕ → Bool
is_digit b = nat_le 48 b && nat_le b 57

-- a to z
abbrev pub is_letter : ℕ → Bool
is_letter b = nat_le 97 b && nat_le b 122

-- what may stand in a name behind its first letter
abbrev pub is_named : ℕ → Bool
is_named b = is_letter b || is_digit b

-- the token of a name: a word, or none that a program has
abbrev pub name_token : List ℕ → Token
name_token name =
    if bytes_eq name (codes "hc4") then Word Hc4
    else (if bytes_eq name (codes "compose") then Word Compose
    else (if bytes_eq name (codes "union") then Word Union
    else (if bytes_eq name (codes "qinter") then Word QInter
    else (if bytes_eq name (codes "fix") then Word Fix
    else (if bytes_eq name (codes "prop") then Word Prop
    else Bad)))))

-- further digits stand behind a 0
abbrev pub leads_with_zero : List ℕ → Bool
leads_with_zero [] = false
leads_with_zero (b ∷ []) = false
leads_with_zero (b ∷ c ∷ ds) = nat_eq b 48

-- the token of some digits: their number, or one that is in no range
unfoldable pub digits_token : List ℕ → Token
digits_token ds =
    if leads_with_zero ds then TooBig
    else (if nat_lt (digits_value 10 ds) (2 ^ 32) then Number (digits_value 10 ds) else TooBig)

-- the token of a byte that is neither a letter nor a digit
abbrev pub mark_token : ℕ → Token
mark_token b =
    if nat_eq b 40 then Open
    else (if nat_eq b 41 then Close
    else (if nat_eq b 44 then Comma
    else Bad))

-- how many bytes behind the first one belong to its token
unfoldable pub further : ℕ → List ℕ → ℕ
further b bs =
    if is_letter b then prefix_len is_named bs
    else (if is_digit b then prefix_len is_digit bs else 0)

-- the token that begins with a byte
unfoldable pub token_of : ℕ → List ℕ → Token
token_of b bs =
    if is_letter b then name_token (b ∷ take (prefix_len is_named bs) bs)
    else (if is_digit b then digits_token (b ∷ take (prefix_len is_digit bs) bs) else mark_token b)

-- the tokens from a place on, where so many bytes still belong to the token before; behind the last one stands the
-- end of the text
abbrev pub tokens_from : ℕ → ℕ → List ℕ → List Placed
tokens_from left at [] = record { place = at; token = End } ∷ []
tokens_from zero at (b ∷ bs) = record { place = at; token = token_of b bs } ∷ tokens_from (further b bs) (at + 1) bs
tokens_from (suc left) at (b ∷ bs) = tokens_from left (at + 1) bs

-- the tokens of a text from a place on, where one begins there
unfoldable pub tokens_at : List ℕ → ℕ → List Placed
tokens_at text at = tokens_from 0 at (drop at text)

-- what stands behind a token: nothing behind the end
abbrev pub behind : Token → List Placed → List Placed
behind End ps = []
behind t ps = ps
