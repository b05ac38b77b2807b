-- The tokens of a program's text.
use Rattle.std.specs.Prelude.{◌≡◌, ℕ, List, [], ◌++◌, codes, decimal}
use Rattle.pv_ctc.specs.declared.token.Word.{Word}
use Rattle.pv_ctc.specs.declared.token.Word.TheVariants.{Hc4, Compose, Union, QInter, Fix, Prop}
use Rattle.pv_ctc.specs.declared.token.Token.{Token}
use Rattle.pv_ctc.specs.declared.token.Token.TheVariants as token

abbrev pub word_text : Word → List ℕ
word_text Hc4 = codes "hc4"
word_text Compose = codes "compose"
word_text Union = codes "union"
word_text QInter = codes "qinter"
word_text Fix = codes "fix"
word_text Prop = codes "prop"

-- a token stands in front of what is left of a text
abbrev pub StandsBefore : Token → List ℕ → List ℕ → Type 0
StandsBefore (token.Word w) before after = before ≡ word_text w ++ after
StandsBefore (token.Number n) before after = before ≡ decimal n ++ after
StandsBefore token.TooBig before after = Unit {0}
StandsBefore token.Open before after = before ≡ codes "(" ++ after
StandsBefore token.Close before after = before ≡ codes ")" ++ after
StandsBefore token.Comma before after = before ≡ codes "," ++ after
StandsBefore token.Bad before after = Unit {0}
StandsBefore token.End before after = before ≡ []

-- the token that some bytes spell
abbrev pub Spells : Token → List ℕ → Type 0
Spells (token.Word w) text = text ≡ word_text w
Spells (token.Number n) text = text ≡ decimal n
Spells token.TooBig text = Unit {0}
Spells token.Open text = text ≡ codes "("
Spells token.Close text = text ≡ codes ")"
Spells token.Comma text = text ≡ codes ","
Spells token.Bad text = Unit {0}
Spells token.End text = ⊥
