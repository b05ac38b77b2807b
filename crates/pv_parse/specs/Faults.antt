-- Where a refused text is at fault, and why.
use Rattle.std.specs.Prelude.{◌≡◌, ℕ, ◌≤◌, ◌<◌, ◌⊎◌, List, [], ◌∷◌, ◌++◌, length, slice_get, take, Some}
use Rattle.pv_code.specs.Sizes.{IsFirstLarge}
use Rattle.pv_grammar.specs.declared.cause.Cause.{Cause}
use Rattle.pv_grammar.specs.declared.cause.Cause.TheVariants.{TextTooLong, BadBounds, TooLarge}
use Rattle.pv_grammar.specs.declared.counts.Phase.TheVariants.{Between, Sides}
use Rattle.pv_grammar.specs.declared.symbol.Symbol.{Symbol}
use Rattle.pv_grammar.specs.Causes.{Begins, IsCause}
use Rattle.pv_grammar.specs.Limits.{IsLimitedExpression, IsLimitedSystem}
use Rattle.pv_grammar.specs.Productions.{IsExpression, IsSystem}
use Rattle.pv_grammar.specs.Standings.{Standing, first_in, standing_after}
use Rattle.pv_grammar.specs.Trees.{system_constraints, system_domains}
use Rattle.pv_tokens.specs.declared.token.Kind.TheVariants.{End}
use Rattle.pv_tokens.specs.declared.token.Token.{Token}
use Rattle.pv_tokens.specs.Places.{line_of, column_of}
use Rattle.pv_tokens.specs.Tokens.{IsNext}
use Rattle.pv_parse.specs.declared.refused.ParseRefused.{ParseRefused}
use Rattle.pv_parse.specs.declared.refused.ParseRefused.TheVariants.{Memory, Fault}
use Rattle.pv_parse.specs.Declarations.{AreGood, IsFirstBad, Reading, brackets_in, starts_in}
use Rattle.pv_parse.specs.Meanings.{KnowsVariables, Names, no_names}
use Rattle.pv_parse.specs.Sentences.{Spells, SpellsTo, StandsFor, bytes_of}
use Rattle.pv_parse.specs.declared.reader.TheConstants.{MOST_TEXT}

-- a fault's byte lies in the text or at its end, and its line and column are those of the byte
abbrev pub IsPlaced : List ℕ → ParseRefused → Type 0
IsPlaced t Memory = Unit {0}
IsPlaced t (Fault byte line column cause) = (byte ≤ length t) × (line ≡ line_of t byte) × (column ≡ column_of t byte)

-- the text is too long, and its fault is at the first byte too many
abbrev pub SaysTooLong : ParseRefused → Type 0
SaysTooLong Memory = Unit {0}
SaysTooLong (Fault byte line column cause) = (byte ≡ MOST_TEXT) × (cause ≡ TextTooLong)

-- ---- The first fault

-- a text within the limits whose bytes begin with those of this one up to a place, and whose tokens begin with these
pub record ClosesWith (t : List ℕ) (known : Names) (start : Standing) (IsLimited : List Symbol → Type 0) (from : ℕ) (before : List Symbol) : Type 0 where
  pub tail : List ℕ
  pub rest : List Symbol
  pub spelled : Spells (take from t ++ tail) known start (before ++ rest)
  pub text : IsLimited (before ++ rest)

-- the token at the byte is the first such that no text within the limits begins with the tokens up to and with it: the text up to
-- the end of the token before it, with other bytes after that, is a text that begins with the tokens before it (`closes`), and no
-- tokens after it make one (`none`); where it is the end of the text, the tokens before it are none
pub record IsFirst (t : List ℕ) (known : Names) (start : Standing) (IsText IsLimited : List Symbol → Type 0) (byte : ℕ) (cause : Cause) : Type 0 where
  pub before : List Symbol
  pub from : ℕ
  pub token : Token
  pub symbol : Symbol
  pub names : Names
  pub spelled : SpellsTo t known start 0 before from names
  pub next : IsNext t from token
  pub place : byte ≡ token.start
  pub stands : StandsFor (standing_after start before).phase names (bytes_of t token) token.kind symbol
  pub closes : ClosesWith t known start IsLimited from before
  pub none : ¬ Begins IsLimited (before ++ symbol ∷ [])
  pub unfinished : token.kind ≡ End → ¬ IsLimited before
  pub because : IsCause IsText IsLimited before (standing_after start before).phase symbol cause

-- the first fault of the text of a system
abbrev pub IsSystemFault : List ℕ → ℕ → Cause → Type 0
IsSystemFault t byte cause = IsFirst t no_names (first_in Between) IsSystem IsLimitedSystem byte cause

-- and of the text of an expression, where the variables are known
abbrev pub IsExpressionFault : List (List ℕ) → List ℕ → ℕ → Cause → Type 0
IsExpressionFault variables t byte cause = (n : Names) × KnowsVariables variables n × IsFirst t n (first_in Sides) IsExpression IsLimitedExpression byte cause

-- something holds, or a place is a fault
abbrev pub IsEither : Type 0 → (ℕ → Cause → Type 0) → Type 0
IsEither holds IsFault = holds ⊎ ((byte : ℕ) × (cause : Cause) × IsFault byte cause)

-- no place is a fault where something holds
abbrev pub Excludes : Type 0 → (ℕ → Cause → Type 0) → Type 0
Excludes holds IsFault = (byte : ℕ) (cause : Cause) → holds → IsFault byte cause → ⊥

-- at most one place is a fault, for one cause
abbrev pub IsAtMostOne : (ℕ → Cause → Type 0) → Type 0
IsAtMostOne IsFault = (byte byte' : ℕ) (cause cause' : Cause) → IsFault byte cause → IsFault byte' cause' → (byte ≡ byte') × (cause ≡ cause')

-- the fault of a system's text: it is too long, and the first byte too many is at fault; or the first fault of its tokens; or it
-- is that of a tree, and the first bad domain opens at the byte, or there is none and the first constraint that is too large begins
-- there
pub data IsFaultOf (t : List ℕ) (byte : ℕ) (cause : Cause) : Type 0 where
  long : MOST_TEXT < length t → byte ≡ MOST_TEXT → cause ≡ TextTooLong → IsFaultOf t byte cause
  first : length t ≤ MOST_TEXT → IsSystemFault t byte cause → IsFaultOf t byte cause
  bounds : length t ≤ MOST_TEXT → (r : Reading t) → IsFirstBad (system_domains r.tree) (brackets_in r.marks) byte → cause ≡ BadBounds → IsFaultOf t byte cause
  large : length t ≤ MOST_TEXT → (r : Reading t) → AreGood (system_domains r.tree) → (i : ℕ) → IsFirstLarge (system_constraints r.tree) i →
      slice_get (starts_in r.marks) i ≡ Some byte → cause ≡ TooLarge → IsFaultOf t byte cause

abbrev pub IsRefusal : List ℕ → ParseRefused → Type 0
IsRefusal t Memory = Unit {0}
IsRefusal t (Fault byte line column cause) = IsFaultOf t byte cause

-- the fault of an expression's text, where the variables are known: it is too long, or the first fault of its tokens
pub data IsExpressionFaultOf (variables : List (List ℕ)) (t : List ℕ) (byte : ℕ) (cause : Cause) : Type 0 where
  long : MOST_TEXT < length t → byte ≡ MOST_TEXT → cause ≡ TextTooLong → IsExpressionFaultOf variables t byte cause
  first : length t ≤ MOST_TEXT → IsExpressionFault variables t byte cause → IsExpressionFaultOf variables t byte cause

abbrev pub IsExpressionRefusal : List (List ℕ) → List ℕ → ParseRefused → Type 0
IsExpressionRefusal variables t Memory = Unit {0}
IsExpressionRefusal variables t (Fault byte line column cause) = IsExpressionFaultOf variables t byte cause
