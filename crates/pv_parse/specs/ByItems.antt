-- What the reader's own functions say of texts, for its proofs: texts by the items of the grammar and by a code, in place of trees. No
-- public contract cites it. `proofs/TreeTexts` leads from it to what `Declarations` says by trees.
use Rattle.std.specs.Prelude.{◌++◌, ◌<◌, ◌≡◌, ◌≤◌, List, None, Some, [], length, slice_get, ℕ}
use Rattle.pv_code.specs.declared.code.Op.{Op}
use Rattle.pv_code.specs.Expansion.{constraints_of}
use Rattle.pv_code.specs.Sizes.{IsFirstLarge}
use Rattle.pv_grammar.specs.declared.cause.Cause.{Cause}
use Rattle.pv_grammar.specs.declared.cause.Cause.TheVariants.{TextTooLong, TooLarge}
use Rattle.pv_grammar.specs.declared.counts.Counts.{Counts}
use Rattle.pv_grammar.specs.declared.counts.Phase.{Phase}
use Rattle.pv_grammar.specs.declared.counts.Phase.TheVariants.{Between}
use Rattle.pv_grammar.specs.declared.machine.Item.{Item}
use Rattle.pv_grammar.specs.declared.symbol.Symbol.{Symbol}
use Rattle.pv_grammar.specs.Counting.{AreCounted, standing_of}
use Rattle.pv_grammar.specs.Grammar.{Derives}
use Rattle.pv_grammar.specs.Limits.{IsLimitedExpression, IsLimitedSystem}
use Rattle.pv_grammar.specs.Productions.{IsExpression, IsSystem}
use Rattle.pv_grammar.specs.TreeCodes.{AreKnown, system_code}
use Rattle.pv_parse.specs.declared.refused.ParseRefused.{ParseRefused}
use Rattle.pv_parse.specs.declared.refused.ParseRefused.TheVariants.{Memory, Fault}
use Rattle.pv_parse.specs.Declarations.{Mark, Marks, Reading}
use Rattle.pv_parse.specs.Faults.{IsFirst}
use Rattle.pv_parse.specs.Fractions.{HaveFractions}
use Rattle.pv_parse.specs.Meanings.{Names}
use Rattle.pv_parse.specs.Scopes.{Scoped, nothing_scoped, scoped_behind}
use Rattle.pv_parse.specs.Sentences.{Spells}
use Rattle.pv_parse.specs.declared.reader.TheConstants.{MOST_TEXT}

-- ---- What was read

-- the text is one of the items within the limits, where these names are declared before it, and its tokens lead from one code and
-- state to the other
pub record IsToldAs (t : List ℕ) (known : Names) (start : Counts) (items : List Item) (before after : List Op) (old new : Scoped) : Type 0 where
  pub symbols : List Symbol
  pub spelled : Spells t known (standing_of start) symbols
  pub within : AreCounted start symbols
  pub are_known : AreKnown symbols
  pub steps : List Op
  pub derived : Derives items symbols steps
  pub code_is : after ≡ before ++ steps
  pub marks : List Mark
  pub marked : Marks t (standing_of start) symbols marks
  pub fractions : HaveFractions marks
  pub scoped : new ≡ scoped_behind marks old

-- the text is a system's, by its tree
pub record IsTold (t : List ℕ) (code : List Op) (new : Scoped) : Type 0 where
  pub reading : Reading t
  pub code_is : code ≡ system_code reading.tree []
  pub fractions : HaveFractions reading.marks
  pub scoped : new ≡ scoped_behind reading.marks nothing_scoped

-- ---- The first fault

-- a text of a system begins between its parts, and one of an expression within it
abbrev pub IsTextFrom : Phase → List Symbol → Type 0
IsTextFrom Between = IsSystem
IsTextFrom p = IsExpression

abbrev pub IsLimitedFrom : Phase → List Symbol → Type 0
IsLimitedFrom Between = IsLimitedSystem
IsLimitedFrom p = IsLimitedExpression

abbrev pub IsFirstFrom : List ℕ → Names → Counts → ℕ → Cause → Type 0
IsFirstFrom t known start byte cause = IsFirst t known (standing_of start) (IsTextFrom start.phase) (IsLimitedFrom start.phase) byte cause

abbrev pub IsFirstOf : List ℕ → Names → Counts → ParseRefused → Type 0
IsFirstOf t known start Memory = Unit {0}
IsFirstOf t known start (Fault byte line column cause) = IsFirstFrom t known start byte cause

-- ---- Other faults

-- the fault is at this byte, with this cause
abbrev pub IsAt : ℕ → Cause → ParseRefused → Type 0
IsAt byte cause Memory = ⊥
IsAt byte cause (Fault byte' line column cause') = (byte' ≡ byte) × (cause' ≡ cause)

-- a fault comes from the length of the text
abbrev pub IsLong : List ℕ → ParseRefused → Type 0
IsLong t Memory = Unit {0}
IsLong t (Fault byte line column cause) = (MOST_TEXT < length t) × (byte ≡ MOST_TEXT) × (cause ≡ TextTooLong)

-- a fault is at the start of a constraint, which is too large
abbrev pub IsAtStart : List ℕ → ℕ → ParseRefused → Type 0
IsAtStart starts i Memory = Unit {0}
IsAtStart starts i (Fault byte line column cause) = (cause ≡ TooLarge) × (slice_get starts i ≡ Some byte)

-- a fault names the first constraint of a code that is too large, by the byte where it is said to begin
abbrev pub IsLargeAt : List ℕ → List Op → ParseRefused → Type 0
IsLargeAt starts code Memory = Unit {0}
IsLargeAt starts code (Fault byte line column cause) =
    (cause ≡ TooLarge) × (i : ℕ) × IsFirstLarge (constraints_of code) i × (slice_get starts i ≡ Some byte)

-- ---- Names

-- no name that is longer than this is declared
pub record AreWithin (n : Names) (most : ℕ) : Type 0 where
  pub known : (name : List ℕ) → most < length name → n.known name ≡ None
  pub parameter : (name : List ℕ) → most < length name → n.parameter name ≡ None
  pub pending : length n.pending ≤ most

-- so there is always a fresh name
abbrev pub AreBounded : Names → Type 0
AreBounded n = (most : ℕ) × AreWithin n most
