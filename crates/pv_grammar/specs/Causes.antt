-- Why a token can't stand behind those before it: no text of the grammar goes on so, or none within the limits does, or its name is
-- not declared for this use, or is taken. What a text is here is said by its tokens, and given as two predicates on them: `IsSystem` or
-- `IsExpression` of `Productions`, and within the limits `IsLimitedSystem` or `IsLimitedExpression` of `Limits`.
use Rattle.std.specs.Prelude.{◌≡◌, pos, Bool, true, false, List, [], ◌∷◌, ◌++◌, if◌then◌else◌}
use Rattle.pv_code.specs.declared.fraction.Fraction.{Fraction}
use Rattle.pv_grammar.specs.declared.cause.Cause.{Cause}
use Rattle.pv_grammar.specs.declared.cause.Cause.TheVariants.{UnknownName, DuplicateName, TooManyVariables, TooManyConstraints, TooManyFunctions, TooDeep, EndOfText as TextEnds, BadExponent, Unexpected}
use Rattle.pv_grammar.specs.declared.counts.Phase.{Phase}
use Rattle.pv_grammar.specs.declared.counts.Phase.TheVariants.{Variables, NextConstraint}
use Rattle.pv_grammar.specs.declared.symbol.Fixed.TheVariants.{Minus, Caret, Comma, Function as FunctionWord, EndOfText}
use Rattle.pv_grammar.specs.declared.symbol.Symbol.{Symbol}
use Rattle.pv_grammar.specs.declared.symbol.Symbol.TheVariants.{Never, Fixed as FixedToken, Declared, Constant, Function as Call, Unknown}

-- ---- The cause of a token that the grammar refuses

abbrev pub is_caret : Symbol → Bool
is_caret (FixedToken Caret) = true
is_caret s = false

-- the last of these tokens is `^`
abbrev pub behind_caret : List Symbol → Bool
behind_caret [] = false
behind_caret (s ∷ []) = is_caret s
behind_caret (s ∷ (t ∷ ss)) = behind_caret (t ∷ ss)

-- a bad byte, a number that is too wide and a word outside the profile have their own cause; then comes the end of the text
abbrev pub refusal : Bool → Symbol → Cause
refusal behind (Never cause) = cause
refusal behind (FixedToken EndOfText) = TextEnds
refusal behind s = if behind then BadExponent else Unexpected

-- ---- The cause of a token that a limit forbids

-- in a part of the text: a 13th variable; a 13th parameter, or the comma before it; a 65th function; a 65th constraint; else the
-- 1,001st operation or the 101st level
abbrev pub limit_cause : Phase → Symbol → Cause
limit_cause Variables (Declared taken) = TooManyVariables
limit_cause p (Declared taken) = Unexpected
limit_cause p (FixedToken Comma) = Unexpected
limit_cause p (FixedToken FunctionWord) = TooManyFunctions
limit_cause NextConstraint s = TooManyConstraints
limit_cause p s = TooDeep

-- ---- The cause of a name

abbrev pub name_cause : Symbol → Cause
name_cause Unknown = UnknownName
name_cause s = DuplicateName

abbrev pub nought : Fraction
nought = record { p = pos 0; q = 1 }

-- whether the grammar and the limits allow a name does not depend on what is declared: an undeclared one counts as a constant's, a
-- taken one as new
abbrev pub as_known : Symbol → Symbol
as_known Unknown = Constant nought
as_known (Declared taken) = Declared false
as_known s = s

-- ---- Texts that go on behind these tokens

-- a text begins with these tokens
abbrev pub Begins : (List Symbol → Type 0) → List Symbol → Type 0
Begins IsText ss = (rest : List Symbol) × IsText (ss ++ rest)

-- a sign may stand where a function's name can't: so it is the parenthesis behind the name that would be too deep
abbrev pub IsUnopened : (List Symbol → Type 0) → List Symbol → Symbol → Type 0
IsUnopened IsLimited before (Call op arity) = Begins IsLimited (before ++ FixedToken Minus ∷ [])
IsUnopened IsLimited before s = ⊥

-- why a token can't stand behind these, in a part of the text
pub data IsCause (IsText IsLimited : List Symbol → Type 0) (before : List Symbol) (p : Phase) (s : Symbol) (cause : Cause) : Type 0 where
  not_allowed : ¬ Begins IsText (before ++ as_known s ∷ []) → cause ≡ refusal (behind_caret before) s → IsCause IsText IsLimited before p s cause
  beyond : Begins IsText (before ++ as_known s ∷ []) → ¬ Begins IsLimited (before ++ as_known s ∷ []) → ¬ IsUnopened IsLimited before s → cause ≡ limit_cause p s → IsCause IsText IsLimited before p s cause
  unopened : Begins IsText (before ++ as_known s ∷ []) → ¬ Begins IsLimited (before ++ as_known s ∷ []) → IsUnopened IsLimited before s → cause ≡ Unexpected → IsCause IsText IsLimited before p s cause
  named : Begins IsLimited (before ++ as_known s ∷ []) → cause ≡ name_cause s → IsCause IsText IsLimited before p s cause
