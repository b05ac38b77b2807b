-- Numbers of a text are fractions in lowest terms, within the limits on constants. It is for the proofs of the reader: no public
-- contract cites it.
use Rattle.std.specs.Prelude.{◌≡◌, ℕ, List, [], ◌∷◌, Some}
use Rattle.pv_code.specs.declared.fraction.Fraction.{Fraction}
use Rattle.pv_code.specs.Fractions.{IsLowest}
use Rattle.pv_grammar.specs.declared.symbol.Symbol.{Symbol}
use Rattle.pv_grammar.specs.declared.symbol.Symbol.TheVariants.{Number, Constant}
use Rattle.pv_parse.specs.declared.names.Meaning.TheVariants.{Constant as ConstantMeaning}
use Rattle.pv_parse.specs.Declarations.{Mark}
use Rattle.pv_parse.specs.Meanings.{Names}

-- of a token
abbrev pub HasFraction : Symbol → Type 0
HasFraction (Number value exponent) = IsLowest value
HasFraction (Constant value) = IsLowest value
HasFraction s = Unit {0}

abbrev pub HaveFractions : List Mark → Type 0
HaveFractions [] = Unit {0}
HaveFractions (m ∷ ms) = HasFraction m.symbol × HaveFractions ms

-- of the constants
abbrev pub KnowsFractions : Names → Type 0
KnowsFractions n = (name : List ℕ) (value : Fraction) → n.known name ≡ Some (ConstantMeaning value) → IsLowest value
