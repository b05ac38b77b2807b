-- What a text means: the names of its variables, where their domains and its constraints begin, and the system of its tree.
use Rattle.std.specs.Prelude.{◌≡◌, ℕ, ◌≤◌, Bool, true, false, List, [], ◌∷◌, length, map, if◌then◌else◌, ◌⊎◌}
use Rattle.pv_expr.specs.declared.domain.Domain.{Domain}
use Rattle.pv_expr.specs.Systems.{InOrder, Parts}
use Rattle.pv_expr.specs.Terms.{Term}
use Rattle.pv_code.specs.Expansion.{sides_of}
use Rattle.pv_code.specs.Sizes.{AreWithin}
use Rattle.pv_grammar.specs.declared.counts.Phase.{Phase}
use Rattle.pv_grammar.specs.declared.counts.Phase.TheVariants.{Between, NextConstraint, Variables}
use Rattle.pv_grammar.specs.declared.symbol.Fixed.TheVariants.{OpenBracket}
use Rattle.pv_grammar.specs.declared.symbol.Symbol.{Symbol}
use Rattle.pv_grammar.specs.declared.symbol.Symbol.TheVariants.{Fixed as FixedToken, Declared}
use Rattle.pv_grammar.specs.Productions.{Expression, System, system_symbols}
use Rattle.pv_grammar.specs.Standings.{Standing, begins_expression, first_in, standing_behind}
use Rattle.pv_grammar.specs.Trees.{expression_term, system_constraints, system_domains}
use Rattle.pv_tokens.specs.declared.token.Token.{Token}
use Rattle.pv_tokens.specs.Tokens.{IsNext}
use Rattle.pv_parse.specs.Meanings.{KnowsVariables, Names}
use Rattle.pv_parse.specs.Sentences.{IsExpressionTextOf, IsTextOf, bytes_of}
use Rattle.pv_parse.specs.declared.reader.TheConstants.{MOST_TEXT}

-- ---- The tokens of a sentence, each in its place

-- what a token is for the grammar, the part of the text in which it stands, where it begins, and its bytes
pub record Mark : Type 0 where
  pub symbol : Symbol
  pub phase : Phase
  pub start : ℕ
  pub bytes : List ℕ

abbrev pub mark_of : List ℕ → Phase → Symbol → Token → Mark
mark_of t p s x = record { symbol = s; phase = p; start = x.start; bytes = bytes_of t x }

-- the tokens from one place up to another that are these for the grammar
abbrev pub MarksTo : List ℕ → Standing → ℕ → List Symbol → List Mark → ℕ → Type 0
MarksTo t y from [] marks to = (marks ≡ []) × (from ≡ to)
MarksTo t y from (s ∷ ss) marks to =
    (x : Token) × (rest : List Mark) × IsNext t from x × (marks ≡ mark_of t y.phase s x ∷ rest) × MarksTo t (standing_behind y s) x.end ss rest to

-- the tokens of a text that are these for the grammar
abbrev pub Marks : List ℕ → Standing → List Symbol → List Mark → Type 0
Marks t y ss marks = (to : ℕ) × MarksTo t y 0 ss marks to

-- ---- Variables

-- a name declares a variable in the block of variables
abbrev pub declares : Phase → Symbol → Bool
declares Variables (Declared taken) = true
declares p s = false

-- the names of the variables that these tokens declare, in order
abbrev pub names_in : List Mark → List (List ℕ)
names_in [] = []
names_in (m ∷ ms) = if declares m.phase m.symbol then m.bytes ∷ names_in ms else names_in ms

-- the tokens up to the name of the next variable
abbrev pub own : List Mark → List Mark
own [] = []
own (m ∷ ms) = if declares m.phase m.symbol then [] else m ∷ own ms

abbrev pub bracket_behind : Symbol → ℕ → ℕ → ℕ
bracket_behind (FixedToken OpenBracket) start bracket = start
bracket_behind s start bracket = bracket

-- where the last `[` among these tokens stands
abbrev pub bracket_of : ℕ → List Mark → ℕ
bracket_of bracket [] = bracket
bracket_of bracket (m ∷ ms) = bracket_of (bracket_behind m.symbol m.start bracket) ms

-- where the `[` of each variable's domain stands, or 0 where it has none
abbrev pub brackets_in : List Mark → List ℕ
brackets_in [] = []
brackets_in (m ∷ ms) = if declares m.phase m.symbol then bracket_of 0 (own ms) ∷ brackets_in ms else brackets_in ms

-- ---- Bad domains

abbrev pub IsGood : Domain → Type 0
IsGood d = InOrder d.lo d.hi

-- the bracket of the first bad domain stands at this byte
abbrev pub IsFirstBad : List Domain → List ℕ → ℕ → Type 0
IsFirstBad (d ∷ ds) (b ∷ bs) byte = ((¬ IsGood d) × (byte ≡ b)) ⊎ (IsGood d × IsFirstBad ds bs byte)
IsFirstBad ds bs byte = ⊥

abbrev pub AreGood : List Domain → Type 0
AreGood [] = Unit {0}
AreGood (d ∷ ds) = IsGood d × AreGood ds

-- ---- Where constraints begin

-- where a constraint may begin, a token that can begin an expression begins one
abbrev pub begins_constraint : Phase → Symbol → Bool
begins_constraint NextConstraint s = begins_expression s
begins_constraint p s = false

-- the places of the first tokens of the constraints, in order
abbrev pub starts_in : List Mark → List ℕ
starts_in [] = []
starts_in (m ∷ ms) = if begins_constraint m.phase m.symbol then m.start ∷ starts_in ms else starts_in ms

-- ---- The system that a text means

-- the tree of a text, and its tokens, each in its place
pub record Reading (t : List ℕ) : Type 0 where
  pub tree : System
  pub spelled : IsTextOf t tree
  pub marks : List Mark
  pub marked : Marks t (first_in Between) (system_symbols tree []) marks

-- the text is a system's: that of a tree, with good domains and constraints within the limits, and no longer than is read
pub record IsSystemSentence (t : List ℕ) : Type 0 where
  pub reading : Reading t
  pub good : AreGood (system_domains reading.tree)
  pub within : AreWithin (system_constraints reading.tree)
  pub short : length t ≤ MOST_TEXT

-- the text is a system's, and these are its names, domains and constraints
pub record IsMeaning (t : List ℕ) (s : Parts) : Type 0 where
  pub text : IsSystemSentence t
  pub names : s.names ≡ names_in text.reading.marks
  pub domains : s.domains ≡ system_domains text.reading.tree
  pub constraints : map sides_of s.constraints ≡ system_constraints text.reading.tree

-- two systems have the same names, domains and constraints
pub record AreAlike (s s' : Parts) : Type 0 where
  pub names : s.names ≡ s'.names
  pub domains : s.domains ≡ s'.domains
  pub constraints : map sides_of s.constraints ≡ map sides_of s'.constraints

-- a text means one system
abbrev pub MeansOne : List ℕ → Type 0
MeansOne t = (s s' : Parts) → IsMeaning t s → IsMeaning t s' → AreAlike s s'

-- ---- The expression that a text means

-- the text is an expression over these variables, and no longer than is read
pub record IsExpressionSentence (variables : List (List ℕ)) (t : List ℕ) : Type 0 where
  pub known : Names
  pub knows : KnowsVariables variables known
  pub tree : Expression
  pub spelled : IsExpressionTextOf known t tree
  pub short : length t ≤ MOST_TEXT

-- and this is its term
pub record IsExpressionMeaning (variables : List (List ℕ)) (t : List ℕ) (x : Term) : Type 0 where
  pub text : IsExpressionSentence variables t
  pub term : x ≡ expression_term [] [] text.tree

-- a text means one term
abbrev pub MeansOneTerm : List (List ℕ) → List ℕ → Type 0
MeansOneTerm variables t = (x x' : Term) → IsExpressionMeaning variables t x → IsExpressionMeaning variables t x' → x ≡ x'
