-- Which tokens a text has for the grammar, and of which tree it is a text.
use Rattle.std.specs.Prelude.{◌≡◌, ℕ, List, [], ◌∷◌, Option, Some, None, slice_range}
use Rattle.pv_expr.specs.declared.constraint.Relation.TheVariants.{Eq, Le, Ge, Lt, Gt}
use Rattle.pv_code.specs.declared.code.Op.TheVariants.{One, Two}
use Rattle.pv_expr.specs.declared.operators.UnaryOp.TheVariants.{Abs, Pow}
use Rattle.pv_expr.specs.declared.operators.BinaryOp.TheVariants.{Min, Max}
use Rattle.pv_grammar.specs.declared.cause.Cause.TheVariants.{BadByte, NumberTooWide, NotInProfile}
use Rattle.pv_grammar.specs.declared.symbol.Fixed.TheVariants.{Plus, Minus, Star, Slash, Caret, Open, Close, OpenBracket, CloseBracket, Comma, Semicolon, Constants, Variables, Constraints, Function as FunctionWord, Return, End, In, Oo, EndOfText}
use Rattle.pv_grammar.specs.declared.symbol.Symbol.{Symbol}
use Rattle.pv_grammar.specs.declared.symbol.Symbol.TheVariants.{Never, Fixed as FixedToken, Relation as RelationToken, Number, Function as FunctionName}
use Rattle.pv_grammar.specs.declared.counts.Phase.{Phase}
use Rattle.pv_grammar.specs.declared.counts.Phase.TheVariants.{Between, Sides}
use Rattle.pv_grammar.specs.Limits.{IsExpressionWithin, IsSystemWithin}
use Rattle.pv_grammar.specs.Productions.{Expression, System, expression_symbols, system_symbols}
use Rattle.pv_grammar.specs.Standings.{Standing, first_in, standing_behind}
use Rattle.pv_tokens.specs.declared.token.Kind.{Kind}
use Rattle.pv_tokens.specs.declared.token.Kind.TheVariants.{Name, Number as NumberKind, LessEqual, GreaterEqual, Less, Greater, Equal, Plus as PlusKind, Minus as MinusKind, Star as StarKind, Slash as SlashKind, Caret as CaretKind, Open as OpenKind, Close as CloseKind, OpenBracket as OpenBracketKind, CloseBracket as CloseBracketKind, Comma as CommaKind, Semicolon as SemicolonKind, Bad, End as EndKind}
use Rattle.pv_tokens.specs.declared.token.Token.{Token}
use Rattle.pv_tokens.specs.declared.number.Decimal.{Decimal}
use Rattle.pv_tokens.specs.declared.keyword.Word.{Word}
use Rattle.pv_tokens.specs.declared.keyword.Word.TheVariants.{Constants as ConstantsWord, Variables as VariablesWord, Constraints as ConstraintsWord, Function as FunctionBlock, Return as ReturnWord, End as EndWord, In as InWord, Oo as OoWord, Abs as AbsWord, Sqr as SqrWord, Min as MinWord, Max as MaxWord, Outside}
use Rattle.pv_tokens.specs.Tokens.{IsNext}
use Rattle.pv_tokens.specs.Numbers.{IsExponentText, IsNumeral, IsRead, TooWide}
use Rattle.pv_tokens.specs.Words.{word_in}
use Rattle.pv_parse.specs.Meanings.{KnowsVariables, Names, learnt, meaning, no_names}

-- what a word is for the grammar
abbrev pub word_symbol : Word → Symbol
word_symbol ConstantsWord = FixedToken Constants
word_symbol VariablesWord = FixedToken Variables
word_symbol ConstraintsWord = FixedToken Constraints
word_symbol FunctionBlock = FixedToken FunctionWord
word_symbol ReturnWord = FixedToken Return
word_symbol EndWord = FixedToken End
word_symbol InWord = FixedToken In
word_symbol OoWord = FixedToken Oo
word_symbol AbsWord = FunctionName (One Abs) 1
word_symbol SqrWord = FunctionName (One (Pow 2)) 1
word_symbol MinWord = FunctionName (Two Min) 2
word_symbol MaxWord = FunctionName (Two Max) 2
word_symbol Outside = Never NotInProfile

-- a word is always the same; a name stands for what it was declared as
abbrev pub name_symbol : Phase → Names → List ℕ → Option Word → Symbol
name_symbol p n name (Some w) = word_symbol w
name_symbol p n name None = meaning p n name

-- the exponent that a number is, where it is one
abbrev pub MayRaise : List ℕ → Option ℕ → Type 0
MayRaise bytes None = ¬ ((n : ℕ) × IsExponentText bytes n)
MayRaise bytes (Some n) = IsExponentText bytes n

-- a number with the value of these bytes, or one that is too wide
abbrev pub IsNumberSymbol : List ℕ → Symbol → Type 0
IsNumberSymbol bytes (Number value exponent) = IsRead bytes (value.p, value.q) × MayRaise bytes exponent
IsNumberSymbol bytes (Never NumberTooWide) = (d : Decimal) → IsNumeral bytes d → TooWide d
IsNumberSymbol bytes s = ⊥

-- what a token of a kind, with these bytes, is for the grammar in a phase of the text, where these names are declared
abbrev pub StandsFor : Phase → Names → List ℕ → Kind → Symbol → Type 0
StandsFor p n bytes Name s = s ≡ name_symbol p n bytes (word_in bytes)
StandsFor p n bytes NumberKind s = IsNumberSymbol bytes s
StandsFor p n bytes LessEqual s = s ≡ RelationToken Le
StandsFor p n bytes GreaterEqual s = s ≡ RelationToken Ge
StandsFor p n bytes Less s = s ≡ RelationToken Lt
StandsFor p n bytes Greater s = s ≡ RelationToken Gt
StandsFor p n bytes Equal s = s ≡ RelationToken Eq
StandsFor p n bytes PlusKind s = s ≡ FixedToken Plus
StandsFor p n bytes MinusKind s = s ≡ FixedToken Minus
StandsFor p n bytes StarKind s = s ≡ FixedToken Star
StandsFor p n bytes SlashKind s = s ≡ FixedToken Slash
StandsFor p n bytes CaretKind s = s ≡ FixedToken Caret
StandsFor p n bytes OpenKind s = s ≡ FixedToken Open
StandsFor p n bytes CloseKind s = s ≡ FixedToken Close
StandsFor p n bytes OpenBracketKind s = s ≡ FixedToken OpenBracket
StandsFor p n bytes CloseBracketKind s = s ≡ FixedToken CloseBracket
StandsFor p n bytes CommaKind s = s ≡ FixedToken Comma
StandsFor p n bytes SemicolonKind s = s ≡ FixedToken Semicolon
StandsFor p n bytes Bad s = s ≡ Never BadByte
StandsFor p n bytes EndKind s = s ≡ FixedToken EndOfText

-- the bytes of a token
abbrev pub bytes_of : List ℕ → Token → List ℕ
bytes_of t x = slice_range t x.start x.end

-- the tokens from one place up to another, the end of the text not among them, are these for the grammar, where the names and the
-- standing begin as given; behind them these names are declared
abbrev pub SpellsTo : List ℕ → Names → Standing → ℕ → List Symbol → ℕ → Names → Type 0
SpellsTo t n y from [] to m = (from ≡ to) × (n ≡ m)
SpellsTo t n y from (s ∷ ss) to m =
    (x : Token) × IsNext t from x × (¬ (x.kind ≡ EndKind)) × StandsFor y.phase n (bytes_of t x) x.kind s
    × SpellsTo t (learnt y s (bytes_of t x) n) (standing_behind y s) x.end ss to m

-- the tokens of the whole text
abbrev pub Spells : List ℕ → Names → Standing → List Symbol → Type 0
Spells t n y ss = (to : ℕ) × (m : Names) × (x : Token) × SpellsTo t n y 0 ss to m × IsNext t to x × (x.kind ≡ EndKind)

-- a text is one list of tokens for the grammar
abbrev pub IsSpelledOnce : List ℕ → Names → Standing → Type 0
IsSpelledOnce t n y = (ss ss' : List Symbol) → Spells t n y ss → Spells t n y ss' → ss ≡ ss'

-- ---- Texts of trees

-- the tokens of the text are the tree's, where each name stands for what it was declared as, and the tree is within the limits
abbrev pub IsTextOf : List ℕ → System → Type 0
IsTextOf t x = Spells t no_names (first_in Between) (system_symbols x []) × IsSystemWithin x

-- the same of an expression, where these names are known
abbrev pub IsExpressionTextOf : Names → List ℕ → Expression → Type 0
IsExpressionTextOf known t e = Spells t known (first_in Sides) (expression_symbols e []) × IsExpressionWithin e

-- a text is that of one tree
abbrev pub HasOneTree : List ℕ → Type 0
HasOneTree t = (x y : System) → IsTextOf t x → IsTextOf t y → x ≡ y

abbrev pub HasOneExpressionTree : Names → List ℕ → Type 0
HasOneExpressionTree known t = (d e : Expression) → IsExpressionTextOf known t d → IsExpressionTextOf known t e → d ≡ e

-- the text is that of a system
abbrev pub IsSystemText : List ℕ → Type 0
IsSystemText t = (x : System) × IsTextOf t x

-- the same of one expression, where the variables are known
abbrev pub IsExpressionText : List (List ℕ) → List ℕ → Type 0
IsExpressionText variables t = (n : Names) × KnowsVariables variables n × (e : Expression) × IsExpressionTextOf n t e
