-- The grammar, as the machine follows it. It is for the machine and its proofs: no public contract of the reader cites it, and who
-- wants to know what a text is reads `Productions`, which has the same grammar as data types, and `Trees`, what a tree means.
--
-- A text is a list of items. Each item has at most one way to begin with a given token: `produced` says what must come behind that
-- token, and which steps of the expression's code are written. An item may be left out where `MayEnd` says so. So `MoreTerms`
-- stands for { ("+" | "-") term }, and `MaybeDomain` for an optional domain.
--
-- `laws::trees` says that the items have the same texts as the trees, each of one tree, and that the code of a text means what its
-- tree means. The items take a little more: a token with an undeclared name, or with a name that is taken, since it is the limits
-- that forbid it and give the cause. No text that is within the limits has such a token.
use Rattle.std.specs.Prelude.{◌≡◌, ◌≢◌, Bool, true, false, ℕ, zero, suc, ◌-◌, List, [], ◌∷◌, ◌++◌, Option, Some, None, reverse}
use Rattle.pv_expr.specs.declared.constraint.Relation.TheVariants.{Eq}
use Rattle.pv_code.specs.declared.code.Op.{Op}
use Rattle.pv_code.specs.declared.code.Op.TheVariants.{Constant, Variable, Parameter, One as OneArgument, Two as TwoArguments, Define, Relate}
use Rattle.pv_expr.specs.declared.operators.UnaryOp.TheVariants.{Neg, Pow}
use Rattle.pv_expr.specs.declared.operators.BinaryOp.TheVariants.{Add, Sub, Mul, Div}
use Rattle.pv_grammar.specs.declared.symbol.Fixed.{Fixed}
use Rattle.pv_grammar.specs.declared.symbol.Fixed.TheVariants.{Plus, Minus, Star, Slash, Caret, Open, Close, OpenBracket, CloseBracket, Comma, Semicolon, Constants, Variables, Constraints, Function as FunctionWord, Return, End, In, Oo, EndOfText}
use Rattle.pv_grammar.specs.declared.symbol.Symbol.{Symbol}
use Rattle.pv_grammar.specs.declared.symbol.Symbol.TheVariants.{Fixed as FixedToken, Relation as RelationToken, Number, Declared, Constant as ConstantName, Variable as VariableName, Parameter as ParameterName, Function as FunctionName, Unknown}
use Rattle.pv_grammar.specs.declared.machine.Item.{Item}
use Rattle.pv_grammar.specs.declared.machine.Machine.{Machine}
use Rattle.pv_grammar.specs.declared.machine.Item.TheVariants.{Exactly, MaybeConstants, WantConstant, MoreConstants, MaybeConstant, WantEquals, MaybeSign, WantValue, MaybeFunctions, WantFunctionName, WantParameter, MoreParameters, MaybeSemicolon, WantVariable, MoreVariables, MaybeVariable, MaybeDomain, WantBound, WantRelation, MoreConstraints, MaybeConstraint, WantFactor, MoreFactors, MoreTerms, MaybePower, WantExponent, MoreArguments, Then}

-- what follows a token, and the steps that it writes
abbrev pub Produced : Type 0
Produced = List Item × List Op

abbrev pub expression_behind : List Item → List Item
expression_behind more = WantFactor ∷ MoreFactors ∷ MoreTerms ∷ more

abbrev pub operand : Op → Option Produced
operand op = Some (MaybePower ∷ [], op ∷ [])

abbrev pub behind : List Item → Option Produced
behind items = Some (items, [])

-- the arguments of a call, its step, and perhaps a power
abbrev pub call_items : Op → ℕ → List Item
call_items op more = Exactly Open ∷ expression_behind (MoreArguments more ∷ Then op ∷ MaybePower ∷ [])

-- factor = sign factor | primary optional("^" NUMBER)
abbrev pub factor : Symbol → Option Produced
factor (FixedToken Plus) = behind (WantFactor ∷ [])
factor (FixedToken Minus) = behind (WantFactor ∷ Then (OneArgument Neg) ∷ [])
factor (FixedToken Open) = behind (expression_behind (MoreArguments 0 ∷ MaybePower ∷ []))
factor (Number value exponent) = operand (Constant value)
factor (ConstantName value) = operand (Constant value)
factor (VariableName i) = operand (Variable i)
factor (ParameterName i) = operand (Parameter i)
factor (FunctionName op arity) = behind (call_items op (arity - 1))
factor Unknown = behind (MaybePower ∷ [])
factor s = None

-- { ("*" | "/") factor }
abbrev pub factors : Symbol → Option Produced
factors (FixedToken Star) = behind (WantFactor ∷ Then (TwoArguments Mul) ∷ MoreFactors ∷ [])
factors (FixedToken Slash) = behind (WantFactor ∷ Then (TwoArguments Div) ∷ MoreFactors ∷ [])
factors s = None

-- { ("+" | "-") term }
abbrev pub terms : Symbol → Option Produced
terms (FixedToken Plus) = behind (WantFactor ∷ MoreFactors ∷ Then (TwoArguments Add) ∷ MoreTerms ∷ [])
terms (FixedToken Minus) = behind (WantFactor ∷ MoreFactors ∷ Then (TwoArguments Sub) ∷ MoreTerms ∷ [])
terms s = None

abbrev pub power : Symbol → Option Produced
power (FixedToken Caret) = behind (WantExponent ∷ [])
power s = None

abbrev pub exponent : Symbol → Option Produced
exponent (Number value (Some n)) = Some ([], OneArgument (Pow n) ∷ [])
exponent s = None

-- so many further arguments, each behind a comma, and the closing parenthesis
abbrev pub arguments : ℕ → Symbol → Option Produced
arguments zero (FixedToken Close) = behind []
arguments (suc n) (FixedToken Comma) = behind (expression_behind (MoreArguments n ∷ []))
arguments n s = None

abbrev pub relation : Symbol → Option Produced
relation (RelationToken r) = behind (expression_behind (Then (Relate r) ∷ []))
relation s = None

-- { ";" constraint } optional(";")
abbrev pub constraints : Symbol → Option Produced
constraints (FixedToken Semicolon) = behind (MaybeConstraint ∷ [])
constraints s = None

abbrev pub with_more : List Item → Option Produced → Option Produced
with_more more None = None
with_more more (Some p) = Some (p.0 ++ more, p.1)

abbrev pub fixed : Fixed → Fixed → Option Produced
fixed Plus Plus = behind []
fixed Minus Minus = behind []
fixed Star Star = behind []
fixed Slash Slash = behind []
fixed Caret Caret = behind []
fixed Open Open = behind []
fixed Close Close = behind []
fixed OpenBracket OpenBracket = behind []
fixed CloseBracket CloseBracket = behind []
fixed Comma Comma = behind []
fixed Semicolon Semicolon = behind []
fixed Constants Constants = behind []
fixed Variables Variables = behind []
fixed Constraints Constraints = behind []
fixed FunctionWord FunctionWord = behind []
fixed Return Return = behind []
fixed End End = behind []
fixed In In = behind []
fixed Oo Oo = behind []
fixed EndOfText EndOfText = behind []
fixed f g = None

abbrev pub exactly : Fixed → Symbol → Option Produced
exactly f (FixedToken g) = fixed f g
exactly f s = None

-- a separator and then perhaps one more
abbrev pub separated : Item → Symbol → Option Produced
separated i (FixedToken Comma) = behind (i ∷ [])
separated i (FixedToken Semicolon) = behind (i ∷ [])
separated i s = None

abbrev pub declared : List Item → Symbol → Option Produced
declared items (Declared taken) = behind items
declared items s = None

-- from a function's body on
abbrev pub body_items : List Item
body_items = expression_behind (Then Define ∷ MaybeSemicolon ∷ Exactly End ∷ MaybeSemicolon ∷ MaybeFunctions ∷ [])

abbrev pub functions : Symbol → Option Produced
functions (FixedToken FunctionWord) = behind (WantFunctionName ∷ Exactly Open ∷ WantParameter ∷ MoreParameters ∷ Exactly Return ∷ body_items)
functions s = None

abbrev pub parameters : Symbol → Option Produced
parameters (FixedToken Comma) = behind (WantParameter ∷ MoreParameters ∷ [])
parameters (FixedToken Close) = behind []
parameters s = None

abbrev pub domain_items : List Item
domain_items = Exactly OpenBracket ∷ MaybeSign ∷ WantBound ∷ Exactly Comma ∷ MaybeSign ∷ WantBound ∷ Exactly CloseBracket ∷ []

abbrev pub domain : Symbol → Option Produced
domain (FixedToken In) = behind domain_items
domain s = None

abbrev pub constants : Symbol → Option Produced
constants (FixedToken Constants) = behind (WantConstant ∷ MoreConstants ∷ [])
constants s = None

abbrev pub equals : Symbol → Option Produced
equals (RelationToken Eq) = behind []
equals s = None

abbrev pub sign : Symbol → Option Produced
sign (FixedToken Plus) = behind []
sign (FixedToken Minus) = behind []
sign s = None

abbrev pub value : Symbol → Option Produced
value (Number v exponent) = behind []
value s = None

abbrev pub bound : Symbol → Option Produced
bound (Number v exponent) = behind []
bound (ConstantName v) = behind []
bound (FixedToken Oo) = behind []
bound Unknown = behind []
bound s = None

-- what follows where an item begins with a token; None where it doesn't
abbrev pub produced : Item → Symbol → Option Produced
produced (Exactly f) s = exactly f s
produced MaybeConstants s = constants s
produced WantConstant s = declared (WantEquals ∷ MaybeSign ∷ WantValue ∷ []) s
produced MoreConstants s = separated MaybeConstant s
produced MaybeConstant s = declared (WantEquals ∷ MaybeSign ∷ WantValue ∷ MoreConstants ∷ []) s
produced WantEquals s = equals s
produced MaybeSign s = sign s
produced WantValue s = value s
produced MaybeFunctions s = functions s
produced WantFunctionName s = declared [] s
produced WantParameter s = declared [] s
produced MoreParameters s = parameters s
produced MaybeSemicolon s = exactly Semicolon s
produced WantVariable s = declared (MaybeDomain ∷ []) s
produced MoreVariables s = separated MaybeVariable s
produced MaybeVariable s = declared (MaybeDomain ∷ MoreVariables ∷ []) s
produced MaybeDomain s = domain s
produced WantBound s = bound s
produced WantRelation s = relation s
produced MoreConstraints s = constraints s
produced MaybeConstraint s = with_more (MoreFactors ∷ MoreTerms ∷ WantRelation ∷ MoreConstraints ∷ []) (factor s)
produced WantFactor s = factor s
produced MoreFactors s = factors s
produced MoreTerms s = terms s
produced MaybePower s = power s
produced WantExponent s = exponent s
produced (MoreArguments n) s = arguments n s
produced (Then op) s = None

-- an item that may be left out
abbrev pub MayEnd : Item → Type 0
MayEnd MaybeConstants = Unit {0}
MayEnd MoreConstants = Unit {0}
MayEnd MaybeConstant = Unit {0}
MayEnd MaybeSign = Unit {0}
MayEnd MaybeFunctions = Unit {0}
MayEnd MaybeSemicolon = Unit {0}
MayEnd MoreVariables = Unit {0}
MayEnd MaybeVariable = Unit {0}
MayEnd MaybeDomain = Unit {0}
MayEnd MoreConstraints = Unit {0}
MayEnd MaybeConstraint = Unit {0}
MayEnd MoreFactors = Unit {0}
MayEnd MoreTerms = Unit {0}
MayEnd MaybePower = Unit {0}
MayEnd (Then op) = Unit {0}
MayEnd i = ⊥

-- the step that stands in an item's place where it is left out
abbrev pub step_of : Item → List Op
step_of (Then op) = op ∷ []
step_of i = []

-- the tokens are a text of the items, and its code are the steps
pub data Derives : List Item → List Symbol → List Op → Type 0 where
  done : Derives [] [] []
  left_out : (i : Item) (items : List Item) (ss : List Symbol) (ops : List Op) → MayEnd i → Derives items ss ops → Derives (i ∷ items) ss (step_of i ++ ops)
  begun : (i : Item) (items : List Item) (s : Symbol) (ss : List Symbol) (p : Produced) (ops : List Op) →
      produced i s ≡ Some p → Derives (p.0 ++ items) ss ops → Derives (i ∷ items) (s ∷ ss) (p.1 ++ ops)

-- system = optional(constants) { function } variables { function } constraints End
abbrev pub system_items : List Item
system_items =
    MaybeConstants ∷ MaybeFunctions ∷ Exactly Variables ∷ WantVariable ∷ MoreVariables ∷ MaybeFunctions
    ∷ Exactly Constraints ∷ expression_behind (WantRelation ∷ MoreConstraints ∷ Exactly End ∷ [])

abbrev pub expression_items : List Item
expression_items = expression_behind []

-- tokens that are a text of the items have one code
abbrev pub IsReadOnce : List Item → Type 0
IsReadOnce items = (ss : List Symbol) (ops ops' : List Op) → Derives items ss ops → Derives items ss ops' → ops ≡ ops'

-- ---- The machine

-- the items of a stack, the top first
unfoldable pub pile : List Item → List Item
pile items = reverse items

-- before a token the items of the pile end that may and do not begin with it; the one behind them is met, and taken off
pub data Settles (s : Symbol) : List Item → List Op → Option Item → List Item → List Op → Type 0 where
  emptied : (ops : List Op) → Settles s [] ops None [] ops
  met : (i : Item) (items : List Item) (ops : List Op) → (MayEnd i → produced i s ≢ None) → Settles s (i ∷ items) ops (Some i) items ops
  ended : (i : Item) (items : List Item) (ops : List Op) (o : Option Item) (rest : List Item) (more : List Op) →
      MayEnd i → produced i s ≡ None → Settles s items (ops ++ step_of i) o rest more → Settles s (i ∷ items) ops o rest more

-- the pile and the code after a token was taken
abbrev pub Follows : Option Produced → List Item → List Op → List Item → List Op → Type 0
Follows None items ops items' ops' = ⊥
Follows (Some p) items ops items' ops' = (items' ≡ p.0 ++ items) × (ops' ≡ ops ++ p.1)

-- a token was taken, or the item does not begin with it
abbrev pub Takes : Bool → Option Produced → List Item → List Op → List Item → List Op → Type 0
Takes true o items ops items' ops' = Follows o items ops items' ops'
Takes false o items ops items' ops' = o ≡ None

-- the machine did so
abbrev pub Moves : Option Produced → Machine → Machine → Bool → Type 0
Moves o old new taken = Takes taken o (pile old.stack.items) old.code.items (pile new.stack.items) new.code.items

abbrev pub is_exponent : Item → Bool
is_exponent WantExponent = true
is_exponent i = false
