-- The grammar as data types: a type for each nonterminal, and a constructor for each of its productions. A tree is one way of
-- reading a list of tokens, and what tokens it has is read off its constructors: `system_symbols` and the others put the
-- tokens of a tree in front of what follows. What a tree means is said in `Trees`.
--
-- A name is a token with what it stands for: a constant's value, the place of a variable or of a parameter, the number of a
-- function. So no tree has a name that is not declared for its use, or a declaration of a name that is taken.
use Rattle.std.specs.Prelude.{◌≡◌, ℕ, suc, List, [], ◌∷◌, false, Option, Some}
use Rattle.pv_expr.specs.declared.constraint.Relation.{Relation}
use Rattle.pv_expr.specs.declared.constraint.Relation.TheVariants.{Eq}
use Rattle.pv_code.specs.declared.code.Op.TheVariants.{One, Two, Call}
use Rattle.pv_expr.specs.declared.operators.UnaryOp.TheVariants.{Abs, Pow}
use Rattle.pv_expr.specs.declared.operators.BinaryOp.TheVariants.{Min, Max}
use Rattle.pv_code.specs.declared.fraction.Fraction.{Fraction}
use Rattle.pv_grammar.specs.declared.symbol.Fixed.TheVariants.{Plus, Minus, Star, Slash, Caret, Open, Close, OpenBracket, CloseBracket, Comma, Semicolon as SemicolonToken, Constants as ConstantsWord, Variables as VariablesWord, Constraints as ConstraintsWord, Function as FunctionWord, Return, End, In, Oo}
use Rattle.pv_grammar.specs.declared.symbol.Symbol.{Symbol}
use Rattle.pv_grammar.specs.declared.symbol.Symbol.TheVariants.{Fixed as FixedToken, Relation as RelationToken, Number, Declared, Constant as ConstantName, Variable as VariableName, Parameter as ParameterName, Function as FunctionName}

-- ---- Expressions

-- A number is a token with its value, and with the exponent that it is where it is digits alone with a value of at most 32.

-- optional("^" NUMBER)
pub data Power : Type 0 where
  no_power : Power
  to_power : Fraction → ℕ → Power

mutual
  -- expr = term { ("+" | "-") term }
  pub data Expression : Type 0 where
    sum_of : Term → Terms → Expression

  pub data Terms : Type 0 where
    no_term : Terms
    plus : Term → Terms → Terms
    minus : Term → Terms → Terms

  -- term = factor { ("*" | "/") factor }
  pub data Term : Type 0 where
    product_of : Factor → Factors → Term

  pub data Factors : Type 0 where
    no_factor : Factors
    times : Factor → Factors → Factors
    over : Factor → Factors → Factors

  -- factor = sign factor | primary optional("^" NUMBER)
  pub data Factor : Type 0 where
    positive : Factor → Factor
    negative : Factor → Factor
    raised : Primary → Power → Factor

  -- primary = NUMBER | NAME | "(" expr ")" | ("abs" | "sqr") "(" expr ")" | ("min" | "max") "(" expr "," expr ")"
  --         | function's NAME "(" expr { "," expr } ")"
  pub data Primary : Type 0 where
    number : Fraction → Option ℕ → Primary
    constant_named : Fraction → Primary
    variable_at : ℕ → Primary
    parameter_at : ℕ → Primary
    parentheses : Expression → Primary
    absolute_of : Expression → Primary
    square_of : Expression → Primary
    least_of : Expression → Expression → Primary
    greatest_of : Expression → Expression → Primary
    call : ℕ → Expression → Arguments → Primary

  -- { "," expr }
  pub data Arguments : Type 0 where
    no_argument : Arguments
    argument : Expression → Arguments → Arguments

-- how many arguments these are
abbrev pub count : Arguments → ℕ
count no_argument = 0
count (argument e more) = suc (count more)

abbrev pub power_symbols : Power → List Symbol → List Symbol
power_symbols no_power k = k
power_symbols (to_power value n) k = FixedToken Caret ∷ Number value (Some n) ∷ k

-- the token of a call has the number of its function and its count of parameters, which is that of the arguments: the first one and
-- the further ones
abbrev mutual
  pub expression_symbols : Expression → List Symbol → List Symbol
  expression_symbols (sum_of t ts) k = term_symbols t (terms_symbols ts k)

  pub terms_symbols : Terms → List Symbol → List Symbol
  terms_symbols no_term k = k
  terms_symbols (plus t ts) k = FixedToken Plus ∷ term_symbols t (terms_symbols ts k)
  terms_symbols (minus t ts) k = FixedToken Minus ∷ term_symbols t (terms_symbols ts k)

  pub term_symbols : Term → List Symbol → List Symbol
  term_symbols (product_of f fs) k = factor_symbols f (factors_symbols fs k)

  pub factors_symbols : Factors → List Symbol → List Symbol
  factors_symbols no_factor k = k
  factors_symbols (times f fs) k = FixedToken Star ∷ factor_symbols f (factors_symbols fs k)
  factors_symbols (over f fs) k = FixedToken Slash ∷ factor_symbols f (factors_symbols fs k)

  pub factor_symbols : Factor → List Symbol → List Symbol
  factor_symbols (positive f) k = FixedToken Plus ∷ factor_symbols f k
  factor_symbols (negative f) k = FixedToken Minus ∷ factor_symbols f k
  factor_symbols (raised p power) k = primary_symbols p (power_symbols power k)

  pub primary_symbols : Primary → List Symbol → List Symbol
  primary_symbols (number value exponent) k = Number value exponent ∷ k
  primary_symbols (constant_named value) k = ConstantName value ∷ k
  primary_symbols (variable_at i) k = VariableName i ∷ k
  primary_symbols (parameter_at i) k = ParameterName i ∷ k
  primary_symbols (parentheses e) k = FixedToken Open ∷ expression_symbols e (FixedToken Close ∷ k)
  primary_symbols (absolute_of e) k = FunctionName (One Abs) 1 ∷ FixedToken Open ∷ expression_symbols e (FixedToken Close ∷ k)
  primary_symbols (square_of e) k = FunctionName (One (Pow 2)) 1 ∷ FixedToken Open ∷ expression_symbols e (FixedToken Close ∷ k)
  primary_symbols (least_of a b) k = FunctionName (Two Min) 2 ∷ FixedToken Open ∷ expression_symbols a (FixedToken Comma ∷ expression_symbols b (FixedToken Close ∷ k))
  primary_symbols (greatest_of a b) k = FunctionName (Two Max) 2 ∷ FixedToken Open ∷ expression_symbols a (FixedToken Comma ∷ expression_symbols b (FixedToken Close ∷ k))
  primary_symbols (call f e more) k = FunctionName (Call f (suc (count more))) (suc (count more)) ∷ FixedToken Open ∷ expression_symbols e (arguments_symbols more k)

  pub arguments_symbols : Arguments → List Symbol → List Symbol
  arguments_symbols no_argument k = FixedToken Close ∷ k
  arguments_symbols (argument e more) k = FixedToken Comma ∷ expression_symbols e (arguments_symbols more k)

-- ---- Declarations

-- optional(sign)
pub data Sign : Type 0 where
  no_sign : Sign
  plus_sign : Sign
  minus_sign : Sign

abbrev pub sign_symbols : Sign → List Symbol → List Symbol
sign_symbols no_sign k = k
sign_symbols plus_sign k = FixedToken Plus ∷ k
sign_symbols minus_sign k = FixedToken Minus ∷ k

-- sep
pub data Separator : Type 0 where
  comma : Separator
  semicolon : Separator

abbrev pub separator_symbol : Separator → Symbol
separator_symbol comma = FixedToken Comma
separator_symbol semicolon = FixedToken SemicolonToken

-- optional(";")
pub data Semicolon : Type 0 where
  no_semicolon : Semicolon
  one_semicolon : Semicolon

abbrev pub semicolon_symbols : Semicolon → List Symbol → List Symbol
semicolon_symbols no_semicolon k = k
semicolon_symbols one_semicolon k = FixedToken SemicolonToken ∷ k

-- const = NAME "=" optional(sign) NUMBER
pub data Constant : Type 0 where
  constant_of : Sign → Fraction → Option ℕ → Constant

-- { sep const } optional(sep)
pub data Constants : Type 0 where
  no_constant : Constants
  constants_separator : Separator → Constants
  constant_and : Separator → Constant → Constants → Constants

-- optional(constants), constants = Constants const { sep const } optional(sep)
pub data ConstantBlock : Type 0 where
  no_constants : ConstantBlock
  constants : Constant → Constants → ConstantBlock

abbrev pub constant_symbols : Constant → List Symbol → List Symbol
constant_symbols (constant_of sign value exponent) k = Declared false ∷ RelationToken Eq ∷ sign_symbols sign (Number value exponent ∷ k)

abbrev pub constants_symbols : Constants → List Symbol → List Symbol
constants_symbols no_constant k = k
constants_symbols (constants_separator s) k = separator_symbol s ∷ k
constants_symbols (constant_and s c more) k = separator_symbol s ∷ constant_symbols c (constants_symbols more k)

abbrev pub constant_block_symbols : ConstantBlock → List Symbol → List Symbol
constant_block_symbols no_constants k = k
constant_block_symbols (constants c more) k = FixedToken ConstantsWord ∷ constant_symbols c (constants_symbols more k)

-- { "," param } and the closing parenthesis
pub data Parameters : Type 0 where
  no_parameter : Parameters
  parameter_and : Parameters → Parameters

-- function = Function NAME "(" param { "," param } ")" Return expr optional(";") End optional(";")
pub data Function : Type 0 where
  function_of : Parameters → Expression → Semicolon → Semicolon → Function

-- { function }
pub data Functions : Type 0 where
  no_function : Functions
  function_and : Function → Functions → Functions

abbrev pub parameters_symbols : Parameters → List Symbol → List Symbol
parameters_symbols no_parameter k = FixedToken Close ∷ k
parameters_symbols (parameter_and more) k = FixedToken Comma ∷ Declared false ∷ parameters_symbols more k

abbrev pub function_symbols : Function → List Symbol → List Symbol
function_symbols (function_of more body inner outer) k =
    FixedToken FunctionWord ∷ Declared false ∷ FixedToken Open ∷ Declared false ∷ parameters_symbols more
    (FixedToken Return ∷ expression_symbols body (semicolon_symbols inner (FixedToken End ∷ semicolon_symbols outer k)))

abbrev pub functions_symbols : Functions → List Symbol → List Symbol
functions_symbols no_function k = k
functions_symbols (function_and f more) k = function_symbols f (functions_symbols more k)

-- NUMBER | oo | constant's NAME
pub data Limit : Type 0 where
  number_limit : Fraction → Option ℕ → Limit
  infinite_limit : Limit
  constant_limit : Fraction → Limit

-- bound = optional(sign) ( NUMBER | oo | constant's NAME )
pub data Bound : Type 0 where
  bound_of : Sign → Limit → Bound

-- optional("in" "[" bound "," bound "]")
pub data Domain : Type 0 where
  no_domain : Domain
  between : Bound → Bound → Domain

-- var = NAME optional("in" "[" bound "," bound "]")
pub data Variable : Type 0 where
  variable_of : Domain → Variable

-- { sep var } optional(sep)
pub data Variables : Type 0 where
  no_variable : Variables
  variables_separator : Separator → Variables
  variable_and : Separator → Variable → Variables → Variables

abbrev pub limit_symbol : Limit → Symbol
limit_symbol (number_limit value exponent) = Number value exponent
limit_symbol infinite_limit = FixedToken Oo
limit_symbol (constant_limit value) = ConstantName value

abbrev pub bound_symbols : Bound → List Symbol → List Symbol
bound_symbols (bound_of sign limit) k = sign_symbols sign (limit_symbol limit ∷ k)

abbrev pub domain_symbols : Domain → List Symbol → List Symbol
domain_symbols no_domain k = k
domain_symbols (between lo hi) k =
    FixedToken In ∷ FixedToken OpenBracket ∷ bound_symbols lo (FixedToken Comma ∷ bound_symbols hi (FixedToken CloseBracket ∷ k))

abbrev pub variable_symbols : Variable → List Symbol → List Symbol
variable_symbols (variable_of domain) k = Declared false ∷ domain_symbols domain k

abbrev pub variables_symbols : Variables → List Symbol → List Symbol
variables_symbols no_variable k = k
variables_symbols (variables_separator s) k = separator_symbol s ∷ k
variables_symbols (variable_and s v more) k = separator_symbol s ∷ variable_symbols v (variables_symbols more k)

-- ---- Systems

-- ctr = expr ("=" | "<=" | ">=" | "<" | ">") expr
pub data Constraint : Type 0 where
  relates : Expression → Relation → Expression → Constraint

-- { ";" ctr } optional(";")
pub data Constraints : Type 0 where
  no_constraint : Constraints
  constraints_semicolon : Constraints
  constraint_and : Constraint → Constraints → Constraints

-- system = optional(constants) { function } variables { function } constraints End
-- variables = Variables var { sep var } optional(sep)
-- constraints = Constraints ctr { ";" ctr } optional(";")
pub data System : Type 0 where
  system_of : ConstantBlock → Functions → Variable → Variables → Functions → Constraint → Constraints → System

abbrev pub constraint_symbols : Constraint → List Symbol → List Symbol
constraint_symbols (relates left r right) k = expression_symbols left (RelationToken r ∷ expression_symbols right k)

abbrev pub constraints_symbols : Constraints → List Symbol → List Symbol
constraints_symbols no_constraint k = k
constraints_symbols constraints_semicolon k = FixedToken SemicolonToken ∷ k
constraints_symbols (constraint_and c more) k = FixedToken SemicolonToken ∷ constraint_symbols c (constraints_symbols more k)

abbrev pub system_symbols : System → List Symbol → List Symbol
system_symbols (system_of block before v vs behind c cs) k =
    constant_block_symbols block (functions_symbols before (FixedToken VariablesWord ∷ variable_symbols v (variables_symbols vs
    (functions_symbols behind (FixedToken ConstraintsWord ∷ constraint_symbols c (constraints_symbols cs (FixedToken End ∷ k)))))))

-- ---- Texts, by their tokens

-- the tokens of a system's tree
abbrev pub IsSystem : List Symbol → Type 0
IsSystem ss = (x : System) × (ss ≡ system_symbols x [])

-- the tokens of an expression's tree
abbrev pub IsExpression : List Symbol → Type 0
IsExpression ss = (e : Expression) × (ss ≡ expression_symbols e [])
