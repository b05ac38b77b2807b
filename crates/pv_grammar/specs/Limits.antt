-- The limits of a text, said of its tree: how many operations stand in an expression, how deep its parentheses nest, and how many
-- variables, constraints, functions and parameters there are.
use Rattle.std.specs.Prelude.{◌≡◌, ℕ, suc, ◌+◌, ◌≤◌, max, List, []}
use Rattle.pv_grammar.specs.declared.symbol.Symbol.{Symbol}
use Rattle.pv_grammar.specs.Productions.{Arguments, Constraint, Constraints, Expression, Factor, Factors, Function, Functions, Parameters, Power, Primary, System, Term, Terms, Variables, absolute_of, argument, call, constant_named, constraint_and, constraints_semicolon, expression_symbols, function_and, function_of, greatest_of, least_of, minus, negative, no_argument, no_constraint, no_factor, no_function, no_parameter, no_power, no_term, no_variable, number, over, parameter_and, parameter_at, parentheses, plus, positive, product_of, raised, relates, square_of, sum_of, system_of, system_symbols, times, to_power, variable_and, variable_at, variables_separator}
use Rattle.pv_code.specs.declared.measure.TheConstants.{MOST_PARAMETERS}
use Rattle.pv_expr.specs.declared.system.TheConstants.{MOST_VARIABLES, MOST_CONSTRAINTS}
use Rattle.pv_grammar.specs.declared.counts.TheConstants.{MOST_FUNCTIONS, MOST_NESTING, MOST_OPERATIONS}

-- ---- Operations: signs, `+ - * / ^`, and the names of functions

abbrev pub power_operations : Power → ℕ
power_operations no_power = 0
power_operations (to_power value n) = 1

abbrev mutual
  pub expression_operations : Expression → ℕ
  expression_operations (sum_of t ts) = term_operations t + terms_operations ts

  pub terms_operations : Terms → ℕ
  terms_operations no_term = 0
  terms_operations (plus t ts) = suc (term_operations t + terms_operations ts)
  terms_operations (minus t ts) = suc (term_operations t + terms_operations ts)

  pub term_operations : Term → ℕ
  term_operations (product_of x xs) = factor_operations x + factors_operations xs

  pub factors_operations : Factors → ℕ
  factors_operations no_factor = 0
  factors_operations (times x xs) = suc (factor_operations x + factors_operations xs)
  factors_operations (over x xs) = suc (factor_operations x + factors_operations xs)

  pub factor_operations : Factor → ℕ
  factor_operations (positive x) = suc (factor_operations x)
  factor_operations (negative x) = suc (factor_operations x)
  factor_operations (raised x exponent) = primary_operations x + power_operations exponent

  pub primary_operations : Primary → ℕ
  primary_operations (number value exponent) = 0
  primary_operations (constant_named value) = 0
  primary_operations (variable_at i) = 0
  primary_operations (parameter_at i) = 0
  primary_operations (parentheses e) = expression_operations e
  primary_operations (absolute_of e) = suc (expression_operations e)
  primary_operations (square_of e) = suc (expression_operations e)
  primary_operations (least_of a b) = suc (expression_operations a + expression_operations b)
  primary_operations (greatest_of a b) = suc (expression_operations a + expression_operations b)
  primary_operations (call f e more) = suc (expression_operations e + arguments_operations more)

  pub arguments_operations : Arguments → ℕ
  arguments_operations no_argument = 0
  arguments_operations (argument e more) = expression_operations e + arguments_operations more

-- ---- How deep parentheses nest, those of functions among them

abbrev mutual
  pub expression_depth : Expression → ℕ
  expression_depth (sum_of t ts) = max (term_depth t) (terms_depth ts)

  pub terms_depth : Terms → ℕ
  terms_depth no_term = 0
  terms_depth (plus t ts) = max (term_depth t) (terms_depth ts)
  terms_depth (minus t ts) = max (term_depth t) (terms_depth ts)

  pub term_depth : Term → ℕ
  term_depth (product_of x xs) = max (factor_depth x) (factors_depth xs)

  pub factors_depth : Factors → ℕ
  factors_depth no_factor = 0
  factors_depth (times x xs) = max (factor_depth x) (factors_depth xs)
  factors_depth (over x xs) = max (factor_depth x) (factors_depth xs)

  pub factor_depth : Factor → ℕ
  factor_depth (positive x) = factor_depth x
  factor_depth (negative x) = factor_depth x
  factor_depth (raised x exponent) = primary_depth x

  pub primary_depth : Primary → ℕ
  primary_depth (number value exponent) = 0
  primary_depth (constant_named value) = 0
  primary_depth (variable_at i) = 0
  primary_depth (parameter_at i) = 0
  primary_depth (parentheses e) = suc (expression_depth e)
  primary_depth (absolute_of e) = suc (expression_depth e)
  primary_depth (square_of e) = suc (expression_depth e)
  primary_depth (least_of a b) = suc (max (expression_depth a) (expression_depth b))
  primary_depth (greatest_of a b) = suc (max (expression_depth a) (expression_depth b))
  primary_depth (call f e more) = suc (max (expression_depth e) (arguments_depth more))

  pub arguments_depth : Arguments → ℕ
  arguments_depth no_argument = 0
  arguments_depth (argument e more) = max (expression_depth e) (arguments_depth more)

-- ---- How many there are

-- the parameters of a function are one and these
abbrev pub parameters_count : Parameters → ℕ
parameters_count no_parameter = 0
parameters_count (parameter_and more) = suc (parameters_count more)

abbrev pub functions_count : Functions → ℕ
functions_count no_function = 0
functions_count (function_and f more) = suc (functions_count more)

abbrev pub variables_count : Variables → ℕ
variables_count no_variable = 0
variables_count (variables_separator s) = 0
variables_count (variable_and s v more) = suc (variables_count more)

abbrev pub constraints_count : Constraints → ℕ
constraints_count no_constraint = 0
constraints_count constraints_semicolon = 0
constraints_count (constraint_and c more) = suc (constraints_count more)

-- ---- The limits

abbrev pub IsExpressionWithin : Expression → Type 0
IsExpressionWithin e = (expression_depth e ≤ MOST_NESTING) × (expression_operations e ≤ MOST_OPERATIONS)

abbrev pub IsFunctionWithin : Function → Type 0
IsFunctionWithin (function_of more body inner outer) = (suc (parameters_count more) ≤ MOST_PARAMETERS) × IsExpressionWithin body

abbrev pub AreFunctionsWithin : Functions → Type 0
AreFunctionsWithin no_function = Unit {0}
AreFunctionsWithin (function_and f more) = IsFunctionWithin f × AreFunctionsWithin more

-- the operations of both sides count together
abbrev pub IsConstraintWithin : Constraint → Type 0
IsConstraintWithin (relates left r right) =
    (expression_depth left ≤ MOST_NESTING) × (expression_depth right ≤ MOST_NESTING) × (expression_operations left + expression_operations right ≤ MOST_OPERATIONS)

abbrev pub AreConstraintsWithin : Constraints → Type 0
AreConstraintsWithin no_constraint = Unit {0}
AreConstraintsWithin constraints_semicolon = Unit {0}
AreConstraintsWithin (constraint_and c more) = IsConstraintWithin c × AreConstraintsWithin more

abbrev pub IsSystemWithin : System → Type 0
IsSystemWithin (system_of block before v vs behind c cs) =
    (functions_count before + functions_count behind ≤ MOST_FUNCTIONS) × AreFunctionsWithin before × AreFunctionsWithin behind
    × (suc (variables_count vs) ≤ MOST_VARIABLES)
    × (suc (constraints_count cs) ≤ MOST_CONSTRAINTS) × IsConstraintWithin c × AreConstraintsWithin cs

-- ---- Texts within the limits, by their tokens

abbrev pub IsLimitedSystem : List Symbol → Type 0
IsLimitedSystem ss = (x : System) × (ss ≡ system_symbols x []) × IsSystemWithin x

abbrev pub IsLimitedExpression : List Symbol → Type 0
IsLimitedExpression ss = (e : Expression) × (ss ≡ expression_symbols e []) × IsExpressionWithin e
