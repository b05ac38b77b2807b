-- How trees and the items of `Grammar` say the same: the code of a tree, and the laws that tie both. It is for the machine's proofs: no
-- public contract of the reader cites it.
use Rattle.std.specs.Prelude.{◌≡◌, ◌↔◌, ℕ, zero, suc, List, [], ◌∷◌, true}
use Rattle.pv_expr.specs.declared.operators.UnaryOp.TheVariants.{Neg, Abs, Pow}
use Rattle.pv_expr.specs.declared.operators.BinaryOp.TheVariants.{Add, Sub, Mul, Div, Min, Max}
use Rattle.pv_expr.specs.Terms.{Term}
use Rattle.pv_code.specs.declared.code.Op.{Op}
use Rattle.pv_code.specs.declared.code.Op.TheVariants.{Constant as ConstantStep, Variable as VariableStep, Parameter as ParameterStep, One, Two, Call, Define, Relate}
use Rattle.pv_code.specs.Expansion.{Meaning, constraints_of, run}
use Rattle.pv_grammar.specs.declared.symbol.Symbol.{Symbol}
use Rattle.pv_grammar.specs.declared.symbol.Symbol.TheVariants.{Declared, Function as FunctionName, Unknown}
use Rattle.pv_grammar.specs.Grammar.{Derives, expression_items, system_items}
use Rattle.pv_grammar.specs.Productions.{Arguments, Constraint, Constraints, Expression, Factor, Factors, Function, Functions, Power, Primary, System, Term as TermTree, Terms, absolute_of, argument, call, constant_named, constraint_and, constraints_semicolon, count, expression_symbols, function_and, function_of, greatest_of, least_of, minus, negative, no_argument, no_constraint, no_factor, no_function, no_power, no_term, number, over, parameter_at, parentheses, plus, positive, product_of, raised, relates, square_of, sum_of, system_of, system_symbols, times, to_power, variable_at}
use Rattle.pv_grammar.specs.Trees.{expression_term, system_constraints}

-- ---- The code of a tree, in front of what follows

abbrev pub power_code : Power → List Op → List Op
power_code no_power k = k
power_code (to_power value n) k = One (Pow n) ∷ k

abbrev mutual
  pub expression_code : Expression → List Op → List Op
  expression_code (sum_of t ts) k = term_code t (terms_code ts k)

  pub terms_code : Terms → List Op → List Op
  terms_code no_term k = k
  terms_code (plus t ts) k = term_code t (Two Add ∷ terms_code ts k)
  terms_code (minus t ts) k = term_code t (Two Sub ∷ terms_code ts k)

  pub term_code : TermTree → List Op → List Op
  term_code (product_of f fs) k = factor_code f (factors_code fs k)

  pub factors_code : Factors → List Op → List Op
  factors_code no_factor k = k
  factors_code (times f fs) k = factor_code f (Two Mul ∷ factors_code fs k)
  factors_code (over f fs) k = factor_code f (Two Div ∷ factors_code fs k)

  pub factor_code : Factor → List Op → List Op
  factor_code (positive f) k = factor_code f k
  factor_code (negative f) k = factor_code f (One Neg ∷ k)
  factor_code (raised p power) k = primary_code p (power_code power k)

  pub primary_code : Primary → List Op → List Op
  primary_code (number value exponent) k = ConstantStep value ∷ k
  primary_code (constant_named value) k = ConstantStep value ∷ k
  primary_code (variable_at i) k = VariableStep i ∷ k
  primary_code (parameter_at i) k = ParameterStep i ∷ k
  primary_code (parentheses e) k = expression_code e k
  primary_code (absolute_of e) k = expression_code e (One Abs ∷ k)
  primary_code (square_of e) k = expression_code e (One (Pow 2) ∷ k)
  primary_code (least_of a b) k = expression_code a (expression_code b (Two Min ∷ k))
  primary_code (greatest_of a b) k = expression_code a (expression_code b (Two Max ∷ k))
  primary_code (call f e more) k = expression_code e (arguments_code more (Call f (suc (count more)) ∷ k))

  pub arguments_code : Arguments → List Op → List Op
  arguments_code no_argument k = k
  arguments_code (argument e more) k = expression_code e (arguments_code more k)

abbrev pub function_code : Function → List Op → List Op
function_code (function_of parameters body inner outer) k = expression_code body (Define ∷ k)

abbrev pub functions_code : Functions → List Op → List Op
functions_code no_function k = k
functions_code (function_and f more) k = function_code f (functions_code more k)

abbrev pub constraint_code : Constraint → List Op → List Op
constraint_code (relates left r right) k = expression_code left (expression_code right (Relate r ∷ k))

abbrev pub constraints_code : Constraints → List Op → List Op
constraints_code no_constraint k = k
constraints_code constraints_semicolon k = k
constraints_code (constraint_and c more) k = constraint_code c (constraints_code more k)

abbrev pub system_code : System → List Op → List Op
system_code (system_of block before v vs behind c cs) k = functions_code before (functions_code behind (constraint_code c (constraints_code cs k)))

-- ---- The same tokens

-- the step and the count of arguments of a function word or of a declared function
abbrev pub IsCalled : Op → ℕ → Type 0
IsCalled (One Abs) (suc zero) = Unit {0}
IsCalled (One (Pow (suc (suc zero)))) (suc zero) = Unit {0}
IsCalled (Two Min) (suc (suc zero)) = Unit {0}
IsCalled (Two Max) (suc (suc zero)) = Unit {0}
IsCalled (Call f n) (suc m) = n ≡ suc m
IsCalled op n = ⊥

-- a token of a text in which each name is declared once, and before its use. The items also take a token with an undeclared
-- name, or a name that is taken, or a function with any step: the limits forbid the first two, and no name stands for the third
abbrev pub IsKnown : Symbol → Type 0
IsKnown Unknown = ⊥
IsKnown (Declared true) = ⊥
IsKnown (FunctionName op arity) = IsCalled op arity
IsKnown s = Unit {0}

abbrev pub AreKnown : List Symbol → Type 0
AreKnown [] = Unit {0}
AreKnown (s ∷ ss) = IsKnown s × AreKnown ss

-- a system's tree has these tokens and this code
abbrev pub IsOfSystem : List Symbol → List Op → Type 0
IsOfSystem ss code = (x : System) × (ss ≡ system_symbols x []) × (code ≡ system_code x [])

abbrev pub IsOfExpression : List Symbol → List Op → Type 0
IsOfExpression ss code = (e : Expression) × (ss ≡ expression_symbols e []) × (code ≡ expression_code e [])

-- ---- The laws of trees

-- the items and the trees have the same texts, with the same code
abbrev pub SystemsAgree : Type 0
SystemsAgree = (ss : List Symbol) (code : List Op) → (Derives system_items ss code × AreKnown ss) ↔ IsOfSystem ss code

abbrev pub ExpressionsAgree : Type 0
ExpressionsAgree = (ss : List Symbol) (code : List Op) → (Derives expression_items ss code × AreKnown ss) ↔ IsOfExpression ss code

-- tokens have one tree
abbrev pub OneSystemTree : Type 0
OneSystemTree = (x y : System) → system_symbols x [] ≡ system_symbols y [] → x ≡ y

abbrev pub OneExpressionTree : Type 0
OneExpressionTree = (d e : Expression) → expression_symbols d [] ≡ expression_symbols e [] → d ≡ e

-- a tree's code means what the tree means
abbrev pub SystemsMeanAlike : Type 0
SystemsMeanAlike = (x : System) → constraints_of (system_code x []) ≡ system_constraints x

abbrev pub ExpressionsMeanAlike : Type 0
ExpressionsMeanAlike = (e : Expression) (fs : List Meaning) (args : List Term) → run fs args (expression_code e []) [] ≡ expression_term fs args e ∷ []
