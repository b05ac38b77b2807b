-- That the trees say what they should, by a few examples: each tree with the tokens has the term.
use Rattle.std.proofs.Common.{◌≡◌, List, [], ◌∷◌, pos, refl, sym, ap, ◌∙◌}
use Rattle.pv_expr.specs.declared.operators.BinaryOp.TheVariants.{Add, Sub, Mul, Div}
use Rattle.pv_expr.specs.Terms.{one, place, two}
use Rattle.pv_code.specs.declared.fraction.Fraction.{Fraction}
use Rattle.pv_code.specs.declared.code.Op.TheVariants.{Call}
use Rattle.pv_code.specs.Expansion.{Meaning}
use Rattle.pv_grammar.specs.declared.symbol.Fixed.TheVariants.{Minus, Plus, Star, Slash, Open, Close, Comma}
use Rattle.pv_grammar.specs.declared.symbol.Symbol.{Symbol}
use Rattle.pv_grammar.specs.declared.symbol.Symbol.TheVariants.{Fixed as FixedToken, Variable as VariableName, Function as FunctionName}
use Rattle.pv_grammar.specs.Productions.{Expression, Factor, Function, Term as TermTree, argument, call, expression_symbols, function_of, minus, no_argument, no_factor, no_parameter, no_power, no_semicolon, no_term, over, parameter_and, parameter_at, plus, product_of, raised, sum_of, times, variable_at}
use Rattle.pv_grammar.specs.Trees.{expression_term, function_meaning}
use Rattle.pv_grammar.proofs.OneTree.{one_expression_tree}

-- what each tree with these tokens means, from one of them
of_tokens : (fs : List Meaning) (ss : List Symbol) (e : Expression) → expression_symbols e [] ≡ ss → (d : Expression) → expression_symbols d [] ≡ ss → expression_term fs [] d ≡ expression_term fs [] e
of_tokens fs ss e is d also = ap (expression_term fs []) (one_expression_tree d e (also ∙ sym is))

abbrev name : Factor → TermTree
name x = product_of x no_factor

abbrev x : Factor
x = raised (variable_at 0) no_power

abbrev y : Factor
y = raised (variable_at 1) no_power

abbrev z : Factor
z = raised (variable_at 2) no_power

abbrev whole : Fraction
whole = record { p = pos 2; q = 1 }

-- x - y - z is (x - y) - z
differences : (e : Expression) → expression_symbols e [] ≡ VariableName 0 ∷ FixedToken Minus ∷ VariableName 1 ∷ FixedToken Minus ∷ VariableName 2 ∷ [] →
    expression_term [] [] e ≡ two Sub (two Sub (place 0) (place 1)) (place 2)
differences e is = of_tokens [] _ (sum_of (name x) (minus (name y) (minus (name z) no_term))) refl e is

-- x / y * z is (x / y) * z, and binds tighter than +
quotients : (e : Expression) → expression_symbols e [] ≡ VariableName 2 ∷ FixedToken Plus ∷ VariableName 0 ∷ FixedToken Slash ∷ VariableName 1 ∷ FixedToken Star ∷ VariableName 2 ∷ [] →
    expression_term [] [] e ≡ two Add (place 2) (two Mul (two Div (place 0) (place 1)) (place 2))
quotients e is = of_tokens [] _ (sum_of (name z) (plus (product_of x (over y (times z no_factor))) no_term)) refl e is

-- where f(a, b) = a - b, f(y, x) is y - x
abbrev body : Expression
body = sum_of (name (raised (parameter_at 0) no_power)) (minus (name (raised (parameter_at 1) no_power)) no_term)

abbrev difference_function : Function
difference_function = function_of (parameter_and no_parameter) body no_semicolon no_semicolon

calls : (e : Expression) → expression_symbols e [] ≡ FunctionName (Call 0 2) 2 ∷ FixedToken Open ∷ VariableName 1 ∷ FixedToken Comma ∷ VariableName 0 ∷ FixedToken Close ∷ [] →
    expression_term (function_meaning [] difference_function ∷ []) [] e ≡ two Sub (place 1) (place 0)
calls e is =
    of_tokens (function_meaning [] difference_function ∷ []) _
    (sum_of (name (raised (call 0 (sum_of (name y) no_term) (argument (sum_of (name x) no_term) no_argument)) no_power)) no_term) refl e is
