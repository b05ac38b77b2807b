-- What a tree of the grammar means: the term of an expression, and the constraints and domains of a system, each by recursion on
-- the tree. Nothing is said here of a code or of a stack.
use Rattle.std.specs.Prelude.{List, [], ◌∷◌, ◌++◌, Bool, true, false}
use Rattle.pv_expr.specs.declared.domain.Bound.{Bound}
use Rattle.pv_expr.specs.declared.domain.Bound.TheVariants.{MinusOo, Value, PlusOo}
use Rattle.pv_expr.specs.declared.domain.Domain.{Domain}
use Rattle.pv_expr.specs.declared.operators.UnaryOp.TheVariants.{Neg, Abs, Pow}
use Rattle.pv_expr.specs.declared.operators.BinaryOp.TheVariants.{Add, Sub, Mul, Div, Min, Max}
use Rattle.pv_expr.specs.Terms.{Term, constant, place, one, two}
use Rattle.pv_code.specs.declared.fraction.Fraction.{Fraction}
use Rattle.pv_code.specs.Expansion.{Meaning, Sides, argument, meaning_of}
use Rattle.pv_code.specs.Fractions.{signed}
use Rattle.pv_grammar.specs.Productions.{Arguments, Bound as BoundTree, Constraint, Constraints, Domain as DomainTree, Expression, Factor, Factors, Function, Functions, Limit, Power, Primary, Sign, System, Term as TermTree, Terms, Variable, Variables, absolute_of, argument as argument_and, between, bound_of, call, constant_limit, constant_named, constraint_and, constraints_semicolon, function_and, function_of, greatest_of, infinite_limit, least_of, minus, minus_sign, negative, no_argument, no_constraint, no_domain, no_factor, no_function, no_power, no_term, no_variable, number, number_limit, over, parameter_at, parentheses, plus, positive, product_of, raised, relates, square_of, sum_of, system_of, times, to_power, variable_and, variable_at, variable_of, variables_separator}

-- ---- Expressions

-- `x^n`, or x where no power is written
abbrev pub power_term : Power → Term → Term
power_term no_power x = x
power_term (to_power value n) x = one (Pow n) x

-- the term of a tree, over functions with these meanings, where the parameters stand for these arguments; further terms and
-- factors join what stands before them, so sums and products group from the left
abbrev mutual
  pub expression_term : List Meaning → List Term → Expression → Term
  expression_term fs args (sum_of t ts) = terms_term fs args ts (term_term fs args t)

  pub terms_term : List Meaning → List Term → Terms → Term → Term
  terms_term fs args no_term before = before
  terms_term fs args (plus t ts) before = terms_term fs args ts (two Add before (term_term fs args t))
  terms_term fs args (minus t ts) before = terms_term fs args ts (two Sub before (term_term fs args t))

  pub term_term : List Meaning → List Term → TermTree → Term
  term_term fs args (product_of x xs) = factors_term fs args xs (factor_term fs args x)

  pub factors_term : List Meaning → List Term → Factors → Term → Term
  factors_term fs args no_factor before = before
  factors_term fs args (times x xs) before = factors_term fs args xs (two Mul before (factor_term fs args x))
  factors_term fs args (over x xs) before = factors_term fs args xs (two Div before (factor_term fs args x))

  pub factor_term : List Meaning → List Term → Factor → Term
  factor_term fs args (positive x) = factor_term fs args x
  factor_term fs args (negative x) = one Neg (factor_term fs args x)
  factor_term fs args (raised x exponent) = power_term exponent (primary_term fs args x)

  pub primary_term : List Meaning → List Term → Primary → Term
  primary_term fs args (number value exponent) = constant value.p value.q
  primary_term fs args (constant_named value) = constant value.p value.q
  primary_term fs args (variable_at i) = place i
  primary_term fs args (parameter_at i) = argument args i
  primary_term fs args (parentheses e) = expression_term fs args e
  primary_term fs args (absolute_of e) = one Abs (expression_term fs args e)
  primary_term fs args (square_of e) = one (Pow 2) (expression_term fs args e)
  primary_term fs args (least_of a b) = two Min (expression_term fs args a) (expression_term fs args b)
  primary_term fs args (greatest_of a b) = two Max (expression_term fs args a) (expression_term fs args b)
  primary_term fs args (call f e more) = meaning_of fs f (expression_term fs args e ∷ arguments_terms fs args more)

  pub arguments_terms : List Meaning → List Term → Arguments → List Term
  arguments_terms fs args no_argument = []
  arguments_terms fs args (argument_and e more) = expression_term fs args e ∷ arguments_terms fs args more

-- ---- Functions

-- a call of a function stands for its body's term with the arguments in place of the parameters
abbrev pub function_meaning : List Meaning → Function → Meaning
function_meaning fs (function_of parameters body inner outer) = λ args. expression_term fs args body

-- the functions so far, and then these: each one knows those before it
abbrev pub functions_behind : Functions → List Meaning → List Meaning
functions_behind no_function fs = fs
functions_behind (function_and f more) fs = functions_behind more (fs ++ function_meaning fs f ∷ [])

-- ---- Domains

abbrev pub is_negative : Sign → Bool
is_negative minus_sign = true
is_negative sign = false

abbrev pub value_of : Fraction → Bound
value_of v = Value v.p v.q

abbrev pub infinite : Bool → Bound
infinite true = MinusOo
infinite false = PlusOo

abbrev pub limit_of : Bool → Limit → Bound
limit_of below_zero (number_limit value exponent) = value_of (signed below_zero value)
limit_of below_zero infinite_limit = infinite below_zero
limit_of below_zero (constant_limit value) = value_of (signed below_zero value)

abbrev pub end_of : BoundTree → Bound
end_of (bound_of sign limit) = limit_of (is_negative sign) limit

-- an omitted domain is [-oo, oo]
abbrev pub domain_of : DomainTree → Domain
domain_of no_domain = record { lo = MinusOo; hi = PlusOo }
domain_of (between lo hi) = record { lo = end_of lo; hi = end_of hi }

abbrev pub variable_domain : Variable → Domain
variable_domain (variable_of domain) = domain_of domain

abbrev pub variables_domains : Variables → List Domain
variables_domains no_variable = []
variables_domains (variables_separator s) = []
variables_domains (variable_and s v more) = variable_domain v ∷ variables_domains more

-- the domains of the variables, in order
abbrev pub system_domains : System → List Domain
system_domains (system_of block before v vs behind c cs) = variable_domain v ∷ variables_domains vs

-- ---- Constraints

abbrev pub constraint_sides : List Meaning → Constraint → Sides
constraint_sides fs (relates left r right) = record { left = expression_term fs [] left; relation = r; right = expression_term fs [] right }

abbrev pub constraints_sides : List Meaning → Constraints → List Sides
constraints_sides fs no_constraint = []
constraints_sides fs constraints_semicolon = []
constraints_sides fs (constraint_and c more) = constraint_sides fs c ∷ constraints_sides fs more

-- in a constraint all functions are known
abbrev pub system_constraints : System → List Sides
system_constraints (system_of block before v vs behind c cs) =
    let fs = functions_behind behind (functions_behind before []) in constraint_sides fs c ∷ constraints_sides fs cs
