-- A text of the grammar's items, in which each name is known, is that of a tree.
use Rattle.std.proofs.Common.{◌≡◌, ℕ, zero, suc, ◌-◌, List, [], ◌∷◌, ◌++◌, true, false, Option, Some, None, refl, ap, sym, subst, ◌∙◌, arith}
use Rattle.pv_expr.specs.declared.constraint.Relation.{Relation}
use Rattle.pv_expr.specs.declared.constraint.Relation.TheVariants.{Eq}
use Rattle.pv_code.specs.declared.code.Op.{Op}
use Rattle.pv_code.specs.declared.code.Op.TheVariants.{One, Two, Call, Relate}
use Rattle.pv_expr.specs.declared.operators.UnaryOp.TheVariants.{Abs, Pow}
use Rattle.pv_expr.specs.declared.operators.BinaryOp.TheVariants.{Min, Max}
use Rattle.pv_code.specs.declared.fraction.Fraction.{Fraction}
use Rattle.pv_grammar.specs.declared.machine.Item.{Item}
use Rattle.pv_grammar.specs.declared.machine.Item.TheVariants.{Exactly, MaybeConstants, WantConstant, MoreConstants, MaybeConstant, WantEquals, MaybeSign, WantValue, MaybeFunctions, WantFunctionName, WantParameter, MoreParameters, MaybeSemicolon, WantVariable, MoreVariables, MaybeVariable, MaybeDomain, WantBound, WantRelation, MoreConstraints, MaybeConstraint, WantFactor, MoreFactors, MoreTerms, MaybePower, WantExponent, MoreArguments, Then}
use Rattle.pv_grammar.specs.declared.symbol.Fixed.{Fixed}
use Rattle.pv_grammar.specs.declared.symbol.Fixed.TheVariants.{Plus, Minus, Star, Slash, Caret, Open, Close, Comma, Semicolon as SemicolonToken, Constants as ConstantsWord, Function as FunctionWord, In, Oo, EndOfText}
use Rattle.pv_grammar.specs.declared.symbol.Symbol.{Symbol}
use Rattle.pv_grammar.specs.declared.symbol.Symbol.TheVariants.{Fixed as FixedToken, Relation as RelationToken, Number, Declared, Constant as ConstantName, Variable as VariableName, Parameter as ParameterName, Function as FunctionName, Unknown}
use Rattle.pv_grammar.specs.Grammar.{Derives, MayEnd, Produced, begun, done, exactly, expression_items, factor, fixed, left_out, produced, step_of, system_items, with_more}
use Rattle.pv_grammar.specs.Productions.{Arguments, Constant, ConstantBlock, Constants, Constraint, Constraints, Domain, Expression, Factor, Factors, Functions, Limit, Parameters, Power, Primary, Semicolon, Separator, Sign, Terms, Variable, Variables, absolute_of, argument, between, bound_of, call, comma, constant_and, constant_limit, constant_named, constant_of, constants, constants_separator, constraint_and, constraints_semicolon, count, function_and, function_of, greatest_of, infinite_limit, least_of, minus, minus_sign, negative, no_argument, no_constant, no_constants, no_constraint, no_domain, no_factor, no_function, no_parameter, no_power, no_semicolon, no_sign, no_term, no_variable, number, number_limit, one_semicolon, over, parameter_and, parameter_at, parentheses, plus, plus_sign, positive, product_of, raised, relates, semicolon, square_of, sum_of, System, system_of, times, to_power, variable_and, variable_at, variable_of, variables_separator, arguments_symbols, constant_block_symbols, constant_symbols, constants_symbols, constraint_symbols, constraints_symbols, domain_symbols, expression_symbols, factor_symbols, factors_symbols, functions_symbols, limit_symbol, parameters_symbols, power_symbols, primary_symbols, semicolon_symbols, separator_symbol, sign_symbols, terms_symbols, variable_symbols, variables_symbols}
use Rattle.pv_grammar.specs.TreeCodes.{AreKnown, IsCalled, IsKnown, IsOfExpression, IsOfSystem, arguments_code, constraint_code, constraints_code, expression_code, factor_code, factors_code, functions_code, power_code, primary_code, terms_code}

-- ---- The trees of an item, with their tokens and their code in front of what follows

-- what may stand behind a separator
pub data Perhaps (X : Type 0) : Type 0 where
  nothing_more : Perhaps X
  one_more : X → Perhaps X

abbrev pub TreeOf : Item → Type 0
TreeOf MaybeConstants = ConstantBlock
TreeOf WantConstant = Constant
TreeOf MoreConstants = Constants
TreeOf MaybeConstant = Perhaps (Constant × Constants)
TreeOf MaybeSign = Sign
TreeOf WantValue = Fraction × Option ℕ
TreeOf MaybeFunctions = Functions
TreeOf MoreParameters = Parameters
TreeOf MaybeSemicolon = Semicolon
TreeOf WantVariable = Variable
TreeOf MoreVariables = Variables
TreeOf MaybeVariable = Perhaps (Variable × Variables)
TreeOf MaybeDomain = Domain
TreeOf WantBound = Limit
TreeOf WantRelation = Relation × Expression
TreeOf MoreConstraints = Constraints
TreeOf MaybeConstraint = Perhaps (Constraint × Constraints)
TreeOf WantFactor = Factor
TreeOf MoreFactors = Factors
TreeOf MoreTerms = Terms
TreeOf MaybePower = Power
TreeOf WantExponent = Fraction × ℕ
TreeOf (MoreArguments n) = (more : Arguments) × (count more ≡ n)
TreeOf i = Unit {0}

abbrev pub perhaps : {X S : Type 0} → (X → List S → List S) → Perhaps X → List S → List S
perhaps f nothing_more k = k
perhaps f (one_more x) k = f x k

abbrev pub item_symbols : (i : Item) → TreeOf i → List Symbol → List Symbol
item_symbols (Exactly f) x k = FixedToken f ∷ k
item_symbols MaybeConstants x k = constant_block_symbols x k
item_symbols WantConstant x k = constant_symbols x k
item_symbols MoreConstants x k = constants_symbols x k
item_symbols MaybeConstant x k = perhaps (λ (y : Constant × Constants). λ m. constant_symbols y.0 (constants_symbols y.1 m)) x k
item_symbols WantEquals x k = RelationToken Eq ∷ k
item_symbols MaybeSign x k = sign_symbols x k
item_symbols WantValue x k = Number x.0 x.1 ∷ k
item_symbols MaybeFunctions x k = functions_symbols x k
item_symbols WantFunctionName x k = Declared false ∷ k
item_symbols WantParameter x k = Declared false ∷ k
item_symbols MoreParameters x k = parameters_symbols x k
item_symbols MaybeSemicolon x k = semicolon_symbols x k
item_symbols WantVariable x k = variable_symbols x k
item_symbols MoreVariables x k = variables_symbols x k
item_symbols MaybeVariable x k = perhaps (λ (y : Variable × Variables). λ m. variable_symbols y.0 (variables_symbols y.1 m)) x k
item_symbols MaybeDomain x k = domain_symbols x k
item_symbols WantBound x k = limit_symbol x ∷ k
item_symbols WantRelation x k = RelationToken x.0 ∷ expression_symbols x.1 k
item_symbols MoreConstraints x k = constraints_symbols x k
item_symbols MaybeConstraint x k = perhaps (λ (y : Constraint × Constraints). λ m. constraint_symbols y.0 (constraints_symbols y.1 m)) x k
item_symbols WantFactor x k = factor_symbols x k
item_symbols MoreFactors x k = factors_symbols x k
item_symbols MoreTerms x k = terms_symbols x k
item_symbols MaybePower x k = power_symbols x k
item_symbols WantExponent x k = Number x.0 (Some x.1) ∷ k
item_symbols (MoreArguments n) x k = arguments_symbols x.0 k
item_symbols (Then op) x k = k

abbrev pub item_code : (i : Item) → TreeOf i → List Op → List Op
item_code MaybeFunctions x k = functions_code x k
item_code WantRelation x k = expression_code x.1 (Relate x.0 ∷ k)
item_code MoreConstraints x k = constraints_code x k
item_code MaybeConstraint x k = perhaps (λ (y : Constraint × Constraints). λ m. constraint_code y.0 (constraints_code y.1 m)) x k
item_code WantFactor x k = factor_code x k
item_code MoreFactors x k = factors_code x k
item_code MoreTerms x k = terms_code x k
item_code MaybePower x k = power_code x k
item_code WantExponent x k = One (Pow x.1) ∷ k
item_code (MoreArguments n) x k = arguments_code x.0 k
item_code (Then op) x k = op ∷ k
item_code i x k = k

abbrev pub Trees : List Item → Type 0
Trees [] = Unit {0}
Trees (i ∷ items) = TreeOf i × Trees items

abbrev pub all_symbols : (items : List Item) → Trees items → List Symbol
all_symbols [] x = []
all_symbols (i ∷ items) x = item_symbols i x.0 (all_symbols items x.1)

abbrev pub all_code : (items : List Item) → Trees items → List Op
all_code [] x = []
all_code (i ∷ items) x = item_code i x.0 (all_code items x.1)

-- trees with these tokens and this code
pub record HasTrees (items : List Item) (ss : List Symbol) (code : List Op) : Type 0 where
  pub trees : Trees items
  pub symbols : ss ≡ all_symbols items trees
  pub steps : code ≡ all_code items trees

-- ---- An item that is left out has a tree without tokens

abbrev pub none_of : (i : Item) → MayEnd i → TreeOf i
none_of MaybeConstants may = no_constants
none_of MoreConstants may = no_constant
none_of MaybeConstant may = nothing_more
none_of MaybeSign may = no_sign
none_of MaybeFunctions may = no_function
none_of MaybeSemicolon may = no_semicolon
none_of MoreVariables may = no_variable
none_of MaybeVariable may = nothing_more
none_of MaybeDomain may = no_domain
none_of MoreConstraints may = no_constraint
none_of MaybeConstraint may = nothing_more
none_of MoreFactors may = no_factor
none_of MoreTerms may = no_term
none_of MaybePower may = no_power
none_of (Then op) may = tt
none_of i may = absurd may

pub none_symbols : (i : Item) (rest : List Item) (may : MayEnd i) (x : Trees rest) → all_symbols (i ∷ rest) (none_of i may, x) ≡ all_symbols rest x
none_symbols (Then op) rest may x = refl
none_symbols i rest may x = search

pub none_code : (i : Item) (rest : List Item) (may : MayEnd i) (x : Trees rest) → all_code (i ∷ rest) (none_of i may, x) ≡ step_of i ++ all_code rest x
none_code (Then op) rest may x = refl
none_code i rest may x = search

-- ---- A token, and trees of what must follow it

-- trees of what is to come behind a token; none where the item does not begin with it
abbrev pub TreesBehind : Option Produced → List Item → Type 0
TreesBehind None rest = ⊥
TreesBehind (Some p) rest = Trees (p.0 ++ rest)

abbrev pub symbols_behind : (o : Option Produced) (rest : List Item) → TreesBehind o rest → List Symbol
symbols_behind None rest x = []
symbols_behind (Some p) rest x = all_symbols (p.0 ++ rest) x

abbrev pub code_behind : (o : Option Produced) (rest : List Item) → TreesBehind o rest → List Op
code_behind None rest x = []
code_behind (Some p) rest x = p.1 ++ all_code (p.0 ++ rest) x

-- they become trees of the item, behind that token
abbrev pub Builds : Item → Symbol → List Item → Option Produced → Type 0
Builds i s rest o = (x : TreesBehind o rest) → HasTrees (i ∷ rest) (s ∷ symbols_behind o rest x) (code_behind o rest x)

abbrev pub no_further : (more : Arguments) → count more ≡ 0 → no_argument ≡ more
no_further no_argument e = refl
no_further (argument a more) e = absurd (omega (arith, e))

-- the call of a function word or of a declared function, with its tokens and code
pub record Called (op : Op) (arity : ℕ) (e : Expression) (more : Arguments) : Type 0 where
  pub primary : Primary
  pub symbols : (k : List Symbol) → FunctionName op arity ∷ FixedToken Open ∷ expression_symbols e (arguments_symbols more k) ≡ primary_symbols primary k
  pub steps : (k : List Op) → expression_code e (arguments_code more (op ∷ k)) ≡ primary_code primary k

abbrev pub called : (op : Op) (arity : ℕ) (e : Expression) (more : Arguments) → IsCalled op arity → count more ≡ arity - 1 → Called op arity e more
called (One Abs) (suc zero) e no_argument h many = record { primary = absolute_of e; symbols = λ k. refl; steps = λ k. refl }
called (One (Pow (suc (suc zero)))) (suc zero) e no_argument h many = record { primary = square_of e; symbols = λ k. refl; steps = λ k. refl }
called (Two Min) (suc (suc zero)) e (argument b no_argument) h many = record { primary = least_of e b; symbols = λ k. refl; steps = λ k. refl }
called (Two Max) (suc (suc zero)) e (argument b no_argument) h many = record { primary = greatest_of e b; symbols = λ k. refl; steps = λ k. refl }
called (Call f n) (suc m) e more h many =
    let same : suc m ≡ suc (count more) = omega (arith, many) in
    let takes : n ≡ suc (count more) = h ∙ same in
    record {
      primary = call f e more;
      symbols = λ k i. FunctionName (Call f (takes i)) (same i) ∷ FixedToken Open ∷ expression_symbols e (arguments_symbols more k);
      steps = λ k i. expression_code e (arguments_code more (Call f (takes i) ∷ k));
    }
called (One Abs) (suc zero) e (argument b more) h many = absurd (omega (arith, many))
called (One (Pow (suc (suc zero)))) (suc zero) e (argument b more) h many = absurd (omega (arith, many))
called (Two Min) (suc (suc zero)) e no_argument h many = absurd (omega (arith, many))
called (Two Min) (suc (suc zero)) e (argument b (argument c more)) h many = absurd (omega (arith, many))
called (Two Max) (suc (suc zero)) e no_argument h many = absurd (omega (arith, many))
called (Two Max) (suc (suc zero)) e (argument b (argument c more)) h many = absurd (omega (arith, many))
called op arity e more h many = absurd h

abbrev pub factor_builds : (s : Symbol) (rest : List Item) → IsKnown s → Builds WantFactor s rest (factor s)
factor_builds (FixedToken Plus) rest h = λ x. record { trees = (positive x.0, x.1); symbols = refl; steps = refl }
factor_builds (FixedToken Minus) rest h = λ x. record { trees = (negative x.0, x.1.1); symbols = refl; steps = refl }
factor_builds (FixedToken Open) rest h = λ x.
    let e : Expression = sum_of (product_of x.0 x.1.0) x.1.1.0 in
    let none = no_further x.1.1.1.0.0 x.1.1.1.0.1 in
    record {
      trees = (raised (parentheses e) x.1.1.1.1.0, x.1.1.1.1.1);
      symbols = ap (λ (z : Arguments). FixedToken Open ∷ expression_symbols e (arguments_symbols z (power_symbols x.1.1.1.1.0 (all_symbols rest x.1.1.1.1.1)))) (sym none);
      steps = ap (λ (z : Arguments). expression_code e (arguments_code z (power_code x.1.1.1.1.0 (all_code rest x.1.1.1.1.1)))) (sym none);
    }
factor_builds (Number value exponent) rest h = λ x. record { trees = (raised (number value exponent) x.0, x.1); symbols = refl; steps = refl }
factor_builds (ConstantName value) rest h = λ x. record { trees = (raised (constant_named value) x.0, x.1); symbols = refl; steps = refl }
factor_builds (VariableName i) rest h = λ x. record { trees = (raised (variable_at i) x.0, x.1); symbols = refl; steps = refl }
factor_builds (ParameterName i) rest h = λ x. record { trees = (raised (parameter_at i) x.0, x.1); symbols = refl; steps = refl }
factor_builds (FunctionName op arity) rest h = λ x.
    let y = x.1.1.1.1.1.1 in
    let c = called op arity (sum_of (product_of x.1.0 x.1.1.0) x.1.1.1.0) x.1.1.1.1.0.0 h x.1.1.1.1.0.1 in
    record {
      trees = (raised c.primary y.0, y.1);
      symbols = c.symbols (power_symbols y.0 (all_symbols rest y.1));
      steps = c.steps (power_code y.0 (all_code rest y.1));
    }
factor_builds Unknown rest h = absurd h
factor_builds s rest h = absurd

abbrev pub alone_builds : (f : Fixed) (rest : List Item) (x : Trees rest) → HasTrees (Exactly f ∷ rest) (FixedToken f ∷ all_symbols rest x) (all_code rest x)
alone_builds f rest = λ x. record { trees = (tt, x); symbols = refl; steps = refl }

-- where nothing is produced, the claim is the premise: one term serves all pairs
abbrev pub BuildsAlone : Fixed → Fixed → List Item → Option Produced → Type 0
BuildsAlone f g rest None = (x : Trees rest) → HasTrees (Exactly f ∷ rest) (FixedToken f ∷ all_symbols rest x) (all_code rest x)
BuildsAlone f g rest (Some p) = Builds (Exactly f) (FixedToken g) rest (Some p)

abbrev pub each_alone : (f g : Fixed) (rest : List Item) → BuildsAlone f g rest (fixed f g)
each_alone EndOfText EndOfText rest = alone_builds EndOfText rest
each_alone f EndOfText rest = alone_builds f rest
each_alone f g rest = alone_builds f rest

abbrev pub of_alone : (f g : Fixed) (rest : List Item) (o : Option Produced) → BuildsAlone f g rest o → Builds (Exactly f) (FixedToken g) rest o
of_alone f g rest None h = absurd
of_alone f g rest (Some p) h = h

abbrev pub exactly_builds : (f : Fixed) (s : Symbol) (rest : List Item) → Builds (Exactly f) s rest (exactly f s)
exactly_builds f (FixedToken g) rest = of_alone f g rest (fixed f g) (each_alone f g rest)
exactly_builds f s rest = absurd

-- a further constraint begins as an expression does
abbrev pub further : List Item
further = MoreFactors ∷ MoreTerms ∷ WantRelation ∷ MoreConstraints ∷ []

abbrev pub as_further : (rest : List Item) → Trees (WantFactor ∷ (further ++ rest)) → Trees (MaybeConstraint ∷ rest)
as_further rest x = (one_more (relates (sum_of (product_of x.0 x.1.0) x.1.1.0) x.1.1.1.0.0 x.1.1.1.0.1, x.1.1.1.1.0), x.1.1.1.1.1)

abbrev pub of_further : (rest : List Item) (ss : List Symbol) (code : List Op) → HasTrees (WantFactor ∷ (further ++ rest)) ss code → HasTrees (MaybeConstraint ∷ rest) ss code
of_further rest ss code h = record { trees = as_further rest h.trees; symbols = h.symbols; steps = h.steps }

abbrev pub constraint_builds : (s : Symbol) (rest : List Item) → IsKnown s → Builds MaybeConstraint s rest (with_more further (factor s))
constraint_builds (FixedToken Plus) rest h = λ x. of_further rest _ _ (factor_builds (FixedToken Plus) (further ++ rest) h x)
constraint_builds s rest h = λ x. of_further rest _ _ (factor_builds s (further ++ rest) h x)

abbrev pub semicolon_then : (rest : List Item) (o : Perhaps (Constraint × Constraints)) (x : Trees rest) →
    HasTrees (MoreConstraints ∷ rest) (FixedToken SemicolonToken ∷ item_symbols MaybeConstraint o (all_symbols rest x)) (item_code MaybeConstraint o (all_code rest x))
semicolon_then rest nothing_more x = record { trees = (constraints_semicolon, x); symbols = refl; steps = refl }
semicolon_then rest (one_more c) x = record { trees = (constraint_and c.0 c.1, x); symbols = refl; steps = refl }

abbrev pub separator_then_constant : (s : Separator) (rest : List Item) (o : Perhaps (Constant × Constants)) (x : Trees rest) →
    HasTrees (MoreConstants ∷ rest) (separator_symbol s ∷ item_symbols MaybeConstant o (all_symbols rest x)) (all_code rest x)
separator_then_constant s rest nothing_more x = record { trees = (constants_separator s, x); symbols = refl; steps = refl }
separator_then_constant s rest (one_more c) x = record { trees = (constant_and s c.0 c.1, x); symbols = refl; steps = refl }

abbrev pub separator_then_variable : (s : Separator) (rest : List Item) (o : Perhaps (Variable × Variables)) (x : Trees rest) →
    HasTrees (MoreVariables ∷ rest) (separator_symbol s ∷ item_symbols MaybeVariable o (all_symbols rest x)) (all_code rest x)
separator_then_variable s rest nothing_more x = record { trees = (variables_separator s, x); symbols = refl; steps = refl }
separator_then_variable s rest (one_more v) x = record { trees = (variable_and s v.0 v.1, x); symbols = refl; steps = refl }

abbrev pub builds : (i : Item) (s : Symbol) (rest : List Item) → IsKnown s → Builds i s rest (produced i s)
builds (Exactly f) s rest h = exactly_builds f s rest
builds MaybeSemicolon (FixedToken SemicolonToken) rest h = λ x. record { trees = (one_semicolon, x); symbols = refl; steps = refl }
builds WantFactor s rest h = factor_builds s rest h
builds MoreFactors (FixedToken Star) rest h = λ x. record { trees = (times x.0 x.1.1.0, x.1.1.1); symbols = refl; steps = refl }
builds MoreFactors (FixedToken Slash) rest h = λ x. record { trees = (over x.0 x.1.1.0, x.1.1.1); symbols = refl; steps = refl }
builds MoreTerms (FixedToken Plus) rest h = λ x. record { trees = (plus (product_of x.0 x.1.0) x.1.1.1.0, x.1.1.1.1); symbols = refl; steps = refl }
builds MoreTerms (FixedToken Minus) rest h = λ x. record { trees = (minus (product_of x.0 x.1.0) x.1.1.1.0, x.1.1.1.1); symbols = refl; steps = refl }
builds MaybePower (FixedToken Caret) rest h = λ x. record { trees = (to_power x.0.0 x.0.1, x.1); symbols = refl; steps = refl }
builds WantExponent (Number value (Some n)) rest h = λ x. record { trees = ((value, n), x); symbols = refl; steps = refl }
builds (MoreArguments zero) (FixedToken Close) rest h = λ x. record { trees = ((no_argument, refl), x); symbols = refl; steps = refl }
builds (MoreArguments (suc n)) (FixedToken Comma) rest h = λ x.
    (let is : suc (count x.1.1.1.0.0) ≡ suc n = ap (λ (k : ℕ). suc k) x.1.1.1.0.1 in
    record { trees = ((argument (sum_of (product_of x.0 x.1.0) x.1.1.0) x.1.1.1.0.0, is), x.1.1.1.1); symbols = refl; steps = refl })
builds WantRelation (RelationToken r) rest h = λ x. record { trees = ((r, sum_of (product_of x.0 x.1.0) x.1.1.0), x.1.1.1.1); symbols = refl; steps = refl }
builds MaybeConstraint s rest h = constraint_builds s rest h
builds MoreConstraints (FixedToken SemicolonToken) rest h = λ x. semicolon_then rest x.0 x.1
builds MaybeFunctions (FixedToken FunctionWord) rest h = λ x.
    let y = x.1.1.1.1.1 in
    record {
      trees = (function_and (function_of x.1.1.1.0 (sum_of (product_of y.0 y.1.0) y.1.1.0) y.1.1.1.1.0 y.1.1.1.1.1.1.0) y.1.1.1.1.1.1.1.0, y.1.1.1.1.1.1.1.1);
      symbols = refl;
      steps = refl;
    }
builds WantFunctionName (Declared false) rest h = λ x. record { trees = (tt, x); symbols = refl; steps = refl }
builds WantParameter (Declared false) rest h = λ x. record { trees = (tt, x); symbols = refl; steps = refl }
builds MoreParameters (FixedToken Comma) rest h = λ x. record { trees = (parameter_and x.1.0, x.1.1); symbols = refl; steps = refl }
builds MoreParameters (FixedToken Close) rest h = λ x. record { trees = (no_parameter, x); symbols = refl; steps = refl }
builds MaybeConstants (FixedToken ConstantsWord) rest h = λ x. record { trees = (constants x.0 x.1.0, x.1.1); symbols = refl; steps = refl }
builds WantConstant (Declared false) rest h = λ x. record { trees = (constant_of x.1.0 x.1.1.0.0 x.1.1.0.1, x.1.1.1); symbols = refl; steps = refl }
builds MoreConstants (FixedToken Comma) rest h = λ x. separator_then_constant comma rest x.0 x.1
builds MoreConstants (FixedToken SemicolonToken) rest h = λ x. separator_then_constant semicolon rest x.0 x.1
builds MaybeConstant (Declared false) rest h = λ x. record { trees = (one_more (constant_of x.1.0 x.1.1.0.0 x.1.1.0.1, x.1.1.1.0), x.1.1.1.1); symbols = refl; steps = refl }
builds WantEquals (RelationToken Eq) rest h = λ x. record { trees = (tt, x); symbols = refl; steps = refl }
builds MaybeSign (FixedToken Plus) rest h = λ x. record { trees = (plus_sign, x); symbols = refl; steps = refl }
builds MaybeSign (FixedToken Minus) rest h = λ x. record { trees = (minus_sign, x); symbols = refl; steps = refl }
builds WantValue (Number value exponent) rest h = λ x. record { trees = ((value, exponent), x); symbols = refl; steps = refl }
builds WantVariable (Declared false) rest h = λ x. record { trees = (variable_of x.0, x.1); symbols = refl; steps = refl }
builds MoreVariables (FixedToken Comma) rest h = λ x. separator_then_variable comma rest x.0 x.1
builds MoreVariables (FixedToken SemicolonToken) rest h = λ x. separator_then_variable semicolon rest x.0 x.1
builds MaybeVariable (Declared false) rest h = λ x. record { trees = (one_more (variable_of x.0, x.1.0), x.1.1); symbols = refl; steps = refl }
builds MaybeDomain (FixedToken In) rest h = λ x.
    let y = x.1.1.1 in record { trees = (between (bound_of x.1.0 x.1.1.0) (bound_of y.1.0 y.1.1.0), y.1.1.1.1); symbols = refl; steps = refl }
builds WantBound (Number value exponent) rest h = λ x. record { trees = (number_limit value exponent, x); symbols = refl; steps = refl }
builds WantBound (ConstantName value) rest h = λ x. record { trees = (constant_limit value, x); symbols = refl; steps = refl }
builds WantBound (FixedToken Oo) rest h = λ x. record { trees = (infinite_limit, x); symbols = refl; steps = refl }
builds i (Declared true) rest h = absurd h
builds i Unknown rest h = absurd h
builds i (FixedToken EndOfText) rest h = absurd
builds i s rest h = absurd

-- ---- Texts

leaves_out : (i : Item) (rest : List Item) (ss : List Symbol) (code : List Op) → MayEnd i → HasTrees rest ss code → HasTrees (i ∷ rest) ss (step_of i ++ code)
leaves_out i rest ss code may h = record {
  trees = (none_of i may, h.trees);
  symbols = h.symbols ∙ sym (none_symbols i rest may h.trees);
  steps = ap (λ (z : List Op). step_of i ++ z) h.steps ∙ sym (none_code i rest may h.trees);
}

begins : (i : Item) (s : Symbol) (rest : List Item) (p : Produced) (ss : List Symbol) (code : List Op) → Builds i s rest (Some p) → HasTrees (p.0 ++ rest) ss code → HasTrees (i ∷ rest) (s ∷ ss) (p.1 ++ code)
begins i s rest p ss code b h =
    let whole = b h.trees in
    record {
      trees = whole.trees;
      symbols = ap (λ (z : List Symbol). s ∷ z) h.symbols ∙ whole.symbols;
      steps = ap (λ (z : List Op). p.1 ++ z) h.steps ∙ whole.steps;
    }

derived_trees : (items : List Item) (ss : List Symbol) (code : List Op) → Derives items ss code → AreKnown ss → HasTrees items ss code
derived_trees items ss code (done) h = record { trees = tt; symbols = refl; steps = refl }
derived_trees items ss code (left_out i rest ss' code' may d) h = leaves_out i rest ss' code' may (derived_trees rest ss' code' d h)
derived_trees items ss code (begun i rest s ss' p code' made d) h =
    begins i s rest p ss' code' (subst (λ (o : Option Produced). Builds i s rest o) made (builds i s rest h.0)) (derived_trees (p.0 ++ rest) ss' code' d h.1)

abbrev pub of_trees : Trees system_items → System
of_trees x =
    let y = x.1.1.1.1.1.1.1 in
    system_of x.0 x.1.0 x.1.1.1.0 x.1.1.1.1.0 x.1.1.1.1.1.0 (relates (sum_of (product_of y.0 y.1.0) y.1.1.0) y.1.1.1.0.0 y.1.1.1.0.1) y.1.1.1.1.0

abbrev pub of_parts : Trees expression_items → Expression
of_parts x = sum_of (product_of x.0 x.1.0) x.1.1.0

pub system_tree : (ss : List Symbol) (code : List Op) → Derives system_items ss code → AreKnown ss → IsOfSystem ss code
system_tree ss code d h = let found = derived_trees system_items ss code d h in (of_trees found.trees, found.symbols, found.steps)

pub expression_tree : (ss : List Symbol) (code : List Op) → Derives expression_items ss code → AreKnown ss → IsOfExpression ss code
expression_tree ss code d h = let found = derived_trees expression_items ss code d h in (of_parts found.trees, found.symbols, found.steps)
