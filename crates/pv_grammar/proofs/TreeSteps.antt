-- One recursion over the tokens and the code of a tree: what holds of what follows is led over each token and each step. So each step
-- of the code has the property that the tokens give it.
use Rattle.std.proofs.Common.{ℕ, suc, false, List, [], ◌∷◌, Option, Some, None, rules}
use Rattle.std.specs.Prelude.{All}
use Rattle.std.specs.List.{AllByRecursion}
use Rattle.std.proofs.lemmas.List.Elements.{All-cons, All-nil}
use Rattle.pv_code.specs.declared.code.Op.{Op}
use Rattle.pv_code.specs.declared.code.Op.TheVariants.{Constant as ConstantStep, Variable as VariableStep, Parameter as ParameterStep, One, Two, Call, Define, Relate}
use Rattle.pv_expr.specs.declared.operators.UnaryOp.TheVariants.{Neg, Abs, Pow}
use Rattle.pv_expr.specs.declared.operators.BinaryOp.TheVariants.{Add, Sub, Mul, Div, Min, Max}
use Rattle.pv_code.proofs.Over.{IsStep}
use Rattle.pv_grammar.specs.declared.symbol.Fixed.TheVariants.{Plus, Minus, Star, Slash, Caret, Open, Close, OpenBracket, CloseBracket, Comma, Semicolon as SemicolonToken, Constants as ConstantsWord, Variables as VariablesWord, Constraints as ConstraintsWord, Function as FunctionWord, Return, End, In, Oo}
use Rattle.pv_expr.specs.declared.constraint.Relation.TheVariants.{Eq}
use Rattle.pv_grammar.specs.declared.symbol.Symbol.{Symbol}
use Rattle.pv_grammar.specs.declared.symbol.Symbol.TheVariants.{Fixed as FixedToken, Relation as RelationToken, Number, Declared, Constant as ConstantName, Variable as VariableName, Parameter as ParameterName, Function as FunctionName}
use Rattle.pv_grammar.specs.Productions.{Arguments, Bound, ConstantBlock, Constant, Constants, Constraint, Constraints, Expression, Factor, Factors, Functions, Limit, Parameters, Power, Primary, Semicolon, Separator, Sign, System, Term, Terms, Variable, Variables, absolute_of, argument, arguments_symbols, between, bound_of, bound_symbols, call, comma, constant_and, constant_block_symbols, constant_limit, constant_named, constant_of, constant_symbols, constants, constants_separator, constants_symbols, constraint_and, constraint_symbols, constraints_semicolon, constraints_symbols, count, expression_symbols, factor_symbols, factors_symbols, function_and, function_of, functions_symbols, greatest_of, infinite_limit, least_of, limit_symbol, minus, minus_sign, negative, no_argument, no_constant, no_constants, no_constraint, no_domain, no_factor, no_function, no_parameter, no_power, no_semicolon, no_sign, no_term, no_variable, number, number_limit, one_semicolon, over, parameter_and, parameter_at, parameters_symbols, parentheses, plus, plus_sign, positive, power_symbols, primary_symbols, product_of, raised, relates, semicolon, semicolon_symbols, separator_symbol, sign_symbols, square_of, sum_of, system_of, system_symbols, term_symbols, terms_symbols, times, to_power, variable_and, variable_at, variable_of, variable_symbols, variables_separator, variables_symbols}
use Rattle.pv_grammar.specs.TreeCodes.{arguments_code, constraint_code, constraints_code, expression_code, factor_code, factors_code, functions_code, power_code, primary_code, system_code, term_code, terms_code}

-- ---- What is led over tokens and steps

-- a token that leads neither to variables nor to constraints
abbrev pub IsQuiet : Symbol → Type 0
IsQuiet (FixedToken VariablesWord) = ⊥
IsQuiet (FixedToken OpenBracket) = ⊥
IsQuiet (FixedToken CloseBracket) = ⊥
IsQuiet (FixedToken ConstraintsWord) = ⊥
IsQuiet s = Unit {0}

-- a token of an expression
abbrev pub IsInner : Symbol → Type 0
IsInner (FixedToken Plus) = Unit {0}
IsInner (FixedToken Minus) = Unit {0}
IsInner (FixedToken Star) = Unit {0}
IsInner (FixedToken Slash) = Unit {0}
IsInner (FixedToken Caret) = Unit {0}
IsInner (FixedToken Open) = Unit {0}
IsInner (FixedToken Close) = Unit {0}
IsInner (FixedToken Comma) = Unit {0}
IsInner (FixedToken f) = ⊥
IsInner (RelationToken r) = ⊥
IsInner (Declared taken) = ⊥
IsInner s = Unit {0}

pub inner_quiet : (s : Symbol) → IsInner s → IsQuiet s
inner_quiet s i = search rules

abbrev pub MayRaise : (Op → Type 0) → Option ℕ → Type 0
MayRaise P None = Unit {0}
MayRaise P (Some e) = P (One (Pow e))

-- each step that a token may write has the property
abbrev pub Writes : (Op → Type 0) → Symbol → Type 0
Writes P (Number value exponent) = P (ConstantStep value) × MayRaise P exponent
Writes P (ConstantName value) = P (ConstantStep value)
Writes P (VariableName i) = P (VariableStep i)
Writes P (ParameterName i) = P (ParameterStep i)
Writes P (FunctionName op arity) = P op
Writes P s = Unit {0}

-- a step that no token need write
abbrev pub IsOwn : Op → Type 0
IsOwn (One Neg) = Unit {0}
IsOwn (Two b) = Unit {0}
IsOwn Define = Unit {0}
IsOwn (Relate r) = Unit {0}
IsOwn o = ⊥

abbrev pub Family : Type 1
Family = List Symbol → List Op → Type 0

-- what holds of the tokens and the code that follow, where it goes over a token, of which it may use what its steps are, and over a step
pub record Walks (P : Op → Type 0) (X : Family) : Type 0 where
  pub own : (o : Op) → IsOwn o → P o
  pub token : {ss : List Symbol} {k : List Op} (s : Symbol) → IsInner s → (Writes P s → X ss k) → X (s ∷ ss) k
  pub step : {ss : List Symbol} {k : List Op} (o : Op) → P o → X ss k → X ss (o ∷ k)

pub all_write : (s : Symbol) → Writes (λ o. Unit {0}) s
all_write (Number value None) = (tt, tt)
all_write (Number value (Some e)) = (tt, tt)
all_write s = tt

-- what holds of tokens alone
pub walk_tokens : (Y : List Symbol → Type 0) → ((s : Symbol) (ss : List Symbol) → IsInner s → Y ss → Y (s ∷ ss)) → Walks (λ o. Unit {0}) (λ ss k. Y ss)
walk_tokens Y goes = record { own = λ o h. tt; token = λ s i f. goes s _ i (f (all_write s)); step = λ o p x. x }

-- ---- Expressions

module _ {P : Op → Type 0} {X : Family} (w : Walks P X) where
  pass : {ss : List Symbol} {k : List Op} (s : Symbol) → IsInner s → X ss k → X (s ∷ ss) k
  pass s i x = w.token s i (λ v. x)

  write : {ss : List Symbol} {k : List Op} (o : Op) → IsOwn o → X ss k → X ss (o ∷ k)
  write o i x = w.step o (w.own o i) x

  power_walk : {ss : List Symbol} {k : List Op} (x : Power) → X ss k → X (power_symbols x ss) (power_code x k)
  power_walk no_power x = x
  power_walk (to_power value e) x = pass (FixedToken Caret) tt (w.token (Number value (Some e)) tt (λ v. w.step (One (Pow e)) v.1 x))

  mutual
    sum_walk : {ss : List Symbol} {k : List Op} (e : Expression) → X ss k → X (expression_symbols e ss) (expression_code e k)
    sum_walk (sum_of t ts) x = term_walk t (terms_walk ts x)

    terms_walk : {ss : List Symbol} {k : List Op} (ts : Terms) → X ss k → X (terms_symbols ts ss) (terms_code ts k)
    terms_walk no_term x = x
    terms_walk (plus t ts) x = pass (FixedToken Plus) tt (term_walk t (write (Two Add) tt (terms_walk ts x)))
    terms_walk (minus t ts) x = pass (FixedToken Minus) tt (term_walk t (write (Two Sub) tt (terms_walk ts x)))

    term_walk : {ss : List Symbol} {k : List Op} (t : Term) → X ss k → X (term_symbols t ss) (term_code t k)
    term_walk (product_of f fs) x = factor_walk f (factors_walk fs x)

    factors_walk : {ss : List Symbol} {k : List Op} (fs : Factors) → X ss k → X (factors_symbols fs ss) (factors_code fs k)
    factors_walk no_factor x = x
    factors_walk (times f fs) x = pass (FixedToken Star) tt (factor_walk f (write (Two Mul) tt (factors_walk fs x)))
    factors_walk (over f fs) x = pass (FixedToken Slash) tt (factor_walk f (write (Two Div) tt (factors_walk fs x)))

    factor_walk : {ss : List Symbol} {k : List Op} (f : Factor) → X ss k → X (factor_symbols f ss) (factor_code f k)
    factor_walk (positive f) x = pass (FixedToken Plus) tt (factor_walk f x)
    factor_walk (negative f) x = pass (FixedToken Minus) tt (factor_walk f (write (One Neg) tt x))
    factor_walk (raised p power) x = primary_walk p (power_walk power x)

    primary_walk : {ss : List Symbol} {k : List Op} (p : Primary) → X ss k → X (primary_symbols p ss) (primary_code p k)
    primary_walk (number value e) x = w.token (Number value e) tt (λ v. w.step (ConstantStep value) v.0 x)
    primary_walk (constant_named value) x = w.token (ConstantName value) tt (λ v. w.step (ConstantStep value) v x)
    primary_walk (variable_at i) x = w.token (VariableName i) tt (λ v. w.step (VariableStep i) v x)
    primary_walk (parameter_at i) x = w.token (ParameterName i) tt (λ v. w.step (ParameterStep i) v x)
    primary_walk (parentheses e) x = pass (FixedToken Open) tt (sum_walk e (pass (FixedToken Close) tt x))
    primary_walk (absolute_of e) x = w.token (FunctionName (One Abs) 1) tt (λ v. pass (FixedToken Open) tt (sum_walk e (pass (FixedToken Close) tt (w.step (One Abs) v x))))
    primary_walk (square_of e) x = w.token (FunctionName (One (Pow 2)) 1) tt (λ v. pass (FixedToken Open) tt (sum_walk e (pass (FixedToken Close) tt (w.step (One (Pow 2)) v x))))
    primary_walk (least_of a b) x =
        w.token (FunctionName (Two Min) 2) tt (λ v. pass (FixedToken Open) tt (sum_walk a (pass (FixedToken Comma) tt (sum_walk b (pass (FixedToken Close) tt (w.step (Two Min) v x))))))
    primary_walk (greatest_of a b) x =
        w.token (FunctionName (Two Max) 2) tt (λ v. pass (FixedToken Open) tt (sum_walk a (pass (FixedToken Comma) tt (sum_walk b (pass (FixedToken Close) tt (w.step (Two Max) v x))))))
    primary_walk (call f e more) x =
        w.token (FunctionName (Call f (suc (count more))) (suc (count more))) tt
        (λ v. pass (FixedToken Open) tt (sum_walk e (arguments_walk more (w.step (Call f (suc (count more))) v x))))

    arguments_walk : {ss : List Symbol} {k : List Op} (more : Arguments) → X ss k → X (arguments_symbols more ss) (arguments_code more k)
    arguments_walk no_argument x = pass (FixedToken Close) tt x
    arguments_walk (argument e more) x = pass (FixedToken Comma) tt (sum_walk e (arguments_walk more x))

pub expression_walk : {P : Op → Type 0} {X : Family} {ss : List Symbol} {k : List Op} (w : Walks P X) (e : Expression) → X ss k → X (expression_symbols e ss) (expression_code e k)
expression_walk w e x = sum_walk w e x

-- ---- Other parts of a system

-- a token in front of the word `constraints`
abbrev pub IsFront : Symbol → Type 0
IsFront (FixedToken ConstraintsWord) = ⊥
IsFront s = Unit {0}

quiet_front : (s : Symbol) → IsQuiet s → IsFront s
quiet_front (FixedToken ConstraintsWord) q = q
quiet_front s q = tt

-- what goes over each token of a kind
pub record Fronts (Is : Symbol → Type 0) (X : Family) : Type 0 where
  pub front : {ss : List Symbol} {k : List Op} (s : Symbol) → Is s → X ss k → X (s ∷ ss) k

module _ {X : Family} (f : Fronts IsQuiet X) where
  sign_front : {ss : List Symbol} {k : List Op} (x : Sign) → X ss k → X (sign_symbols x ss) k
  sign_front no_sign x = x
  sign_front plus_sign x = f.front (FixedToken Plus) tt x
  sign_front minus_sign x = f.front (FixedToken Minus) tt x

  semicolon_front : {ss : List Symbol} {k : List Op} (c : Semicolon) → X ss k → X (semicolon_symbols c ss) k
  semicolon_front no_semicolon x = x
  semicolon_front one_semicolon x = f.front (FixedToken SemicolonToken) tt x

  separator_front : {ss : List Symbol} {k : List Op} (s : Separator) → X ss k → X (separator_symbol s ∷ ss) k
  separator_front comma x = f.front (FixedToken Comma) tt x
  separator_front semicolon x = f.front (FixedToken SemicolonToken) tt x

  constant_front : {ss : List Symbol} {k : List Op} (c : Constant) → X ss k → X (constant_symbols c ss) k
  constant_front (constant_of sign value e) x = f.front (Declared false) tt (f.front (RelationToken Eq) tt (sign_front sign (f.front (Number value e) tt x)))

  constants_front : {ss : List Symbol} {k : List Op} (cs : Constants) → X ss k → X (constants_symbols cs ss) k
  constants_front no_constant x = x
  constants_front (constants_separator s) x = separator_front s x
  constants_front (constant_and s c more) x = separator_front s (constant_front c (constants_front more x))

  pub block_front : {ss : List Symbol} {k : List Op} (b : ConstantBlock) → X ss k → X (constant_block_symbols b ss) k
  block_front no_constants x = x
  block_front (constants c more) x = f.front (FixedToken ConstantsWord) tt (constant_front c (constants_front more x))

  parameters_front : {ss : List Symbol} {k : List Op} (ps : Parameters) → X ss k → X (parameters_symbols ps ss) k
  parameters_front no_parameter x = f.front (FixedToken Close) tt x
  parameters_front (parameter_and more) x = f.front (FixedToken Comma) tt (f.front (Declared false) tt (parameters_front more x))

  module _ {P : Op → Type 0} (w : Walks P X) where
    pub functions_front : {ss : List Symbol} {k : List Op} (fs : Functions) → X ss k → X (functions_symbols fs ss) (functions_code fs k)
    functions_front no_function x = x
    functions_front (function_and (function_of more body inner outer) fs) x =
        let behind = semicolon_front inner (f.front (FixedToken End) tt (semicolon_front outer (functions_front fs x))) in
        f.front (FixedToken FunctionWord) tt (f.front (Declared false) tt (f.front (FixedToken Open) tt (f.front (Declared false) tt
        (parameters_front more (f.front (FixedToken Return) tt (expression_walk w body (write w Define tt behind)))))))

    pub constraint_front : {ss : List Symbol} {k : List Op} (c : Constraint) → X ss k → X (constraint_symbols c ss) (constraint_code c k)
    constraint_front (relates left r right) x = expression_walk w left (f.front (RelationToken r) tt (expression_walk w right (write w (Relate r) tt x)))

    pub constraints_front : {ss : List Symbol} {k : List Op} (cs : Constraints) → X ss k → X (constraints_symbols cs ss) (constraints_code cs k)
    constraints_front no_constraint x = x
    constraints_front constraints_semicolon x = f.front (FixedToken SemicolonToken) tt x
    constraints_front (constraint_and c more) x = f.front (FixedToken SemicolonToken) tt (constraint_front c (constraints_front more x))

module _ {X : Family} (f : Fronts IsFront X) where
  quiet : Fronts IsQuiet X
  quiet = record { front = λ s q x. f.front s (quiet_front s q) x }

  limit_front : {ss : List Symbol} {k : List Op} (l : Limit) → X ss k → X (limit_symbol l ∷ ss) k
  limit_front (number_limit value e) x = f.front (Number value e) tt x
  limit_front infinite_limit x = f.front (FixedToken Oo) tt x
  limit_front (constant_limit value) x = f.front (ConstantName value) tt x

  bound_front : {ss : List Symbol} {k : List Op} (b : Bound) → X ss k → X (bound_symbols b ss) k
  bound_front (bound_of sign limit) x = sign_front quiet sign (limit_front limit x)

  variable_front : {ss : List Symbol} {k : List Op} (v : Variable) → X ss k → X (variable_symbols v ss) k
  variable_front (variable_of no_domain) x = f.front (Declared false) tt x
  variable_front (variable_of (between lo hi)) x =
      f.front (Declared false) tt (f.front (FixedToken In) tt (f.front (FixedToken OpenBracket) tt
      (bound_front lo (f.front (FixedToken Comma) tt (bound_front hi (f.front (FixedToken CloseBracket) tt x))))))

  variables_front : {ss : List Symbol} {k : List Op} (vs : Variables) → X ss k → X (variables_symbols vs ss) k
  variables_front no_variable x = x
  variables_front (variables_separator s) x = separator_front quiet s x
  variables_front (variable_and s v more) x = separator_front quiet s (variable_front v (variables_front more x))

-- all of a system up to its constraints
pub system_front : {P : Op → Type 0} {X : Family} (w : Walks P X) (f : Fronts IsFront X) (b : ConstantBlock) (before : Functions) (v : Variable) (vs : Variables) (behind : Functions) (c : Constraint) (cs : Constraints) →
    X (FixedToken ConstraintsWord ∷ constraint_symbols c (constraints_symbols cs (FixedToken End ∷ []))) (constraint_code c (constraints_code cs [])) →
    X (system_symbols (system_of b before v vs behind c cs) []) (system_code (system_of b before v vs behind c cs) [])
system_front w f b before v vs behind c cs x =
    let q = quiet f in
    block_front q b (functions_front q w before (f.front (FixedToken VariablesWord) tt (variable_front f v (variables_front f vs (functions_front q w behind x)))))

-- ---- The steps of a code

-- where each step that the tokens may write is over n variables, the steps are
record Steps (n : ℕ) (ss : List Symbol) (k : List Op) : Type 0 where
  steps : AllByRecursion (Writes (IsStep n)) ss → All (IsStep n) k

own_step : (n : ℕ) (o : Op) → IsOwn o → IsStep n o
own_step n (One Neg) h = tt
own_step n o h = search

module _ (n : ℕ) where
  walk_steps : Walks (IsStep n) (Steps n)
  walk_steps = record {
    own = own_step n;
    token = λ s i f. record { steps = λ a. (f a.0).steps a.1 };
    step = λ o p x. record { steps = λ a. All-cons (IsStep n) o _ p (x.steps a) };
  }

  front_steps : (Is : Symbol → Type 0) → Fronts Is (Steps n)
  front_steps Is = record { front = λ s i x. record { steps = λ a. x.steps a.1 } }

  none_steps : (ss : List Symbol) → Steps n ss []
  none_steps ss = record { steps = λ a. All-nil (IsStep n) }

  pub system_steps : (x : System) → AllByRecursion (Writes (IsStep n)) (system_symbols x []) → All (IsStep n) (system_code x [])
  system_steps (system_of b before v vs behind c cs) a =
      let q = front_steps IsQuiet in
      let sides = constraint_front q walk_steps c (constraints_front q walk_steps cs (none_steps (FixedToken End ∷ []))) in
      (system_front walk_steps (front_steps IsFront) b before v vs behind c cs (record { steps = λ all. sides.steps all.1 })).steps a

  pub expression_steps : (e : Expression) → AllByRecursion (Writes (IsStep n)) (expression_symbols e []) → All (IsStep n) (expression_code e [])
  expression_steps e a = (expression_walk walk_steps e (none_steps [])).steps a
