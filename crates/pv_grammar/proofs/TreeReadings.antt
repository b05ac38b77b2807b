-- Each tree of an item is left out, or begins with a token; so the tokens of a tree are a text of the items, with the tree's code.
use Rattle.std.proofs.Common.{◌≡◌, ℕ, zero, suc, ◌-◌, List, [], ◌∷◌, ◌++◌, false, Option, Some, None, refl, ap, sym, subst, ◌∙◌, arith}
use Rattle.std.proofs.Props.{props}
use Rattle.pv_expr.specs.declared.constraint.Relation.TheVariants.{Eq}
use Rattle.pv_code.specs.declared.code.Op.{Op}
use Rattle.pv_code.specs.declared.code.Op.TheVariants.{One, Two, Call}
use Rattle.pv_expr.specs.declared.operators.UnaryOp.TheVariants.{Abs, Pow}
use Rattle.pv_expr.specs.declared.operators.BinaryOp.TheVariants.{Min, Max}
use Rattle.pv_grammar.specs.declared.machine.Item.{Item}
use Rattle.pv_grammar.specs.declared.machine.Item.TheVariants.{Exactly, MaybeConstants, WantConstant, MoreConstants, MaybeConstant, WantEquals, MaybeSign, WantValue, MaybeFunctions, WantFunctionName, WantParameter, MoreParameters, MaybeSemicolon, WantVariable, MoreVariables, MaybeVariable, MaybeDomain, WantBound, WantRelation, MoreConstraints, MaybeConstraint, WantFactor, MoreFactors, MoreTerms, MaybePower, WantExponent, MoreArguments, Then}
use Rattle.pv_grammar.specs.declared.symbol.Fixed.TheVariants.{Plus, Minus, Star, Slash, Caret, Open, Close, Comma, Semicolon as SemicolonToken, Constants as ConstantsWord, Function as FunctionWord, In, Oo, EndOfText}
use Rattle.pv_grammar.specs.declared.symbol.Symbol.{Symbol}
use Rattle.pv_grammar.specs.declared.symbol.Symbol.TheVariants.{Fixed as FixedToken, Relation as RelationToken, Number, Declared, Constant as ConstantName, Variable as VariableName, Parameter as ParameterName, Function as FunctionName}
use Rattle.pv_grammar.specs.Grammar.{Derives, MayEnd, Produced, begun, done, expression_items, left_out, produced, system_items}
use Rattle.pv_grammar.specs.Productions.{Arguments, Expression, Factor, Power, Primary, System, absolute_of, argument, between, bound_of, call, comma, constant_and, constant_limit, constant_named, constant_of, constants, constants_separator, constraint_and, constraints_semicolon, count, expression_symbols, function_and, function_of, greatest_of, infinite_limit, least_of, minus, minus_sign, negative, no_argument, no_constant, no_constants, no_constraint, no_domain, no_factor, no_function, no_parameter, no_power, no_semicolon, no_sign, no_term, no_variable, number, number_limit, one_semicolon, over, parameter_and, parameter_at, parentheses, plus, plus_sign, positive, product_of, raised, relates, semicolon, square_of, sum_of, system_of, system_symbols, times, to_power, variable_and, variable_at, variable_of, variables_separator}
use Rattle.pv_grammar.specs.TreeCodes.{AreKnown, IsKnown, IsOfExpression, IsOfSystem, expression_code, system_code}
use Rattle.pv_grammar.proofs.Forward.{nil_cons, tail_is}
use Rattle.pv_grammar.proofs.TreeBuilding.{TreeOf, Trees, TreesBehind, all_code, all_symbols, as_further, builds, code_behind, further, none_code, none_of, none_symbols, nothing_more, one_more, symbols_behind}

-- ---- How a tree begins

-- trees that are built behind a token
abbrev pub Built : (i : Item) (s : Symbol) (rest : List Item) → IsKnown s → Trees (i ∷ rest) → Type 0
Built i s rest h x = (y : TreesBehind (produced i s) rest) × ((builds i s rest h y).trees ≡ x)

pub data Seen (i : Item) (rest : List Item) (x : Trees (i ∷ rest)) : Type 0 where
  seen_out : (may : MayEnd i) → x ≡ (none_of i may, x.1) → Seen i rest x
  seen_in : (s : Symbol) (h : IsKnown s) → Built i s rest h x → Seen i rest x

pub numbers : (a b : ℕ) → IsProp (a ≡ b)
numbers a b = hlevel props

seen_primary : (x : Primary) (w : Power) (rest : List Item) (r : Trees rest) → Seen WantFactor rest (raised x w, r)
seen_primary (number value exponent) w rest r = seen_in (Number value exponent) tt ((w, r), refl)
seen_primary (constant_named value) w rest r = seen_in (ConstantName value) tt ((w, r), refl)
seen_primary (variable_at i) w rest r = seen_in (VariableName i) tt ((w, r), refl)
seen_primary (parameter_at i) w rest r = seen_in (ParameterName i) tt ((w, r), refl)
seen_primary (parentheses (sum_of (product_of x xs) ts)) w rest r = seen_in (FixedToken Open) tt ((x, (xs, (ts, ((no_argument, refl), (w, r))))), refl)
seen_primary (absolute_of (sum_of (product_of x xs) ts)) w rest r = seen_in (FunctionName (One Abs) 1) tt ((tt, (x, (xs, (ts, ((no_argument, refl), (tt, (w, r))))))), refl)
seen_primary (square_of (sum_of (product_of x xs) ts)) w rest r = seen_in (FunctionName (One (Pow 2)) 1) tt ((tt, (x, (xs, (ts, ((no_argument, refl), (tt, (w, r))))))), refl)
seen_primary (least_of (sum_of (product_of x xs) ts) b) w rest r = seen_in (FunctionName (Two Min) 2) tt ((tt, (x, (xs, (ts, ((argument b no_argument, refl), (tt, (w, r))))))), refl)
seen_primary (greatest_of (sum_of (product_of x xs) ts) b) w rest r = seen_in (FunctionName (Two Max) 2) tt ((tt, (x, (xs, (ts, ((argument b no_argument, refl), (tt, (w, r))))))), refl)
seen_primary (call f (sum_of (product_of x xs) ts) more) w rest r =
    let one_less : count more ≡ suc (count more) - 1 = omega arith in
    seen_in (FunctionName (Call f (suc (count more))) (suc (count more))) refl ((tt, (x, (xs, (ts, ((more, one_less), (tt, (w, r))))))), refl)

seen_factor : (x : Factor) (rest : List Item) (r : Trees rest) → Seen WantFactor rest (x, r)
seen_factor (positive x) rest r = seen_in (FixedToken Plus) tt ((x, r), refl)
seen_factor (negative x) rest r = seen_in (FixedToken Minus) tt ((x, (tt, r)), refl)
seen_factor (raised x w) rest r = seen_primary x w rest r

seen_arguments : (n : ℕ) (more : Arguments) (many : count more ≡ n) (rest : List Item) (r : Trees rest) → Seen (MoreArguments n) rest ((more, many), r)
seen_arguments zero no_argument many rest r =
    let same = numbers (count no_argument) zero refl many in seen_in (FixedToken Close) tt (r, λ i. ((no_argument, same i), r))
seen_arguments zero (argument a more) many rest r = absurd (omega (arith, many))
seen_arguments (suc n) no_argument many rest r = absurd (omega (arith, many))
seen_arguments (suc n) (argument (sum_of (product_of x xs) ts) more) many rest r =
    let fewer : count more ≡ n = omega (arith, many) in
    let e : Expression = sum_of (product_of x xs) ts in
    seen_in (FixedToken Comma) tt ((x, (xs, (ts, ((more, fewer), r)))), λ i. ((argument e more, numbers (suc (count more)) (suc n) (ap (λ (k : ℕ). suc k) fewer) many i), r))

-- a further constraint begins as an expression does
as_expression : (s : Symbol) (rest : List Item) (h : IsKnown s) (x : Trees (WantFactor ∷ (further ++ rest))) → Built WantFactor s (further ++ rest) h x → Built MaybeConstraint s rest h (as_further rest x)
as_expression (FixedToken Plus) rest h x b = (b.0, ap (as_further rest) b.1)
as_expression s rest h x b = (b.0, ap (as_further rest) b.1)

seen_further : (rest : List Item) (x : Trees (WantFactor ∷ (further ++ rest))) → Seen WantFactor (further ++ rest) x → Seen MaybeConstraint rest (as_further rest x)
seen_further rest x (seen_out may e) = absurd may
seen_further rest x (seen_in s h b) = seen_in s h (as_expression s rest h x b)

pub seen : (i : Item) (x : TreeOf i) (rest : List Item) (r : Trees rest) → Seen i rest (x, r)
seen (Exactly EndOfText) x rest r = seen_in (FixedToken EndOfText) tt (r, refl)
seen (Exactly f) x rest r = seen_in (FixedToken f) tt (r, refl)
seen MaybeConstants no_constants rest r = seen_out tt refl
seen MaybeConstants (constants c more) rest r = seen_in (FixedToken ConstantsWord) tt ((c, (more, r)), refl)
seen WantConstant (constant_of sign value exponent) rest r = seen_in (Declared false) tt ((tt, (sign, ((value, exponent), r))), refl)
seen MoreConstants no_constant rest r = seen_out tt refl
seen MoreConstants (constants_separator comma) rest r = seen_in (FixedToken Comma) tt ((nothing_more, r), refl)
seen MoreConstants (constants_separator semicolon) rest r = seen_in (FixedToken SemicolonToken) tt ((nothing_more, r), refl)
seen MoreConstants (constant_and comma c more) rest r = seen_in (FixedToken Comma) tt ((one_more (c, more), r), refl)
seen MoreConstants (constant_and semicolon c more) rest r = seen_in (FixedToken SemicolonToken) tt ((one_more (c, more), r), refl)
seen MaybeConstant nothing_more rest r = seen_out tt refl
seen MaybeConstant (one_more (constant_of sign value exponent, more)) rest r = seen_in (Declared false) tt ((tt, (sign, ((value, exponent), (more, r)))), refl)
seen WantEquals x rest r = seen_in (RelationToken Eq) tt (r, refl)
seen MaybeSign no_sign rest r = seen_out tt refl
seen MaybeSign plus_sign rest r = seen_in (FixedToken Plus) tt (r, refl)
seen MaybeSign minus_sign rest r = seen_in (FixedToken Minus) tt (r, refl)
seen WantValue x rest r = seen_in (Number x.0 x.1) tt (r, refl)
seen MaybeFunctions no_function rest r = seen_out tt refl
seen MaybeFunctions (function_and (function_of ps (sum_of (product_of x xs) ts) inner outer) more) rest r =
    seen_in (FixedToken FunctionWord) tt ((tt, (tt, (tt, (ps, (tt, (x, (xs, (ts, (tt, (inner, (tt, (outer, (more, r))))))))))))), refl)
seen WantFunctionName x rest r = seen_in (Declared false) tt (r, refl)
seen WantParameter x rest r = seen_in (Declared false) tt (r, refl)
seen MoreParameters no_parameter rest r = seen_in (FixedToken Close) tt (r, refl)
seen MoreParameters (parameter_and more) rest r = seen_in (FixedToken Comma) tt ((tt, (more, r)), refl)
seen MaybeSemicolon no_semicolon rest r = seen_out tt refl
seen MaybeSemicolon one_semicolon rest r = seen_in (FixedToken SemicolonToken) tt (r, refl)
seen WantVariable (variable_of d) rest r = seen_in (Declared false) tt ((d, r), refl)
seen MoreVariables no_variable rest r = seen_out tt refl
seen MoreVariables (variables_separator comma) rest r = seen_in (FixedToken Comma) tt ((nothing_more, r), refl)
seen MoreVariables (variables_separator semicolon) rest r = seen_in (FixedToken SemicolonToken) tt ((nothing_more, r), refl)
seen MoreVariables (variable_and comma v more) rest r = seen_in (FixedToken Comma) tt ((one_more (v, more), r), refl)
seen MoreVariables (variable_and semicolon v more) rest r = seen_in (FixedToken SemicolonToken) tt ((one_more (v, more), r), refl)
seen MaybeVariable nothing_more rest r = seen_out tt refl
seen MaybeVariable (one_more (variable_of d, more)) rest r = seen_in (Declared false) tt ((d, (more, r)), refl)
seen MaybeDomain no_domain rest r = seen_out tt refl
seen MaybeDomain (between (bound_of low lo) (bound_of high hi)) rest r = seen_in (FixedToken In) tt ((tt, (low, (lo, (tt, (high, (hi, (tt, r))))))), refl)
seen WantBound (number_limit value exponent) rest r = seen_in (Number value exponent) tt (r, refl)
seen WantBound infinite_limit rest r = seen_in (FixedToken Oo) tt (r, refl)
seen WantBound (constant_limit value) rest r = seen_in (ConstantName value) tt (r, refl)
seen WantRelation (relation, sum_of (product_of x xs) ts) rest r = seen_in (RelationToken relation) tt ((x, (xs, (ts, (tt, r)))), refl)
seen MoreConstraints no_constraint rest r = seen_out tt refl
seen MoreConstraints constraints_semicolon rest r = seen_in (FixedToken SemicolonToken) tt ((nothing_more, r), refl)
seen MoreConstraints (constraint_and c more) rest r = seen_in (FixedToken SemicolonToken) tt ((one_more (c, more), r), refl)
seen MaybeConstraint nothing_more rest r = seen_out tt refl
seen MaybeConstraint (one_more (relates (sum_of (product_of x xs) ts) relation right, more)) rest r =
    seen_further rest (x, (xs, (ts, ((relation, right), (more, r))))) (seen_factor x (further ++ rest) (xs, (ts, ((relation, right), (more, r)))))
seen WantFactor x rest r = seen_factor x rest r
seen MoreFactors no_factor rest r = seen_out tt refl
seen MoreFactors (times x xs) rest r = seen_in (FixedToken Star) tt ((x, (tt, (xs, r))), refl)
seen MoreFactors (over x xs) rest r = seen_in (FixedToken Slash) tt ((x, (tt, (xs, r))), refl)
seen MoreTerms no_term rest r = seen_out tt refl
seen MoreTerms (plus (product_of x xs) ts) rest r = seen_in (FixedToken Plus) tt ((x, (xs, (tt, (ts, r)))), refl)
seen MoreTerms (minus (product_of x xs) ts) rest r = seen_in (FixedToken Minus) tt ((x, (xs, (tt, (ts, r)))), refl)
seen MaybePower no_power rest r = seen_out tt refl
seen MaybePower (to_power value n) rest r = seen_in (FixedToken Caret) tt (((value, n), r), refl)
seen WantExponent x rest r = seen_in (Number x.0 (Some x.1)) tt (r, refl)
seen (MoreArguments n) x rest r = seen_arguments n x.0 x.1 rest r
seen (Then op) x rest r = seen_out tt refl

-- ---- The tokens of trees are a text of the items

pub record Reads (items : List Item) (ss : List Symbol) (code : List Op) : Type 0 where
  pub derived : Derives items ss code
  pub known : AreKnown ss

-- trees with these tokens
abbrev AreRead : List Symbol → Type 0
AreRead ss = (items : List Item) (x : Trees items) → ss ≡ all_symbols items x → Reads items ss (all_code items x)

read_out : (i : Item) (rest : List Item) (ss : List Symbol) (x : Trees (i ∷ rest)) (may : MayEnd i) → x ≡ (none_of i may, x.1) → Reads rest ss (all_code rest x.1) → Reads (i ∷ rest) ss (all_code (i ∷ rest) x)
read_out i rest ss x may is r =
    subst (λ (z : List Op). Reads (i ∷ rest) ss z) (sym (ap (all_code (i ∷ rest)) is ∙ none_code i rest may x.1))
    (record { derived = left_out i rest ss (all_code rest x.1) may r.derived; known = r.known })

read_behind : (i : Item) (rest : List Item) (s : Symbol) (o : Option Produced) (y : TreesBehind o rest) → produced i s ≡ o → IsKnown s →
    ((items : List Item) (x : Trees items) → symbols_behind o rest y ≡ all_symbols items x → Reads items (symbols_behind o rest y) (all_code items x)) → Reads (i ∷ rest) (s ∷ symbols_behind o rest y) (code_behind o rest y)
read_behind i rest s None y made h next = absurd y
read_behind i rest s (Some p) y made h next =
    let r = next (p.0 ++ rest) y refl in record { derived = begun i rest s _ p (all_code (p.0 ++ rest) y) made r.derived; known = (h, r.known) }

read_in : (i : Item) (rest : List Item) (s t : Symbol) (ss : List Symbol) (x : Trees (i ∷ rest)) (h : IsKnown s) → Built i s rest h x → t ∷ ss ≡ all_symbols (i ∷ rest) x → AreRead ss →
    Reads (i ∷ rest) (t ∷ ss) (all_code (i ∷ rest) x)
read_in i rest s t ss x h (y, is) e next =
    let whole : t ∷ ss ≡ s ∷ symbols_behind (produced i s) rest y = e ∙ ap (all_symbols (i ∷ rest)) (sym is) ∙ sym (builds i s rest h y).symbols in
    subst (λ (z : List Symbol). Reads (i ∷ rest) z (all_code (i ∷ rest) x)) (sym whole)
    (subst (λ (z : List Op). Reads (i ∷ rest) (s ∷ symbols_behind (produced i s) rest y) z) ((builds i s rest h y).steps ∙ ap (all_code (i ∷ rest)) is)
    (read_behind i rest s (produced i s) y refl h (subst AreRead (tail_is whole) next)))

begins_nothing : (i : Item) (s : Symbol) (rest : List Item) (h : IsKnown s) (x : Trees (i ∷ rest)) → Built i s rest h x → [] ≡ all_symbols (i ∷ rest) x → ⊥
begins_nothing i s rest h x (y, is) e = nil_cons (e ∙ ap (all_symbols (i ∷ rest)) (sym is) ∙ sym (builds i s rest h y).symbols)

-- where trees that begin with a token are read, all are
read_items : (ss : List Symbol) →
    ((i : Item) (rest : List Item) (s : Symbol) (h : IsKnown s) (x : Trees (i ∷ rest)) → Built i s rest h x → ss ≡ all_symbols (i ∷ rest) x → Reads (i ∷ rest) ss (all_code (i ∷ rest) x)) →
    AreRead ss
read_items ss begins [] x e = subst (λ (z : List Symbol). Reads [] z []) (sym e) (record { derived = done; known = tt })
read_items ss begins (i ∷ rest) x e =
    elim (seen i x.0 rest x.1) [
      | seen_out may is ↦ read_out i rest ss x may is (read_items ss begins rest x.1 (e ∙ ap (all_symbols (i ∷ rest)) is ∙ none_symbols i rest may x.1))
      | seen_in s h built ↦ begins i rest s h x built e
    ]

pub reads : (ss : List Symbol) → AreRead ss
reads [] = read_items [] (λ i rest s h x built e. absurd (begins_nothing i s rest h x built e))
reads (t ∷ ss) = read_items (t ∷ ss) (λ i rest s h x built e. read_in i rest s t ss x h built e (reads ss))

-- ---- Systems and expressions

abbrev pub trees_of : System → Trees system_items
trees_of (system_of block before v vs behind (relates (sum_of (product_of x xs) ts) r e) cs) = (block, (before, (tt, (v, (vs, (behind, (tt, (x, (xs, (ts, ((r, e), (cs, (tt, tt)))))))))))))

pub system_tokens : (x : System) → system_symbols x [] ≡ all_symbols system_items (trees_of x)
system_tokens (system_of block before v vs behind (relates (sum_of (product_of x xs) ts) r e) cs) = refl

abbrev pub parts_of : Expression → Trees expression_items
parts_of (sum_of (product_of x xs) ts) = (x, (xs, (ts, tt)))

pub expression_tokens : (e : Expression) → expression_symbols e [] ≡ all_symbols expression_items (parts_of e)
expression_tokens (sum_of (product_of x xs) ts) = refl

pub system_reads : (x : System) → Reads system_items (system_symbols x []) (system_code x [])
system_reads (system_of block before v vs behind (relates (sum_of (product_of x xs) ts) r e) cs) =
    reads _ system_items (trees_of (system_of block before v vs behind (relates (sum_of (product_of x xs) ts) r e) cs)) refl

pub expression_is_read : (e : Expression) → Reads expression_items (expression_symbols e []) (expression_code e [])
expression_is_read (sum_of (product_of x xs) ts) = reads _ expression_items (parts_of (sum_of (product_of x xs) ts)) refl

-- the same of tokens and a code that are known to be a tree's
text_of : (items : List Item) (ss : List Symbol) (code : List Op) (ss' : List Symbol) (code' : List Op) → Reads items ss' code' → ss ≡ ss' → code ≡ code' → Derives items ss code × AreKnown ss
text_of items ss code ss' code' r e f =
    (subst (λ (z : List Symbol). Derives items z code) (sym e) (subst (λ (z : List Op). Derives items ss' z) (sym f) r.derived), subst AreKnown (sym e) r.known)

pub system_text : (ss : List Symbol) (code : List Op) → IsOfSystem ss code → Derives system_items ss code × AreKnown ss
system_text ss code (x, e, f) = text_of system_items ss code _ _ (system_reads x) e f

pub expression_text : (ss : List Symbol) (code : List Op) → IsOfExpression ss code → Derives expression_items ss code × AreKnown ss
expression_text ss code (d, e, f) = text_of expression_items ss code _ _ (expression_is_read d) e f
