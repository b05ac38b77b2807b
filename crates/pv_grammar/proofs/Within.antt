-- The limits of a system's tree are those that are counted token by token.
use Rattle.std.proofs.Common.{◌≡◌, ℕ, ◌+◌, ◌<◌, ◌≤◌, max, nat_lt, Bool, true, false, List, [], ◌∷◌, refl, sym, ap, ◌∙◌, subst, arith, if◌then◌else◌, Ok, Err}
use Rattle.pv_grammar.specs.declared.cause.Cause.{Cause}
use Rattle.pv_grammar.specs.declared.cause.Cause.TheVariants.{TooManyVariables, TooManyConstraints, TooManyFunctions, Unexpected}
use Rattle.pv_grammar.specs.declared.counts.Counts.{Counts}
use Rattle.pv_grammar.specs.declared.counts.Phase.{Phase}
use Rattle.pv_grammar.specs.declared.counts.Phase.TheVariants.{Between, Constants as ConstantsPhase, FunctionName as NamePhase, Parameters as ParametersPhase, Body, Variables as VariablesPhase, Bounds, NextConstraint, Sides}
use Rattle.pv_grammar.specs.declared.symbol.Fixed.TheVariants.{CloseBracket, Comma, Minus, Plus, Semicolon as SemicolonToken, Variables as VariablesWord, Constraints as ConstraintsWord, Function as FunctionWord, Return, End}
use Rattle.pv_grammar.specs.declared.symbol.Symbol.{Symbol}
use Rattle.pv_grammar.specs.declared.symbol.Symbol.TheVariants.{Fixed as FixedToken, Relation as RelationToken, Number}
use Rattle.pv_grammar.specs.Counting.{AreCounted, Counting, counted, in_phase, next, nothing, where_below, with_parameters, with_variables, within}
use Rattle.pv_grammar.specs.Limits.{AreConstraintsWithin, AreFunctionsWithin, IsConstraintWithin, IsExpressionWithin, IsFunctionWithin, IsLimitedExpression, IsLimitedSystem, IsSystemWithin, constraints_count, expression_depth, expression_operations, functions_count, parameters_count, variables_count}
use Rattle.pv_grammar.specs.Productions.{Bound, Constant, ConstantBlock, Constants, Constraint, Constraints, Domain, Expression, Factor, Function, Functions, IsExpression, IsSystem, Limit, Parameters, Primary, Semicolon, Separator, Sign, System, Variable, Variables, between, bound_of, bound_symbols, comma, constant_and, constant_block_symbols, constant_limit, constant_of, constant_symbols, constants, constants_separator, constants_symbols, constraint_and, constraint_symbols, constraints_semicolon, constraints_symbols, domain_symbols, expression_symbols, factor_symbols, factors_symbols, function_and, function_of, function_symbols, functions_symbols, infinite_limit, limit_symbol, minus_sign, no_constant, no_constants, no_constraint, no_domain, no_function, no_parameter, no_semicolon, no_sign, no_variable, number_limit, one_semicolon, parameter_and, parameters_symbols, parentheses, plus_sign, power_symbols, primary_symbols, product_of, raised, relates, semicolon, semicolon_symbols, separator_symbol, sign_symbols, sum_of, system_of, system_symbols, terms_symbols, variable_and, variable_of, variable_symbols, variables_separator, variables_symbols}
use Rattle.pv_grammar.specs.Standings.{begins_expression}
use Rattle.pv_grammar.proofs.Following.{IsCalm}
use Rattle.pv_grammar.proofs.Passing.{Passes, at, behind_quiet, bounded, expression_passes, free, free_then, is_less, join, less_is, inside_begun, means, no_more, pass, stay, whole_passes}
use Rattle.pv_grammar.proofs.Ready.{made}

-- ---- Tokens that are only counted in passing

-- a part without limits, and then another one; and the other way round
after_free : {R : Type 0} {c e f : Counts} {ss k rest : List Symbol} → Passes c ss (Unit {0}) e k → Passes e k R f rest → Passes c ss R f rest
after_free p q = means (λ r. r.1) (λ r. (tt, r)) refl (join p (λ r. q))

before_free : {R : Type 0} {c e f : Counts} {ss k rest : List Symbol} → Passes c ss R e k → Passes e k (Unit {0}) f rest → Passes c ss R f rest
before_free p q = means (λ r. r.0) (λ r. (r, tt)) refl (join p (λ r. q))

sign_passes : (x : Sign) (c : Counts) → counted c (FixedToken Plus) ≡ Ok c → counted c (FixedToken Minus) ≡ Ok c → (k : List Symbol) → Passes c (sign_symbols x k) (Unit {0}) c k
sign_passes no_sign c plus minus k = stay
sign_passes plus_sign c plus minus k = free plus
sign_passes minus_sign c plus minus k = free minus

separator_passes : (x : Separator) (c : Counts) → counted c (FixedToken Comma) ≡ Ok c → counted c (FixedToken SemicolonToken) ≡ Ok c → (k : List Symbol) → Passes c (separator_symbol x ∷ k) (Unit {0}) c k
separator_passes comma c one other k = free one
separator_passes semicolon c one other k = free other

semicolon_passes : (x : Semicolon) (c : Counts) → counted c (FixedToken SemicolonToken) ≡ Ok c → (k : List Symbol) → Passes c (semicolon_symbols x k) (Unit {0}) c k
semicolon_passes no_semicolon c one k = stay
semicolon_passes one_semicolon c one k = free one

constant_passes : (x : Constant) (c : Counts) (k : List Symbol) → Passes (in_phase ConstantsPhase c) (constant_symbols x k) (Unit {0}) (in_phase ConstantsPhase c) k
constant_passes (constant_of sign value exponent) c k = free_then refl (free_then refl (after_free (sign_passes sign (in_phase ConstantsPhase c) refl refl (Number value exponent ∷ k)) (free refl)))

constants_passes : (x : Constants) (c : Counts) (k : List Symbol) → Passes (in_phase ConstantsPhase c) (constants_symbols x k) (Unit {0}) (in_phase ConstantsPhase c) k
constants_passes no_constant c k = stay
constants_passes (constants_separator s) c k = separator_passes s (in_phase ConstantsPhase c) refl refl k
constants_passes (constant_and s x more) c k =
    after_free (separator_passes s (in_phase ConstantsPhase c) refl refl (constant_symbols x (constants_symbols more k)))
    (after_free (constant_passes x c (constants_symbols more k)) (constants_passes more c k))

-- ---- Functions

-- within a list of parameters, so many of them
abbrev listed : Counts → ℕ → Counts
listed c a = in_phase ParametersPhase (with_parameters a c)

parameters_passes : (more : Parameters) (c : Counts) (a : ℕ) (k : List Symbol) →
    Passes (listed c a) (parameters_symbols more k) (a + parameters_count more ≤ max a 12) (listed c (a + parameters_count more)) k
parameters_passes no_parameter c a k = means (λ (r : Unit {0}). omega arith) (λ r. tt) (ap (listed c) (no_more a)) (free refl)
parameters_passes (parameter_and more) c a k =
    means (λ (x, (y, z)). omega (arith, x, z)) (λ r. (omega (arith, r), (omega (arith, r), omega (arith, r)))) (ap (listed c) (omega arith))
    (join (bounded {c = listed c a} {e = listed c a} a 12 Unexpected refl)
    (λ x. join (bounded {c = listed c a} {e = listed c (a + 1)} a 12 Unexpected refl) (λ y. parameters_passes more c (a + 1) k)))

-- where a function may begin
abbrev IsAround : Phase → Type 0
IsAround Between = Unit {0}
IsAround ConstantsPhase = Unit {0}
IsAround VariablesPhase = Unit {0}
IsAround p = ⊥

word_is : (p : Phase) → IsAround p → (o f v n : ℕ) → counted (made p 0 o 0 f v n) (FixedToken FunctionWord) ≡ where_below f 64 TooManyFunctions (made NamePhase 0 o 0 (f + 1) v n)
word_is Between h o f v n = refl
word_is p h o f v n = search

abbrev function_operations : Function → ℕ
function_operations (function_of more body inner outer) = expression_operations body

function_passes : (x : Function) (p : Phase) → IsAround p → (o f v n : ℕ) (k : List Symbol) →
    Passes (made p 0 o 0 f v n) (function_symbols x k) ((f < 64) × IsFunctionWithin x) (made Between 0 (function_operations x) 0 (f + 1) v n) k
function_passes (function_of more body inner outer) p h o f v n k =
    let end : Counts = made Between 0 (expression_operations body) 0 (f + 1) v n in
    let start : Counts = made Body 0 0 (1 + parameters_count more) (f + 1) v n in
    let last : List Symbol = FixedToken End ∷ semicolon_symbols outer k in
    let text : List Symbol = expression_symbols body (semicolon_symbols inner last) in
    means (λ (a, (b, d)). (a, (omega (arith, b), d))) (λ (a, (b, d)). (a, (omega (arith, b), d))) refl
    (join (bounded f 64 TooManyFunctions (word_is p h o f v n))
    (λ r. free_then refl (free_then refl (free_then refl
    (join (parameters_passes more (made ParametersPhase 0 o 1 (f + 1) v n) 1 (FixedToken Return ∷ text))
    (λ r'. free_then refl (before_free (whole_passes body start tt (semicolon_symbols inner last))
    (after_free (semicolon_passes inner (at start 0 (expression_operations body)) refl last) (free_then refl (semicolon_passes outer end refl k))))))))))

-- ---- Variables

limit_passes : (x : Limit) (c : Counts) (k : List Symbol) → Passes (in_phase Bounds c) (limit_symbol x ∷ k) (Unit {0}) (in_phase Bounds c) k
limit_passes (number_limit value exponent) c k = free refl
limit_passes infinite_limit c k = free refl
limit_passes (constant_limit value) c k = free refl

bound_passes : (x : Bound) (c : Counts) (k : List Symbol) → Passes (in_phase Bounds c) (bound_symbols x k) (Unit {0}) (in_phase Bounds c) k
bound_passes (bound_of sign limit) c k = after_free (sign_passes sign (in_phase Bounds c) refl refl (limit_symbol limit ∷ k)) (limit_passes limit c k)

domain_passes : (x : Domain) (c : Counts) (k : List Symbol) → Passes (in_phase VariablesPhase c) (domain_symbols x k) (Unit {0}) (in_phase VariablesPhase c) k
domain_passes no_domain c k = stay
domain_passes (between lo hi) c k =
    let second : List Symbol = bound_symbols hi (FixedToken CloseBracket ∷ k) in
    free_then refl (free_then refl (after_free (bound_passes lo c (FixedToken Comma ∷ second)) (free_then refl (after_free (bound_passes hi c (FixedToken CloseBracket ∷ k)) (free refl)))))

-- within the variables, so many of them
abbrev declaring : Counts → ℕ → Counts
declaring c v = in_phase VariablesPhase (with_variables v c)

variable_passes : (x : Variable) (c : Counts) (v : ℕ) (k : List Symbol) → Passes (declaring c v) (variable_symbols x k) (v < 12) (declaring c (v + 1)) k
variable_passes (variable_of domain) c v k =
    before_free (bounded {c = declaring c v} {e = declaring c (v + 1)} v 12 TooManyVariables refl) (domain_passes domain (with_variables (v + 1) c) k)

variables_passes : (vs : Variables) (c : Counts) (v : ℕ) (k : List Symbol) →
    Passes (declaring c v) (variables_symbols vs k) (v + variables_count vs ≤ max v 12) (declaring c (v + variables_count vs)) k
variables_passes no_variable c v k = means (λ (r : Unit {0}). omega arith) (λ r. tt) (ap (declaring c) (no_more v)) stay
variables_passes (variables_separator s) c v k =
    means (λ (r : Unit {0}). omega arith) (λ r. tt) (ap (declaring c) (no_more v)) (separator_passes s (declaring c v) refl refl k)
variables_passes (variable_and s x more) c v k =
    means (λ (a, b). omega (arith, a, b)) (λ r. (omega (arith, r), omega (arith, r))) (ap (declaring c) (omega arith))
    (after_free (separator_passes s (declaring c v) refl refl (variable_symbols x (variables_symbols more k)))
    (join (variable_passes x c v (variables_symbols more k)) (λ r. variables_passes more c (v + 1) k)))

-- ---- Constraints

-- an expression begins with such a token
abbrev starts : List Symbol → Bool
starts [] = false
starts (s ∷ ss) = begins_expression s

primary_starts : (x : Primary) (k : List Symbol) → starts (primary_symbols x k) ≡ true
primary_starts (parentheses e) k = refl
primary_starts x k = refl

factor_starts : (x : Factor) (k : List Symbol) → starts (factor_symbols x k) ≡ true
factor_starts (raised x exponent) k = primary_starts x (power_symbols exponent k)
factor_starts x k = refl

constraint_starts : (x : Constraint) (k : List Symbol) → starts (constraint_symbols x k) ≡ true
constraint_starts (relates (sum_of (product_of x xs) ts) r right) k = factor_starts x (factors_symbols xs (terms_symbols ts (RelationToken r ∷ expression_symbols right k)))

if_ok : (b : Bool) (r : Counting) (cause : Cause) (m : Counts) → (if b then r else Err cause) ≡ Ok m → (b ≡ true) × (r ≡ Ok m)
if_ok true r cause m h = (refl, h)
if_ok false r cause m h = cc

-- where a constraint may begin, its first token is counted as one more constraint, and then as within it
first_passes : (ss : List Symbol) → starts ss ≡ true → (o a f v k : ℕ) → Passes (made NextConstraint 0 o a f v k) ss (k < 64) (made Sides 0 o a f v (k + 1)) ss
first_passes [] h o a f v k = cc
first_passes (s ∷ rest) h o a f v k =
    let g : Counts → Counting = λ d. within d s in
    let is = ap (λ (b : Bool). next (if b then where_below k 64 TooManyConstraints (made Sides 0 o a f v (k + 1)) else Ok (made NextConstraint 0 o a f v k)) g) h
    ∙ (pass (nat_lt k 64) (made Sides 0 o a f v (k + 1)) _ TooManyConstraints g refl ∙ ap (λ (r : Counting). if nat_lt k 64 then next r g else Err TooManyConstraints) (sym (inside_begun (begins_expression s) Sides (made Sides 0 o a f v (k + 1)) tt))) in
    record {
      forth = λ d (m, one, more). let found = if_ok (nat_lt k 64) _ TooManyConstraints m (sym is ∙ one) in (less_is k 64 found.0, (m, found.1, more));
      back = λ d r (m, one, more).
          (m, is ∙ (ap (λ (t : Bool). if t then counted (made Sides 0 o a f v (k + 1)) s else Err TooManyConstraints) (is_less k 64 r) ∙ one), more);
    }

abbrev constraint_operations : Constraint → ℕ
constraint_operations (relates left r right) = expression_operations left + expression_operations right

sides_passes : (x : Constraint) (f v k : ℕ) (rest : List Symbol) → Passes (made Sides 0 0 0 f v k) (constraint_symbols x rest) (IsConstraintWithin x) (made Sides 0 (constraint_operations x) 0 f v k) rest
sides_passes (relates left r right) f v k rest =
    let c : Counts = made Sides 0 0 0 f v k in
    means (λ ((a, b), (d, e)). (a, omega (arith, d), omega (arith, b, e))) (λ (a, b, d). ((a, omega (arith, d)), (omega (arith, b), omega (arith, d)))) refl
    (join (whole_passes left c tt (RelationToken r ∷ expression_symbols right rest))
    (λ less. behind_quiet c 0 (expression_operations left) (expression_depth right) (expression_operations right) tt (refl, λ d i. refl) (expression_passes right c tt 0 (expression_operations left) rest)))

constraint_passes : (x : Constraint) (f v k : ℕ) (rest : List Symbol) →
    Passes (made NextConstraint 0 0 0 f v k) (constraint_symbols x rest) ((k < 64) × IsConstraintWithin x) (made Sides 0 (constraint_operations x) 0 f v (k + 1)) rest
constraint_passes x f v k rest = join (first_passes (constraint_symbols x rest) (constraint_starts x rest) 0 0 f v k) (λ less. sides_passes x f v (k + 1) rest)

-- ---- To the end of the text

-- the tokens can be counted to the end exactly where there is room
record Ends (c : Counts) (ss : List Symbol) (Room : Type 0) : Type 0 where
  forth : AreCounted c ss → Room
  back : Room → AreCounted c ss

then_ends : {R S : Type 0} {c e : Counts} {ss k : List Symbol} → Passes c ss R e k → Ends e k S → Ends c ss (R × S)
then_ends p q = record {
  forth = λ (d, h). let first = p.forth d h in (first.0, q.forth (d, first.1));
  back = λ (r, t). let more = q.back t in (more.0, p.back more.0 r more.1);
}

ends_as : {R S : Type 0} {c : Counts} {ss : List Symbol} → (R → S) → (S → R) → Ends c ss R → Ends c ss S
ends_as into from e = record { forth = λ h. into (e.forth h); back = λ r. e.back (from r) }

constraints_end : (cs : Constraints) (o f v k : ℕ) → Ends (made Sides 0 o 0 f v k) (constraints_symbols cs (FixedToken End ∷ [])) ((k + constraints_count cs ≤ max k 64) × AreConstraintsWithin cs)
constraints_end no_constraint o f v k = record { forth = λ h. (omega arith, tt); back = λ r. (made Between 0 o 0 f v k, (_, refl, refl)) }
constraints_end constraints_semicolon o f v k = record { forth = λ h. (omega arith, tt); back = λ r. (made Between 0 0 0 f v k, (_, refl, (_, refl, refl))) }
constraints_end (constraint_and x more) o f v k =
    ends_as (λ ((a, b), (d, g)). (omega (arith, a, d), (b, g))) (λ (a, (b, g)). ((omega (arith, a), b), (omega (arith, a), g)))
    (then_ends (free_then refl (constraint_passes x f v k (constraints_symbols more (FixedToken End ∷ [])))) (constraints_end more (constraint_operations x) f v (k + 1)))

-- functions, and what goes on where others could begin
functions_end : {S : Type 0} (fs : Functions) (p : Phase) → IsAround p → (o f v n : ℕ) (k : List Symbol) →
    ((q : Phase) → IsAround q → (o' : ℕ) → Ends (made q 0 o' 0 (f + functions_count fs) v n) k S) →
    Ends (made p 0 o 0 f v n) (functions_symbols fs k) (((f + functions_count fs ≤ max f 64) × AreFunctionsWithin fs) × S)
functions_end {S = S} no_function p h o f v n k next =
    ends_as (λ s. ((omega arith, tt), s)) (λ r. r.1) (subst (λ (z : ℕ). Ends (made p 0 o 0 z v n) k S) (sym (no_more f)) (next p h o))
functions_end {S = S} (function_and x more) p h o f v n k next =
    ends_as (λ ((a, b), ((d, g), s)). ((omega (arith, a, d), (b, g)), s)) (λ ((a, (b, g)), s). ((omega (arith, a), b), ((omega (arith, a), g), s)))
    (then_ends (function_passes x p h o f v n (functions_symbols more k))
    (functions_end more Between tt (function_operations x) (f + 1) v n k (λ q i o'. subst (λ (z : ℕ). Ends (made q 0 o' 0 z v n) k S) (omega arith) (next q i o'))))

block_end : {S : Type 0} (x : ConstantBlock) (k : List Symbol) → ((p : Phase) → IsAround p → Ends (nothing p) k S) → Ends (nothing Between) (constant_block_symbols x k) S
block_end no_constants k next = next Between tt
block_end (constants x more) k next =
    ends_as (λ r. r.1) (λ s. (tt, s))
    (then_ends (free_then refl (after_free (constant_passes x (nothing ConstantsPhase) (constants_symbols more k)) (constants_passes more (nothing ConstantsPhase) k))) (next ConstantsPhase tt))

-- ---- Systems

variables_word : (p : Phase) → IsAround p → (o f v n : ℕ) → counted (made p 0 o 0 f v n) (FixedToken VariablesWord) ≡ Ok (made VariablesPhase 0 o 0 f v n)
variables_word Between h o f v n = refl
variables_word p h o f v n = search

constraints_word : (p : Phase) → IsAround p → (o f v n : ℕ) → counted (made p 0 o 0 f v n) (FixedToken ConstraintsWord) ≡ Ok (made NextConstraint 0 0 0 f v n)
constraints_word Between h o f v n = refl
constraints_word p h o f v n = search

system_ends : (x : System) → Ends (nothing Between) (system_symbols x []) (IsSystemWithin x)
system_ends (system_of block before v vs behind c cs) =
    let text : List Symbol = constraint_symbols c (constraints_symbols cs (FixedToken End ∷ [])) in
    let from_functions : List Symbol = functions_symbols behind (FixedToken ConstraintsWord ∷ text) in
    let from_variables : List Symbol = FixedToken VariablesWord ∷ variable_symbols v (variables_symbols vs from_functions) in
    let f : ℕ = 0 + functions_count before in
    let n : ℕ = 1 + variables_count vs in
    ends_as
    (λ ((a, b), (t, (d, (e, ((g, h), (t', ((i, j), (k, l)))))))). (omega (arith, a, g), b, h, omega (arith, e), omega (arith, k), j, l))
    (λ (g, b, h, e, k, j, l). ((omega (arith, g), b), (tt, (omega arith, (omega (arith, e), ((omega (arith, g), h), (tt, ((omega arith, j), (omega (arith, k), l)))))))))
    (block_end block (functions_symbols before from_variables)
    (λ p h. functions_end before p h 0 0 0 0 from_variables
    (λ q i o. then_ends (free (variables_word q i o f 0 0))
    (then_ends (variable_passes v (made VariablesPhase 0 o 0 f 0 0) 0 (variables_symbols vs from_functions))
    (then_ends (variables_passes vs (made VariablesPhase 0 o 0 f 0 0) 1 from_functions)
    (functions_end behind VariablesPhase tt o f n 0 (FixedToken ConstraintsWord ∷ text)
    (λ q' i' o'. then_ends (free (constraints_word q' i' o' (f + functions_count behind) n 0))
    (then_ends (constraint_passes c (f + functions_count behind) n 0 (constraints_symbols cs (FixedToken End ∷ [])))
    (constraints_end cs (constraint_operations c) (f + functions_count behind) n 1)))))))))

pub system_within : (x : System) → AreCounted (nothing Between) (system_symbols x []) → IsSystemWithin x
system_within x h = (system_ends x).forth h

pub within_system : (x : System) → IsSystemWithin x → AreCounted (nothing Between) (system_symbols x [])
within_system x r = (system_ends x).back r

-- ---- One expression

pub expression_within : (e : Expression) → AreCounted (nothing Sides) (expression_symbols e []) → IsExpressionWithin e
expression_within e (d, h) = ((whole_passes e (nothing Sides) tt []).forth d h).0

pub within_expression : (e : Expression) → IsExpressionWithin e → AreCounted (nothing Sides) (expression_symbols e [])
within_expression e h = (at (nothing Sides) 0 (expression_operations e), (whole_passes e (nothing Sides) tt []).back _ h refl)

-- ---- Texts within the limits

-- texts that are within the limits are those that can be counted
pub record AreLimited (start : Counts) (IsText IsLimited : List Symbol → Type 0) : Type 0 where
  pub limited : (ss : List Symbol) → IsText ss → AreCounted start ss → IsLimited ss
  pub text : (ss : List Symbol) → IsLimited ss → IsText ss
  pub counted : (ss : List Symbol) → IsLimited ss → AreCounted start ss
  pub calm : IsCalm start

pub system_limited : AreLimited (nothing Between) IsSystem IsLimitedSystem
system_limited = record {
  limited = λ ss (x, e) h. (x, e, system_within x (subst (AreCounted (nothing Between)) e h));
  text = λ ss (x, e, within). (x, e);
  counted = λ ss (x, e, within). subst (AreCounted (nothing Between)) (sym e) (within_system x within);
  calm = tt;
}

pub expression_limited : AreLimited (nothing Sides) IsExpression IsLimitedExpression
expression_limited = record {
  limited = λ ss (x, e) h. (x, e, expression_within x (subst (AreCounted (nothing Sides)) e h));
  text = λ ss (x, e, within). (x, e);
  counted = λ ss (x, e, within). subst (AreCounted (nothing Sides)) (sym e) (within_expression x within);
  calm = tt;
}
