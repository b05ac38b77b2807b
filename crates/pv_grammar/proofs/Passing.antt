-- The limits of an expression are those that are counted token by token.
use Rattle.std.proofs.Common.{◌≡◌, ℕ, suc, ◌+◌, ◌-◌, ◌<◌, ◌≤◌, max, nat_lt, Bool, true, false, List, ◌∷◌, refl, sym, ap, ◌∙◌, subst, arith, if◌then◌else◌, Ok, Err}
use Rattle.std.proofs.lemmas.Bool.{lt-ltb, ltb-true}
use Rattle.pv_code.specs.declared.code.Op.{Op}
use Rattle.pv_grammar.specs.declared.cause.Cause.{Cause}
use Rattle.pv_grammar.specs.declared.cause.Cause.TheVariants.{TooDeep, Unexpected}
use Rattle.pv_grammar.specs.declared.counts.Counts.{Counts}
use Rattle.pv_grammar.specs.declared.counts.Phase.{Phase}
use Rattle.pv_grammar.specs.declared.counts.Phase.TheVariants.{Body, Sides}
use Rattle.pv_grammar.specs.declared.symbol.Fixed.TheVariants.{Open, Close, Comma}
use Rattle.pv_grammar.specs.declared.symbol.Symbol.{Symbol}
use Rattle.pv_grammar.specs.declared.symbol.Symbol.TheVariants.{Fixed as FixedToken, Function as Call}
use Rattle.pv_grammar.specs.Counting.{Counted, Counting, begins, counted, levels, moved, next, operates, where_below, within}
use Rattle.pv_grammar.specs.Standings.{begins_expression}
use Rattle.pv_grammar.specs.Limits.{IsExpressionWithin, arguments_depth, arguments_operations, expression_depth, expression_operations, factor_depth, factor_operations, factors_depth, factors_operations, power_operations, primary_depth, primary_operations, term_depth, term_operations, terms_depth, terms_operations}
use Rattle.pv_grammar.specs.Productions.{Arguments, Expression, Factor, Factors, Power, Primary, Term, Terms, absolute_of, argument, arguments_symbols, call, constant_named, expression_symbols, factor_symbols, factors_symbols, greatest_of, least_of, minus, negative, no_argument, no_factor, no_power, no_term, number, over, parameter_at, parentheses, plus, positive, power_symbols, primary_symbols, product_of, raised, square_of, sum_of, term_symbols, terms_symbols, times, to_power, variable_at}
use Rattle.pv_grammar.proofs.Ready.{InExpression, comma_in, made}

-- ---- Parts of a text

-- tokens are counted from some counts to others, up to what follows, exactly where there is room
pub record Passes (c : Counts) (ss : List Symbol) (Room : Type 0) (e : Counts) (k : List Symbol) : Type 0 where
  pub forth : (d : Counts) → Counted c ss d → Room × Counted e k d
  pub back : (d : Counts) → Room → Counted e k d → Counted c ss d

pub stay : {c : Counts} {k : List Symbol} → Passes c k (Unit {0}) c k
stay = record { forth = λ d h. (tt, h); back = λ d r h. h }

-- one part and then another
pub join : {R S : Type 0} {c e f : Counts} {ss k rest : List Symbol} → Passes c ss R e k → (R → Passes e k S f rest) → Passes c ss (R × S) f rest
join p q = record {
  forth = λ d h. let first = p.forth d h in let second = (q first.0).forth d first.1 in ((first.0, second.0), second.1);
  back = λ d r h. p.back d r.0 ((q r.0).back d r.1 h);
}

-- the same room in other words
pub means : {R S : Type 0} {c e f : Counts} {ss k : List Symbol} → (R → S) → (S → R) → e ≡ f → Passes c ss R e k → Passes c ss S f k
means {k = k} into from same p = record {
  forth = λ d h. let first = p.forth d h in (into first.0, subst (λ (z : Counts). Counted z k d) same first.1);
  back = λ d r h. p.back d (from r) (subst (λ (z : Counts). Counted z k d) (sym same) h);
}

-- ---- A token

same_ok : (r : Counting) (x y : Counts) → r ≡ Ok x → r ≡ Ok y → x ≡ y
same_ok r x y e f = cc

pub less_is : (n m : ℕ) → nat_lt n m ≡ true → n < m
less_is n m e = ltb-true n m e

pub is_less : (n m : ℕ) → n < m → nat_lt n m ≡ true
is_less n m h = lt-ltb n m h

-- a count goes on with these counts exactly where there is room
record Grants (r : Counting) (Room : Type 0) (e : Counts) : Type 0 where
  forth : (m : Counts) → r ≡ Ok m → Room × (e ≡ m)
  back : Room → r ≡ Ok e

granted : {e : Counts} → Grants (Ok e) (Unit {0}) e
granted {e = e} = record { forth = λ m h. (tt, same_ok (Ok e) e m refl h); back = λ r. refl }

where_less : {R : Type 0} {r : Counting} {e : Counts} (n most : ℕ) (cause : Cause) → Grants r R e → Grants (if nat_lt n most then r else Err cause) ((n < most) × R) e
where_less {R = R} {r = r} {e = e} n most cause g = by_test (nat_lt n most) refl
  where
    by_test : (b : Bool) → nat_lt n most ≡ b → Grants (if b then r else Err cause) ((n < most) × R) e
    by_test true t = record { forth = λ m h. let found = g.forth m h in ((less_is n most t, found.0), found.1); back = λ x. g.back x.1 }
    by_test false t = record { forth = λ m h. cc; back = λ x. let less = is_less n most x.0 in cc }

token : {R : Type 0} {r : Counting} {c e : Counts} {s : Symbol} {k : List Symbol} → counted c s ≡ r → Grants r R e → Passes c (s ∷ k) R e k
token {e = e} {k = k} one g = record {
  forth = λ d (m, first, rest). let found = g.forth m (sym one ∙ first) in (found.0, subst (λ (z : Counts). Counted z k d) (sym found.1) rest);
  back = λ d r h. (e, one ∙ g.back r, h);
}

-- one that no limit forbids, and one that wants room
pub free : {c e : Counts} {s : Symbol} {k : List Symbol} → counted c s ≡ Ok e → Passes c (s ∷ k) (Unit {0}) e k
free one = token one granted

pub bounded : {c e : Counts} {s : Symbol} {k : List Symbol} (n most : ℕ) (cause : Cause) → counted c s ≡ where_below n most cause e → Passes c (s ∷ k) (n < most) e k
bounded n most cause one = means (λ r. r.0) (λ r. (r, tt)) refl (token one (where_less n most cause granted))

pub free_then : {R : Type 0} {c e f : Counts} {s : Symbol} {k rest : List Symbol} → counted c s ≡ Ok e → Passes e k R f rest → Passes c (s ∷ k) R f rest
free_then one p = means (λ r. r.1) (λ r. (tt, r)) refl (join (free one) (λ r. p))

-- ---- A token within an expression

-- these counts, at another level and behind other operations
abbrev pub at : Counts → ℕ → ℕ → Counts
at c l o = made c.phase l o c.parameters c.functions c.variables c.constraints

-- what is asked of a token behind its operation
abbrev leveled : Symbol → Counts → Counting
leveled s e = next (levels s e) (λ g. moved g s)

pub inside_begun : (b : Bool) (p : Phase) (c : Counts) → InExpression p → (if b then begins p c else Ok c) ≡ Ok c
inside_begun false p c i = refl
inside_begun true Body c i = refl
inside_begun true p c i = search

-- within an expression a token counts as an operation, and then opens a level
pub inside_is : (p : Phase) (s : Symbol) → InExpression p → (l o a f v k : ℕ) →
    counted (made p l o a f v k) s ≡ next (if operates s then where_below o 1000 TooDeep (made p l (o + 1) a f v k) else Ok (made p l o a f v k)) (leveled s)
inside_is Body s i l o a f v k = ap (λ (r : Counting). next r (λ d. within d s)) (inside_begun (begins_expression s) Body (made Body l o a f v k) i)
inside_is Sides s i l o a f v k = ap (λ (r : Counting). next r (λ d. within d s)) (inside_begun (begins_expression s) Sides (made Sides l o a f v k) i)
inside_is p s i l o a f v k = absurd i

pub pass : (b : Bool) (x : Counts) (r : Counting) (cause : Cause) (f : Counts → Counting) → f x ≡ r → next (if b then Ok x else Err cause) f ≡ (if b then r else Err cause)
pass true x r cause f e = e
pass false x r cause f e = refl

-- a token that counts as an operation or does not, with nothing more
abbrev pub IsPlain : Bool → Symbol → Type 0
IsPlain b s = (operates s ≡ b) × ((c : Counts) → InExpression c.phase → leveled s c ≡ Ok c)

pub operator_is : (p : Phase) (s : Symbol) → InExpression p → IsPlain true s → (l o a f v k : ℕ) → counted (made p l o a f v k) s ≡ where_below o 1000 TooDeep (made p l (o + 1) a f v k)
operator_is p s i t l o a f v k =
    inside_is p s i l o a f v k
    ∙ (ap (λ (b : Bool). next (if b then where_below o 1000 TooDeep (made p l (o + 1) a f v k) else Ok (made p l o a f v k)) (leveled s)) t.0
    ∙ pass (nat_lt o 1000) _ _ TooDeep (leveled s) (t.1 _ i))

quiet_is : (p : Phase) (s : Symbol) → InExpression p → IsPlain false s → (l o a f v k : ℕ) → counted (made p l o a f v k) s ≡ Ok (made p l o a f v k)
quiet_is p s i t l o a f v k =
    inside_is p s i l o a f v k
    ∙ (ap (λ (b : Bool). next (if b then where_below o 1000 TooDeep (made p l (o + 1) a f v k) else Ok (made p l o a f v k)) (leveled s)) t.0 ∙ t.1 _ i)

open_is : (p : Phase) → InExpression p → (l o a f v k : ℕ) → counted (made p l o a f v k) (FixedToken Open) ≡ where_below l 100 TooDeep (made p (l + 1) o a f v k)
open_is p i l o a f v k = inside_is p (FixedToken Open) i l o a f v k ∙ pass (nat_lt l 100) _ _ TooDeep (λ g. moved g (FixedToken Open)) refl

back_one : (n : ℕ) → n + 1 - 1 ≡ n
back_one n = omega arith

close_is : (p : Phase) → InExpression p → (l o a f v k : ℕ) → counted (made p (l + 1) o a f v k) (FixedToken Close) ≡ Ok (made p l o a f v k)
close_is p i l o a f v k = inside_is p (FixedToken Close) i (l + 1) o a f v k ∙ ap (λ (n : ℕ). Ok (made p n o a f v k)) (back_one l)

pub call_is : (p : Phase) → InExpression p → (op : Op) (n l o a f v k : ℕ) →
    counted (made p l o a f v k) (Call op n) ≡ (if nat_lt o 1000 then where_below l 100 Unexpected (made p l (o + 1) a f v k) else Err TooDeep)
call_is p i op n l o a f v k =
    inside_is p (Call op n) i l o a f v k ∙ pass (nat_lt o 1000) _ _ TooDeep (leveled (Call op n)) (pass (nat_lt l 100) _ _ Unexpected (λ g. moved g (Call op n)) refl)

operator : (c : Counts) (l o : ℕ) {s : Symbol} {k : List Symbol} → InExpression c.phase → IsPlain true s → Passes (at c l o) (s ∷ k) (o < 1000) (at c l (o + 1)) k
operator c l o {s = s} i t = bounded o 1000 TooDeep (operator_is c.phase s i t l o c.parameters c.functions c.variables c.constraints)

quiet : (c : Counts) (l o : ℕ) {s : Symbol} {k : List Symbol} → InExpression c.phase → IsPlain false s → Passes (at c l o) (s ∷ k) (Unit {0}) (at c l o) k
quiet c l o {s = s} i t = free (quiet_is c.phase s i t l o c.parameters c.functions c.variables c.constraints)

called : (c : Counts) (l o : ℕ) {op : Op} {n : ℕ} {k : List Symbol} → InExpression c.phase → Passes (at c l o) (Call op n ∷ k) ((o < 1000) × ((l < 100) × Unit {0})) (at c l (o + 1)) k
called c l o {op = op} {n = n} i = token (call_is c.phase i op n l o c.parameters c.functions c.variables c.constraints) (where_less o 1000 TooDeep (where_less l 100 Unexpected granted))

-- ---- Room for an expression

-- so deep, and with so many operations, if any
abbrev pub Fits : ℕ → ℕ → ℕ → ℕ → Type 0
Fits l o n m = (l + n ≤ max l 100) × (o + m ≤ max o 1000)

-- a part of an expression, of such a depth and with so many operations
abbrev Part : Counts → ℕ → ℕ → List Symbol → ℕ → ℕ → List Symbol → Type 0
Part c l o ss n m k = Passes (at c l o) ss (Fits l o n m) (at c l (o + m)) k

-- what stands in parentheses, with the closing one
abbrev Inner : Counts → ℕ → ℕ → List Symbol → ℕ → ℕ → List Symbol → Type 0
Inner c l o ss n m k = Passes (at c (l + 1) o) ss (Fits (l + 1) o n m) (at c l (o + m)) k

same_at : (c : Counts) (l o o' : ℕ) → o ≡ o' → at c l o ≡ at c l o'
same_at c l o o' e = ap (at c l) e

pub no_more : (o : ℕ) → o ≡ o + 0
no_more o = omega arith

nothing_fits : (l o : ℕ) → Fits l o 0 0
nothing_fits l o = (omega arith, omega arith)

both_fit : (l o n m n' m' : ℕ) → Fits l o n m × Fits l (o + m) n' m' → Fits l o (max n n') (m + m')
both_fit l o n m n' m' ((a, b), (a', b')) = (omega (arith, a, a'), omega (arith, b, b'))

fit_both : (l o n m n' m' : ℕ) → Fits l o (max n n') (m + m') → Fits l o n m × Fits l (o + m) n' m'
fit_both l o n m n' m' (a, b) = ((omega (arith, a), omega (arith, b)), (omega (arith, a), omega (arith, b)))

none : (c : Counts) (l o : ℕ) {k : List Symbol} → Part c l o k 0 0 k
none c l o = means (λ r. nothing_fits l o) (λ r. tt) (same_at c l o (o + 0) (no_more o)) stay

alone : (c : Counts) (l o : ℕ) {s : Symbol} {k : List Symbol} → InExpression c.phase → IsPlain false s → Part c l o (s ∷ k) 0 0 k
alone c l o i t = means (λ r. nothing_fits l o) (λ r. tt) (same_at c l o (o + 0) (no_more o)) (quiet c l o i t)

two_parts : (c : Counts) (l o n m n' m' : ℕ) {ss k rest : List Symbol} → Part c l o ss n m k → Part c l (o + m) k n' m' rest → Part c l o ss (max n n') (m + m') rest
two_parts c l o n m n' m' p q = means (both_fit l o n m n' m') (fit_both l o n m n' m') (same_at c l (o + m + m') (o + (m + m')) (omega arith)) (join p (λ r. q))

two_inner : (c : Counts) (l o n m n' m' : ℕ) {ss k rest : List Symbol} → Part c (l + 1) o ss n m k → Inner c l (o + m) k n' m' rest → Inner c l o ss (max n n') (m + m') rest
two_inner c l o n m n' m' p q = means (both_fit (l + 1) o n m n' m') (fit_both (l + 1) o n m n' m') (same_at c l (o + m + m') (o + (m + m')) (omega arith)) (join p (λ r. q))

behind_operator : (c : Counts) (l o n m : ℕ) {s : Symbol} {k rest : List Symbol} → InExpression c.phase → IsPlain true s → Part c l (o + 1) k n m rest → Part c l o (s ∷ k) n (suc m) rest
behind_operator c l o n m i t p =
    means (λ (a, (b, d)). (b, omega (arith, a, d))) (λ (b, d). (omega (arith, d), (b, omega (arith, d)))) (same_at c l (o + 1 + m) (o + suc m) (omega arith))
    (join (operator c l o i t) (λ r. p))

pub behind_quiet : (c : Counts) (l o n m : ℕ) {s : Symbol} {k rest : List Symbol} → InExpression c.phase → IsPlain false s → Part c l o k n m rest → Part c l o (s ∷ k) n m rest
behind_quiet c l o n m {s = s} i t p = free_then (quiet_is c.phase s i t l o c.parameters c.functions c.variables c.constraints) p

-- an expression and the closing parenthesis
closed : (c : Counts) (l o n m : ℕ) {ss k : List Symbol} → InExpression c.phase → Part c (l + 1) o ss n m (FixedToken Close ∷ k) → Inner c l o ss n m k
closed c l o n m i p =
    means (λ r. r.0) (λ r. (r, tt)) refl (join p (λ r. free (close_is c.phase i l (o + m) c.parameters c.functions c.variables c.constraints)))

group : (c : Counts) (l o n m : ℕ) {ss k : List Symbol} → InExpression c.phase → Inner c l o ss n m k → Part c l o (FixedToken Open ∷ ss) (suc n) m k
group c l o n m i p =
    means (λ (a, (b, d)). (omega (arith, a, b), d)) (λ (b, d). (omega (arith, b), (omega (arith, b), d))) refl
    (join (bounded l 100 TooDeep (open_is c.phase i l o c.parameters c.functions c.variables c.constraints)) (λ r. p))

-- a function's name, and what stands in its parentheses
behind_name : (c : Counts) (l o n m : ℕ) {op : Op} {a : ℕ} {k rest : List Symbol} → InExpression c.phase → Inner c l (o + 1) k n m rest → Part c l o (Call op a ∷ FixedToken Open ∷ k) (suc n) (suc m) rest
behind_name c l o n m i p =
    means (λ ((x, y), (b, d)). (b, omega (arith, x, d))) (λ (b, d). ((omega (arith, d), (omega (arith, b), tt)), (b, omega (arith, d)))) (same_at c l (o + 1 + m) (o + suc m) (omega arith))
    (join (called c l o i) (λ r. group c l (o + 1) n m i p))

two_arguments : (c : Counts) (l o n m n' m' : ℕ) {ss rest k : List Symbol} → InExpression c.phase → Part c (l + 1) o ss n m (FixedToken Comma ∷ rest) →
    Part c (l + 1) (o + m) rest n' m' (FixedToken Close ∷ k) → Inner c l o ss (max n n') (m + m') k
two_arguments c l o n m n' m' i p q = two_inner c l o n m n' m' p (closed c l (o + m) n' m' i (behind_quiet c (l + 1) (o + m) n' m' i (refl, λ d j. comma_in d.phase d j) q))

-- ---- Expressions

power_passes : (x : Power) (c : Counts) → InExpression c.phase → (l o : ℕ) (k : List Symbol) → Part c l o (power_symbols x k) 0 (power_operations x) k
power_passes no_power c i l o k = none c l o
power_passes (to_power value n) c i l o k = behind_operator c l o 0 0 i (refl, λ d j. refl) (alone c l (o + 1) i (refl, λ d j. refl))

least_one : (n : ℕ) → max n 0 ≡ n
least_one n = omega arith

mutual
  pub expression_passes : (e : Expression) (c : Counts) → InExpression c.phase → (l o : ℕ) (k : List Symbol) → Part c l o (expression_symbols e k) (expression_depth e) (expression_operations e) k
  expression_passes (sum_of t ts) c i l o k = two_parts c l o _ _ _ _ (term_passes t c i l o (terms_symbols ts k)) (terms_passes ts c i l (o + term_operations t) k)

  terms_passes : (ts : Terms) (c : Counts) → InExpression c.phase → (l o : ℕ) (k : List Symbol) → Part c l o (terms_symbols ts k) (terms_depth ts) (terms_operations ts) k
  terms_passes no_term c i l o k = none c l o
  terms_passes (plus t ts) c i l o k =
      behind_operator c l o _ _ i (refl, λ d j. refl) (two_parts c l (o + 1) _ _ _ _ (term_passes t c i l (o + 1) (terms_symbols ts k)) (terms_passes ts c i l (o + 1 + term_operations t) k))
  terms_passes (minus t ts) c i l o k =
      behind_operator c l o _ _ i (refl, λ d j. refl) (two_parts c l (o + 1) _ _ _ _ (term_passes t c i l (o + 1) (terms_symbols ts k)) (terms_passes ts c i l (o + 1 + term_operations t) k))

  term_passes : (t : Term) (c : Counts) → InExpression c.phase → (l o : ℕ) (k : List Symbol) → Part c l o (term_symbols t k) (term_depth t) (term_operations t) k
  term_passes (product_of x xs) c i l o k = two_parts c l o _ _ _ _ (factor_passes x c i l o (factors_symbols xs k)) (factors_passes xs c i l (o + factor_operations x) k)

  factors_passes : (xs : Factors) (c : Counts) → InExpression c.phase → (l o : ℕ) (k : List Symbol) → Part c l o (factors_symbols xs k) (factors_depth xs) (factors_operations xs) k
  factors_passes no_factor c i l o k = none c l o
  factors_passes (times x xs) c i l o k =
      behind_operator c l o _ _ i (refl, λ d j. refl) (two_parts c l (o + 1) _ _ _ _ (factor_passes x c i l (o + 1) (factors_symbols xs k)) (factors_passes xs c i l (o + 1 + factor_operations x) k))
  factors_passes (over x xs) c i l o k =
      behind_operator c l o _ _ i (refl, λ d j. refl) (two_parts c l (o + 1) _ _ _ _ (factor_passes x c i l (o + 1) (factors_symbols xs k)) (factors_passes xs c i l (o + 1 + factor_operations x) k))

  factor_passes : (x : Factor) (c : Counts) → InExpression c.phase → (l o : ℕ) (k : List Symbol) → Part c l o (factor_symbols x k) (factor_depth x) (factor_operations x) k
  factor_passes (positive x) c i l o k = behind_operator c l o _ _ i (refl, λ d j. refl) (factor_passes x c i l (o + 1) k)
  factor_passes (negative x) c i l o k = behind_operator c l o _ _ i (refl, λ d j. refl) (factor_passes x c i l (o + 1) k)
  factor_passes (raised x exponent) c i l o k =
      subst (λ (n : ℕ). Part c l o (primary_symbols x (power_symbols exponent k)) n (primary_operations x + power_operations exponent) k) (least_one (primary_depth x))
      (two_parts c l o _ _ _ _ (primary_passes x c i l o (power_symbols exponent k)) (power_passes exponent c i l (o + primary_operations x) k))

  primary_passes : (x : Primary) (c : Counts) → InExpression c.phase → (l o : ℕ) (k : List Symbol) → Part c l o (primary_symbols x k) (primary_depth x) (primary_operations x) k
  primary_passes (number value exponent) c i l o k = alone c l o i (refl, λ d j. refl)
  primary_passes (constant_named value) c i l o k = alone c l o i (refl, λ d j. refl)
  primary_passes (variable_at n) c i l o k = alone c l o i (refl, λ d j. refl)
  primary_passes (parameter_at n) c i l o k = alone c l o i (refl, λ d j. refl)
  primary_passes (parentheses e) c i l o k = group c l o _ _ i (closed c l o _ _ i (expression_passes e c i (l + 1) o (FixedToken Close ∷ k)))
  primary_passes (absolute_of e) c i l o k = behind_name c l o _ _ i (closed c l (o + 1) _ _ i (expression_passes e c i (l + 1) (o + 1) (FixedToken Close ∷ k)))
  primary_passes (square_of e) c i l o k = behind_name c l o _ _ i (closed c l (o + 1) _ _ i (expression_passes e c i (l + 1) (o + 1) (FixedToken Close ∷ k)))
  primary_passes (least_of a b) c i l o k =
      behind_name c l o _ _ i (two_arguments c l (o + 1) _ _ _ _ i (expression_passes a c i (l + 1) (o + 1) (FixedToken Comma ∷ expression_symbols b (FixedToken Close ∷ k)))
      (expression_passes b c i (l + 1) (o + 1 + expression_operations a) (FixedToken Close ∷ k)))
  primary_passes (greatest_of a b) c i l o k =
      behind_name c l o _ _ i (two_arguments c l (o + 1) _ _ _ _ i (expression_passes a c i (l + 1) (o + 1) (FixedToken Comma ∷ expression_symbols b (FixedToken Close ∷ k)))
      (expression_passes b c i (l + 1) (o + 1 + expression_operations a) (FixedToken Close ∷ k)))
  primary_passes (call f e more) c i l o k =
      behind_name c l o _ _ i (two_inner c l (o + 1) _ _ _ _ (expression_passes e c i (l + 1) (o + 1) (arguments_symbols more k)) (arguments_passes more c i l (o + 1 + expression_operations e) k))

  arguments_passes : (more : Arguments) (c : Counts) → InExpression c.phase → (l o : ℕ) (k : List Symbol) → Inner c l o (arguments_symbols more k) (arguments_depth more) (arguments_operations more) k
  arguments_passes no_argument c i l o k = closed c l o 0 0 i (none c (l + 1) o)
  arguments_passes (argument e more) c i l o k =
      two_inner c l o _ _ _ _ (behind_quiet c (l + 1) o _ _ i (refl, λ d j. comma_in d.phase d j) (expression_passes e c i (l + 1) o (arguments_symbols more k))) (arguments_passes more c i l (o + expression_operations e) k)

-- an expression that stands alone
pub whole_passes : (e : Expression) (c : Counts) → InExpression c.phase → (k : List Symbol) → Passes (at c 0 0) (expression_symbols e k) (IsExpressionWithin e) (at c 0 (expression_operations e)) k
whole_passes e c i k =
    means (λ (a, b). (omega (arith, a), omega (arith, b))) (λ (a, b). (omega (arith, a), omega (arith, b))) (same_at c 0 (0 + expression_operations e) (expression_operations e) (omega arith))
    (expression_passes e c i 0 0 k)
