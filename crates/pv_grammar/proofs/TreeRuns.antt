-- The code of a tree means what the tree means.
use Rattle.std.proofs.Common.{◌≡◌, ℕ, suc, List, [], ◌∷◌, ◌++◌, length, reverse, take, drop, refl, ap, sym, subst, ◌∙◌, append_assoc, arith}
use Rattle.std.proofs.lemmas.List.{reverse-append, reverse-reverse, length-reverse}
use Rattle.std.proofs.Math.Seq.{take-append_seam, drop-append_seam}
use Rattle.pv_expr.specs.declared.operators.UnaryOp.{UnaryOp}
use Rattle.pv_expr.specs.declared.operators.UnaryOp.TheVariants.{Neg, Abs, Pow}
use Rattle.pv_expr.specs.declared.operators.BinaryOp.{BinaryOp}
use Rattle.pv_expr.specs.declared.operators.BinaryOp.TheVariants.{Add, Sub, Mul, Div, Min, Max}
use Rattle.pv_expr.specs.Terms.{Term, one, two}
use Rattle.pv_code.specs.declared.code.Op.{Op}
use Rattle.pv_code.specs.declared.code.Op.TheVariants.{Constant as ConstantStep, Variable as VariableStep, Parameter as ParameterStep, One, Two, Call, Define, Relate}
use Rattle.pv_code.specs.Expansion.{Meaning, Sides, below, body_meaning, constraints_behind, constraints_of, meaning_of, run, step, top}
use Rattle.pv_code.proofs.Leaving.{run-append}
use Rattle.pv_grammar.specs.Productions.{Arguments, Constraint, Constraints, Expression, Factor, Factors, Functions, Power, Primary, System, Term as TermTree, Terms, absolute_of, argument, call, constant_named, constraint_and, constraints_semicolon, count, function_and, function_of, greatest_of, least_of, minus, negative, no_argument, no_constraint, no_factor, no_function, no_power, no_term, number, over, parameter_at, parentheses, plus, positive, product_of, raised, relates, square_of, sum_of, system_of, times, to_power, variable_at}
use Rattle.pv_grammar.specs.TreeCodes.{arguments_code, constraint_code, constraints_code, expression_code, factor_code, factors_code, functions_code, power_code, primary_code, system_code, term_code, terms_code}
use Rattle.pv_grammar.specs.Trees.{arguments_terms, constraint_sides, constraints_sides, expression_term, factor_term, factors_term, functions_behind, power_term, primary_term, system_constraints, term_term, terms_term}

-- ---- A code in front of what follows, whose steps join a part: it puts one value more on the stack, or a list of
-- values

record Pushes (ms : List Meaning) (part code k : List Op) (f : List Term → Term) : Type 0 where
  behind : List Op
  same : constraints_behind ms part code ≡ constraints_behind ms behind k
  runs : (args st : List Term) → run ms args behind st ≡ f args ∷ run ms args part st
  plain : (args st : List Term) → run ms args code st ≡ run ms args k (f args ∷ st)

record Piles (ms : List Meaning) (part code k : List Op) (f : List Term → List Term) : Type 0 where
  behind : List Op
  same : constraints_behind ms part code ≡ constraints_behind ms behind k
  runs : (args st : List Term) → run ms args behind st ≡ reverse (f args) ++ run ms args part st
  plain : (args st : List Term) → run ms args code st ≡ run ms args k (reverse (f args) ++ st)

-- a step that puts a value on the stack, whatever is there
push_step : (ms : List Meaning) (part k : List Op) (o : Op) (f : List Term → Term) → constraints_behind ms part (o ∷ k) ≡ constraints_behind ms (part ++ o ∷ []) k → ((args st : List Term) → step ms args o st ≡ f args ∷ st) →
    Pushes ms part (o ∷ k) k f
push_step ms part k o f same is = record {
  behind = part ++ o ∷ [];
  same = same;
  runs = λ args st. run-append ms args part (o ∷ []) st ∙ is args (run ms args part st);
  plain = λ args st. ap (run ms args k) (is args st);
}

push_one : (ms : List Meaning) (part code k : List Op) (f : List Term → Term) (u : UnaryOp) → Pushes ms part code (One u ∷ k) f →
    Pushes ms part code k (λ args. one u (f args))
push_one ms part code k f u p = record {
  behind = p.behind ++ One u ∷ [];
  same = p.same;
  runs = λ args st. run-append ms args p.behind (One u ∷ []) st ∙ ap (step ms args (One u)) (p.runs args st);
  plain = λ args st. p.plain args st;
}

push_two : (ms : List Meaning) (part code mid k : List Op) (f g : List Term → Term) (b : BinaryOp) → Pushes ms part code mid f →
    ((q : List Op) → Pushes ms q mid (Two b ∷ k) g) → Pushes ms part code k (λ args. two b (f args) (g args))
push_two ms part code mid k f g b p t =
    let u = t p.behind in
    record {
      behind = u.behind ++ Two b ∷ [];
      same = p.same ∙ u.same;
      runs = λ args st. run-append ms args u.behind (Two b ∷ []) st ∙ ap (step ms args (Two b)) (u.runs args st ∙ ap (λ (z : List Term). g args ∷ z) (p.runs args st));
      plain = λ args st. p.plain args st ∙ u.plain args (f args ∷ st);
    }

reverse_more : (x : Term) (xs st : List Term) → reverse xs ++ (x ∷ st) ≡ reverse (x ∷ xs) ++ st
reverse_more x xs st = sym (ap (λ (z : List Term). z ++ st) (reverse-append (x ∷ []) xs) ∙ append_assoc (reverse xs) (x ∷ []) st)

pile_then : (ms : List Meaning) (part code mid k : List Op) (f : List Term → Term) (g : List Term → List Term) → Pushes ms part code mid f →
    ((q : List Op) → Piles ms q mid k g) → Piles ms part code k (λ args. f args ∷ g args)
pile_then ms part code mid k f g p t =
    let u = t p.behind in
    record {
      behind = u.behind;
      same = p.same ∙ u.same;
      runs = λ args st. u.runs args st ∙ ap (λ (z : List Term). reverse (g args) ++ z) (p.runs args st) ∙ reverse_more (f args) (g args) (run ms args part st);
      plain = λ args st. p.plain args st ∙ u.plain args (f args ∷ st) ∙ ap (run ms args k) (reverse_more (f args) (g args) st);
    }

-- as many values as the call takes are on top
call_step : (ms : List Meaning) (args values st : List Term) (k n : ℕ) → length values ≡ n → step ms args (Call k n) (reverse values ++ st) ≡ meaning_of ms k values ∷ st
call_step ms args values st k n many =
    let high : length (reverse values) ≡ n = length-reverse values ∙ many in
    let taken : take n (reverse values ++ st) ≡ reverse values = subst (λ (m : ℕ). take m (reverse values ++ st) ≡ reverse values) high (take-append_seam (reverse values) st) in
    let left : drop n (reverse values ++ st) ≡ st = subst (λ (m : ℕ). drop m (reverse values ++ st) ≡ st) high (drop-append_seam (reverse values) st) in
    λ i. meaning_of ms k ((ap reverse taken ∙ reverse-reverse values) i) ∷ left i

push_call : (ms : List Meaning) (part code k : List Op) (f : List Term → List Term) (m n : ℕ) → ((args : List Term) → length (f args) ≡ n) → Piles ms part code (Call m n ∷ k) f →
    Pushes ms part code k (λ args. meaning_of ms m (f args))
push_call ms part code k f m n many p = record {
  behind = p.behind ++ Call m n ∷ [];
  same = p.same;
  runs = λ args st. run-append ms args p.behind (Call m n ∷ []) st ∙ ap (step ms args (Call m n)) (p.runs args st) ∙ call_step ms args (f args) (run ms args part st) m n (many args);
  plain = λ args st. p.plain args st ∙ ap (run ms args k) (call_step ms args (f args) st m n (many args));
}

-- ---- Expressions

count_is : (ms : List Meaning) (args : List Term) (more : Arguments) → length (arguments_terms ms args more) ≡ count more
count_is ms args no_argument = refl
count_is ms args (argument e more) = (let h = count_is ms args more in omega (arith, h))

-- what joins the value on top has that value as an argument
power_pushes : (w : Power) (ms : List Meaning) (part code k : List Op) (a : List Term → Term) → Pushes ms part code (power_code w k) a → Pushes ms part code k (λ args. power_term w (a args))
power_pushes no_power ms part code k a p = p
power_pushes (to_power value n) ms part code k a p = push_one ms part code k a (Pow n) p

mutual
  expression_pushes : (e : Expression) (ms : List Meaning) (part k : List Op) → Pushes ms part (expression_code e k) k (λ args. expression_term ms args e)
  expression_pushes (sum_of t ts) ms part k = terms_push ts ms part _ k (λ args. term_term ms args t) (term_pushes t ms part (terms_code ts k))

  terms_push : (ts : Terms) (ms : List Meaning) (part code k : List Op) (a : List Term → Term) → Pushes ms part code (terms_code ts k) a → Pushes ms part code k (λ args. terms_term ms args ts (a args))
  terms_push no_term ms part code k a p = p
  terms_push (plus t ts) ms part code k a p =
      terms_push ts ms part code k _ (push_two ms part code _ (terms_code ts k) a (λ args. term_term ms args t) Add p (λ q. term_pushes t ms q (Two Add ∷ terms_code ts k)))
  terms_push (minus t ts) ms part code k a p =
      terms_push ts ms part code k _ (push_two ms part code _ (terms_code ts k) a (λ args. term_term ms args t) Sub p (λ q. term_pushes t ms q (Two Sub ∷ terms_code ts k)))

  term_pushes : (t : TermTree) (ms : List Meaning) (part k : List Op) → Pushes ms part (term_code t k) k (λ args. term_term ms args t)
  term_pushes (product_of x xs) ms part k = factors_push xs ms part _ k (λ args. factor_term ms args x) (factor_pushes x ms part (factors_code xs k))

  factors_push : (xs : Factors) (ms : List Meaning) (part code k : List Op) (a : List Term → Term) → Pushes ms part code (factors_code xs k) a → Pushes ms part code k (λ args. factors_term ms args xs (a args))
  factors_push no_factor ms part code k a p = p
  factors_push (times x xs) ms part code k a p =
      factors_push xs ms part code k _ (push_two ms part code _ (factors_code xs k) a (λ args. factor_term ms args x) Mul p (λ q. factor_pushes x ms q (Two Mul ∷ factors_code xs k)))
  factors_push (over x xs) ms part code k a p =
      factors_push xs ms part code k _ (push_two ms part code _ (factors_code xs k) a (λ args. factor_term ms args x) Div p (λ q. factor_pushes x ms q (Two Div ∷ factors_code xs k)))

  factor_pushes : (x : Factor) (ms : List Meaning) (part k : List Op) → Pushes ms part (factor_code x k) k (λ args. factor_term ms args x)
  factor_pushes (positive x) ms part k = factor_pushes x ms part k
  factor_pushes (negative x) ms part k = push_one ms part _ k (λ args. factor_term ms args x) Neg (factor_pushes x ms part (One Neg ∷ k))
  factor_pushes (raised x w) ms part k = power_pushes w ms part _ k (λ args. primary_term ms args x) (primary_pushes x ms part (power_code w k))

  primary_pushes : (x : Primary) (ms : List Meaning) (part k : List Op) → Pushes ms part (primary_code x k) k (λ args. primary_term ms args x)
  primary_pushes (number value exponent) ms part k = push_step ms part k (ConstantStep value) _ refl (λ args st. refl)
  primary_pushes (constant_named value) ms part k = push_step ms part k (ConstantStep value) _ refl (λ args st. refl)
  primary_pushes (variable_at i) ms part k = push_step ms part k (VariableStep i) _ refl (λ args st. refl)
  primary_pushes (parameter_at i) ms part k = push_step ms part k (ParameterStep i) _ refl (λ args st. refl)
  primary_pushes (parentheses e) ms part k = expression_pushes e ms part k
  primary_pushes (absolute_of e) ms part k = push_one ms part _ k (λ args. expression_term ms args e) Abs (expression_pushes e ms part (One Abs ∷ k))
  primary_pushes (square_of e) ms part k = push_one ms part _ k (λ args. expression_term ms args e) (Pow 2) (expression_pushes e ms part (One (Pow 2) ∷ k))
  primary_pushes (least_of a b) ms part k =
      push_two ms part _ (expression_code b (Two Min ∷ k)) k (λ args. expression_term ms args a) (λ args. expression_term ms args b) Min (expression_pushes a ms part (expression_code b (Two Min ∷ k))) (λ q. expression_pushes b ms q (Two Min ∷ k))
  primary_pushes (greatest_of a b) ms part k =
      push_two ms part _ (expression_code b (Two Max ∷ k)) k (λ args. expression_term ms args a) (λ args. expression_term ms args b) Max (expression_pushes a ms part (expression_code b (Two Max ∷ k))) (λ q. expression_pushes b ms q (Two Max ∷ k))
  primary_pushes (call f e more) ms part k =
      push_call ms part _ k (λ args. expression_term ms args e ∷ arguments_terms ms args more) f (suc (count more)) (λ args. (let h = count_is ms args more in omega (arith, h)))
      (pile_then ms part _ (arguments_code more (Call f (suc (count more)) ∷ k)) (Call f (suc (count more)) ∷ k) (λ args. expression_term ms args e) (λ args. arguments_terms ms args more)
      (expression_pushes e ms part (arguments_code more (Call f (suc (count more)) ∷ k))) (λ q. arguments_pile more ms q (Call f (suc (count more)) ∷ k)))

  arguments_pile : (more : Arguments) (ms : List Meaning) (part k : List Op) → Piles ms part (arguments_code more k) k (λ args. arguments_terms ms args more)
  arguments_pile no_argument ms part k = record { behind = part; same = refl; runs = λ args st. refl; plain = λ args st. refl }
  arguments_pile (argument e more) ms part k =
      pile_then ms part _ (arguments_code more k) k (λ args. expression_term ms args e) (λ args. arguments_terms ms args more) (expression_pushes e ms part (arguments_code more k)) (λ q. arguments_pile more ms q k)

-- ---- Functions and constraints

functions_pass : (fs : Functions) (ms : List Meaning) (k : List Op) → constraints_behind ms [] (functions_code fs k) ≡ constraints_behind (functions_behind fs ms) [] k
functions_pass no_function ms k = refl
functions_pass (function_and (function_of parameters body inner outer) more) ms k =
    let p = expression_pushes body ms [] (Define ∷ functions_code more k) in
    let is : body_meaning ms p.behind ≡ (λ args. expression_term ms args body) = λ i args. top (p.runs args [] i) in
    p.same ∙ ap (λ (m : Meaning). constraints_behind (ms ++ m ∷ []) [] (functions_code more k)) is ∙ functions_pass more (ms ++ (λ args. expression_term ms args body) ∷ []) k

constraint_passes : (c : Constraint) (ms : List Meaning) (k : List Op) → constraints_behind ms [] (constraint_code c k) ≡ constraint_sides ms c ∷ constraints_behind ms [] k
constraint_passes (relates left r right) ms k =
    let p = expression_pushes left ms [] (expression_code right (Relate r ∷ k)) in
    let q = expression_pushes right ms p.behind (Relate r ∷ k) in
    let two_values : run ms [] q.behind [] ≡ expression_term ms [] right ∷ expression_term ms [] left ∷ [] = q.runs [] [] ∙ ap (λ (z : List Term). expression_term ms [] right ∷ z) (p.runs [] []) in
    let sides : List Term → List Sides = λ z. record { left = top (below z); relation = r; right = top z } ∷ constraints_behind ms [] k in
    p.same ∙ q.same ∙ ap sides two_values

constraints_pass : (cs : Constraints) (ms : List Meaning) → constraints_behind ms [] (constraints_code cs []) ≡ constraints_sides ms cs
constraints_pass no_constraint ms = refl
constraints_pass constraints_semicolon ms = refl
constraints_pass (constraint_and c more) ms = constraint_passes c ms (constraints_code more []) ∙ ap (λ (z : List Sides). constraint_sides ms c ∷ z) (constraints_pass more ms)

pub system_means : (x : System) → constraints_of (system_code x []) ≡ system_constraints x
system_means (system_of block before v vs behind c cs) =
    let fs = functions_behind behind (functions_behind before []) in
    functions_pass before [] (functions_code behind (constraint_code c (constraints_code cs [])))
    ∙ functions_pass behind (functions_behind before []) (constraint_code c (constraints_code cs []))
    ∙ constraint_passes c fs (constraints_code cs [])
    ∙ ap (λ (z : List Sides). constraint_sides fs c ∷ z) (constraints_pass cs fs)

pub expression_means : (e : Expression) → (ms : List Meaning) (args : List Term) → run ms args (expression_code e []) [] ≡ expression_term ms args e ∷ []
expression_means e ms args = (expression_pushes e ms [] []).plain args []
