-- What a code means: the expressions that it writes, with the body of each function in place of its calls.
use Rattle.std.specs.Prelude.{◌≡◌, ℕ, zero, suc, ◌++◌, List, [], ◌∷◌, Bool, true, false, pos, map, reverse, take, drop, get_or, nat_eq, Option, Some, None}
use Rattle.std.specs.List.{list_any}
use Rattle.pv_expr.specs.declared.expr.Expr.{Expr}
use Rattle.pv_expr.specs.declared.constraint.Relation.{Relation}
use Rattle.pv_expr.specs.declared.constraint.Constraint.{Constraint}
use Rattle.pv_expr.specs.Terms.{Term, constant, place, one, two, term_of}
use Rattle.pv_code.specs.declared.code.Op.{Op}
use Rattle.pv_code.specs.declared.code.Op.TheVariants.{Constant, Variable, Parameter, One, Two, Call, Define, Relate}
use Rattle.pv_code.specs.declared.expand.Function.{Function}

-- what a call of a function with these arguments stands for
abbrev pub Meaning : Type 0
Meaning = List Term → Term

-- stands where nothing was written, which no grammatical text reaches
abbrev pub nothing : Term
nothing = constant (pos 0) 1

abbrev pub argument : List Term → ℕ → Term
argument args i = get_or args i nothing

abbrev pub meaning_of : List Meaning → ℕ → Meaning
meaning_of ms k = get_or ms k (λ args. nothing)

abbrev pub top : List Term → Term
top [] = nothing
top (t ∷ ts) = t

abbrev pub below : List Term → List Term
below [] = []
below (t ∷ ts) = ts

-- a step on the stack of terms, the top first: a call stands for what its function means with the values on top as
-- arguments, the last of them on top
abbrev pub step : List Meaning → List Term → Op → List Term → List Term
step ms args (Constant f) st = constant f.p f.q ∷ st
step ms args (Variable i) st = place i ∷ st
step ms args (Parameter i) st = argument args i ∷ st
step ms args (One u) st = one u (top st) ∷ below st
step ms args (Two b) st = two b (top (below st)) (top st) ∷ below (below st)
step ms args (Call k n) st = meaning_of ms k (reverse (take n st)) ∷ drop n st
step ms args Define st = st
step ms args (Relate r) st = st

-- the stack behind a code, over functions with these meanings, where the parameters stand for these arguments
abbrev pub run : List Meaning → List Term → List Op → List Term → List Term
run ms args [] st = st
run ms args (o ∷ code) st = run ms args code (step ms args o st)

-- a step names a parameter
abbrev pub is_parameter : ℕ → Op → Bool
is_parameter i (Parameter k) = nat_eq k i
is_parameter i o = false

-- some step of a code names a parameter
abbrev pub occurs : ℕ → List Op → Bool
occurs i code = list_any (is_parameter i) code

-- a code leaves the same with either arguments
abbrev pub RunsAlike : List Op → List Term → List Term → Type 0
RunsAlike code a b = (ms : List Meaning) (st : List Term) → run ms b code st ≡ run ms a code st

-- the meaning of a function of this body, over those before it
abbrev pub body_meaning : List Meaning → List Op → Meaning
body_meaning ms body = λ args. top (run ms args body [])

-- the meanings of functions with these bodies, each over those before it
abbrev pub meanings_behind : List Meaning → List (List Op) → List Meaning
meanings_behind ms [] = ms
meanings_behind ms (body ∷ bodies) = meanings_behind (ms ++ body_meaning ms body ∷ []) bodies

abbrev pub meanings : List (List Op) → List Meaning
meanings bodies = meanings_behind [] bodies

-- a stack with one value more, if there is one
abbrev pub stacked : Option Expr → List Term → List Term
stacked None st = st
stacked (Some e) st = term_of e ∷ st

-- the terms of a stack of expressions, the top first
unfoldable pub stack_of : List Expr → List Term
stack_of es = reverse (map term_of es)

abbrev pub code_of : Function → List Op
code_of f = f.code.items

-- ---- The part of a code that is used

-- beyond the marks nothing is left out
abbrev pub is_used : List Bool → ℕ → Bool
is_used uses i = get_or uses i true

-- the arguments, with nothing in place of those that are left out
abbrev pub filtered : List Bool → List Term → List Term
filtered [] ts = ts
filtered (u ∷ us) [] = []
filtered (true ∷ us) (t ∷ ts) = t ∷ filtered us ts
filtered (false ∷ us) (t ∷ ts) = nothing ∷ filtered us ts

-- a step that leaves a value
abbrev pub IsValue : Op → Type 0
IsValue Define = ⊥
IsValue (Relate r) = ⊥
IsValue o = Unit {0}

-- the marks of a function's parameters
abbrev pub callee : List Function → ℕ → List Bool
callee [] k = []
callee (f ∷ fs) zero = f.uses.items
callee (f ∷ fs) (suc k) = callee fs k

-- the functions' own codes, over the arguments that they use, have these meanings
abbrev pub Stand : List Function → List Meaning → Type 0
Stand fs ms = (k : ℕ) (args : List Term) → meaning_of ms k args ≡ meaning_of (meanings (map code_of fs)) k (filtered (callee fs k) args)

-- each parameter that occurs is marked
abbrev pub IsMarked : List Bool → List Op → Type 0
IsMarked uses code = (i : ℕ) → occurs i code ≡ true → is_used uses i ≡ true

-- a function's code, over the arguments that it uses, leaves the value that its body leaves
abbrev pub KeepsBody : List Function → List Op → Function → Type 0
KeepsBody fs body f = (ms : List Meaning) (args : List Term) → Stand fs ms →
    body_meaning (meanings (map code_of fs)) f.code.items (filtered f.uses.items args) ≡ body_meaning ms body args

-- ---- The constraints of a code

pub record Sides : Type 0 where
  pub left : Term
  pub relation : Relation
  pub right : Term

abbrev pub sides_of : Constraint → Sides
sides_of c = record { left = term_of c.left; relation = c.relation; right = term_of c.right }

-- the constraint of a part that writes its two sides
abbrev pub part_sides : List Meaning → List Op → Relation → Sides
part_sides ms part r = record { left = top (below (run ms [] part [])); relation = r; right = top (run ms [] part []) }

-- the constraints that a code writes, behind functions with these meanings and a part that is not ended yet
abbrev pub constraints_behind : List Meaning → List Op → List Op → List Sides
constraints_behind ms part [] = []
constraints_behind ms part (Define ∷ code) = constraints_behind (ms ++ body_meaning ms part ∷ []) [] code
constraints_behind ms part (Relate r ∷ code) = part_sides ms part r ∷ constraints_behind ms [] code
constraints_behind ms part (o ∷ code) = constraints_behind ms (part ++ o ∷ []) code

-- the constraints of a system's code: each function's body stands in place of its calls
abbrev pub constraints_of : List Op → List Sides
constraints_of code = constraints_behind [] [] code
