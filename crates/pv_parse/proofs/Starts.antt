-- A text has as many places where constraints begin as its tree has constraints.
use Rattle.std.proofs.Common.{◌≡◌, ℕ, suc, ◌∙◌, Bool, true, false, List, [], ◌∷◌, length, refl, ap, rules, if◌then◌else◌}
use Rattle.pv_code.specs.Expansion.{Meaning}
use Rattle.pv_grammar.specs.declared.counts.Phase.{Phase}
use Rattle.pv_grammar.specs.declared.counts.Phase.TheVariants.{Between, NextConstraint, Sides}
use Rattle.pv_grammar.specs.declared.symbol.Fixed.TheVariants.{Constraints as ConstraintsWord, End}
use Rattle.pv_grammar.specs.declared.symbol.Symbol.{Symbol}
use Rattle.pv_grammar.specs.declared.symbol.Symbol.TheVariants.{Fixed as FixedToken, Relation as RelationToken}
use Rattle.pv_grammar.specs.Productions.{Constraint, Constraints, Expression, System, constraint_and, constraint_symbols, constraints_semicolon, constraints_symbols, expression_symbols, no_constraint, parentheses, product_of, raised, relates, sum_of, system_of, system_symbols}
use Rattle.pv_grammar.specs.Standings.{Standing, first_in, moved_to, standing_behind}
use Rattle.pv_grammar.specs.Trees.{constraints_sides, functions_behind, system_constraints}
use Rattle.pv_grammar.proofs.TreeSteps.{IsFront, IsInner, expression_walk, system_front, walk_tokens}
use Rattle.pv_parse.specs.Declarations.{Mark, Marks, MarksTo, begins_constraint, starts_in}

-- how many constraints begin with these tokens, where the text stands so
abbrev begun : Standing → List Symbol → ℕ
begun y [] = 0
begun y (s ∷ ss) = if begins_constraint y.phase s then suc (begun (standing_behind y s) ss) else begun (standing_behind y s) ss

one_longer : (b : Bool) (x : ℕ) (xs : List ℕ) (n : ℕ) → length xs ≡ n → length (if b then x ∷ xs else xs) ≡ (if b then suc n else n)
one_longer true x xs n e = ap suc e
one_longer false x xs n e = e

starts_length : (t : List ℕ) (y : Standing) (from : ℕ) (ss : List Symbol) (marks : List Mark) (to : ℕ) → MarksTo t y from ss marks to → length (starts_in marks) ≡ begun y ss
starts_length t y from [] marks to h = ap (λ (ms : List Mark). length (starts_in ms)) h.0
starts_length t y from (s ∷ ss) marks to (x, rest, next, are, more) =
    ap (λ (ms : List Mark). length (starts_in ms)) are
    ∙ one_longer (begins_constraint y.phase s) x.start (starts_in rest) (begun (standing_behind y s) ss) (starts_length t (standing_behind y s) x.end ss rest to more)

-- ---- Within a constraint none begins

module _ (y : Standing) where
  abbrev within : List Symbol → ℕ
  within k = begun (moved_to Sides y) k

  token_within : (s : Symbol) (k : List Symbol) → IsInner s → within (s ∷ k) ≡ within k
  token_within s k i = search rules

  expression_within : (e : Expression) (k : List Symbol) → within (expression_symbols e k) ≡ within k
  expression_within e k = expression_walk {k = []} (walk_tokens (λ ss. within ss ≡ within k) (λ s ss i h. token_within s ss i ∙ h)) e refl

  -- ---- Where one may begin, an expression begins one

  first_begins : (e : Expression) (k : List Symbol) → begun (moved_to NextConstraint y) (expression_symbols e k) ≡ suc (within (expression_symbols e k))
  first_begins (sum_of (product_of (raised (parentheses e) power) xs) ts) k = refl
  first_begins (sum_of (product_of x xs) ts) k = refl

  constraint_begins : (c : Constraint) (k : List Symbol) → begun (moved_to NextConstraint y) (constraint_symbols c k) ≡ suc (within k)
  constraint_begins (relates left r right) k =
      let behind : List Symbol = RelationToken r ∷ expression_symbols right k in
      first_begins left behind ∙ ap suc (expression_within left behind ∙ expression_within right k)

  constraints_begin : (fs : List Meaning) (cs : Constraints) → within (constraints_symbols cs (FixedToken End ∷ [])) ≡ length (constraints_sides fs cs)
  constraints_begin fs no_constraint = refl
  constraints_begin fs constraints_semicolon = refl
  constraints_begin fs (constraint_and c more) = constraint_begins c (constraints_symbols more (FixedToken End ∷ [])) ∙ ap suc (constraints_begin fs more)

-- ---- Up to the word `constraints` none begins

abbrev IsBefore : Phase → Type 0
IsBefore NextConstraint = ⊥
IsBefore Sides = ⊥
IsBefore p = Unit {0}

before_none : (p : Phase) (s : Symbol) (n : ℕ) → IsBefore p → (if begins_constraint p s then suc n else n) ≡ n
before_none NextConstraint s n b = absurd b
before_none p s n b = refl

stays_before : (p : Phase) (s : Symbol) (a f v : ℕ) → IsFront s → IsBefore p → IsBefore (standing_behind (record { phase = p; parameters = a; functions = f; variables = v }) s).phase
stays_before NextConstraint s a f v i b = absurd b
stays_before Sides s a f v i b = absurd b
stays_before p (FixedToken ConstraintsWord) a f v i b = absurd i
stays_before p s a f v i b = tt

-- before constraints, so many begin
abbrev Before : ℕ → List Symbol → Type 0
Before m ss = (y : Standing) → IsBefore y.phase → begun y ss ≡ m

front : (m : ℕ) (s : Symbol) (ss : List Symbol) → IsFront s → Before m ss → Before m (s ∷ ss)
front m s ss i h y b = before_none y.phase s _ b ∙ h (standing_behind y s) (stays_before y.phase s y.parameters y.functions y.variables i b)

inner_front : (s : Symbol) → IsInner s → IsFront s
inner_front s i = search rules

system_begun : (x : System) → Before (length (system_constraints x)) (system_symbols x [])
system_begun (system_of block before v vs behind c cs) =
    let fs : List Meaning = functions_behind behind (functions_behind before []) in
    let m : ℕ = suc (length (constraints_sides fs cs)) in
    let sides : List Symbol = constraints_symbols cs (FixedToken End ∷ []) in
    system_front (walk_tokens (Before m) (λ s ss i. front m s ss (inner_front s i))) (record { front = λ s i h. front m s _ i h }) block before v vs behind c cs
    (λ y b. before_none y.phase (FixedToken ConstraintsWord) _ b ∙ (constraint_begins y c sides ∙ ap suc (constraints_begin y fs cs)))

pub tree_starts : (t : List ℕ) (x : System) (marks : List Mark) → Marks t (first_in Between) (system_symbols x []) marks → length (starts_in marks) ≡ length (system_constraints x)
tree_starts t x marks (to, h) = starts_length t (first_in Between) 0 (system_symbols x []) marks to h ∙ system_begun x (first_in Between) tt
