-- The counts fit the items that are to come: from the place where the text stands the items lead on, with room for what must come. So
-- what is to come has a text that stays within the limits.
use Rattle.std.proofs.Common.{◌≡◌, ℕ, ◌+◌, ◌-◌, nat_lt, Bool, true, false, List, [], ◌∷◌, ◌++◌, refl, Option, Some, None, if◌then◌else◌, Ok, Err, subst}
use Rattle.pv_grammar.specs.declared.counts.Counts.{Counts}
use Rattle.pv_grammar.specs.declared.counts.Phase.{Phase}
use Rattle.pv_grammar.specs.declared.counts.Phase.TheVariants.{Between, Constants, FunctionName, Parameters, Body, Variables, Bounds, NextConstraint, Sides}
use Rattle.pv_grammar.specs.declared.symbol.Fixed.TheVariants.{Open, Close, OpenBracket, CloseBracket, Comma, Semicolon, Constants as ConstantsWord, Variables as VariablesWord, Constraints as ConstraintsWord, Function as FunctionWord, Return, End}
use Rattle.pv_grammar.specs.declared.symbol.Symbol.{Symbol}
use Rattle.pv_grammar.specs.declared.symbol.Symbol.TheVariants.{Fixed as FixedToken, Declared, Function as Call}
use Rattle.pv_grammar.specs.declared.machine.Item.{Item}
use Rattle.pv_grammar.specs.declared.machine.Item.TheVariants.{Exactly, MaybeConstants, WantConstant, MoreConstants, MaybeConstant, WantEquals, MaybeSign, WantValue, MaybeFunctions, WantFunctionName, WantParameter, MoreParameters, MaybeSemicolon, WantVariable, MoreVariables, MaybeVariable, MaybeDomain, WantBound, WantRelation, MoreConstraints, MaybeConstraint, WantFactor, MoreFactors, MoreTerms, MaybePower, WantExponent, MoreArguments, Then}
use Rattle.pv_grammar.specs.Grammar.{Produced}
use Rattle.pv_grammar.specs.Counting.{Counting, begins, begun, behind_comma, counted, in_expression, in_level, in_phase, levels, moved, next, operated, operates, with_constraints, with_operations}
use Rattle.pv_grammar.specs.Standings.{begins_expression, begins_in}

abbrev pub made : Phase → ℕ → ℕ → ℕ → ℕ → ℕ → ℕ → Counts
made p l o a f v k = record { phase = p; level = l; operations = o; parameters = a; functions = f; variables = v; constraints = k }

abbrev pub InExpression : Phase → Type 0
InExpression Body = Unit {0}
InExpression Sides = Unit {0}
InExpression p = ⊥

pub comma_in : (p : Phase) (c : Counts) → InExpression p → behind_comma p c ≡ Ok c
comma_in Body c m = refl
comma_in p c m = search

-- ---- Places

-- in which phase a text stands, if that matters, and whether there must be room for a parameter, for the first variable and for the first
-- constraint; or it stands behind a function's name, with room for its parenthesis
pub data Place : Type 0 where
  stands : Option Phase → Bool → Bool → Bool → Place
  called : Place → Place

abbrev pub AtPhase : Option Phase → Phase → Type 0
AtPhase None p = Unit {0}
AtPhase (Some q) p = p ≡ q

abbrev pub Has : Bool → Bool → Type 0
Has true b = b ≡ true
Has false b = Unit {0}

abbrev pub Rooms : Bool → Bool → Bool → Counts → Type 0
Rooms a v k c = Has a (nat_lt c.parameters 12) × Has v (nat_lt c.variables 12) × Has k (nat_lt c.constraints 64)

-- the counts are at a place
abbrev pub IsAt : Place → Counts → Type 0
IsAt (stands o a v k) c = AtPhase o c.phase × Rooms a v k c
IsAt (called x) c = (nat_lt c.level 100 ≡ true) × IsAt x c

-- a constraint that begins is the first one no more
abbrev pub room : Bool → Phase → Bool → Bool
room true NextConstraint k = false
room b p k = k

-- how a token moves the text on
abbrev pub led : Place → Symbol → Place
led (stands o a v k) (FixedToken VariablesWord) = stands (Some Variables) a v k
led (stands o a v k) (FixedToken ConstraintsWord) = stands (Some NextConstraint) a v k
led (stands o a v k) (FixedToken FunctionWord) = stands (Some FunctionName) a v k
led (stands None a v k) s = stands None false false false
led (stands o a v k) (FixedToken ConstantsWord) = stands (Some Constants) a v k
led (stands o a v k) (FixedToken Return) = stands (Some Body) a v k
led (stands o a v k) (FixedToken OpenBracket) = stands (Some Bounds) a v k
led (stands o a v k) (FixedToken CloseBracket) = stands (Some Variables) a v k
led (stands (Some Parameters) a v k) (FixedToken Comma) = stands (Some Parameters) true v k
led (stands (Some Sides) a v k) (FixedToken Semicolon) = stands (Some NextConstraint) a v k
led (stands (Some Body) a v k) (FixedToken End) = stands (Some Between) true v k
led (stands o a v k) (FixedToken End) = stands (Some Between) a v k
led (stands (Some FunctionName) a v k) (Declared taken) = stands (Some Parameters) a v k
led (stands (Some Parameters) a v k) (Declared taken) = stands (Some Parameters) false v k
led (stands (Some Variables) a v k) (Declared taken) = stands (Some Variables) a false k
led (stands (Some Body) a v k) (Call op n) = called (stands (Some Body) a v k)
led (stands (Some Sides) a v k) (Call op n) = called (stands (Some Sides) a v k)
led x s = x

-- the place behind a token
abbrev pub after : Place → Symbol → Place
after (stands (Some p) a v k) s = led (stands (Some (begins_in (begins_expression s) p)) a v (room (begins_expression s) p k)) s
after (stands None a v k) s = led (stands None a v k) s
after (called x) s = after x s

-- ---- Items

abbrev pub inside : Place → Option Place
inside (stands (Some Body) a v k) = Some (stands (Some Body) a v k)
inside (stands (Some Sides) a v k) = Some (stands (Some Sides) a v k)
inside x = None

-- where each text of an item leads to, if it may stand there and there is room for one
abbrev pub behind : Item → Place → Option Place
behind MaybeConstants (stands (Some Between) a v k) = Some (stands None a v k)
behind WantConstant (stands (Some Constants) a v k) = Some (stands (Some Constants) a v k)
behind MoreConstants (stands (Some Constants) a v k) = Some (stands None a v k)
behind MaybeConstant (stands (Some Constants) a v k) = Some (stands None a v k)
behind WantEquals (stands (Some Constants) a v k) = Some (stands (Some Constants) a v k)
behind MaybeSign (stands (Some Constants) a v k) = Some (stands (Some Constants) a v k)
behind MaybeSign (stands (Some Bounds) a v k) = Some (stands (Some Bounds) a v k)
behind WantValue (stands (Some Constants) a v k) = Some (stands (Some Constants) a v k)
behind WantBound (stands (Some Bounds) a v k) = Some (stands (Some Bounds) a v k)
behind MaybeFunctions (stands o true v k) = Some (stands None true v k)
behind WantFunctionName (stands (Some FunctionName) a v k) = Some (stands (Some Parameters) a v k)
behind WantParameter (stands (Some Parameters) true v k) = Some (stands (Some Parameters) false v k)
behind MoreParameters (stands (Some Parameters) false v k) = Some (stands (Some Parameters) false v k)
behind MaybeSemicolon (stands (Some Body) a v k) = Some (stands (Some Body) a v k)
behind MaybeSemicolon (stands (Some Between) a v k) = Some (stands (Some Between) a v k)
behind WantVariable (stands (Some Variables) a true k) = Some (stands (Some Variables) a false k)
behind MoreVariables (stands (Some Variables) a false k) = Some (stands None a false k)
behind MaybeVariable (stands (Some Variables) a false k) = Some (stands None a false k)
behind MaybeDomain (stands (Some Variables) a v k) = Some (stands (Some Variables) a v k)
behind MoreConstraints (stands (Some Sides) a v k) = Some (stands None a v false)
behind MaybeConstraint (stands (Some NextConstraint) a v k) = Some (stands None a v false)
behind WantFactor (stands (Some NextConstraint) a v true) = Some (stands (Some Sides) a v false)
behind WantFactor x = inside x
behind MoreFactors x = inside x
behind MoreTerms x = inside x
behind MaybePower x = inside x
behind WantExponent x = inside x
behind WantRelation x = inside x
behind (MoreArguments n) x = inside x
behind (Then op) x = inside x
behind (Exactly Open) (stands (Some Parameters) a v k) = Some (stands (Some Parameters) a v k)
behind (Exactly Open) (called x) = inside x
behind (Exactly Comma) (stands (Some Bounds) a v k) = Some (stands (Some Bounds) a v k)
behind (Exactly Return) (stands o a v k) = Some (after (stands o a v k) (FixedToken Return))
behind (Exactly VariablesWord) (stands o a v k) = Some (after (stands o a v k) (FixedToken VariablesWord))
behind (Exactly ConstraintsWord) (stands o a v k) = Some (after (stands o a v k) (FixedToken ConstraintsWord))
behind (Exactly OpenBracket) (stands o a v k) = Some (after (stands o a v k) (FixedToken OpenBracket))
behind (Exactly CloseBracket) (stands o a v k) = Some (after (stands o a v k) (FixedToken CloseBracket))
behind (Exactly End) (stands o a v k) = Some (after (stands o a v k) (FixedToken End))
behind i x = None

abbrev pub through : List Item → Option Place → Option Place
through items None = None
through [] (Some x) = Some x
through (i ∷ items) (Some x) = through items (behind i x)

abbrev pub IsFound : Option Place → Type 0
IsFound None = ⊥
IsFound (Some x) = Unit {0}

-- the counts fit the items
abbrev pub Ready : Counts → List Item → Type 0
Ready c items = (x : Place) × IsAt x c × IsFound (through items (Some x))

abbrev pub ReadyAfter : Option Produced → Counts → List Item → Type 0
ReadyAfter None e rest = Unit {0}
ReadyAfter (Some p) e rest = Ready e (p.0 ++ rest)

-- ---- Tokens that were counted

-- where a count goes on, it has the property
abbrev pub Gives : (Counts → Type 0) → Counting → Type 0
Gives P (Ok d) = P d
Gives P (Err cause) = Unit {0}

gives_test : (P : Counts → Type 0) (b : Bool) (x y : Counting) → (b ≡ true → Gives P x) → (b ≡ false → Gives P y) → Gives P (if b then x else y)
gives_test P true x y g h = g refl
gives_test P false x y g h = h refl

pub gives_if : (P : Counts → Type 0) (b : Bool) (x y : Counting) → (b ≡ true → Gives P x) → Gives P y → Gives P (if b then x else y)
gives_if P b x y g h = gives_test P b x y g (λ no_match. h)

gives_next : (P Q : Counts → Type 0) (r : Counting) (f : Counts → Counting) → Gives Q r → ((d : Counts) → Q d → Gives P (f d)) → Gives P (next r f)
gives_next P Q (Err cause) f g h = tt
gives_next P Q (Ok d) f g h = h d g

abbrev pub begun_seen : Bool → Phase → Counts → Counts
begun_seen true NextConstraint c = in_phase Sides (with_constraints (c.constraints + 1) c)
begun_seen b p c = c

begun_keeps : (P : Counts → Type 0) (b : Bool) (p : Phase) (c : Counts) → P (begun_seen b p c) → Gives P (if b then begins p c else Ok c)
begun_keeps P false p c h = h
begun_keeps P true NextConstraint c h = gives_if P (nat_lt c.constraints 64) _ _ (λ t. h) tt
begun_keeps P true p c h = h

operated_keeps : (P : Counts → Type 0) (c : Counts) (s : Symbol) → P c → ((o : ℕ) → P (with_operations o c)) → Gives P (operated c s)
operated_keeps P c s h g = gives_if P (operates s) _ _ (λ u. gives_if P (nat_lt c.operations 1000) _ _ (λ v. g (c.operations + 1)) tt) h

-- behind a function's name there is room for its parenthesis
abbrev pub Opened : Symbol → ℕ → Type 0
Opened (Call op arity) l = nat_lt l 100 ≡ true
Opened s l = Unit {0}

levels_keeps : (P : Counts → Type 0) (s : Symbol) (c : Counts) → P c → ((l : ℕ) → P (in_level l c)) → Gives (λ d. P d × Opened s d.level) (levels s c)
levels_keeps P (FixedToken Open) c h g = gives_if _ (nat_lt c.level 100) _ _ (λ t. (g (c.level + 1), tt)) tt
levels_keeps P (FixedToken Close) c h g = (g (c.level - 1), tt)
levels_keeps P (Call op arity) c h g = gives_if _ (nat_lt c.level 100) _ _ (λ t. (h, t)) tt
levels_keeps P s c h g = (h, tt)

-- what is known where a token moves the text on is known behind it, if it asks nothing of the operations and levels of an expression
pub walk : (P Q : Counts → Type 0) (c : Counts) (s : Symbol) → Q (begun_seen (begins_expression s) c.phase c) →
    ((d : Counts) (l o : ℕ) → Q d → in_expression d.phase ≡ true → Q (in_level l (with_operations o d))) →
    ((d : Counts) → Q d → (in_expression d.phase ≡ true → Opened s d.level) → Gives P (moved d s)) → Gives P (counted c s)
walk P Q c s starts keeps ends =
    let R : Counts → Type 0 = λ d. Q d × (in_expression d.phase ≡ true) in
    gives_next P Q (begun c s) _ (begun_keeps Q (begins_expression s) c.phase c starts)
    (λ d q. gives_test P (in_expression d.phase) _ _
    (λ t. gives_next P R (operated d s) _ (operated_keeps R d s (q, t) (λ o. (keeps d d.level o q t, t)))
    (λ e r. gives_next P (λ z. Q z × Opened s z.level) (levels s e) _ (levels_keeps Q s e r.0 (λ l. keeps e l e.operations r.0 r.1)) (λ z k. ends z k.0 (λ i. k.1))))
    (λ f. ends d q (λ t. absurd (outside (in_expression d.phase) t f))))
  where
    outside : (b : Bool) → b ≡ true → b ≡ false → ⊥
    outside b t f = cc

-- what holds behind a token that was counted, wherever it moves the text on from
pub reads : (P : Counts → Type 0) (c e : Counts) (s : Symbol) → counted c s ≡ Ok e → ((d : Counts) → (in_expression d.phase ≡ true → Opened s d.level) → Gives P (moved d s)) → P e
reads P c e s h g = subst (Gives P) h (walk P (λ d. Unit {0}) c s tt (λ d l o q t. tt) (λ d q. g d))
