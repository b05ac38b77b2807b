-- Each token that is taken leaves counts that fit what is then to come; and so do the starts of a text.
use Rattle.std.proofs.Common.{◌≡◌, zero, suc, nat_lt, Bool, true, false, List, [], ◌∷◌, ◌++◌, refl, sym, subst, Option, Some, None, Ok}
use Rattle.pv_expr.specs.declared.constraint.Relation.TheVariants.{Eq}
use Rattle.pv_code.specs.declared.code.Op.{Op}
use Rattle.pv_grammar.specs.declared.counts.Counts.{Counts}
use Rattle.pv_grammar.specs.declared.counts.Phase.{Phase}
use Rattle.pv_grammar.specs.declared.counts.Phase.TheVariants.{Between, Constants, FunctionName, Parameters, Body, Variables, Bounds, NextConstraint, Sides}
use Rattle.pv_grammar.specs.declared.symbol.Fixed.TheVariants.{Plus, Minus, Star, Slash, Caret, Open, Close, OpenBracket, CloseBracket, Comma, Semicolon, Constants as ConstantsWord, Variables as VariablesWord, Constraints as ConstraintsWord, Function as FunctionWord, Return, End, In, Oo, EndOfText}
use Rattle.pv_grammar.specs.declared.symbol.Symbol.{Symbol}
use Rattle.pv_grammar.specs.declared.symbol.Symbol.TheVariants.{Fixed as FixedToken, Relation as RelationToken, Number, Declared, Function as Call, Unknown}
use Rattle.pv_grammar.specs.declared.machine.Item.{Item}
use Rattle.pv_grammar.specs.declared.machine.Item.TheVariants.{Exactly, MaybeConstants, WantConstant, MoreConstants, MaybeConstant, WantEquals, MaybeSign, WantValue, MaybeFunctions, WantFunctionName, WantParameter, MoreParameters, MaybeSemicolon, WantVariable, MoreVariables, MaybeVariable, MaybeDomain, WantBound, WantRelation, MoreConstraints, MaybeConstraint, WantFactor, MoreFactors, MoreTerms, MaybePower, WantExponent, MoreArguments}
use Rattle.pv_grammar.specs.Grammar.{Follows, MayEnd, Produced, Settles, emptied, ended, expression_items, factor, met, produced, step_of, system_items}
use Rattle.pv_grammar.specs.Counting.{counted, in_expression, in_phase, moved, nothing}
use Rattle.pv_grammar.specs.Standings.{begins_expression, begins_in}
use Rattle.pv_grammar.proofs.Ready.{Gives, IsAt, IsFound, Opened, Place, Ready, ReadyAfter, Rooms, after, begun_seen, behind, called, gives_if, led, room, stands, through, walk}

-- ---- Tokens lead from place to place

begun_place : (b : Bool) (p : Phase) (a v k : Bool) (c : Counts) → Rooms a v k c → IsAt (stands (Some (begins_in b p)) a v (room b p k)) (begun_seen b p (in_phase p c))
begun_place true NextConstraint a v k c h = (refl, (h.0, h.1, tt))
begun_place b p a v k c h = (refl, h)

led_place : (s : Symbol) (p : Phase) (a v k : Bool) (d : Counts) → Rooms a v k d → (in_expression p ≡ true → Opened s d.level) → Gives (IsAt (led (stands (Some p) a v k) s)) (moved (in_phase p d) s)
led_place (Declared taken) Variables a v k d h t = gives_if _ (nat_lt d.variables 12) _ _ (λ u. gives_if _ taken _ _ (λ w. tt) (refl, (h.0, tt, h.2))) tt
led_place (Declared taken) Parameters a v k d h t = gives_if _ (nat_lt d.parameters 12) _ _ (λ u. gives_if _ taken _ _ (λ w. tt) (refl, (tt, h.1, h.2))) tt
led_place (Declared taken) p a v k d h t = gives_if _ taken _ _ (λ u. tt) (refl, h)
led_place (FixedToken FunctionWord) p a v k d h t = gives_if _ (nat_lt d.functions 64) _ _ (λ u. (refl, h)) tt
led_place (FixedToken Comma) Parameters a v k d h t = gives_if _ (nat_lt d.parameters 12) _ _ (λ u. (refl, (u, h.1, h.2))) tt
led_place (FixedToken Semicolon) Sides a v k d h t = (refl, h)
led_place (FixedToken End) Body a v k d h t = (refl, (refl, h.1, h.2))
led_place (Call op n) Body a v k d h t = (t refl, (refl, h))
led_place (Call op n) Sides a v k d h t = (t refl, (refl, h))
led_place Unknown p a v k d h t = tt
led_place s p a v k d h t = (refl, h)

from_phase : (p : Phase) (a v k : Bool) (c e : Counts) (s : Symbol) → IsAt (stands (Some p) a v k) c → counted c s ≡ Ok e → IsAt (after (stands (Some p) a v k) s) e
from_phase p a v k c e s h one =
    let b : Bool = begins_expression s in
    let P : Counts → Type 0 = IsAt (after (stands (Some p) a v k) s) in
    subst (Gives P) one (subst (λ (q : Phase). Gives P (counted (in_phase q c) s)) (sym h.0)
    (walk P (IsAt (stands (Some (begins_in b p)) a v (room b p k))) (in_phase p c) s (begun_place b p a v k c h.1) (λ d l o q t. q)
    (λ d q t. subst (λ (z : Phase). Gives P (moved (in_phase z d) s)) (sym q.0)
    (led_place s (begins_in b p) a v (room b p k) d q.1 (subst (λ (z : Phase). in_expression z ≡ true → Opened s d.level) q.0 t)))))

-- a token that is counted leads to the next place
follows : (x : Place) (c e : Counts) (s : Symbol) → IsAt x c → counted c s ≡ Ok e → IsAt (after x s) e
follows (called x) c e s h one = follows x c e s h.1 one
follows (stands (Some p) a v k) c e s h one = from_phase p a v k c e s h one
follows (stands None a v k) c e (FixedToken VariablesWord) h one = from_phase c.phase a v k c e (FixedToken VariablesWord) (refl, h.1) one
follows (stands None a v k) c e (FixedToken ConstraintsWord) h one = from_phase c.phase a v k c e (FixedToken ConstraintsWord) (refl, h.1) one
follows (stands None a v k) c e (FixedToken FunctionWord) h one = from_phase c.phase a v k c e (FixedToken FunctionWord) (refl, h.1) one
follows (stands None a v k) c e s h one = (tt, (tt, tt, tt))

-- ---- What is to come behind a token leads where its item does

abbrev leads : Option Produced → Option Place → Place → Option Place
leads None o y = o
leads (Some p) None y = None
leads (Some p) (Some z) y = through p.0 (Some y)

first_factor : (s : Symbol) (a v : Bool) → leads (factor s) (Some (stands (Some Sides) a v false)) (after (stands (Some NextConstraint) a v true) s) ≡ Some (stands (Some Sides) a v false)
first_factor (FixedToken Open) a v = refl
first_factor s a v = refl

-- the last row goes through the cases that the others make
as_its_item : (i : Item) (s : Symbol) (x : Place) → leads (produced i s) (behind i x) (after x s) ≡ behind i x
as_its_item WantFactor (FixedToken Open) (stands (Some Body) a v k) = refl
as_its_item WantFactor s (stands (Some NextConstraint) a v true) = first_factor s a v
as_its_item WantFactor s (stands (Some Body) a v k) = refl
as_its_item MaybeConstraint (FixedToken Open) (stands (Some NextConstraint) a v k) = refl
as_its_item MaybeConstraint s (stands (Some NextConstraint) a v k) = refl
as_its_item WantBound (FixedToken Oo) (stands (Some Bounds) a v k) = refl
as_its_item WantBound s (stands (Some Bounds) a v k) = refl
as_its_item MaybeConstants (FixedToken ConstantsWord) (stands (Some Between) a v k) = refl
as_its_item WantConstant (Declared taken) (stands (Some Constants) a v k) = refl
as_its_item MoreConstants (FixedToken Comma) (stands (Some Constants) a v k) = refl
as_its_item MoreConstants (FixedToken Semicolon) (stands (Some Constants) a v k) = refl
as_its_item MaybeConstant (Declared taken) (stands (Some Constants) a v k) = refl
as_its_item WantEquals (RelationToken Eq) (stands (Some Constants) a v k) = refl
as_its_item MaybeSign (FixedToken Plus) (stands (Some Constants) a v k) = refl
as_its_item MaybeSign (FixedToken Minus) (stands (Some Constants) a v k) = refl
as_its_item WantValue (Number value exponent) (stands (Some Constants) a v k) = refl
as_its_item MaybeFunctions (FixedToken FunctionWord) (stands None true v k) = refl
as_its_item MaybeFunctions (FixedToken FunctionWord) (stands (Some p) true v k) = refl
as_its_item WantFunctionName (Declared taken) (stands (Some FunctionName) a v k) = refl
as_its_item WantParameter (Declared taken) (stands (Some Parameters) true v k) = refl
as_its_item MoreParameters (FixedToken Comma) (stands (Some Parameters) false v k) = refl
as_its_item MoreParameters (FixedToken Close) (stands (Some Parameters) false v k) = refl
as_its_item MaybeSemicolon (FixedToken Semicolon) (stands (Some Body) a v k) = refl
as_its_item WantVariable (Declared taken) (stands (Some Variables) a true k) = refl
as_its_item MoreVariables (FixedToken Comma) (stands (Some Variables) a false k) = refl
as_its_item MoreVariables (FixedToken Semicolon) (stands (Some Variables) a false k) = refl
as_its_item MaybeVariable (Declared taken) (stands (Some Variables) a false k) = refl
as_its_item MaybeDomain (FixedToken In) (stands (Some Variables) a v k) = refl
as_its_item WantRelation (RelationToken x) (stands (Some Body) a v k) = refl
as_its_item MoreConstraints (FixedToken Semicolon) (stands (Some Sides) a v k) = refl
as_its_item MoreFactors (FixedToken Star) (stands (Some Body) a v k) = refl
as_its_item MoreFactors (FixedToken Slash) (stands (Some Body) a v k) = refl
as_its_item MoreTerms (FixedToken Plus) (stands (Some Body) a v k) = refl
as_its_item MoreTerms (FixedToken Minus) (stands (Some Body) a v k) = refl
as_its_item MaybePower (FixedToken Caret) (stands (Some Body) a v k) = refl
as_its_item WantExponent (Number value (Some n)) (stands (Some Body) a v k) = refl
as_its_item (MoreArguments zero) (FixedToken Close) (stands (Some Body) a v k) = refl
as_its_item (MoreArguments (suc n)) (FixedToken Comma) (stands (Some Body) a v k) = refl
as_its_item (Exactly Open) (FixedToken Open) (called (stands (Some Body) a v k)) = refl
as_its_item (Exactly Open) (FixedToken Open) (stands (Some Parameters) a v k) = refl
as_its_item (Exactly Comma) (FixedToken Comma) (stands (Some Bounds) a v k) = refl
as_its_item (Exactly Return) (FixedToken Return) (stands (Some Parameters) a v k) = refl
as_its_item (Exactly VariablesWord) (FixedToken VariablesWord) (stands (Some Parameters) a v k) = refl
as_its_item (Exactly ConstraintsWord) (FixedToken ConstraintsWord) (stands (Some Parameters) a v k) = refl
as_its_item (Exactly OpenBracket) (FixedToken OpenBracket) (stands (Some Parameters) a v k) = refl
as_its_item (Exactly CloseBracket) (FixedToken CloseBracket) (stands (Some Parameters) a v k) = refl
as_its_item (Exactly End) (FixedToken End) (stands (Some Parameters) a v k) = refl
as_its_item i (FixedToken EndOfText) x = refl
as_its_item i s x = refl

through_both : (items rest : List Item) (o : Option Place) → through (items ++ rest) o ≡ through rest (through items o)
through_both items rest None = refl
through_both [] rest (Some x) = refl
through_both (i ∷ items) rest (Some x) = through_both items rest (behind i x)

ready_after : (p : Option Produced) (o : Option Place) (y : Place) (e : Counts) (rest : List Item) → leads p o y ≡ o → IsAt y e → IsFound (through rest o) → ReadyAfter p e rest
ready_after None o y e rest same h f = tt
ready_after (Some p) None y e rest same h f = absurd f
ready_after (Some p) (Some z) y e rest same h f = (y, h, subst IsFound (sym (through_both p.0 rest (Some y))) (subst (λ (o : Option Place). IsFound (through rest o)) (sym same) f))

-- what is to come behind a token that is counted fits the new counts
pub kept : (i : Item) (s : Symbol) (c e : Counts) (rest : List Item) → Ready c (i ∷ rest) → counted c s ≡ Ok e → ReadyAfter (produced i s) e rest
kept i s c e rest (x, h, f) one = ready_after (produced i s) (behind i x) (after x s) e rest (as_its_item i s x) (follows x c e s h one) f

-- ---- An item that is left out

abbrev IsThere : Option Place → Counts → Type 0
IsThere None c = Unit {0}
IsThere (Some x) c = IsAt x c

left_place : (i : Item) (x : Place) (c : Counts) → MayEnd i → IsAt x c → IsThere (behind i x) c
left_place MaybeConstants (stands (Some Between) a v k) c may h = (tt, h.1)
left_place MoreConstants (stands (Some Constants) a v k) c may h = (tt, h.1)
left_place MaybeConstant (stands (Some Constants) a v k) c may h = (tt, h.1)
left_place MaybeFunctions (stands o true v k) c may h = (tt, h.1)
left_place MoreVariables (stands (Some Variables) a false k) c may h = (tt, h.1)
left_place MaybeVariable (stands (Some Variables) a false k) c may h = (tt, h.1)
left_place MoreConstraints (stands (Some Sides) a v k) c may h = (tt, (h.1.0, h.1.1, tt))
left_place MaybeConstraint (stands (Some NextConstraint) a v k) c may h = (tt, (h.1.0, h.1.1, tt))
left_place i (stands (Some Body) a v k) c may h = search
left_place i x c may h = search

still_ready : (o : Option Place) (c : Counts) (rest : List Item) → IsThere o c → IsFound (through rest o) → Ready c rest
still_ready None c rest h f = absurd f
still_ready (Some x) c rest h f = (x, h, f)

-- an item that is left out keeps the counts
pub left : (i : Item) (c : Counts) (rest : List Item) → MayEnd i → Ready c (i ∷ rest) → Ready c rest
left i c rest may (x, h, f) = still_ready (behind i x) c rest (left_place i x c may h) f

-- ---- The machine's steps, and the two starts

abbrev pub ReadyBehind : Option Item → Counts → List Item → Type 0
ReadyBehind None c rest = Unit {0}
ReadyBehind (Some i) c rest = Ready c (i ∷ rest)

pub settled_ready : (s : Symbol) (c : Counts) (items : List Item) (code : List Op) (o : Option Item) (rest : List Item) (code' : List Op) → Settles s items code o rest code' → Ready c items → ReadyBehind o c rest
settled_ready s c items code o rest code' (emptied ops) r = tt
settled_ready s c items code o rest code' (met i items' ops meets) r = r
settled_ready s c items code o rest code' (ended i items' ops o' rest' more may never k) r = settled_ready s c items' (ops ++ step_of i) o' rest' more k (left i c items' may r)

pub taken_ready : (i : Item) (s : Symbol) (c e : Counts) (rest : List Item) (code : List Op) (items' : List Item) (code' : List Op) (o : Option Produced) → produced i s ≡ o →
    Follows o rest code items' code' → counted c s ≡ Ok e → Ready c (i ∷ rest) → Ready e items'
taken_ready i s c e rest code items' code' None made f h r = absurd f
taken_ready i s c e rest code items' code' (Some p) made f h r =
    subst (Ready e) (sym f.0) (subst (λ (x : Option Produced). ReadyAfter x e rest) made (kept i s c e rest r h))

pub expression_starts : Ready (nothing Sides) expression_items
expression_starts = (stands (Some Sides) false false false, (refl, (tt, tt, tt)), tt)

pub system_starts : Ready (nothing Between) system_items
system_starts = (stands (Some Between) true true true, (refl, (refl, refl, refl)), tt)
