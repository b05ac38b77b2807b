-- The names of a text: what a token declares; the names of the variables differ, and the steps of the code
-- write variables that are there, constants within the limits, powers of at most 32, and calls of at most 12 arguments.
use Rattle.std.proofs.Common.{◌≡◌, ℕ, suc, ◌-◌, Bool, true, false, List, [], ◌∷◌, Option, Some, None, Ok, refl, ap, ◌∙◌, subst, ◌≢◌, map, sym, arith, is_some, AllPairs, if◌then◌else◌, ◌+◌, ◌<◌, ◌≤◌, nat_lt, length, rules, tests}
use Rattle.std.proofs.lemmas.Bool.{cond-true, cond_both, false≢true}
use Rattle.std.proofs.lemmas.List.Elements.{All-cons, All-nil}
use Rattle.std.proofs.lemmas.List.Kept.{AllPairs-cons}
use Rattle.std.proofs.lemmas.Slice.Eq.{bytes_eq-Decides}
use Rattle.std.specs.List.{AllByRecursion}
use Rattle.std.specs.Prelude.{All}
use Rattle.std.specs.Str.{bytes_eq}
use Rattle.pv_expr.specs.Systems.{IsOver}
use Rattle.pv_expr.specs.Terms.{Term}
use Rattle.pv_code.specs.Expansion.{run, top}
use Rattle.pv_code.specs.Fractions.{signed}
use Rattle.pv_code.specs.declared.code.Op.{Op}
use Rattle.pv_code.proofs.Over.{IsStep, term_over}
use Rattle.pv_grammar.specs.Counting.{AreCounted, Counted, counted, standing_of, in_phase, nothing}
use Rattle.pv_grammar.specs.Grammar.{expression_items}
use Rattle.pv_grammar.specs.Standings.{Standing, moved_to, standing_behind}
use Rattle.pv_grammar.specs.declared.counts.Counts.{Counts}
use Rattle.pv_grammar.specs.declared.counts.Phase.{Phase}
use Rattle.pv_grammar.specs.declared.counts.Phase.TheVariants.{Constants, Body, Variables, Sides, Parameters}
use Rattle.pv_grammar.specs.declared.symbol.Fixed.TheVariants.{End, Semicolon}
use Rattle.pv_grammar.specs.declared.symbol.Symbol.{Symbol}
use Rattle.pv_grammar.specs.declared.symbol.Symbol.TheVariants.{Fixed as FixedToken, Number, Declared, Never}
use Rattle.pv_grammar.proofs.Following.{stands_behind}
use Rattle.pv_grammar.proofs.Ready.{Gives, gives_if}
use Rattle.pv_grammar.proofs.TreeBuilding.{expression_tree}
use Rattle.pv_grammar.proofs.TreeSteps.{MayRaise, Writes, expression_steps}
use Rattle.pv_tokens.specs.Words.{word_in}
use Rattle.pv_tokens.specs.declared.keyword.Word.{Word}
use Rattle.pv_tokens.specs.declared.keyword.Word.TheVariants.{End as EndWord, Sqr as SqrWord}
use Rattle.pv_tokens.specs.declared.token.Kind.{Kind}
use Rattle.pv_tokens.specs.declared.token.Kind.TheVariants.{Name, Number as NumberKind}
use Rattle.pv_tokens.specs.declared.token.Token.{Token}
use Rattle.pv_tokens.proofs.Unique.{one_next}
use Rattle.pv_parse.specs.ByItems.{IsToldAs}
use Rattle.pv_parse.specs.Declarations.{Mark, Marks, MarksTo, mark_of, declares}
use Rattle.pv_parse.specs.Fractions.{HasFraction, HaveFractions}
use Rattle.pv_parse.specs.Meanings.{Names, learnt, use_of, KnowsVariables, numbered}
use Rattle.pv_parse.specs.Scopes.{Scoped, nothing_scoped, Variable, name_of, variable, variables_in}
use Rattle.pv_parse.specs.Sentences.{Spells, SpellsTo, StandsFor, bytes_of, name_symbol, word_symbol, IsNumberSymbol, MayRaise as MayBeRaised}
use Rattle.pv_parse.specs.declared.names.Meaning.{Meaning}
use Rattle.pv_parse.specs.declared.names.Meaning.TheVariants.{Constant as ConstantMeaning, Variable as VariableMeaning, Function as FunctionMeaning}
use Rattle.pv_parse.proofs.KnownNames.{name_is, not_taken}
use Rattle.pv_parse.proofs.NameBytes.{declared_name}
use Rattle.pv_parse.proofs.TreeDomains.{none_declared}

-- ---- What a token declares

abbrev pub IsNew : Standing → Symbol → Names → Meaning → Type 0
IsNew y (Declared taken) n m = (y.phase ≡ Variables) × (m ≡ VariableMeaning y.variables)
IsNew y (Number value exponent) n m = m ≡ ConstantMeaning (signed n.negative value)
IsNew y (FixedToken End) n m = m ≡ FunctionMeaning (y.functions - 1) y.parameters
IsNew y s n m = ⊥

learnt_in : (P : Option Meaning → Type 0) (p : Phase) (y : Standing) (s : Symbol) (bytes name : List ℕ) (n : Names) → ((m : Meaning) → IsNew (moved_to p y) s n m → P (Some m)) → P (n.known name) →
    P ((learnt (moved_to p y) s bytes n).known name)
learnt_in P Variables y (Declared taken) bytes name n new old = cond_both (bytes_eq bytes name) _ (n.known name) P (λ yes. new (VariableMeaning y.variables) (refl, refl)) (λ no. old)
learnt_in P Constants y (Number value exponent) bytes name n new old = cond_both (bytes_eq n.pending name) _ (n.known name) P (λ yes. new (ConstantMeaning (signed n.negative value)) refl) (λ no. old)
learnt_in P Body y (FixedToken End) bytes name n new old = cond_both (bytes_eq n.pending name) _ (n.known name) P (λ yes. new (FunctionMeaning (y.functions - 1) y.parameters) refl) (λ no. old)
learnt_in P p y (FixedToken End) bytes name n new old = old
learnt_in P p y s bytes name n new old = old

-- what holds of what a name was declared as before a token, and of what the token declares, holds behind it
pub learnt_known : (P : Option Meaning → Type 0) (y : Standing) (s : Symbol) (bytes name : List ℕ) (n : Names) → ((m : Meaning) → IsNew y s n m → P (Some m)) → P (n.known name) →
    P ((learnt y s bytes n).known name)
learnt_known P y s bytes name n new old = learnt_in P y.phase y s bytes name n new old

-- ---- Tokens beside their marks

abbrev pub Heard : List ℕ → Names → Counts → List Symbol → List Mark → Type 0
Heard t n c [] marks = marks ≡ []
Heard t n c (s ∷ ss) marks =
    (x : Token) × (d : Counts) × (rest : List Mark) × StandsFor c.phase n (bytes_of t x) x.kind s × (counted c s ≡ Ok d) × (marks ≡ mark_of t c.phase s x ∷ rest)
    × Heard t (learnt (standing_of c) s (bytes_of t x) n) d ss rest

heard : (t : List ℕ) (n : Names) (c : Counts) (from : ℕ) (ss : List Symbol) (to : ℕ) (m : Names) (marks : List Mark) (to' : ℕ) (e : Counts) →
    SpellsTo t n (standing_of c) from ss to m → Counted c ss e → MarksTo t (standing_of c) from ss marks to' → Heard t n c ss marks
heard t n c from [] to m marks to' e h j k = k.0
heard t n c from (s ∷ ss) to m marks to' e (x, next, inside, stands, rest) (d, one, counts) (y, ms, next', are, more) =
    let told : Names = learnt (standing_of c) s (bytes_of t x) n in
    let same : y ≡ x = one_next t from y x next' next in
    let behind : standing_behind (standing_of c) s ≡ standing_of d = sym (stands_behind c d s one) in
    let (rest', more') : SpellsTo t told (standing_of d) x.end ss to m × MarksTo t (standing_of d) x.end ss ms to' =
    subst (λ (z : Standing). SpellsTo t told z x.end ss to m × MarksTo t z x.end ss ms to') behind (rest, subst (λ (z : Token). MarksTo t (standing_behind (standing_of c) s) z.end ss ms to') same more) in
    (x, d, ms, stands, one, are ∙ ap (λ (z : Token). mark_of t c.phase s z ∷ ms) same, heard t told d x.end ss to m ms to' e rest' counts more')

pub all_heard : (t : List ℕ) (n : Names) (c : Counts) (ss : List Symbol) (marks : List Mark) → Spells t n (standing_of c) ss → AreCounted c ss → Marks t (standing_of c) ss marks → Heard t n c ss marks
all_heard t n c ss marks (to, m, x, h, next, ends) (e, k) (to', g) = heard t n c 0 ss to m marks to' e h k g

-- ---- The names of the variables differ, since a name that is known is refused

none_of : (o : Option Meaning) → Declared false ≡ Declared (is_some o) → o ≡ None
none_of None e = refl
none_of (Some m) e = absurd (cc)

free_name : (n : Names) (bytes : List ℕ) (w : Option Word) → Declared false ≡ name_symbol Variables n bytes w → n.known bytes ≡ None
free_name n bytes (Some EndWord) e = absurd (cc)
free_name n bytes (Some w) e = absurd (cc)
free_name n bytes None e = none_of (n.known bytes) e

-- such a name was not known
unknown_before : (p : Phase) (c d : Counts) (n : Names) (bytes : List ℕ) (kind : Kind) (s : Symbol) → declares p s ≡ true → StandsFor p n bytes kind s → counted (in_phase p c) s ≡ Ok d → n.known bytes ≡ None
unknown_before Variables c d n bytes kind (Declared true) e stands one = absurd (not_taken (in_phase Variables c) d one)
unknown_before Variables c d n bytes kind (Declared false) e stands one =
    free_name n bytes (word_in bytes) (rw (declared_name Variables n bytes kind false stands) at stands)
unknown_before p c d n bytes kind s e stands one = absurd (false≢true e)

-- and is from here on
known_behind : (p : Phase) (c : Counts) (n : Names) (bytes : List ℕ) (s : Symbol) → declares p s ≡ true → (learnt (standing_of (in_phase p c)) s bytes n).known bytes ≡ None → ⊥
known_behind Variables c n bytes (Declared taken) e h =
    let no : Some (VariableMeaning c.variables) ≡ None = sym (cond-true (bytes_eq bytes bytes) _ (n.known bytes) ((bytes_eq-Decides bytes bytes).1 refl)) ∙ h in cc
known_behind p c n bytes s e h = false≢true e

-- what is known stays known
known_back : (c : Counts) (s : Symbol) (bytes : List ℕ) (n : Names) (name : List ℕ) → (learnt (standing_of c) s bytes n).known name ≡ None → n.known name ≡ None
known_back c s bytes n name = learnt_known (λ (o : Option Meaning). o ≡ None → n.known name ≡ None) (standing_of c) s bytes name n (λ m new e. absurd (cc)) (λ e. e)

abbrev AreNew : Names → List (List ℕ) → Type 0
AreNew n vs = All (λ v. n.known v ≡ None) vs

abbrev AreApart : Names → List (List ℕ) → Type 0
AreApart n vs = AllPairs (λ x y. x ≢ y) vs × AreNew n vs

apart_step : (b : Bool) (c d : Counts) (n : Names) (bytes : List ℕ) (kind : Kind) (s : Symbol) (ms : List Mark) (vs : List Variable) → declares c.phase s ≡ b → StandsFor c.phase n bytes kind s →
    counted c s ≡ Ok d → AreApart (learnt (standing_of c) s bytes n) (map name_of vs) → AreApart n (map name_of (if b then variable bytes ms ∷ vs else vs))
apart_step true c d n bytes kind s ms vs e stands one h = (
  AllPairs-cons (λ x y. x ≢ y) bytes (map name_of vs)
      (λ k z l same. known_behind c.phase c n bytes s e (subst (λ (q : List ℕ). (learnt (standing_of c) s bytes n).known q ≡ None) (sym same) (h.1 k z l))) h.0,
  All-cons (λ v. n.known v ≡ None) bytes (map name_of vs) (unknown_before c.phase c d n bytes kind s e stands one) (λ k z l. known_back c s bytes n _ (h.1 k z l)),
)
apart_step false c d n bytes kind s ms vs e stands one h = (h.0, λ k z l. known_back c s bytes n _ (h.1 k z l))

pub names_apart : (t : List ℕ) (n : Names) (c : Counts) (ss : List Symbol) (marks : List Mark) → Heard t n c ss marks → AreApart n (map name_of (variables_in marks))
names_apart t n c [] marks none =
    rw none (λ i j z lt within. absurd (omega (arith, within)), All-nil (λ v. n.known v ≡ None))
names_apart t n c (s ∷ ss) marks (x, d, rest, stands, one, are, more) =
    rw are (apart_step (declares c.phase s) c d n (bytes_of t x) x.kind s rest (variables_in rest) refl stands one (names_apart t (learnt (standing_of c) s (bytes_of t x) n) d ss rest more))

-- ---- Steps

-- what a name was declared as, where there are n variables
abbrev IsFit : ℕ → Option Meaning → Type 0
IsFit n (Some (VariableMeaning i)) = i < n
IsFit n (Some (FunctionMeaning number arity)) = arity ≤ 12
IsFit n o = Unit {0}

new_fit : (n : ℕ) (y : Standing) (s : Symbol) (known : Names) (m : Meaning) → (declares y.phase s ≡ true → y.variables < n) → y.parameters ≤ 12 → IsNew y s known m → IsFit n (Some m)
new_fit n y (Declared taken) known m room few (at, is) = rw is (room (ap (λ (p : Phase). declares p (Declared taken)) at))
new_fit n y (Number value exponent) known m room few is = rw is tt
new_fit n y (FixedToken End) known m room few is = rw is few
new_fit n y s known m room few is = absurd is

word_step : (n : ℕ) (w : Word) → Writes (IsStep n) (word_symbol w)
word_step n SqrWord = omega arith
word_step n w = tt

used_step : (n : ℕ) (o : Option Meaning) → IsFit n o → HasFraction (use_of true o) → Writes (IsStep n) (use_of true o)
used_step n (Some (ConstantMeaning value)) h f = f
used_step n (Some (VariableMeaning i)) h f = h
used_step n (Some (FunctionMeaning number (suc further))) h f = h
used_step n o h f = tt

power_step : (n : ℕ) (bytes : List ℕ) (e : Option ℕ) → MayBeRaised bytes e → MayRaise (IsStep n) e
power_step n bytes None h = tt
power_step n bytes (Some k) h = h.most

number_step : (n : ℕ) (bytes : List ℕ) (s : Symbol) → IsNumberSymbol bytes s → HasFraction s → Writes (IsStep n) s
number_step n bytes (Number value exponent) h f = (f, power_step n bytes exponent h.1)
number_step n bytes (Never cause) h f = tt
number_step n bytes s h f = absurd h

stands_step : (n : ℕ) (p : Phase) (known : Names) (bytes : List ℕ) (k : Kind) (s : Symbol) → StandsFor p known bytes k s → IsFit n (known.known bytes) → HasFraction s → Writes (IsStep n) s
stands_step n p known bytes Name s e h =
    subst (λ (z : Symbol). HasFraction z → Writes (IsStep n) z) (sym e)
    (name_is (λ (z : Symbol). HasFraction z → Writes (IsStep n) z) (record { word = λ w f. word_step n w; unknown = λ f. tt; declared = λ taken f. tt; parameter = λ i f. tt }) p known bytes (word_in bytes)
    (used_step n (known.known bytes) h))
stands_step n p known bytes NumberKind s e h = number_step n bytes s e
stands_step n p known bytes k s e h = λ f. subst (Writes (IsStep n)) (sym e) tt

-- a token declares a parameter only where there is room
few_behind : (p : Phase) (c d : Counts) (s : Symbol) → counted (in_phase p c) s ≡ Ok d → d.parameters ≡ (standing_behind (standing_of (in_phase p c)) s).parameters → c.parameters ≤ 12 → d.parameters ≤ 12
few_behind Parameters c d (Declared taken) one same few =
    subst (Gives (λ e. e.parameters ≤ 12)) one (gives_if _ (nat_lt c.parameters 12) _ _ (λ t. gives_if _ taken _ _ (λ u. tt) (search (rules, tests))) tt)
few_behind Body c d (FixedToken End) one same few = omega (arith, same)
few_behind p c d (FixedToken Semicolon) one same few = omega (arith, same, few)
few_behind p c d s one same few = omega (arith, same, few)

-- a token that declares a variable is one more
moved_variables : (p : Phase) (s : Symbol) (y : Standing) → (standing_behind (moved_to p y) s).variables ≡ (if declares p s then y.variables + 1 else y.variables)
moved_variables Variables (Declared taken) y = refl
moved_variables p (FixedToken Semicolon) y = refl
moved_variables p s y = refl

-- so there is room for those to come
room_left : (b : Bool) (v : Variable) (vs : List Variable) (before behind n : ℕ) → behind ≡ (if b then before + 1 else before) → before + length (if b then v ∷ vs else vs) ≤ n →
    (behind + length vs ≤ n) × (b ≡ true → before < n)
room_left true v vs before behind n e h = (omega (arith, e, h), λ is. omega (arith, h))
room_left false v vs before behind n e h = (omega (arith, e, h), λ is. absurd (false≢true is))

pub steps_written : (n : ℕ) (t : List ℕ) (known : Names) (c : Counts) (ss : List Symbol) (marks : List Mark) → Heard t known c ss marks → HaveFractions marks → ((name : List ℕ) → IsFit n (known.known name)) →
    c.parameters ≤ 12 → c.variables + length (variables_in marks) ≤ n → AllByRecursion (Writes (IsStep n)) ss
steps_written n t known c [] marks h fractions fit few room = tt
steps_written n t known c (s ∷ ss) marks (x, d, rest, stands, one, are, more) fractions fit few room =
    let here : HaveFractions (mark_of t c.phase s x ∷ rest) = rw are at fractions in
    let behind = stands_behind c d s one in
    let variables = ap (λ (y : Standing). y.variables) behind ∙ moved_variables c.phase s (standing_of c) in
    let few' = few_behind c.phase c d s one (ap (λ (y : Standing). y.parameters) behind) few in
    let left = room_left (declares c.phase s) (variable (bytes_of t x) rest) (variables_in rest) c.variables d.variables n variables (rw are at room) in
    let fit' = λ (name : List ℕ). learnt_known (IsFit n) (standing_of c) s (bytes_of t x) name known (λ m new. new_fit n (standing_of c) s known m left.1 few new) (fit name) in (
      stands_step n c.phase known (bytes_of t x) x.kind s stands (fit (bytes_of t x)) here.0,
      steps_written n t (learnt (standing_of c) s (bytes_of t x) known) d ss rest more here.1 fit' few' left.0,
    )

-- ---- An expression

-- what holds of no name and of each variable below n holds of the names of so many variables
pub numbered_is : (P : Option Meaning → Type 0) (n : ℕ) → P None → ((i : ℕ) → i < n → P (Some (VariableMeaning i))) → (variables : List (List ℕ)) (i : ℕ) (name : List ℕ) → length variables + i ≤ n →
    P (numbered variables i name)
numbered_is P n none some [] i name h = none
numbered_is P n none some (v ∷ vs) i name h =
    cond_both (bytes_eq v name) (Some (VariableMeaning i)) (numbered vs (i + 1) name) P (λ yes. some i (omega (arith, h))) (λ no. numbered_is P n none some vs (i + 1) name (omega (arith, h)))

pub expression_over : (variables : List (List ℕ)) (t : List ℕ) (known : Names) (code : List Op) (x : Term) (new : Scoped) → KnowsVariables variables known →
    IsToldAs t known (nothing Sides) expression_items [] code nothing_scoped new → x ≡ top (run [] [] code []) → IsOver (length variables) x
expression_over variables t known code x new knows s is =
    let n : ℕ = length variables in
    let (e, symbols, steps) = expression_tree s.symbols s.steps s.derived s.are_known in
    let none = none_declared t e s.marks (rw symbols at s.marked) in
    let fit : (name : List ℕ) → IsFit n (known.known name) = λ name. rw (knows.known name) (numbered_is (IsFit n) n tt (λ i l. l) variables 0 name (omega arith)) in
    let written = steps_written n t known (nothing Sides) s.symbols s.marks (all_heard t known (nothing Sides) s.symbols s.marks s.spelled s.within s.marked) s.fractions fit (omega arith) (omega (arith, none)) in
    rw is (term_over n code (rw (s.code_is ∙ steps) (expression_steps n e (rw symbols at written))))
