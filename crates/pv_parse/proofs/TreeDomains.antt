-- The domains that a text declares between its brackets are those of its tree.
use Rattle.std.proofs.Common.{◌≡◌, ℕ, Bool, true, false, List, [], ◌∷◌, ◌++◌, length, map, Option, None, if◌then◌else◌, refl, sym, ap, ◌∙◌}
use Rattle.std.proofs.lemmas.List.{length-map}
use Rattle.std.specs.Prelude.{option_to_list}
use Rattle.pv_expr.specs.declared.domain.Bound.{Bound}
use Rattle.pv_expr.specs.declared.domain.Domain.{Domain}
use Rattle.pv_grammar.specs.declared.counts.Phase.{Phase}
use Rattle.pv_code.specs.declared.code.Op.{Op}
use Rattle.pv_grammar.specs.declared.counts.Phase.TheVariants.{Between, Variables as VariablesPhase, Bounds, NextConstraint, Sides}
use Rattle.pv_grammar.specs.declared.symbol.Fixed.TheVariants.{Variables as VariablesWord, Constraints as ConstraintsWord, End}
use Rattle.pv_grammar.specs.declared.symbol.Symbol.{Symbol}
use Rattle.pv_grammar.specs.declared.symbol.Symbol.TheVariants.{Fixed as FixedToken, Declared}
use Rattle.pv_grammar.specs.Productions.{Bound as BoundTree, Expression, Functions, Limit, Separator, System, Variable, Variables, between, bound_of, bound_symbols, comma, expression_symbols, function_and, function_of, functions_symbols, infinite_limit, limit_symbol, minus_sign, no_domain, no_function, no_variable, semicolon, separator_symbol, system_of, system_symbols, variable_and, variable_of, variable_symbols, variables_separator, variables_symbols}
use Rattle.pv_grammar.specs.Standings.{Standing, behind_name, first_in, is_minus, moved_to, standing_behind}
use Rattle.pv_grammar.specs.TreeCodes.{expression_code, system_code}
use Rattle.pv_grammar.specs.Trees.{end_of, limit_of, system_domains, variable_domain, variables_domains}
use Rattle.pv_grammar.proofs.TreeSteps.{Fronts, IsQuiet, Walks, all_write, block_front, constraint_front, constraints_front, expression_walk, functions_front, inner_quiet}
use Rattle.pv_parse.specs.Declarations.{Mark, Marks, MarksTo, brackets_in, declares, names_in, own}
use Rattle.pv_parse.specs.Scopes.{Variable as Declaration, bound_at, bounds_of, bracket_in, domain_in, domain_of, name_of, variable, variables_in}

-- ---- What tokens declare

-- the bounds up to the next name of a variable, and the domains from there on
abbrev Found : Type 0
Found = List Bound × List Domain

abbrev with_token : Bool → Option Bound → Found → Found
with_token true o r = ([], domain_of r.0 ∷ r.1)
with_token false o r = (option_to_list o ++ r.0, r.1)

-- where the text stands so, and the token before is `-` or isn't
abbrev found : Standing → Bool → List Symbol → Found
found y b [] = ([], [])
found y b (s ∷ ss) = with_token (declares y.phase s) (bound_at y.phase s b) (found (standing_behind y s) (is_minus s) ss)

abbrev found_in : Bool → List Mark → Found
found_in b ms = (bounds_of b (own ms), map domain_in (variables_in ms))

one_found : (p : Phase) (s : Symbol) (start : ℕ) (bytes : List ℕ) (ms : List Mark) (b : Bool) →
    found_in b (record { symbol = s; phase = p; start = start; bytes = bytes } ∷ ms) ≡ with_token (declares p s) (bound_at p s b) (found_in (is_minus s) ms)
one_found VariablesPhase (Declared taken) start bytes ms b = refl
one_found p s start bytes ms b = refl

all_found : (t : List ℕ) (y : Standing) (from : ℕ) (ss : List Symbol) (marks : List Mark) (to : ℕ) → MarksTo t y from ss marks to → (b : Bool) → found_in b marks ≡ found y b ss
all_found t y from [] marks to h b = ap (found_in b) h.0
all_found t y from (s ∷ ss) marks to (x, rest, next, are, more) b =
    ap (found_in b) are
    ∙ (one_found y.phase s _ _ rest b ∙ ap (with_token (declares y.phase s) (bound_at y.phase s b)) (all_found t (standing_behind y s) x.end ss rest to more (is_minus s)))

-- ---- Away from variables

abbrev IsAway : Phase → Type 0
IsAway VariablesPhase = ⊥
IsAway Bounds = ⊥
IsAway p = Unit {0}

away_found : (p : Phase) (s : Symbol) (b : Bool) (r : Found) → IsAway p → with_token (declares p s) (bound_at p s b) r ≡ r
away_found Bounds s b r a = absurd a
away_found p s b r a = search

stays_away : (p : Phase) (s : Symbol) (a f v : ℕ) → IsQuiet s → IsAway p → IsAway (standing_behind (record { phase = p; parameters = a; functions = f; variables = v }) s).phase
stays_away Bounds s a f v q h = absurd h
stays_away p (FixedToken VariablesWord) a f v q h = absurd q
stays_away p s a f v q h = search

-- away from variables, these domains are found, and no bound before the first name; with a code beside it, as walks over trees have it
record Tells (ds : List Domain) (ss : List Symbol) (k : List Op) : Type 0 where
  tells : (y : Standing) (b : Bool) → IsAway y.phase → found y b ss ≡ ([], ds)

-- the same in the block of variables
record Follows (ds : List Domain) (ss : List Symbol) (k : List Op) : Type 0 where
  follows : (y : Standing) (b : Bool) → found (moved_to VariablesPhase y) b ss ≡ ([], ds)

module _ (ds : List Domain) where
  quiet : Fronts IsQuiet (Tells ds)
  quiet = record {
    front = λ s q x. record {
      tells = λ y b a. away_found y.phase s b _ a ∙ x.tells (standing_behind y s) (is_minus s) (stays_away y.phase s y.parameters y.functions y.variables q a);
    };
  }

  walk : Walks (λ o. Unit {0}) (Tells ds)
  walk = record { own = λ o h. tt; token = λ s i x. quiet.front s (inner_quiet s i) (x (all_write s)); step = λ o p x. record { tells = x.tells } }

-- ---- In the block of variables

abbrev behind_bound : Bound → Found → Found
behind_bound v r = (v ∷ r.0, r.1)

limit_found : (x : Limit) (b : Bool) (k : List Symbol) (y : Standing) → found (moved_to Bounds y) b (limit_symbol x ∷ k) ≡ behind_bound (limit_of b x) (found (moved_to Bounds y) false k)
limit_found infinite_limit b k y = refl
limit_found x b k y = refl

bound_found : (x : BoundTree) (k : List Symbol) (y : Standing) → found (moved_to Bounds y) false (bound_symbols x k) ≡ behind_bound (end_of x) (found (moved_to Bounds y) false k)
bound_found (bound_of minus_sign x) k y = limit_found x true k y
bound_found (bound_of s x) k y = limit_found x false k y

variable_follows : {ds : List Domain} {ss : List Symbol} {k : List Op} (x : Variable) → Follows ds ss k → Follows (variable_domain x ∷ ds) (variable_symbols x ss) k
variable_follows (variable_of no_domain) h = record { follows = λ y b. ap (with_token true None) (h.follows (behind_name VariablesPhase y) false) }
variable_follows (variable_of (between lo hi)) h = record {
  follows = λ y b.
      let z = behind_name VariablesPhase y in
      ap (with_token true None) (bound_found lo _ z ∙ ap (behind_bound (end_of lo)) (bound_found hi _ z ∙ ap (behind_bound (end_of hi)) (h.follows z false)));
}

separator_follows : {ds : List Domain} {ss : List Symbol} {k : List Op} (x : Separator) → Follows ds ss k → Follows ds (separator_symbol x ∷ ss) k
separator_follows comma h = record { follows = λ y b. h.follows y false }
separator_follows semicolon h = record { follows = λ y b. h.follows y false }

variables_follow : {ss : List Symbol} {k : List Op} (vs : Variables) → Follows [] ss k → Follows (variables_domains vs) (variables_symbols vs ss) k
variables_follow no_variable h = h
variables_follow (variables_separator x) h = separator_follows x h
variables_follow (variable_and x v more) h = separator_follows x (variable_follows v (variables_follow more h))

-- before the block, and behind it, it is as away from it
word_tells : {ds : List Domain} {ss : List Symbol} {k : List Op} → Follows ds ss k → Tells ds (FixedToken VariablesWord ∷ ss) k
word_tells h = record { tells = λ y b a. away_found y.phase (FixedToken VariablesWord) b _ a ∙ h.follows y false }

constraints_tell : {ds : List Domain} {ss : List Symbol} {k : List Op} → Tells ds ss k → Tells ds (FixedToken ConstraintsWord ∷ ss) k
constraints_tell h = record { tells = λ y b a. away_found y.phase (FixedToken ConstraintsWord) b _ a ∙ h.tells (moved_to NextConstraint y) false tt }

functions_follow : {k : List Op} (fs : Functions) (ss : List Symbol) → Tells [] (functions_symbols fs (FixedToken ConstraintsWord ∷ ss)) k → Follows [] (functions_symbols fs (FixedToken ConstraintsWord ∷ ss)) k
functions_follow no_function ss h = record { follows = λ y b. h.tells (moved_to Between y) b tt }
functions_follow (function_and (function_of ps body inner outer) more) ss h = record { follows = λ y b. h.tells (moved_to Between y) b tt }

tree_found : (x : System) → Tells (system_domains x) (system_symbols x []) (system_code x [])
tree_found (system_of block before v vs behind c cs) =
    let ds : List Domain = system_domains (system_of block before v vs behind c cs) in
    let last : Tells [] (FixedToken End ∷ []) [] = record { tells = λ y b a. away_found y.phase (FixedToken End) b _ a } in
    let sides = constraint_front (quiet []) (walk []) c (constraints_front (quiet []) (walk []) cs last) in
    let late = functions_follow behind _ (functions_front (quiet []) (walk []) behind (constraints_tell sides)) in
    block_front (quiet ds) block (functions_front (quiet ds) (walk ds) before (word_tells (variable_follows v (variables_follow vs late))))

told_domains : (t : List ℕ) (y : Standing) (ss : List Symbol) (marks : List Mark) (ds : List Domain) (k : List Op) → Marks t y ss marks → Tells ds ss k → IsAway y.phase →
    map domain_in (variables_in marks) ≡ ds
told_domains t y ss marks ds k marked x away = ap (λ (r : Found). r.1) (all_found t y 0 ss marks marked.0 marked.1 false ∙ x.tells y false away)

pub domains_of_tree : (t : List ℕ) (x : System) (marks : List Mark) → Marks t (first_in Between) (system_symbols x []) marks → map domain_in (variables_in marks) ≡ system_domains x
domains_of_tree t x marks marked = told_domains t (first_in Between) (system_symbols x []) marks (system_domains x) (system_code x []) marked (tree_found x) tt

-- an expression declares nothing
pub none_declared : (t : List ℕ) (e : Expression) (marks : List Mark) → Marks t (first_in Sides) (expression_symbols e []) marks → length (variables_in marks) ≡ 0
none_declared t e marks marked =
    let found : Tells [] (expression_symbols e []) (expression_code e []) = expression_walk (walk []) e (record { tells = λ y b a. refl }) in
    sym (length-map (variables_in marks) domain_in) ∙ ap length (told_domains t (first_in Sides) (expression_symbols e []) marks [] (expression_code e []) marked found tt)

-- ---- Names and brackets

if_map : {X : Type 0} (f : Declaration → X) (b : Bool) (v : Declaration) (vs : List Declaration) (xs : List X) → map f vs ≡ xs → map f (if b then v ∷ vs else vs) ≡ (if b then f v ∷ xs else xs)
if_map f true v vs xs h = ap (λ z. f v ∷ z) h
if_map f false v vs xs h = h

pub names_named : (ms : List Mark) → map name_of (variables_in ms) ≡ names_in ms
names_named [] = refl
names_named (m ∷ ms) = if_map name_of (declares m.phase m.symbol) (variable m.bytes ms) (variables_in ms) (names_in ms) (names_named ms)

pub brackets_named : (ms : List Mark) → map bracket_in (variables_in ms) ≡ brackets_in ms
brackets_named [] = refl
brackets_named (m ∷ ms) = if_map bracket_in (declares m.phase m.symbol) (variable m.bytes ms) (variables_in ms) (brackets_in ms) (brackets_named ms)
