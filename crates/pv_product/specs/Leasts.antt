-- What `least` finds of the least value of an expression over the set of a system, and how it is printed.
use Rattle.std.specs.Prelude.{◌≡◌, ◌↔◌, ℕ, Bool, List, [], ◌∷◌, ◌++◌, Option, Some, None, IfSome, IsTrue, codes}
use Rattle.clap.specs.Words.{Text}
use Rattle.pv_num.specs.Extended.{Extended}
use Rattle.pv_num.specs.Parts.{number_text}
use Rattle.pv_interval.specs.Bounds.{Bounds}
use Rattle.pv_interval.specs.Points.{Point}
use Rattle.pv_expr.specs.Terms.{Term}
use Rattle.pv_tree.specs.Trees.{Tree, counts_of, settled_of}
use Rattle.pv_slope.specs.Methods.{Method, settle_by, is_member}
use Rattle.pv_grammar.specs.declared.cause.Cause.{Cause}
use Rattle.pv_parse.specs.Declarations.{IsExpressionMeaning}
use Rattle.pv_parse.specs.Faults.{IsExpressionFaultOf}
use Rattle.pv_least.specs.Searches.{searched, lower_of, best_of, next_of}
use Rattle.pv_least.specs.Promises.{NoneIsBelow, IsWitness}
use Rattle.pv_least.specs.declared.found.BestPoint.{BestPoint}
use Rattle.pv_least.specs.declared.found.Least.{Least}
use Rattle.pv_rule.specs.Systems.{Files, SpellsProp, HasRule, RefusesRule, EachHolds, search_box}
use Rattle.pv_request.specs.declared.request.Settings.{Settings}
use Rattle.pv_request.specs.declared.request.Search.{Search}
use Rattle.pv_request.specs.declared.refusal.Refusal.{Refusal}
use Rattle.pv_request.specs.declared.refusal.Refusal.TheVariants.{Memory, Objective}

-- ---- What is printed

-- each number after a space
abbrev pub numbers_text : List Extended → List ℕ
numbers_text [] = []
numbers_text (n ∷ ns) = (32 ∷ number_text n) ++ numbers_text ns

-- the lines behind the lower bound: a bound above the value at the best point, and the point
unfoldable pub best_text : BestPoint → List ℕ
best_text p = codes "upper " ++ (number_text p.upper ++ 10 ∷ (codes "point" ++ (numbers_text p.point ++ 10 ∷ [])))

abbrev pub upper_text : Option BestPoint → List ℕ
upper_text None = codes "upper none" ++ 10 ∷ []
upper_text (Some p) = best_text p

abbrev pub least_text : Least → List ℕ
least_text l = codes "lower " ++ (number_text l.lower ++ 10 ∷ upper_text l.best)

-- ---- What is found

-- No member of a box at which the term is defined has a value below the lower bound. Where a point is given, it is a member
-- of the box, the term is defined there, and its value is at most the upper bound.
pub record AreBounds (inside : Point → Type 0) (t : Term) (b : List Bounds) (l : Least) : Type 0 where
  pub none_below : NoneIsBelow inside t b l.lower
  pub witness : IfSome l.best (IsWitness inside t b)

-- the paving of a box after a budget of settlings, each of the leaf that comes next
abbrev pub searched_by : Method → List Bounds → Term → ℕ → Tree
searched_by rule b t budget = searched (settle_by rule) rule.parts.depth t b budget

-- the leaf that would be settled next behind the budget
abbrev pub next_in : Method → List Bounds → Term → ℕ → Option (List Bool)
next_in rule b t budget = next_of t b (searched_by rule b t budget)

-- what that paving tells of the least value of a term
pub record IsLeastBy (rule : Method) (b : List Bounds) (t : Term) (budget : ℕ) (l : Least) : Type 0 where
  pub lower : l.lower ≡ lower_of t b (searched_by rule b t budget)
  pub best : l.best ≡ best_of t b (searched_by rule b t budget)
  pub settled : l.settled ≡ settled_of (counts_of (searched_by rule b t budget))
  pub done : IsTrue l.done ↔ (next_in rule b t budget ≡ None)
  pub bounds : AreBounds (is_member rule) t b l

-- The file of this name holds a system, the text is an expression over its variables, and this is found of its least
-- value. By `prop(n)`, whatever n, the bounds are those over the points at which every constraint holds.
pub record HasLeast (before : Files) (system : Text) (s : Settings) (search : Search) (l : Least) : Type 0 where
  pub rule : Method
  pub read : HasRule before system s rule
  pub term : Term
  pub means : IsExpressionMeaning rule.parts.system.names search.of.now term
  pub is : IsLeastBy rule (search_box rule) term search.boxes l
  pub by_prop : (n : ℕ) → SpellsProp rule.parts.system s n → AreBounds (EachHolds rule.parts.system.constraints) term (search_box rule) l

-- ---- Why nothing is found

-- why a text is no expression over these variables
abbrev pub RefusesObjective : List (List ℕ) → Text → Refusal → Type 0
RefusesObjective variables text (Objective byte cause) = IsExpressionFaultOf variables text byte cause
RefusesObjective variables text Memory = Unit {0}
RefusesObjective variables text _ = ⊥

-- the system is there, and the text has this fault at this byte
pub record HasBadObjective (before : Files) (system : Text) (s : Settings) (of : Text) (byte : ℕ) (cause : Cause) : Type 0 where
  pub rule : Method
  pub read : HasRule before system s rule
  pub fault : IsExpressionFaultOf rule.parts.system.names of byte cause

-- the first refusal of the system, of its settings and of the text
abbrev pub RefusesLeast : Files → Files → Text → Settings → Text → Refusal → Type 0
RefusesLeast before after system s of (Objective byte cause) = HasBadObjective before system s of byte cause
RefusesLeast before after system s of r = RefusesRule before after system s r
