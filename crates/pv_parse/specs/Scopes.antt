-- What the reader keeps of a text, and how a token changes it. It is for the proofs of the reader: no public contract cites it.
use Rattle.std.specs.Prelude.{if◌then◌else◌, ◌++◌, ◌∷◌, ◌≡◌, Bool, Err, List, None, Ok, Option, Some, [], false, map, option_to_list, string_bytes, ℕ}
use Rattle.pv_expr.specs.declared.domain.Bound.{Bound}
use Rattle.pv_expr.specs.declared.domain.Bound.TheVariants.{MinusOo, PlusOo}
use Rattle.pv_expr.specs.declared.domain.Domain.{Domain}
use Rattle.pv_code.specs.Fractions.{signed}
use Rattle.pv_grammar.specs.declared.cause.Cause.{Cause}
use Rattle.pv_grammar.specs.declared.counts.Phase.{Phase}
use Rattle.pv_grammar.specs.declared.counts.Phase.TheVariants.{Bounds, Variables}
use Rattle.pv_grammar.specs.declared.symbol.Fixed.TheVariants.{Oo, OpenBracket}
use Rattle.pv_grammar.specs.declared.symbol.Symbol.{Symbol}
use Rattle.pv_grammar.specs.declared.symbol.Symbol.TheVariants.{Constant, Declared, Fixed as FixedToken, Number}
use Rattle.pv_grammar.specs.Counting.{counted, standing_of}
use Rattle.pv_grammar.specs.Standings.{is_minus}
use Rattle.pv_grammar.specs.Trees.{infinite, value_of}
use Rattle.pv_parse.specs.declared.state.State.{State}
use Rattle.pv_parse.specs.declared.variable.Variable.{Variable as Kept}
use Rattle.pv_parse.specs.Declarations.{Mark, begins_constraint, bracket_of, declares, own}
use Rattle.pv_parse.specs.Meanings.{AreSame, learnt}
use Rattle.pv_parse.specs.Views.{view}

-- ---- Variables with what is written behind their names

-- a variable's declaration; the bracket is where the `[` of its domain stands
pub record Variable : Type 0 where
  pub name : List ℕ
  pub domain : Domain
  pub bracket : ℕ

-- the bound that a token between brackets is, where `-` stands before it or doesn't: a number, a constant's value, or `oo`
abbrev pub bound_at : Phase → Symbol → Bool → Option Bound
bound_at Bounds (Number v exponent) negative = Some (value_of (signed negative v))
bound_at Bounds (Constant v) negative = Some (value_of (signed negative v))
bound_at Bounds (FixedToken Oo) negative = Some (infinite negative)
bound_at p s negative = None

-- the bounds among these tokens, in order
abbrev pub bounds_of : Bool → List Mark → List Bound
bounds_of negative [] = []
bounds_of negative (m ∷ ms) = option_to_list (bound_at m.phase m.symbol negative) ++ bounds_of (is_minus m.symbol) ms

-- an omitted domain is [-oo, oo]
abbrev pub everything : Domain
everything = record { lo = MinusOo; hi = PlusOo }

-- the lower bound comes first: the upper one moves it on to its place
abbrev pub bounded : Bound → Domain → Domain
bounded b d = record { lo = d.hi; hi = b }

abbrev pub bounded_by : List Bound → Domain → Domain
bounded_by [] d = d
bounded_by (b ∷ bs) d = bounded_by bs (bounded b d)

abbrev pub domain_of : List Bound → Domain
domain_of bs = bounded_by bs everything

-- a variable of a name, with what is written up to the next one
abbrev pub variable : List ℕ → List Mark → Variable
variable name ms = record { name = name; domain = domain_of (bounds_of false (own ms)); bracket = bracket_of 0 (own ms) }

-- the variables that these tokens declare, in order
abbrev pub variables_in : List Mark → List Variable
variables_in [] = []
variables_in (m ∷ ms) = if declares m.phase m.symbol then variable m.bytes ms ∷ variables_in ms else variables_in ms

abbrev pub name_of : Variable → List ℕ
name_of v = v.name

abbrev pub domain_in : Variable → Domain
domain_in v = v.domain

abbrev pub bracket_in : Variable → ℕ
bracket_in v = v.bracket

-- ---- Variables, token by token

-- nothing is written behind the name yet
abbrev pub unbounded : List ℕ → Variable
unbounded name = record { name = name; domain = everything; bracket = 0 }

abbrev pub with_bound : Bound → Variable → Variable
with_bound b v = record { name = v.name; domain = bounded b v.domain; bracket = v.bracket }

abbrev pub with_bracket : ℕ → Variable → Variable
with_bracket start v = record { name = v.name; domain = v.domain; bracket = start }

-- the last of a list is changed
abbrev pub with_last : {X : Type 0} → (X → X) → List X → List X
with_last f [] = []
with_last f (x ∷ []) = f x ∷ []
with_last f (x ∷ (y ∷ ys)) = x ∷ with_last f (y ∷ ys)

abbrev pub behind_bound : Option Bound → List Variable → List Variable
behind_bound None vs = vs
behind_bound (Some b) vs = with_last (with_bound b) vs

-- a token at a place with these bytes, where the one before is `-` or isn't
abbrev pub variables_behind : Phase → Symbol → Bool → ℕ → List ℕ → List Variable → List Variable
variables_behind p (FixedToken OpenBracket) negative start bytes vs = with_last (with_bracket start) vs
variables_behind Variables (Declared taken) negative start bytes vs = vs ++ unbounded bytes ∷ []
variables_behind p s negative start bytes vs = behind_bound (bound_at p s negative) vs

abbrev pub starts_behind : Phase → Symbol → ℕ → List ℕ → List ℕ
starts_behind p s start starts = if begins_constraint p s then starts ++ start ∷ [] else starts

-- ---- The state

-- what is declared, where constraints begin, and whether the token before is `-`
pub record Scoped : Type 0 where
  pub variables : List Variable
  pub starts : List ℕ
  pub negative : Bool

abbrev pub nothing_scoped : Scoped
nothing_scoped = record { variables = []; starts = []; negative = false }

abbrev pub declared : Kept → Variable
declared v = record { name = string_bytes v.name; domain = v.domain; bracket = v.bracket }

abbrev pub scoped : State → Scoped
scoped s = record { variables = map declared s.variables.items; starts = s.starts.items; negative = s.names.negative }

abbrev pub followed : Mark → Scoped → Scoped
followed m s = record {
  variables = variables_behind m.phase m.symbol s.negative m.start m.bytes s.variables;
  starts = starts_behind m.phase m.symbol m.start s.starts;
  negative = is_minus m.symbol;
}

abbrev pub scoped_behind : List Mark → Scoped → Scoped
scoped_behind [] s = s
scoped_behind (m ∷ ms) s = scoped_behind ms (followed m s)

-- a token leads from one state to the next
pub record LeadsTo (old : State) (m : Mark) (new : State) : Type 0 where
  pub counts : counted old.counts m.symbol ≡ Ok new.counts
  pub names : AreSame (view new.names) (learnt (standing_of old.counts) m.symbol m.bytes (view old.names))
  pub scoped : scoped new ≡ followed m (scoped old)

-- or it is forbidden
abbrev pub TakesIn : State → Mark → State → Option Cause → Type 0
TakesIn old m new None = LeadsTo old m new
TakesIn old m new (Some cause) = counted old.counts m.symbol ≡ Err cause
