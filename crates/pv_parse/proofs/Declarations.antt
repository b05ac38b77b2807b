-- The declarations, found token by token, are those of the whole text.
use Rattle.std.proofs.Common.{◌≡◌, ℕ, ◌∙◌, Bool, true, false, List, [], ◌∷◌, ◌++◌, refl, sym, ap, subst, append_assoc, Option, Some, None, if◌then◌else◌, option_to_list}
use Rattle.std.proofs.lemmas.List.{append-nil}
use Rattle.pv_expr.specs.declared.domain.Bound.{Bound}
use Rattle.pv_expr.specs.declared.domain.Domain.{Domain}
use Rattle.pv_grammar.specs.declared.counts.Counts.{Counts}
use Rattle.pv_grammar.specs.declared.counts.Phase.{Phase}
use Rattle.pv_grammar.specs.declared.counts.Phase.TheVariants.{Bounds, Variables}
use Rattle.pv_grammar.specs.declared.symbol.Fixed.TheVariants.{OpenBracket}
use Rattle.pv_grammar.specs.declared.symbol.Symbol.{Symbol}
use Rattle.pv_grammar.specs.declared.symbol.Symbol.TheVariants.{Declared, Fixed as FixedToken}
use Rattle.pv_grammar.specs.Counting.{Counted, standing_of}
use Rattle.pv_grammar.specs.Standings.{Standing, is_minus, standing_after, standing_behind}
use Rattle.pv_grammar.proofs.Following.{stands_after}
use Rattle.pv_tokens.specs.declared.token.Token.{Token}
use Rattle.pv_tokens.specs.Tokens.{IsNext}
use Rattle.pv_parse.specs.Declarations.{Mark, MarksTo, begins_constraint, bracket_of, mark_of, own, starts_in}
use Rattle.pv_parse.specs.Fractions.{HasFraction, HaveFractions}
use Rattle.pv_parse.specs.Scopes.{Scoped, Variable, behind_bound, bound_at, bounded_by, bounds_of, followed, scoped_behind, unbounded, variables_behind, variables_in, with_bound, with_bracket, with_last}
use Rattle.pv_parse.proofs.Fractions.{have_one}

-- ---- One token more

marks_one : (t : List ℕ) (y : Standing) (from : ℕ) (ss : List Symbol) (marks : List Mark) (to : ℕ) (x : Token) (s : Symbol) → MarksTo t y from ss marks to → IsNext t to x →
    MarksTo t y from (ss ++ s ∷ []) (marks ++ mark_of t (standing_after y ss).phase s x ∷ []) x.end
marks_one t y from [] marks to x s (none, same) next =
    (x, [], subst (λ (k : ℕ). IsNext t k x) (sym same) next, ap (λ (z : List Mark). z ++ mark_of t y.phase s x ∷ []) none, (refl, refl))
marks_one t y from (r ∷ ss) marks to x s (z, rest, next', are, more) next =
    let mark : Mark = mark_of t (standing_after (standing_behind y r) ss).phase s x in
    (z, rest ++ mark ∷ [], next', ap (λ (zs : List Mark). zs ++ mark ∷ []) are, marks_one t (standing_behind y r) z.end ss rest to x s more next)

pub scoped_one : (ms : List Mark) (m : Mark) (s : Scoped) → scoped_behind (ms ++ m ∷ []) s ≡ followed m (scoped_behind ms s)
scoped_one [] m s = refl
scoped_one (n ∷ ms) m s = scoped_one ms m (followed n s)

-- the tokens so far, and the state that they lead to
pub record Told (t : List ℕ) (start : Counts) (ss : List Symbol) (from : ℕ) (old new : Scoped) : Type 0 where
  pub marks : List Mark
  pub marked : MarksTo t (standing_of start) 0 ss marks from
  pub fractions : HaveFractions marks
  pub scoped : new ≡ scoped_behind marks old

pub told_none : (t : List ℕ) (start : Counts) (s : Scoped) → Told t start [] 0 s s
told_none t start s = record { marks = []; marked = (refl, refl); fractions = tt; scoped = refl }

pub told_one : (t : List ℕ) (start : Counts) (ss : List Symbol) (from : ℕ) (counts : Counts) (old new newer : Scoped) (x : Token) (s : Symbol) →
    Told t start ss from old new → Counted start ss counts → IsNext t from x → HasFraction s → newer ≡ followed (mark_of t counts.phase s x) new → Told t start (ss ++ s ∷ []) x.end old newer
told_one t start ss from counts old new newer x s h within is_next fraction is =
    let m : Mark = mark_of t counts.phase s x in
    record {
      marks = h.marks ++ m ∷ [];
      marked = subst (λ (y : Standing). MarksTo t (standing_of start) 0 (ss ++ s ∷ []) (h.marks ++ mark_of t y.phase s x ∷ []) x.end) (sym (stands_after start ss counts within))
          (marks_one t (standing_of start) 0 ss h.marks from x s h.marked is_next);
      fractions = have_one h.marks m h.fractions fraction;
      scoped = is ∙ (ap (followed m) h.scoped ∙ sym (scoped_one h.marks m old));
    }

-- ---- Where constraints begin

start_step : (b : Bool) (starts : List ℕ) (start : ℕ) (more : List ℕ) → (if b then starts ++ start ∷ [] else starts) ++ more ≡ starts ++ (if b then start ∷ more else more)
start_step true starts start more = append_assoc starts (start ∷ []) more
start_step false starts start more = refl

pub all_starts : (ms : List Mark) (s : Scoped) → (scoped_behind ms s).starts ≡ s.starts ++ starts_in ms
all_starts [] s = sym (append-nil s.starts)
all_starts (m ∷ ms) s = all_starts ms (followed m s) ∙ start_step (begins_constraint m.phase m.symbol) s.starts m.start (starts_in ms)

-- ---- Variables

-- a variable, with these tokens behind it
abbrev gave : Bool → List Mark → Variable → Variable
gave negative ms v = record { name = v.name; domain = bounded_by (bounds_of negative ms) v.domain; bracket = bracket_of v.bracket ms }

-- or a bound, if any
abbrev may_bound : Option Bound → Variable → Variable
may_bound o v = record { name = v.name; domain = bounded_by (option_to_list o) v.domain; bracket = v.bracket }

bound_first : (o : Option Bound) (bs : List Bound) (d : Domain) → bounded_by bs (bounded_by (option_to_list o) d) ≡ bounded_by (option_to_list o ++ bs) d
bound_first None bs d = refl
bound_first (Some b) bs d = refl

changed_end : (f : Variable → Variable) (vs : List Variable) (v : Variable) → with_last f (vs ++ v ∷ []) ≡ vs ++ f v ∷ []
changed_end f [] v = refl
changed_end f (w ∷ []) v = refl
changed_end f (w ∷ (x ∷ xs)) v = ap (λ ws. w ∷ ws) (changed_end f (x ∷ xs) v)

bound_end : (o : Option Bound) (vs : List Variable) (v : Variable) → behind_bound o (vs ++ v ∷ []) ≡ vs ++ may_bound o v ∷ []
bound_end None vs v = refl
bound_end (Some b) vs v = changed_end (with_bound b) vs v

bound_none : (o : Option Bound) → behind_bound o [] ≡ []
bound_none None = refl
bound_none (Some b) = refl

module _ (ms : List Mark) (new : List Variable) where
  -- where the tokens go on from a last variable, they lead to these variables
  GoesOn : Bool → List Variable → Type 0
  GoesOn negative old = (vs : List Variable) (v : Variable) → old ≡ vs ++ v ∷ [] → new ≡ vs ++ gave negative (own ms) v ∷ variables_in ms

  abbrev token : Phase → Symbol → ℕ → List ℕ → List Mark
  token p s start bytes = record { symbol = s; phase = p; start = start; bytes = bytes } ∷ ms

  one_more : (p : Phase) (s : Symbol) (start : ℕ) (bytes : List ℕ) (n : Bool) (vs : List Variable) (v : Variable) →
      GoesOn (is_minus s) (variables_behind p s n start bytes (vs ++ v ∷ [])) → new ≡ vs ++ gave n (own (token p s start bytes)) v ∷ variables_in (token p s start bytes)
  unfolding GoesOn
  one_more Variables (Declared taken) start bytes n vs v go = go (vs ++ v ∷ []) (unbounded bytes) refl ∙ append_assoc vs (v ∷ []) _
  one_more Bounds (FixedToken OpenBracket) start bytes n vs v go = go vs (with_bracket start v) (changed_end (with_bracket start) vs v)
  one_more p (FixedToken OpenBracket) start bytes n vs v go = go vs (with_bracket start v) (changed_end (with_bracket start) vs v)
  one_more p s start bytes n vs v go =
      let o = bound_at p s n in
      go vs (may_bound o v) (bound_end o vs v)
      ∙ ap (λ (d : Domain). vs ++ record { name = v.name; domain = d; bracket = bracket_of v.bracket (own ms) } ∷ variables_in ms) (bound_first o (bounds_of (is_minus s) (own ms)) v.domain)

  first_one : (p : Phase) (s : Symbol) (start : ℕ) (bytes : List ℕ) (n : Bool) → GoesOn (is_minus s) (variables_behind p s n start bytes []) →
      (variables_behind p s n start bytes [] ≡ [] → new ≡ variables_in ms) → new ≡ variables_in (token p s start bytes)
  unfolding GoesOn
  first_one Variables (Declared taken) start bytes n go none = go [] (unbounded bytes) refl
  first_one p (FixedToken OpenBracket) start bytes n go none = none refl
  first_one p s start bytes n go none = none (bound_none (bound_at p s n))

goes_on : (ms : List Mark) (s : Scoped) (vs : List Variable) (v : Variable) → s.variables ≡ vs ++ v ∷ [] → (scoped_behind ms s).variables ≡ vs ++ gave s.negative (own ms) v ∷ variables_in ms
unfolding GoesOn
goes_on [] s vs v e = e
goes_on (m ∷ ms) s vs v e =
    one_more ms _ m.phase m.symbol m.start m.bytes s.negative vs v
    (λ ws w k. goes_on ms (followed m s) ws w (ap (variables_behind m.phase m.symbol s.negative m.start m.bytes) e ∙ k))

pub all_variables : (ms : List Mark) (s : Scoped) → s.variables ≡ [] → (scoped_behind ms s).variables ≡ variables_in ms
unfolding GoesOn
all_variables [] s e = e
all_variables (m ∷ ms) s e =
    let is = ap (variables_behind m.phase m.symbol s.negative m.start m.bytes) e in
    first_one ms _ m.phase m.symbol m.start m.bytes s.negative (λ vs v k. goes_on ms (followed m s) vs v (is ∙ k)) (λ k. all_variables ms (followed m s) (is ∙ k))
