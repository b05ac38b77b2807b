-- What the reader found is what the text means.
use Rattle.std.proofs.Common.{AllPairs, ◌≢◌, ◌≡◌, ℕ, ◌≤◌, List, [], ◌∷◌, length, map, refl, sym, ap, ◌∙◌, subst, arith, ⊎_elim, Bool, false, ◌<◌, get_or}
use Rattle.std.specs.Prelude.{All}
use Rattle.std.specs.List.{AllByRecursion}
use Rattle.std.proofs.lemmas.Bool.{cond_both}
use Rattle.std.proofs.lemmas.List.Elements.{All-from_recursion}
use Rattle.pv_expr.specs.declared.domain.Domain.{Domain}
use Rattle.pv_expr.specs.Systems.{IsDomain, Parts}
use Rattle.pv_code.specs.declared.code.Op.{Op}
use Rattle.pv_code.specs.Expansion.{constraints_of, sides_of}
use Rattle.pv_code.specs.Sizes.{AreWithin}
use Rattle.pv_code.proofs.Building.{length-map}
use Rattle.pv_grammar.specs.declared.cause.Cause.TheVariants.{BadBounds}
use Rattle.pv_grammar.specs.declared.counts.Counts.{Counts}
use Rattle.pv_grammar.specs.declared.counts.Phase.TheVariants.{Between}
use Rattle.pv_grammar.specs.declared.machine.Item.{Item}
use Rattle.pv_grammar.specs.declared.symbol.Fixed.TheVariants.{OpenBracket}
use Rattle.pv_grammar.specs.declared.symbol.Symbol.{Symbol}
use Rattle.pv_grammar.specs.declared.symbol.Symbol.TheVariants.{Fixed as FixedToken}
use Rattle.pv_grammar.specs.Counting.{nothing}
use Rattle.pv_grammar.specs.Standings.{Standing, first_in, standing_behind}
use Rattle.pv_grammar.specs.Productions.{System, system_symbols}
use Rattle.pv_grammar.specs.Trees.{system_constraints, system_domains}
use Rattle.pv_grammar.proofs.TreeSteps.{system_steps}
use Rattle.pv_code.proofs.Over.{IsStep}
use Rattle.pv_grammar.proofs.TreeRuns.{system_means}
use Rattle.pv_grammar.proofs.Within.{within_system}
use Rattle.pv_parse.specs.declared.refused.ParseRefused.{ParseRefused}
use Rattle.pv_parse.specs.declared.refused.ParseRefused.TheVariants.{Memory, Fault}
use Rattle.pv_parse.specs.ByItems.{IsAt, IsFirstOf, IsLargeAt, IsTold, IsToldAs}
use Rattle.pv_parse.specs.Declarations.{AreGood, IsFirstBad, IsMeaning, Mark, MarksTo, begins_constraint, bracket_behind, bracket_of, brackets_in, declares, own, starts_in}
use Rattle.pv_parse.specs.Faults.{IsRefusal}
use Rattle.pv_parse.specs.Faults.IsFaultOf.{bounds, first, large}
use Rattle.pv_parse.specs.Meanings.{Names, no_names}
use Rattle.pv_parse.specs.Scopes.{Scoped, bracket_in, domain_in, name_of, nothing_scoped, variables_in}
use Rattle.pv_parse.proofs.TreeTexts.{constraints_many, variables_many}
use Rattle.pv_parse.proofs.Starts.{tree_starts}
use Rattle.pv_parse.proofs.Naming.{Heard, all_heard, names_apart, steps_written}
use Rattle.pv_parse.proofs.TreeDomains.{brackets_named, domains_of_tree, names_named}
use Rattle.pv_parse.proofs.Fractions.{domains_at, have_bounds}
use Rattle.pv_parse.proofs.NameBytes.{begins_within}
use Rattle.pv_parse.proofs.Declarations.{all_starts, all_variables}

pub told_at : {t : List ℕ} {known known' : Names} {start start' : Counts} {items items' : List Item} {code code' after : List Op} {old old' new : Scoped} →
    known ≡ known' → start ≡ start' → items ≡ items' → code ≡ code' → old ≡ old' → IsToldAs t known start items code after old new → IsToldAs t known' start' items' code' after old' new
told_at d e f g o s = rw (d, e, f, g, o) at s

pub unsigned : {b : Bool} → b ≡ false → record { variables = []; starts = []; negative = b } ≡ nothing_scoped
unsigned e = ap (λ (b : Bool). record { variables = []; starts = []; negative = b }) e

-- lists with the same values have as many elements
pub as_many : {X Y Z : Type 0} (f : X → Z) (g : Y → Z) (xs : List X) (ys : List Y) → map f xs ≡ map g ys → length xs ≡ length ys
as_many f g xs ys e = sym (length-map f xs) ∙ (ap length e ∙ length-map g ys)

pub first_fault : (t : List ℕ) (e : ParseRefused) → length t ≤ 65536 → IsFirstOf t no_names (nothing Between) e → IsRefusal t e
first_fault t Memory short h = tt
first_fault t (Fault byte line column cause) short h = first short h

-- ---- A bracket stands within the text, and so does each constraint's first token

abbrev AreIn : ℕ → List ℕ → Type 0
AreIn n places = AllByRecursion (λ k. k ≤ n) places

abbrev AreInText : ℕ → List Mark → Type 0
AreInText n ms = AllByRecursion (λ m. m.start ≤ n) ms

behind_within : (n : ℕ) (s : Symbol) (start bracket : ℕ) → start ≤ n → bracket ≤ n → bracket_behind s start bracket ≤ n
behind_within n (FixedToken OpenBracket) start bracket h k = h
behind_within n s start bracket h k = k

own_within : (n : ℕ) (ms : List Mark) → AreInText n ms → (bracket : ℕ) → bracket ≤ n → bracket_of bracket (own ms) ≤ n
own_within n [] h bracket k = k
own_within n (m ∷ ms) h bracket k =
    cond_both (declares m.phase m.symbol) [] (m ∷ own ms) (λ (z : List Mark). bracket_of bracket z ≤ n) (λ yes. k)
    (λ no. own_within n ms h.1 (bracket_behind m.symbol m.start bracket) (behind_within n m.symbol m.start bracket h.0 k))

brackets_within : (n : ℕ) (ms : List Mark) → AreInText n ms → AreIn n (brackets_in ms)
brackets_within n [] h = tt
brackets_within n (m ∷ ms) h =
    let more = brackets_within n ms h.1 in cond_both (declares m.phase m.symbol) _ (brackets_in ms) (AreIn n) (λ yes. (own_within n ms h.1 0 (omega arith), more)) (λ no. more)

starts_within : (n : ℕ) (ms : List Mark) → AreInText n ms → AreIn n (starts_in ms)
starts_within n [] h = tt
starts_within n (m ∷ ms) h = let more = starts_within n ms h.1 in cond_both (begins_constraint m.phase m.symbol) _ (starts_in ms) (AreIn n) (λ yes. (h.0, more)) (λ no. more)

first_within : (n : ℕ) (ds : List Domain) (bs : List ℕ) (byte : ℕ) → AreIn n bs → IsFirstBad ds bs byte → byte ≤ n
first_within n (d ∷ ds) (b ∷ bs) byte h bad = ⊎_elim (λ (wrong, at). omega (arith, h.0, at)) (λ (good, later). first_within n ds bs byte h.1 later) bad
first_within n ds bs byte h bad = absurd bad

marks_within : (t : List ℕ) (y : Standing) (from : ℕ) (ss : List Symbol) (marks : List Mark) (to : ℕ) → MarksTo t y from ss marks to → AreInText (length t) marks
marks_within t y from [] marks to (none, same) = subst (AreInText (length t)) (sym none) tt
marks_within t y from (s ∷ ss) marks to (x, rest, next, are, more) =
    subst (AreInText (length t)) (sym are) (begins_within t from x next, marks_within t (standing_behind y s) x.end ss rest to more)

-- ---- What a system's answer says

module _ {t : List ℕ} {code : List Op} {new : Scoped} (s : IsTold t code new) where
  abbrev tree : System
  tree = s.reading.tree

  abbrev marks : List Mark
  marks = s.reading.marks

  variables_are : new.variables ≡ variables_in marks
  variables_are = ap (λ (z : Scoped). z.variables) s.scoped ∙ all_variables marks nothing_scoped refl

  starts_are : new.starts ≡ starts_in marks
  starts_are = ap (λ (z : Scoped). z.starts) s.scoped ∙ all_starts marks nothing_scoped

  domains_are : map domain_in new.variables ≡ system_domains tree
  domains_are = ap (map domain_in) variables_are ∙ domains_of_tree t tree marks s.reading.marked

  brackets_are : map bracket_in new.variables ≡ brackets_in marks
  brackets_are = ap (map bracket_in) variables_are ∙ brackets_named marks

  constraints_are : constraints_of code ≡ system_constraints tree
  constraints_are = ap constraints_of s.code_is ∙ system_means tree

  all_are_heard : Heard t no_names (nothing Between) (system_symbols tree []) marks
  all_are_heard = all_heard t no_names (nothing Between) (system_symbols tree []) marks s.reading.spelled.0 (within_system tree s.reading.spelled.1) s.reading.marked

  pub told_steps : All (IsStep (length new.variables)) code
  told_steps =
      let n : ℕ = length new.variables in
      let written = steps_written n t no_names (nothing Between) (system_symbols tree []) marks all_are_heard s.fractions (λ name. tt) (omega arith) (omega (arith, ap length variables_are)) in
      rw s.code_is (system_steps n tree written)

  pub names_differ : AllPairs (λ x y. x ≢ y) (map name_of new.variables)
  names_differ = rw variables_are (names_apart t no_names (nothing Between) (system_symbols tree []) marks all_are_heard).0

  pub domains_good : AreGood (map domain_in new.variables) → All IsDomain (map domain_in new.variables)
  domains_good good = domains_at (map domain_in new.variables) (rw variables_are (have_bounds marks s.fractions)) good

  -- as many variables as the tree has domains, and as many constraints
  pub variables_count : (1 ≤ length new.variables) × (length new.variables ≤ 12)
  variables_count = rw (sym (length-map domain_in new.variables) ∙ ap length domains_are) (variables_many tree s.reading.spelled.1)

  pub constraints_count : (1 ≤ length (constraints_of code)) × (length (constraints_of code) ≤ 64)
  constraints_count = rw constraints_are (constraints_many tree s.reading.spelled.1)

  pub as_many_starts : length new.starts ≡ length (constraints_of code)
  as_many_starts = ap length starts_are ∙ tree_starts t tree marks s.reading.marked ∙ sym (ap length constraints_are)

  pub bad_bounds : (byte : ℕ) (e : ParseRefused) → length t ≤ 65536 → IsFirstBad (map domain_in new.variables) (map bracket_in new.variables) byte → IsAt byte BadBounds e → IsRefusal t e
  bad_bounds byte Memory short bad at = absurd at
  bad_bounds byte (Fault byte' line column cause) short bad at = bounds short s.reading (rw (at.0, sym domains_are, sym brackets_are) bad) at.1

  pub too_large : (e : ParseRefused) → length t ≤ 65536 → AreGood (map domain_in new.variables) → IsLargeAt new.starts code e → IsRefusal t e
  too_large Memory short good h = tt
  too_large (Fault byte line column cause) short good (is, i, least, there) = large short s.reading (rw domains_are at good) i (rw constraints_are at least) (rw starts_are at there) is

  pub meant : (p : Parts) → length t ≤ 65536 → p.names ≡ map name_of new.variables → p.domains ≡ map domain_in new.variables → AreGood (map domain_in new.variables) →
      map sides_of p.constraints ≡ constraints_of code → AreWithin (constraints_of code) → IsMeaning t p
  meant p short names domains good constraints within = record {
    text = record { reading = s.reading; good = rw domains_are at good; within = rw constraints_are at within; short = short };
    names = names ∙ (ap (map name_of) variables_are ∙ names_named marks);
    domains = domains ∙ domains_are;
    constraints = constraints ∙ constraints_are;
  }

  marks_in_text : AreInText (length t) marks
  marks_in_text = marks_within t (first_in Between) 0 (system_symbols tree []) marks s.reading.marked.0 s.reading.marked.1

  pub bracket_in_text : {byte : ℕ} → IsFirstBad (map domain_in new.variables) (map bracket_in new.variables) byte → byte ≤ length t
  bracket_in_text {byte = byte} = first_within (length t) (map domain_in new.variables) (map bracket_in new.variables) byte (rw brackets_are (brackets_within (length t) marks marks_in_text))

  pub starts_in_text : (k : ℕ) → k < length new.starts → get_or new.starts k 0 ≤ length t
  starts_in_text k = All-from_recursion (λ k. k ≤ length t) new.starts (rw starts_are (starts_within (length t) marks marks_in_text)) k 0
