-- Each text means one system or has one fault, and never both; and so with expressions.
use Rattle.std.proofs.Common.{◌≡◌, ℕ, zero, suc, ◌+◌, ◌<◌, ◌≤◌, ◌⊎◌, inl, inr, ⊎_elim, List, [], ◌∷◌, length, map, take, get_or, slice_get, Some, refl, sym, ap, ◌∙◌, subst, arith, pos, ◌*ℤ◌, All, sum_by}
use Rattle.std.proofs.lemmas.Bool.{cases_lt, cases_order}
use Rattle.std.proofs.lemmas.Int.{ints, by_lt_z}
use Rattle.std.proofs.lemmas.List.{length-map, take-take, take_all}
use Rattle.std.proofs.lemmas.List.Elements.{All-cons, All-take}
use Rattle.std.proofs.lemmas.List.Sums.{sum_by-take-le}
use Rattle.std.proofs.lemmas.Option.{slice_get-get_or}
use Rattle.pv_expr.specs.declared.domain.Bound.{Bound}
use Rattle.pv_expr.specs.declared.domain.Bound.TheVariants.{MinusOo, Value}
use Rattle.pv_expr.specs.declared.domain.Domain.{Domain}
use Rattle.pv_expr.specs.Systems.{InOrder, Parts}
use Rattle.pv_expr.specs.Terms.{depth_of}
use Rattle.pv_code.specs.Expansion.{Sides}
use Rattle.pv_code.specs.Sizes.{AreWithin, IsFirstLarge, IsShallow, nodes_of}
use Rattle.pv_grammar.specs.declared.cause.Cause.{Cause}
use Rattle.pv_grammar.specs.declared.cause.Cause.TheVariants.{BadBounds, TextTooLong, TooLarge}
use Rattle.pv_grammar.specs.declared.counts.Phase.TheVariants.{Between}
use Rattle.pv_grammar.specs.declared.symbol.Symbol.{Symbol}
use Rattle.pv_grammar.specs.Limits.{IsLimitedSystem}
use Rattle.pv_grammar.specs.Productions.{IsSystem, System, system_symbols}
use Rattle.pv_grammar.specs.Standings.{Standing, first_in, standing_behind}
use Rattle.pv_grammar.specs.Trees.{expression_term, system_constraints, system_domains}
use Rattle.pv_tokens.specs.declared.token.Token.{Token}
use Rattle.pv_tokens.proofs.Unique.{one_next}
use Rattle.pv_parse.specs.Declarations.{AreGood, IsExpressionSentence, IsFirstBad, IsMeaning, IsSystemSentence, Mark, MarksTo, MeansOne, MeansOneTerm, Reading, brackets_in, mark_of, names_in, starts_in}
use Rattle.pv_parse.specs.Faults.{IsEither, IsExpressionFaultOf, IsFaultOf, IsSystemFault}
use Rattle.pv_parse.specs.Faults.IsExpressionFaultOf.{first as first_text, long as long_text}
use Rattle.pv_parse.specs.Faults.IsFaultOf.{bounds, first, large, long}
use Rattle.pv_parse.specs.Meanings.{Names, learnt, no_names}
use Rattle.pv_parse.specs.Scopes.{Variable, bracket_in, domain_in, name_of, variables_in}
use Rattle.pv_parse.specs.Sentences.{IsExpressionTextOf, IsTextOf, SpellsTo, bytes_of}
use Rattle.pv_grammar.proofs.Within.{system_limited}
use Rattle.pv_parse.proofs.Decided.{decides_expression, decides_system}
use Rattle.pv_parse.proofs.OneSpelling.{expression_apart, expression_fault, no_fault, one_fault, one_known}
use Rattle.pv_parse.proofs.Starts.{tree_starts}
use Rattle.pv_parse.proofs.TreeDomains.{brackets_named, domains_of_tree, names_named}
use Rattle.pv_parse.proofs.TreeTexts.{one_expression_tree_of, one_tree_of}

-- ---- A text has one reading

one_marking : (t : List ℕ) (y : Standing) (from : ℕ) (ss : List Symbol) (ms ms' : List Mark) (to to' : ℕ) → MarksTo t y from ss ms to → MarksTo t y from ss ms' to' → ms ≡ ms'
one_marking t y from [] ms ms' to to' h k = h.0 ∙ sym k.0
one_marking t y from (s ∷ ss) ms ms' to to' (x, rest, next, are, more) (x', rest', next', are', more') =
    let token : x' ≡ x = one_next t from x' x next' next in
    let more'' : MarksTo t (standing_behind y s) x.end ss rest' to' = subst (λ (z : Token). MarksTo t (standing_behind y s) z.end ss rest' to') token more' in
    are
    ∙ (ap (λ (z : List Mark). mark_of t y.phase s x ∷ z) (one_marking t (standing_behind y s) x.end ss rest rest' to to' more more'')
    ∙ (ap (λ (z : Token). mark_of t y.phase s z ∷ rest') (sym token) ∙ sym are'))

one_trees : (t : List ℕ) (r r' : Reading t) → r.tree ≡ r'.tree
one_trees t r r' = one_tree_of t r.tree r'.tree r.spelled r'.spelled

one_marks : (t : List ℕ) (r r' : Reading t) → r.marks ≡ r'.marks
one_marks t r r' =
    one_marking t (first_in Between) 0 (system_symbols r.tree []) r.marks r'.marks r.marked.0 r'.marked.0 r.marked.1
    (subst (λ (x : System). MarksTo t (first_in Between) 0 (system_symbols x []) r'.marks r'.marked.0) (sym (one_trees t r r')) r'.marked.1)

-- what holds of one reading's tree and marks
alike : (t : List ℕ) (P : System → List Mark → Type 0) (r r' : Reading t) → P r.tree r.marks → P r'.tree r'.marks
alike t P r r' h = subst (λ (m : List Mark). P r'.tree m) (one_marks t r r') (subst (λ (x : System). P x r.marks) (one_trees t r r') h)

-- and each text of a tree has one
marks_of : (t : List ℕ) (n : Names) (y : Standing) (from : ℕ) (ss : List Symbol) (to : ℕ) (m : Names) → SpellsTo t n y from ss to m → (marks : List Mark) × MarksTo t y from ss marks to
marks_of t n y from [] to m h = ([], (refl, h.0))
marks_of t n y from (s ∷ ss) to m (x, next, inside, stands, rest) =
    let (marks, more) = marks_of t (learnt y s (bytes_of t x) n) (standing_behind y s) x.end ss to m rest in
    (mark_of t y.phase s x ∷ marks, (x, marks, next, refl, more))

pub reading_of : (t : List ℕ) (x : System) → IsTextOf t x → Reading t
reading_of t x text =
    let spelled = text.0 in
    let (marks, marked) = marks_of t no_names (first_in Between) 0 (system_symbols x []) spelled.0 spelled.1 spelled.3 in
    record { tree = x; spelled = text; marks = marks; marked = (spelled.0, marked) }

-- ---- Bad domains

good_not_bad : (ds : List Domain) (bs : List ℕ) (byte : ℕ) → AreGood ds → IsFirstBad ds bs byte → ⊥
good_not_bad (d ∷ ds) (b ∷ bs) byte h bad = ⊎_elim (λ (wrong, at). wrong h.0) (λ (good, later). good_not_bad ds bs byte h.1 later) bad
good_not_bad ds bs byte h bad = absurd bad

one_bad : (ds : List Domain) (bs : List ℕ) (byte byte' : ℕ) → IsFirstBad ds bs byte → IsFirstBad ds bs byte' → byte ≡ byte'
one_bad (d ∷ ds) (b ∷ bs) byte byte' h k = grind (arith, one_bad ds bs byte byte')
one_bad ds bs byte byte' h k = absurd h

in_order_or : (lo hi : Bound) → InOrder lo hi ⊎ ¬ InOrder lo hi
in_order_or (Value p q) (Value r s) = by_lt_z (r *ℤ pos q) (p *ℤ pos s) (λ more. inr (λ h. omega (arith, ints, more, h))) (λ h. inl h)
in_order_or MinusOo MinusOo = inr (λ h. h)
in_order_or lo hi = first_of (search (inl, tt), search inr)

domains_or : (vs : List Variable) → AreGood (map domain_in vs) ⊎ ((byte : ℕ) × IsFirstBad (map domain_in vs) (map bracket_in vs) byte)
domains_or [] = inl tt
domains_or (v ∷ vs) =
    ⊎_elim
    (λ good. ⊎_elim (λ all. inl (good, all)) (λ (byte, later). inr (byte, inr (good, later))) (domains_or vs))
    (λ wrong. inr (v.bracket, inl (wrong, refl)))
    (in_order_or v.domain.lo v.domain.hi)

-- ---- Large constraints

within_front : (n : ℕ) (cs : List Sides) → AreWithin cs → AreWithin (take n cs)
within_front n cs h = record {
  few_nodes = let less = sum_by-take-le nodes_of cs n in let few = h.few_nodes in omega (arith, less, few);
  shallow = All-take IsShallow n cs h.shallow;
}

-- behind the first large constraint nothing is within the limits
none_within : (cs : List Sides) (i n : ℕ) → IsFirstLarge cs i → i < n → AreWithin (take n cs) → ⊥
none_within cs i n f on h = f.with_it (subst AreWithin (take-take (i + 1) n cs (omega arith)) (within_front (i + 1) (take n cs) h))

within_not_large : (cs : List Sides) (i : ℕ) → AreWithin cs → IsFirstLarge cs i → ⊥
within_not_large cs i h f = f.with_it (within_front (i + 1) cs h)

one_large : (cs : List Sides) (i j : ℕ) → IsFirstLarge cs i → IsFirstLarge cs j → i ≡ j
one_large cs i j f g =
    ⊎_elim (λ same. same)
    (λ apart. ⊎_elim (λ less. absurd (none_within cs i j f less g.before)) (λ more. absurd (none_within cs j i g more f.before)) apart)
    (cases_order i j)

shallow_or : (s : Sides) → IsShallow s ⊎ ¬ IsShallow s
shallow_or s =
    ⊎_elim
    (λ fits. inl (record { left = fits.0; right = fits.1 }))
    (λ deep. inr (λ h. deep (h.left, h.right)))
    (let h : ((depth_of s.left ≤ 2000) × (depth_of s.right ≤ 2000)) ⊎ ¬ ((depth_of s.left ≤ 2000) × (depth_of s.right ≤ 2000)) = grind arith in h)

all_shallow_or : (cs : List Sides) → All IsShallow cs ⊎ ¬ All IsShallow cs
all_shallow_or [] = inl (λ k d in_list. absurd (omega (arith, in_list)))
all_shallow_or (s ∷ cs) =
    ⊎_elim
    (λ h. ⊎_elim (λ more. inl (All-cons IsShallow s cs h more)) (λ deep. inr (λ all. deep (λ k d in_list. all (suc k) d (omega (arith, in_list))))) (all_shallow_or cs))
    (λ deep. inr (λ all. deep (all 0 s (omega arith))))
    (shallow_or s)

within_or : (cs : List Sides) → AreWithin cs ⊎ ¬ AreWithin cs
within_or cs =
    ⊎_elim
    (λ many. inr (λ h. omega (arith, many, h.few_nodes)))
    (λ few. ⊎_elim (λ shallow. inl (record { few_nodes = few; shallow = shallow })) (λ deep. inr (λ h. deep h.shallow)) (all_shallow_or cs))
    (cases_lt 65536 (sum_by nodes_of cs))

large_up_to : (cs : List Sides) (n : ℕ) → n ≤ length cs → AreWithin (take n cs) ⊎ ((i : ℕ) × IsFirstLarge cs i)
large_up_to cs zero h = inl (record { few_nodes = omega arith; shallow = λ k d in_list. absurd (omega (arith, in_list)) })
large_up_to cs (suc n) h =
    let next : n + 1 ≡ suc n = omega arith in
    ⊎_elim
    (λ before. ⊎_elim (λ within. inl within) (λ never. inr (n, record { present = h; before = before; with_it = subst (λ (k : ℕ). ¬ AreWithin (take k cs)) (sym next) never })) (within_or (take (suc n) cs)))
    (λ f. inr f)
    (large_up_to cs n (omega (arith, h)))

large_or : (cs : List Sides) → AreWithin cs ⊎ ((i : ℕ) × IsFirstLarge cs i)
large_or cs = ⊎_elim (λ within. inl (subst AreWithin (take_all (length cs) cs (omega arith)) within)) (λ f. inr f) (large_up_to cs (length cs) (omega arith))

-- ---- Texts of systems

sized : (t : List ℕ) → length t ≤ 65536 → (r : Reading t) → AreGood (system_domains r.tree) → IsEither (IsSystemSentence t) (IsFaultOf t)
sized t short r good =
    ⊎_elim
    (λ within. inl (record { reading = r; good = good; within = within; short = short }))
    (λ (i, f).
    let many = tree_starts t r.tree r.marks r.marked in
    let present = f.present in
    inr (get_or (starts_in r.marks) i 0, TooLarge, large short r good i f (slice_get-get_or (starts_in r.marks) i 0 (omega (arith, many, present))) refl))
    (large_or (system_constraints r.tree))

read_text : (t : List ℕ) → length t ≤ 65536 → Reading t → IsEither (IsSystemSentence t) (IsFaultOf t)
read_text t short r =
    let domains : map domain_in (variables_in r.marks) ≡ system_domains r.tree = domains_of_tree t r.tree r.marks r.marked in
    ⊎_elim
    (λ good. sized t short r (subst AreGood domains good))
    (λ (byte, bad).
    let at : IsFirstBad (system_domains r.tree) (brackets_in r.marks) byte = rw (sym domains, sym (brackets_named r.marks)) bad in
    inr (byte, BadBounds, bounds short r at refl))
    (domains_or (variables_in r.marks))

pub system_either : (t : List ℕ) → IsEither (IsSystemSentence t) (IsFaultOf t)
system_either t =
    ⊎_elim
    (λ more. inr (65536, TextTooLong, long more refl refl))
    (λ short. ⊎_elim (λ (x, spelled). read_text t short (reading_of t x spelled)) (λ (byte, cause, f). inr (byte, cause, first short f)) (decides_system t))
    (cases_lt 65536 (length t))

-- a fault of a tree's text is none of its tokens
module _ (t : List ℕ) where
  token_fault : (r : Reading t) (byte : ℕ) (cause : Cause) → IsSystemFault t byte cause → ⊥
  token_fault r byte cause f = no_fault t no_names (first_in Between) IsSystem IsLimitedSystem (system_symbols r.tree []) byte cause r.spelled.0 (r.tree, refl, r.spelled.1) f

  bad_good : (r r' : Reading t) (byte : ℕ) → IsFirstBad (system_domains r.tree) (brackets_in r.marks) byte → AreGood (system_domains r'.tree) → ⊥
  bad_good r r' byte bad good = good_not_bad (system_domains r.tree) (brackets_in r.marks) byte (alike t (λ x m. AreGood (system_domains x)) r' r good) bad

  pub system_apart : (byte : ℕ) (cause : Cause) → IsSystemSentence t → IsFaultOf t byte cause → ⊥
  system_apart byte cause s (long more at is) = omega (arith, more, s.short)
  system_apart byte cause s (first short f) = token_fault s.reading byte cause f
  system_apart byte cause s (bounds short r bad is) = bad_good r s.reading byte bad s.good
  system_apart byte cause s (large short r good i f at is) = within_not_large (system_constraints r.tree) i (alike t (λ x m. AreWithin (system_constraints x)) s.reading r s.within) f

  -- faults of one sort are one
  module _ (byte byte' : ℕ) where
    one_bounds : (r r' : Reading t) → IsFirstBad (system_domains r.tree) (brackets_in r.marks) byte → IsFirstBad (system_domains r'.tree) (brackets_in r'.marks) byte' → byte ≡ byte'
    one_bounds r r' bad bad' = one_bad (system_domains r'.tree) (brackets_in r'.marks) byte byte' (alike t (λ x m. IsFirstBad (system_domains x) (brackets_in m) byte) r r' bad) bad'

    one_too_large : (r r' : Reading t) (i j : ℕ) → IsFirstLarge (system_constraints r.tree) i → slice_get (starts_in r.marks) i ≡ Some byte →
        IsFirstLarge (system_constraints r'.tree) j → slice_get (starts_in r'.marks) j ≡ Some byte' → byte ≡ byte'
    one_too_large r r' i j f at g at' =
        let same : i ≡ j = one_large (system_constraints r'.tree) i j (alike t (λ x m. IsFirstLarge (system_constraints x) i) r r' f) g in
        let here : slice_get (starts_in r'.marks) j ≡ Some byte = rw same at (alike t (λ x m. slice_get (starts_in m) i ≡ Some byte) r r' at) in
        cc

    pub system_fault : (cause cause' : Cause) → IsFaultOf t byte cause → IsFaultOf t byte' cause' → (byte ≡ byte') × (cause ≡ cause')
    system_fault cause cause' (long more at is) (long more' at' is') = (at ∙ sym at', is ∙ sym is')
    system_fault cause cause' (long more at is) (first short g) = absurd (omega arith)
    system_fault cause cause' (long more at is) (bounds short r bad is') = absurd (omega arith)
    system_fault cause cause' (long more at is) (large short r good i g at' is') = absurd (omega arith)
    system_fault cause cause' (first short f) (long more at is) = absurd (omega arith)
    system_fault cause cause' (first short f) (first short' g) = one_fault t no_names (first_in Between) IsSystem IsLimitedSystem system_limited.text byte byte' cause cause' f g
    system_fault cause cause' (first short f) (bounds short' r bad is) = absurd (token_fault r byte cause f)
    system_fault cause cause' (first short f) (large short' r good i g at is) = absurd (token_fault r byte cause f)
    system_fault cause cause' (bounds short r bad is) (long more at is') = absurd (omega arith)
    system_fault cause cause' (bounds short r bad is) (first short' g) = absurd (token_fault r byte' cause' g)
    system_fault cause cause' (bounds short r bad is) (bounds short' r' bad' is') = (one_bounds r r' bad bad', is ∙ sym is')
    system_fault cause cause' (bounds short r bad is) (large short' r' good i g at is') = absurd (bad_good r r' byte bad good)
    system_fault cause cause' (large short r good i f at is) (long more at' is') = absurd (omega arith)
    system_fault cause cause' (large short r good i f at is) (first short' g) = absurd (token_fault r byte' cause' g)
    system_fault cause cause' (large short r good i f at is) (bounds short' r' bad' is') = absurd (bad_good r' r byte' bad' good)
    system_fault cause cause' (large short r good i f at is) (large short' r' good' j g at' is') = (one_too_large r r' i j f at g at', is ∙ sym is')

pub one_system_meant : (t : List ℕ) → MeansOne t
one_system_meant t s s' m m' =
    let tree = one_trees t m.text.reading m'.text.reading in
    record {
      names = m.names ∙ (ap names_in (one_marks t m.text.reading m'.text.reading) ∙ sym m'.names);
      domains = m.domains ∙ (ap system_domains tree ∙ sym m'.domains);
      constraints = m.constraints ∙ (ap system_constraints tree ∙ sym m'.constraints);
    }

-- a system that is meant has a domain for each name
pub domains_named : (t : List ℕ) (s : Parts) → IsMeaning t s → length s.domains ≡ length s.names
domains_named t s m =
    let r = m.text.reading in
    ap length (m.domains ∙ sym (domains_of_tree t r.tree r.marks r.marked))
    ∙ (length-map (variables_in r.marks) domain_in ∙ (sym (length-map (variables_in r.marks) name_of) ∙ ap length (names_named r.marks ∙ sym m.names)))

-- ---- Texts of expressions

pub text_either : (variables : List (List ℕ)) (t : List ℕ) → IsEither (IsExpressionSentence variables t) (IsExpressionFaultOf variables t)
text_either variables t =
    ⊎_elim
    (λ more. inr (65536, TextTooLong, long_text more refl refl))
    (λ short.
    ⊎_elim
    (λ (n, knows, e, spelled). inl (record { known = n; knows = knows; tree = e; spelled = spelled; short = short }))
    (λ (byte, cause, f). inr (byte, cause, first_text short f))
    (decides_expression variables t))
    (cases_lt 65536 (length t))

pub text_apart : (variables : List (List ℕ)) (t : List ℕ) (byte : ℕ) (cause : Cause) → IsExpressionSentence variables t → IsExpressionFaultOf variables t byte cause → ⊥
text_apart variables t byte cause s (long_text more at is) = let short = s.short in omega (arith, more, short)
text_apart variables t byte cause s (first_text short f) = expression_apart variables t byte cause (s.known, s.knows, s.tree, s.spelled) f

pub text_fault : (variables : List (List ℕ)) (t : List ℕ) (byte byte' : ℕ) (cause cause' : Cause) → IsExpressionFaultOf variables t byte cause → IsExpressionFaultOf variables t byte' cause' →
    (byte ≡ byte') × (cause ≡ cause')
text_fault variables t byte byte' cause cause' (long_text more at is) (long_text more' at' is') = (at ∙ sym at', is ∙ sym is')
text_fault variables t byte byte' cause cause' (long_text more at is) (first_text short g) = absurd (omega (arith, more, short))
text_fault variables t byte byte' cause cause' (first_text short f) (long_text more at is) = absurd (omega (arith, more, short))
text_fault variables t byte byte' cause cause' (first_text short f) (first_text short' g) = expression_fault variables t byte byte' cause cause' f g

pub one_term_meant : (variables : List (List ℕ)) (t : List ℕ) → MeansOneTerm variables t
one_term_meant variables t x x' m m' =
    let spelled : IsExpressionTextOf m.text.known t m'.text.tree =
    subst (λ (z : Names). IsExpressionTextOf z t m'.text.tree) (one_known variables m'.text.known m.text.known m'.text.knows m.text.knows) m'.text.spelled in
    m.term ∙ (ap (expression_term [] []) (one_expression_tree_of t m.text.known m.text.tree m'.text.tree m.text.spelled spelled) ∙ sym m'.term)
