-- What `merge` makes of files depends neither on their order nor on repeats.
use Rattle.std.proofs.Common.{◌≡◌, ◌⊎◌, inl, inr, ℕ, Bool, List, [], ◌∷◌, ◌++◌, map, length, refl, sym, ◌∙◌, ap, subst, arith}
use Rattle.std.specs.Prelude.{◌≢◌, Option, Some, None, codes, decimal, slice_index}
use Rattle.std.proofs.lemmas.List.{length-map}
use Rattle.clap.specs.Words.{Text}
use Rattle.pv_num.specs.Extended.{Extended}
use Rattle.pv_num.specs.Parts.{number_text}
use Rattle.pv_interval.specs.Bounds.{Bounds}
use Rattle.pv_box.specs.declared.choice.Bisector.{Bisector}
use Rattle.pv_expr.specs.Systems.{Parts}
use Rattle.pv_expr.specs.Searches.{search_bounds}
use Rattle.pv_expr.specs.Canonical.{canonical_text, constraint_text, constraints_text, relation_text, term_text, variables_text, count_text}
use Rattle.pv_expr.specs.declared.constraint.Constraint.{Constraint}
use Rattle.pv_code.specs.Expansion.{Sides, sides_of}
use Rattle.pv_parse.specs.Declarations.{AreAlike, IsMeaning}
use Rattle.pv_parse.proofs.Outcomes.{one_system_meant}
use Rattle.pv_ctc.specs.Plans.{plan_of}
use Rattle.pv_ctc.specs.Texts.{program_text}
use Rattle.pv_slope.specs.Methods.{Method, identity_as, identity_of}
use Rattle.pv_settle.specs.Rules.{SettlerParts}
use Rattle.pv_settle.specs.Spelling.{bisector_text, settings_text}
use Rattle.pv_slope.specs.declared.form.Form.{Form}
use Rattle.pv_slope.specs.declared.form.Form.TheVariants.{Plain, Centered}
use Rattle.pv_tree.specs.Trees.{Tree, outcome_at}
use Rattle.pv_tree.specs.Stages.{Grows}
use Rattle.pv_tree.specs.declared.outcome.Outcome.{Outcome}
use Rattle.pv_join.proofs.JoinFacts.{same_tree}
use Rattle.pv_io.specs.Outside.{Content, untold, absent, holds, IsWhole}
use Rattle.pv_file.specs.Readings.{IsPavingInFormat}
use Rattle.pv_file.specs.Texts.{file_text}
use Rattle.pv_file.specs.Lengths.{length_limit}
use Rattle.pv_file.specs.declared.version.Version.{Version}
use Rattle.pv_file.specs.declared.version.Version.TheVariants.{One, Two}
use Rattle.pv_file.proofs.Different.{texts-differ}
use Rattle.pv_request.specs.Requests.{Asks, names_in, out_of, RefusesWords}
use Rattle.pv_request.specs.Refusals.{status_of}
use Rattle.pv_rule.specs.Systems.{Files, IsFetched, IsRuleFor, HasRule, search_box}
use Rattle.pv_rule.specs.Pavings.{settled_in}
use Rattle.pv_product.specs.Files.{HasPaving, HavePavings, AllTrees, AnyTree, IsJoinOf, IsDisagreement}
use Rattle.pv_product.specs.Campaigns.{Stock}
use Rattle.pv_product.specs.Products.{Product, text, unfinished, paved, paved_as, HasStatus, ComesOf, ComesOfMerge, IsOverLimit, RefusesJoined, RefusesWork}
use Rattle.pv_product.specs.Ends.{Stream, Outside, IsKept, IsDelivered, IsAnswered, RefusesDelivery, IsRefusedSo, in_words, in_request, Tells}
use Rattle.pv_laws.specs.Merges.{IsTree, AreSameTrees, JoinAlike, IsNamed, AreSameNames, AreSameSettings, AreSameMerge, AskForSameMerge, AreTold, EndAlike, MergesEndAlike, MergesAreTakenAlike}
use Rattle.pv_request.specs.declared.request.Settings.{Settings}
use Rattle.pv_request.specs.declared.request.Request.{Request}
use Rattle.pv_request.specs.declared.request.Request.TheVariants.{Merge}
use Rattle.pv_request.specs.declared.refusal.Refusal.{Refusal}
use Rattle.pv_request.specs.declared.refusal.Refusal.TheVariants.{Usage, System, Contract, Objective, NoFile, ReadFault, Paving, NotStored, KeeperFault, NotPrinted, Memory, TreeLimit, Disagree, Differs}
use Rattle.pv_request.specs.declared.status.Status.{Status}
use Rattle.pv_request.specs.declared.status.Status.TheVariants as status
use Rattle.pv_product.proofs.Ends.{same_or_other}
use Rattle.pv_opening.proofs.Joined.{any_left, any_right}
use Rattle.pv_laws.proofs.StatusLaws.{no_files}

-- ---- Trees

any_at : (P : Tree → Type 0) (t : Tree) (us : List Tree) → IsTree t us → P t → AnyTree P us
any_at P t [] e p = absurd e
any_at P t (u ∷ us) (inl e) p = inl (subst P (sym e) p)
any_at P t (u ∷ us) (inr e) p = inr (any_at P t us e p)

any_moves : (P : Tree → Type 0) (ts us : List Tree) → ((t : Tree) → IsTree t ts → IsTree t us) → AnyTree P ts → AnyTree P us
any_moves P [] us f h = absurd h
any_moves P (t ∷ ts) us f (inl h) = any_at P t us (f t (inl refl)) h
any_moves P (t ∷ ts) us f (inr h) = any_moves P ts us (λ u k. f u (inr k)) h

all_at : (P : Tree → Type 0) (t : Tree) (ts : List Tree) → IsTree t ts → AllTrees P ts → P t
all_at P t [] e h = absurd e
all_at P t (s ∷ ts) (inl e) h = subst P e h.0
all_at P t (s ∷ ts) (inr e) h = all_at P t ts e h.1

all_moves : (P : Tree → Type 0) (ts us : List Tree) → ((t : Tree) → IsTree t us → IsTree t ts) → AllTrees P ts → AllTrees P us
all_moves P ts [] f h = tt
all_moves P ts (u ∷ us) f h = (all_at P u ts (f u (inl refl)) h, all_moves P ts us (λ t k. f t (inr k)) h)

join_moves : (ts us : List Tree) (t : Tree) → AreSameTrees ts us → IsJoinOf ts t → IsJoinOf us t
join_moves ts us t same h = record {
  each = all_moves (λ s. Grows s t) ts us same.back h.each;
  only = λ p o e. any_moves (λ s. outcome_at s p ≡ Some o) ts us same.forth (h.only p o e);
}

any_grows : (ts : List Tree) (u : Tree) (p : List Bool) (o : Outcome) → AnyTree (λ s. outcome_at s p ≡ Some o) ts → AllTrees (λ s. Grows s u) ts → outcome_at u p ≡ Some o
any_grows [] u p o h k = absurd h
any_grows (t ∷ ts) u p o (inl h) k = k.0 p o h
any_grows (t ∷ ts) u p o (inr h) k = any_grows ts u p o h k.1

join_grows : (ts : List Tree) (t u : Tree) → IsJoinOf ts t → IsJoinOf ts u → Grows t u
join_grows ts t u h k p o e = any_grows ts u p o (h.only p o e) k.each

same_outcome : (x y : Option Outcome) → ((o : Outcome) → x ≡ Some o → y ≡ Some o) → ((o : Outcome) → y ≡ Some o → x ≡ Some o) → x ≡ y
same_outcome None None f g = refl
same_outcome None (Some o) f g = g o refl
same_outcome (Some o) y f g = sym (f o refl)

one_join : (ts : List Tree) (t u : Tree) → IsJoinOf ts t → IsJoinOf ts u → u ≡ t
one_join ts t u h k =
    same_tree u t (λ p. same_outcome (outcome_at u p) (outcome_at t p) (λ o e. join_grows ts u t k h p o e) (λ o e. join_grows ts t u h k p o e))

pub joins_alike : JoinAlike
joins_alike ts us t same h = (join_moves ts us t same h, λ u k. one_join us t u (join_moves ts us t same h) k)

-- ---- The rule

sides_text : List Sides → List ℕ
sides_text [] = []
sides_text (x ∷ xs) = (relation_text x.relation ++ codes " " ++ term_text x.left ++ codes " " ++ term_text x.right ++ codes "\n") ++ sides_text xs

constraints_by_sides : (cs : List Constraint) → constraints_text cs ≡ sides_text (map sides_of cs)
unfolding sides_text
constraints_by_sides [] = refl
constraints_by_sides (c ∷ cs) = ap (λ (l : List ℕ). constraint_text c ++ l) (constraints_by_sides cs)

text_by : List (List ℕ) → List Bounds → List Sides → List ℕ
text_by names intervals sides =
    count_text (codes "vars ") (length names) ++ variables_text names intervals ++ count_text (codes "ctrs ") (length sides) ++ sides_text sides

canonical_by : (s : Parts) → canonical_text s ≡ text_by s.names (map search_bounds s.domains) (map sides_of s.constraints)
unfolding text_by
canonical_by s =
    ap (λ (l : List ℕ). count_text (codes "vars ") (length s.names) ++ variables_text s.names (map search_bounds s.domains) ++ count_text (codes "ctrs ") (length s.constraints) ++ l)
    (constraints_by_sides s.constraints)
    ∙ ap (λ (n : ℕ). count_text (codes "vars ") (length s.names) ++ variables_text s.names (map search_bounds s.domains) ++ count_text (codes "ctrs ") n ++ sides_text (map sides_of s.constraints))
    (sym (length-map s.constraints sides_of))

same_canonical : (s other : Parts) → AreAlike s other → canonical_text s ≡ canonical_text other
same_canonical s other h =
    canonical_by s
    ∙ (λ i. text_by (h.names i) (map search_bounds (h.domains i)) (h.constraints i))
    ∙ sym (canonical_by other)

abbrev settings_by : Extended → ℕ → Bisector → List ℕ → List ℕ
settings_by eps depth bisector program =
    codes "eps " ++ number_text eps ++ codes "\ndepth " ++ decimal depth ++ bisector_text bisector ++ program ++ codes "\n"

same_settings : (r q : SettlerParts) → r.eps ≡ q.eps → r.depth ≡ q.depth → r.bisector ≡ q.bisector → program_text (plan_of r.program) ≡ program_text (plan_of q.program)
    → settings_text r ≡ settings_text q
same_settings r q e d b p = λ i. settings_by (e i) (d i) (b i) (p i)

-- by either form
same_by_form : (f : Form) (r q : SettlerParts) → canonical_text r.system ≡ canonical_text q.system → settings_text r ≡ settings_text q → identity_as f r ≡ identity_as f q
same_by_form Plain r q canonical settings = cc
same_by_form Centered r q canonical settings = cc

same_identity : (r q : Method) → r.form ≡ q.form → canonical_text r.parts.system ≡ canonical_text q.parts.system → settings_text r.parts ≡ settings_text q.parts → identity_of r ≡ identity_of q
same_identity r q form canonical settings = ap (λ (f : Form). identity_as f r.parts) form ∙ same_by_form q.form r.parts q.parts canonical settings

-- the rules of two systems that are alike, by the same settings, have one identity and one box
pub record AreSameRules (r q : Method) : Type 0 where
  pub identity : identity_of r ≡ identity_of q
  pub box : search_box r ≡ search_box q

pub same_rules : (s other : Parts) (x y : Settings) (r q : Method) → AreAlike s other → AreSameSettings x y → IsRuleFor s x r → IsRuleFor other y q → AreSameRules r q
same_rules s other x y r q alike same h k =
    let canonical : canonical_text r.parts.system ≡ canonical_text q.parts.system = ap canonical_text h.system_is ∙ same_canonical s other alike ∙ sym (ap canonical_text k.system_is) in
    let text : settings_text r.parts ≡ settings_text q.parts =
    same_settings r.parts q.parts (h.eps ∙ same.eps ∙ sym k.eps) (h.depth ∙ same.depth ∙ sym k.depth) (h.bisector ∙ same.bisector ∙ sym k.bisector)
    (sym h.program.spelled ∙ same.contract ∙ k.program.spelled) in
    record {
      identity = same_identity r q (h.form ∙ same.form ∙ sym k.form) canonical text;
      box = ap (λ (p : Parts). map search_bounds p.domains) h.system_is ∙ ap (map search_bounds) alike.domains ∙ sym (ap (λ (p : Parts). map search_bounds p.domains) k.system_is);
    }

pub same_fetched : (c : Content) (x y : List ℕ) → c ≢ untold → IsFetched c x → IsFetched c y → x ≡ y
same_fetched untold x y told h k = absurd (told refl)
same_fetched absent x y told h k = absurd h
same_fetched (holds whole) x y told h k = h ∙ sym k

read_rules : (before : Files) (system : Text) (x y : Settings) (r q : Method) → AreTold before → AreSameSettings x y → HasRule before system x r → HasRule before system y q
    → AreSameRules r q
read_rules before system x y r q told same h k =
    let text : k.read.text ≡ h.read.text = same_fetched (before.content system) k.read.text h.read.text (told system) k.read.fetched h.read.fetched in
    same_rules h.system k.system x y r q (one_system_meant h.read.text h.system k.system h.read.means (subst (λ (t : List ℕ). IsMeaning t k.system) text k.read.means)) same h.is k.is

-- ---- One file

pub same_whole : (c : Content) (limit : ℕ) (x y : List ℕ) → c ≢ untold → IsWhole c limit x → IsWhole c limit y → x ≡ y
same_whole untold limit x y told h k = absurd (told refl)
same_whole absent limit x y told h k = absurd h
same_whole (holds whole) limit x y told h k = h.0 ∙ sym k.0

not_same : (m n : ℕ) → m ≡ n → m ≡ 49 → n ≡ 50 → ⊥
not_same m n e one two = omega (arith, e, one, two)

-- the version's digit differs
other_version : (identity : List ℕ) (b : List Bounds) (s t : Tree) → file_text One identity b s ≡ file_text Two identity b t → ⊥
other_version identity b s t e =
    not_same (slice_index (file_text One identity b s) 7) (slice_index (file_text Two identity b t) 7) (ap (λ (l : List ℕ). slice_index l 7) e) refl refl

pub same_text : (v w : Version) (identity : List ℕ) (b : List Bounds) (s t : Tree) → IsPavingInFormat b s → IsPavingInFormat b t → file_text v identity b s ≡ file_text w identity b t → s ≡ t
same_text One One identity b s t h k e = texts-differ One identity b s t h k e
same_text Two Two identity b s t h k e = texts-differ Two identity b s t h k e
same_text One Two identity b s t h k e = absurd (other_version identity b s t e)
same_text Two One identity b s t h k e = absurd (other_version identity b t s (sym e))

pub same_held : (before : Files) (limit : ℕ) (r q : Method) (name : Text) (s t : Tree) → AreTold before → AreSameRules r q → HasPaving before limit r name s → HasPaving before limit q name t → s ≡ t
same_held before limit r q name s t told same h k =
    let bytes : h.bytes ≡ k.bytes = same_whole (before.content name) (length_limit limit) h.bytes k.bytes (told name) h.fetched k.fetched in
    let other : IsPavingInFormat (search_box r) t = subst (λ (b : List Bounds). IsPavingInFormat b t) (sym same.box) k.paving in
    same_text h.text.0 k.text.0 (identity_of r) (search_box r) s t h.paving other
    (sym h.text.1 ∙ bytes ∙ k.text.1 ∙ (λ i. file_text k.text.0 (sym same.identity i) (sym same.box i) t))

-- ---- Several files

held_of : (before : Files) (limit : ℕ) (r : Method) (names : List Text) (ts : List Tree) (name : Text) → HavePavings before limit r names ts → IsNamed name names
    → (t : Tree) × (HasPaving before limit r name t × IsTree t ts)
held_of before limit r [] ts name h n = absurd n
held_of before limit r (m ∷ names) [] name h n = absurd h
held_of before limit r (m ∷ names) (t ∷ ts) name h (inl e) = (t, (subst (λ (x : Text). HasPaving before limit r x t) (sym e) h.0, inl refl))
held_of before limit r (m ∷ names) (t ∷ ts) name h (inr n) = let more = held_of before limit r names ts name h.1 n in (more.0, (more.1.0, inr more.1.1))

name_of : (before : Files) (limit : ℕ) (r : Method) (names : List Text) (ts : List Tree) (t : Tree) → HavePavings before limit r names ts → IsTree t ts
    → (name : Text) × (HasPaving before limit r name t × IsNamed name names)
name_of before limit r names [] t h e = absurd e
name_of before limit r [] (s ∷ ts) t h e = absurd h
name_of before limit r (n ∷ names) (s ∷ ts) t h (inl e) = (n, (subst (HasPaving before limit r n) e h.0, inl refl))
name_of before limit r (n ∷ names) (s ∷ ts) t h (inr e) = let more = name_of before limit r names ts t h.1 e in (more.0, (more.1.0, inr more.1.1))

trees_move : (before : Files) (limit : ℕ) (r q : Method) (names others : List Text) (ts us : List Tree) → AreTold before → AreSameRules r q
    → ((name : Text) → IsNamed name names → IsNamed name others) → HavePavings before limit r names ts → HavePavings before limit q others us → (t : Tree) → IsTree t ts → IsTree t us
trees_move before limit r q names others ts us told same forth h k t e =
    let here = name_of before limit r names ts t h e in
    let there = held_of before limit q others us here.0 k (forth here.0 here.1.1) in
    subst (λ (x : Tree). IsTree x us) (sym (same_held before limit r q here.0 t there.0 told same here.1.0 there.1.0)) there.1.1

swapped : (r q : Method) → AreSameRules r q → AreSameRules q r
swapped r q h = record { identity = sym h.identity; box = sym h.box }

same_trees : (before : Files) (limit : ℕ) (r q : Method) (names others : List Text) (ts us : List Tree) → AreTold before → AreSameRules r q → AreSameNames names others
    → HavePavings before limit r names ts → HavePavings before limit q others us → AreSameTrees ts us
same_trees before limit r q names others ts us told same names_are h k = record {
  forth = trees_move before limit r q names others ts us told same names_are.forth h k;
  back = trees_move before limit q r others names us ts told (swapped r q same) names_are.back k h;
}

pub same_merge : (before : Files) (system : Text) (names others : List Text) (x y : Settings) (limit : ℕ) (p q : Product) → AreTold before → AreSameNames names others → AreSameSettings x y
    → ComesOfMerge before system names x limit p → ComesOfMerge before system others y limit q → p ≡ q
same_merge before system names others x y limit p q told names_are same h k =
    let rules = read_rules before system x y h.rule k.rule told same h.opened.read k.opened.read in
    let trees = same_trees before limit h.rule k.rule names others h.trees k.trees told rules names_are h.opened.held k.opened.held in
    let tree : k.tree ≡ h.tree = one_join k.trees h.tree k.tree (join_moves h.trees k.trees h.tree trees h.opened.join) k.opened.join in
    h.is ∙ (λ i. paved (rules.identity i) (rules.box i) (sym tree i)) ∙ sym k.is

-- ---- Two commands

product_alike : (before : Files) (u v w : Stock) (q r : Request) (p other : Product) → AreTold before → AreSameMerge q r → ComesOf before u v q p → ComesOf before u w r other
    → (p ≡ other) × (out_of q ≡ out_of r)
product_alike before u v w (Merge system pavings s limit out) (Merge system' pavings' s' limit' out') p other told h c d = (
  same_merge before system.now (names_in pavings.items) (names_in pavings'.items) s s' limit p other told h.1 h.2 c
      (subst (λ (n : Text). ComesOfMerge before n (names_in pavings'.items) s' limit other) (sym h.0)
      (subst (λ (l : ℕ). ComesOfMerge before system'.now (names_in pavings'.items) s' l other) (sym h.3) d)),
  h.4,
)
product_alike before u v w q r p other told h c d = absurd h

kept_alike : (out : Option Text) (p : Product) (before one other : Files) → IsKept out p before one → IsKept out p before other → (name : Text) → one.content name ≡ other.content name
kept_alike None p before one other h k name = h.content name ∙ sym (k.content name)
kept_alike (Some m) (text t) before one other h k name = h.content name ∙ sym (k.content name)
kept_alike (Some m) (unfinished t) before one other h k name = h.content name ∙ sym (k.content name)
kept_alike (Some m) (paved_as identity b t done) before one other h k name = by (same_or_other name m)
  where
    by : (name ≡ m) ⊎ (name ≡ m → ⊥) → one.content name ≡ other.content name
    by (inl e) = ap one.content e ∙ h.is ∙ sym k.is ∙ sym (ap other.content e)
    by (inr n) = h.kept.others name n ∙ sym (k.kept.others name n)

one_status : (p : Product) (s other : Status) → HasStatus p s → HasStatus p other → s ≡ other
one_status (text t) s other h k = h ∙ sym k
one_status (unfinished t) s other h k = h ∙ sym k
one_status (paved_as identity b t done) s other h k = h ∙ sym k

answered_alike : (q r : Request) (before one other : Outside) (s s' : Status) → AreTold before.files → AreSameMerge q r
    → IsAnswered q before.files one.files before.stock one.stock before.out one.out s → IsAnswered r before.files other.files before.stock other.stock before.out other.out s' → EndAlike one other s s'
answered_alike q r before one other s s' told same h k =
    let alike = product_alike before.files before.stock one.stock other.stock q r h.product k.product told same h.comes k.comes in
    let there : IsDelivered (out_of q) h.product before.files other.files before.out other.out =
    subst (λ (f : Option Text). IsDelivered f h.product before.files other.files before.out other.out) (sym alike.1)
    (subst (λ (p : Product). IsDelivered (out_of r) p before.files other.files before.out other.out) (sym alike.0) k.delivered) in
    record {
      printed = h.delivered.out ∙ sym there.out;
      files = kept_alike (out_of q) h.product before.files one.files other.files h.delivered.files there.files;
      ended = one_status h.product s s' h.is (subst (λ (p : Product). HasStatus p s') (sym alike.0) k.is);
    }

pub merges_end_alike : MergesEndAlike
merges_end_alike words others before one other s s' told ask d e =
    answered_alike d.request e.request before one other s s' told (ask d.request e.request d.asks e.asks) d.answered e.answered

-- ---- Refusals

-- an outcome that the join of some of the trees has is the join's of all
joined_has : (ts us : List Tree) (joined t : Tree) (p : List Bool) (o : Outcome) → IsJoinOf ts joined → IsJoinOf (ts ++ us) t → outcome_at joined p ≡ Some o → outcome_at t p ≡ Some o
joined_has ts us joined t p o h k e = any_grows (ts ++ us) t p o (any_left (λ s. outcome_at s p ≡ Some o) ts us (h.only p o e)) k.each

next_has : (ts us : List Tree) (next t : Tree) (p : List Bool) (o : Outcome) → IsJoinOf (ts ++ next ∷ us) t → outcome_at next p ≡ Some o → outcome_at t p ≡ Some o
next_has ts us next t p o k e = any_grows (ts ++ next ∷ us) t p o (any_right (λ s. outcome_at s p ≡ Some o) ts (next ∷ us) (inl e)) k.each

-- trees that have a join don't disagree
no_disagreement : (ts : List Tree) (t : Tree) (path : List Bool) (a b : List ℕ) → IsJoinOf ts t → IsDisagreement ts path a b → ⊥
no_disagreement ts t path a b h d =
    let all : IsJoinOf (d.earlier ++ d.next ∷ d.later) t = subst (λ (us : List Tree). IsJoinOf us t) d.are h in
    let left = joined_has d.earlier (d.next ∷ d.later) d.join t path d.first.here.left d.is_join all d.first.here.left_is in
    let right = next_has d.earlier d.later d.next t path d.first.here.right all d.first.here.right_is in
    d.first.here.differ (same_some d.first.here.left d.first.here.right (sym left ∙ right))
  where
    same_some : (o u : Outcome) → Some o ≡ Some u → o ≡ u
    same_some o u e = cc

abbrev IsOver : Status → Type 0
IsOver status.Done = ⊥
IsOver status.OpenLeft = ⊥
IsOver status.Usage = ⊥
IsOver status.SystemRefused = ⊥
IsOver status.PavingRefused = ⊥
IsOver status.ReadFault = ⊥
IsOver status.WriteFault = ⊥
IsOver status.WantOfMemory = ⊥
IsOver status.TreeLimit = Unit {0}
IsOver status.Disagree = Unit {0}
IsOver status.KeeperFault = ⊥
IsOver status.NoFile = ⊥

module _ (before after : Files) (system : Text) (names others : List Text) (x y : Settings) (limit : ℕ) (p : Product) (told : AreTold before) (names_are : AreSameNames names others)
    (same : AreSameSettings x y) (h : ComesOfMerge before system names x limit p) where
  joined_too : (q : Method) (us : List Tree) → HasRule before system y q → HavePavings before limit q others us → IsJoinOf us h.tree
  joined_too q us read held =
      join_moves h.trees us h.tree
      (same_trees before limit h.rule q names others h.trees us told (read_rules before system x y h.rule q told same h.opened.read read) names_are h.opened.held held) h.opened.join

  not_over : (n : ℕ) → IsOverLimit before system others y limit 0 n → ⊥
  not_over n k =
      let tree : k.opening ≡ h.tree = one_join k.trees h.tree k.opening (joined_too k.rule k.trees k.opened.read k.opened.held) k.opened.join in
      let size : settled_in k.opening ≡ settled_in h.tree = ap settled_in tree in
      let few = h.few in let many = k.many in let is = k.settled in
      omega arith

  disagree_or_memory : (path : _) (a b : _) → Disagree path a b ≡ Memory → ⊥
  disagree_or_memory path a b e = cc

  differs_or_memory : (path : _) (a b : _) → Differs path a b ≡ Memory → ⊥
  differs_or_memory path a b e = cc

  not_refused : (r : Refusal) → IsOver (status_of r) → RefusesJoined before after system others y limit 0 r → ⊥
  not_refused (TreeLimit n) over k = not_over n k
  not_refused (Disagree path a b) over (inl k) = k
  not_refused (Disagree path a b) over (inr (inl k)) = no_files before after limit k.rule (Disagree path a b) (disagree_or_memory path a b) (λ n w. w) others k.refused
  not_refused (Disagree path a b) over (inr (inr k)) =
      no_disagreement k.trees h.tree path a.items b.items (joined_too k.rule k.trees k.read k.held) k.refused
  not_refused (Differs path a b) over (inl k) = k
  not_refused (Differs path a b) over (inr (inl k)) = no_files before after limit k.rule (Differs path a b) (differs_or_memory path a b) (λ n w. w) others k.refused
  not_refused (Differs path a b) over (inr (inr k)) = k.refused
  not_refused Usage over k = over
  not_refused (System line column byte cause) over k = over
  not_refused (Contract byte) over k = over
  not_refused (Objective byte cause) over k = over
  not_refused (NoFile n) over k = over
  not_refused (ReadFault n) over k = over
  not_refused (Paving n f) over k = over
  not_refused (NotStored n) over k = over
  not_refused (KeeperFault n) over k = over
  not_refused NotPrinted over k = over
  not_refused Memory over k = over

work_taken : (before after : Files) (u v w : Stock) (q r : Request) (p : Product) (e : Refusal) → AreTold before → AreSameMerge q r → ComesOf before u v q p → IsOver (status_of e)
    → RefusesWork before after u w r e → ⊥
work_taken before after u v w (Merge system pavings s limit out) (Merge system' pavings' s' limit' out') p e told h c over k =
    not_refused before after system.now (names_in pavings.items) (names_in pavings'.items) s s' limit p told h.1 h.2 c e over
    (subst (λ (n : Text). RefusesJoined before after n (names_in pavings'.items) s' limit 0 e) (sym h.0)
    (subst (λ (l : ℕ). RefusesJoined before after system'.now (names_in pavings'.items) s' l 0 e) (sym h.3) k))
work_taken before after u v w q r p e told h c over k = absurd h

words_over : (words : List Text) (r : Refusal) → IsOver (status_of r) → RefusesWords words r → ⊥
words_over words (TreeLimit n) over h = h
words_over words (Disagree path a b) over h = h
words_over words (Differs path a b) over h = h
words_over words Usage over h = over
words_over words (System line column byte cause) over h = over
words_over words (Contract byte) over h = over
words_over words (Objective byte cause) over h = over
words_over words (NoFile n) over h = over
words_over words (ReadFault n) over h = over
words_over words (Paving n f) over h = over
words_over words (NotStored n) over h = over
words_over words (KeeperFault n) over h = over
words_over words NotPrinted over h = over
words_over words Memory over h = over

delivery_over : (out : Option Text) (p : Product) (before after : Files) (x y : Stream) (r : Refusal) → IsOver (status_of r) → RefusesDelivery out p before after x y r → ⊥
delivery_over out p before after x y (TreeLimit n) over h = h
delivery_over out p before after x y (Disagree path a b) over h = h
delivery_over out p before after x y (Differs path a b) over h = h
delivery_over out p before after x y Usage over h = over
delivery_over out p before after x y (System line column byte cause) over h = over
delivery_over out p before after x y (Contract byte) over h = over
delivery_over out p before after x y (Objective byte cause) over h = over
delivery_over out p before after x y (NoFile n) over h = over
delivery_over out p before after x y (ReadFault n) over h = over
delivery_over out p before after x y (Paving n f) over h = over
delivery_over out p before after x y (NotStored n) over h = over
delivery_over out p before after x y (KeeperFault n) over h = over
delivery_over out p before after x y NotPrinted over h = over
delivery_over out p before after x y Memory over h = over

refusal_taken : (words others : List Text) (before other : Outside) (v : Stock) (q : Request) (p : Product) (e : Refusal) → AreTold before.files → AskForSameMerge words others → Asks words q
    → ComesOf before.files before.stock v q p → IsOver (status_of e) → IsRefusedSo others before other e → ⊥
refusal_taken words others before other v q p e told ask asks comes over (in_words h same kept) = words_over others e over h
refusal_taken words others before other v q p e told ask asks comes over (in_request r asked (inl work) kept) =
    work_taken before.files other.files before.stock v other.stock q r p e told (ask q r asks asked) comes over work.0
refusal_taken words others before other v q p e told ask asks comes over (in_request r asked (inr f) kept) =
    delivery_over (out_of r) f.product before.files other.files before.out other.out e over f.refused

told_taken : (words others : List Text) (before other : Outside) (v : Stock) (q : Request) (p : Product) (e : Refusal) (s : Status) → AreTold before.files → AskForSameMerge words others → Asks words q
    → ComesOf before.files before.stock v q p → IsOver s → IsRefusedSo others before other e → Tells e s before.err other.err → ⊥
told_taken words others before other v q p e s told ask asks comes over so (inl line) =
    refusal_taken words others before other v q p e told ask asks comes (subst IsOver line.0 over) so
told_taken words others before other v q p e s told ask asks comes over so (inr memory) = subst IsOver memory.0 over

pub merges_are_taken_alike : MergesAreTakenAlike
merges_are_taken_alike words others before one other s s' told ask d r =
    let none = told_taken words others before other one.stock d.request d.answered.product r.refusal s' told ask d.asks d.answered.comes in
    (λ e. none (subst IsOver (sym e) tt) r.so r.told, λ e. none (subst IsOver (sym e) tt) r.so r.told)
