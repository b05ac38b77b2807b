-- Each refusal has a cause, and where nothing is at fault there is none but memory and the machine.
use Rattle.std.proofs.Common.{◌≡◌, ◌⊎◌, inl, inr, ℕ, ◌+◌, ◌<◌, Bool, true, false, List, [], ◌∷◌, ◌++◌, length, map, refl, sym, ◌∙◌, ap, subst, arith, AllPairs, get_or, slice_get}
use Rattle.std.specs.Prelude.{◌≢◌, Option, Some, None}
use Rattle.std.specs.Borrow.{Bor}
use Rattle.std.proofs.lemmas.Bool.{cases_order}
use Rattle.std.proofs.lemmas.List.{length-map}
use Rattle.std.proofs.lemmas.Option.{get_or_from_slice_get, slice_get_within}
use Rattle.clap.specs.Words.{Text}
use Rattle.pv_num.specs.Extended.{Extended}
use Rattle.pv_interval.specs.Bounds.{Bounds}
use Rattle.pv_expr.specs.Searches.{search_bounds}
use Rattle.pv_expr.specs.Systems.{Parts}
use Rattle.pv_code.specs.Expansion.{sides_of}
use Rattle.pv_grammar.specs.Counting.{nothing}
use Rattle.pv_grammar.specs.Productions.{system_symbols}
use Rattle.pv_grammar.specs.declared.cause.Cause.{Cause}
use Rattle.pv_grammar.specs.declared.counts.Phase.TheVariants.{Between}
use Rattle.pv_grammar.proofs.Within.{within_system}
use Rattle.pv_parse.specs.Declarations.{AreAlike, IsMeaning, IsExpressionSentence}
use Rattle.pv_parse.specs.Faults.{IsFaultOf}
use Rattle.pv_parse.specs.Meanings.{no_names}
use Rattle.pv_parse.specs.declared.refused.ParseRefused.TheVariants.{Fault}
use Rattle.pv_parse.proofs.Naming.{all_heard, names_apart}
use Rattle.pv_parse.proofs.Outcomes.{system_apart, one_system_meant, text_apart}
use Rattle.pv_parse.proofs.TreeDomains.{names_named}
use Rattle.pv_ctc.specs.Plans.{plan_of}
use Rattle.pv_ctc.specs.Refusals.{refused_at}
use Rattle.pv_ctc.proofs.Spelled.{spelling_right, apart}
use Rattle.pv_slope.specs.Methods.{Method, settle_by, identity_of}
use Rattle.pv_tree.specs.Trees.{Tree, leaf, outcome_at}
use Rattle.pv_tree.specs.Stages.{IsStage}
use Rattle.pv_io.specs.Outside.{Content, Rose, untold, absent, holds, IsWhole, MayBeAbsent}
use Rattle.pv_file.specs.Lengths.{length_limit}
use Rattle.pv_file.specs.Readings.{IsPavingInFormat}
use Rattle.pv_keep.specs.Campaigns.{IsOpened, HasTooMany, HasBadRow}
use Rattle.pv_keep.specs.Keeping as keeping
use Rattle.pv_keep.specs.Keeping.{Kept, HasOther}
use Rattle.pv_keep.specs.Rebuilding.{Make, IsFirstBad}
use Rattle.pv_keep.specs.Reopening.{RowsMakeTheirs}
use Rattle.pv_keep.specs.declared.row.Row.{Row}
use Rattle.pv_rounds.specs.Holding.{RefusesHold}
use Rattle.pv_rounds.specs.declared.campaign.HoldRefused.{HoldRefused}
use Rattle.pv_rounds.specs.declared.campaign.HoldRefused.TheVariants as hold
use Rattle.pv_scope.specs.declared.order.Order.{Order}
use Rattle.pv_svg.specs.Pixels.{IsFinite}
use Rattle.pv_svg.specs.Planes.{Plane, place}
use Rattle.pv_request.specs.Requests.{Asks, names_in, out_of, RefusesWords}
use Rattle.pv_request.specs.Refusals.{status_of}
use Rattle.pv_rule.specs.Systems.{Files, IsFetched, HasSystem, HasFault, HasRule, HasNoRule, RefusesFetch, RefusesSystem, RefusesRule, search_box}
use Rattle.pv_rule.specs.Pavings.{settled_in}
use Rattle.pv_product.specs.Campaigns.{Stock, campaign_refusal, RefusesRounds, RefusesCampaign}
use Rattle.pv_product.specs.Files.{HoldsPaving, HasPaving, HavePavings, RefusesPaving, RefusesPavings, AnyTree, IsJoinOf, IsDisagreement, RefusesJoin, RefusesOpening}
use Rattle.pv_product.specs.Leasts.{RefusesLeast}
use Rattle.pv_product.specs.Views.{IsAxis, HasNoAxis, unknown, unbounded, IsPlaneOf, HasNoPlane, no_x, no_y, same as same_name, other_count}
use Rattle.pv_product.specs.Products.{Product, text, unfinished, paved_as, HasStatus, ComesOf, ComesOfAudit, IsOverLimit, RefusesJoined, HasBadPaving, RefusesAudit, HasNoPicture, RefusesSvg, RefusesSample, RefusesWork}
use Rattle.pv_product.specs.Ends.{Outside, RefusesDelivery, IsRefusedSo, in_words, in_request, Tells}
use Rattle.pv_laws.specs.Merges.{IsTree, AreSameSettings, AreTold}
use Rattle.pv_laws.specs.Stored.{IsAnswer}
use Rattle.pv_laws.specs.Complete.{AllAgree, AreJoinable, HoldsPavingOf, HoldsStageOf, HasPicture, HasObjective, KeepsRowsOf, HasCampaign, IsRight, IsOutsideFault, no_memory, not_read, not_stored, not_printed, not_kept, RightIsAnswered, IsAuditable, HasVerdict, IsVerdictOn, IsAudited, PavingIsAudited}
use Rattle.pv_request.specs.declared.request.Settings.{Settings}
use Rattle.pv_request.specs.declared.request.View.{View}
use Rattle.pv_request.specs.declared.request.Rounds.{Rounds}
use Rattle.pv_request.specs.declared.request.Request.{Request}
use Rattle.pv_request.specs.declared.request.Request.TheVariants.{Check, Run, Resume, Merge, Audit, Svg, Sample, Least, Campaign}
use Rattle.pv_request.specs.declared.refusal.Refusal.{Refusal}
use Rattle.pv_request.specs.declared.refusal.Refusal.TheVariants.{Usage, System, Contract, Objective, NoFile, ReadFault, Paving, NotStored, KeeperFault, NotPrinted, Memory, TreeLimit, Disagree, Differs}
use Rattle.pv_request.specs.declared.status.Status.{Status}
use Rattle.pv_opening.proofs.Joined.{any_left, any_right}
use Rattle.pv_laws.proofs.Merges.{AreSameRules, same_fetched, same_held}
use Rattle.pv_laws.proofs.Headline.{AreOneRule, few_constraints, read_one_rule}
use Rattle.pv_laws.proofs.WordLaws.{asking_is_not_refused}
use Rattle.pv_laws.proofs.Stored.{no_file_fault, stage_moves}

-- ---- The system and its settings

not_absent : (c : Content) (t : List ℕ) → c ≢ untold → IsFetched c t → MayBeAbsent c → ⊥
not_absent untold t told h k = told refl
not_absent absent t told h k = h
not_absent (holds whole) t told h k = k

no_fault : (before : Files) (name : Text) (s : Parts) (line column byte : ℕ) (cause : Cause) → before.content name ≢ untold → HasSystem before name s → HasFault before name (Fault byte line column cause) → ⊥
no_fault before name s line column byte cause told h f =
    let same : f.text ≡ h.text = same_fetched (before.content name) f.text h.text told f.fetched h.fetched in
    system_apart h.text byte cause h.means.text (subst (λ (t : List ℕ). IsFaultOf t byte cause) same f.fault.because)

-- a refusal that only memory or the machine explains
abbrev IsExcused : Files → Files → Refusal → Type 0
IsExcused before after Memory = Unit {0}
IsExcused before after (ReadFault n) = Rose before.fetch_faults after.fetch_faults
IsExcused before after r = ⊥

fetch_excused : (before after : Files) (name : Text) (r : Refusal) → (MayBeAbsent (before.content name) → ⊥) → RefusesFetch before after name r → IsExcused before after r
fetch_excused before after name (NoFile n) there k = there k.1
fetch_excused before after name (ReadFault n) there k = k.1
fetch_excused before after name Memory there k = tt
fetch_excused before after name r there k = k

system_excused : (before after : Files) (name : Text) (s : Parts) (r : Refusal) → before.content name ≢ untold → HasSystem before name s → RefusesSystem before after name r → IsExcused before after r
system_excused before after name s (System line column byte cause) told h k = no_fault before name s line column byte cause told h k
system_excused before after name s r told h k = fetch_excused before after name r (not_absent (before.content name) h.text told h.fetched) k

-- a program that is spelled is not refused
not_refused : (before : Files) (name : Text) (s : Settings) (rule : Method) (byte : ℕ) → before.content name ≢ untold → HasRule before name s rule → HasNoRule before name s (Contract byte) → ⊥
not_refused before name s rule byte told h k =
    let same : k.read.text ≡ h.read.text = same_fetched (before.content name) k.read.text h.read.text told k.read.fetched h.read.fetched in
    let alike = one_system_meant h.read.text h.system k.system h.read.means (subst (λ (t : List ℕ). IsMeaning t k.system) same k.read.means) in
    let count : length k.system.constraints ≡ length h.system.constraints =
    sym (length-map k.system.constraints sides_of) ∙ ap length (sym alike.constraints) ∙ length-map h.system.constraints sides_of in
    let right : refused_at (length h.system.constraints) s.contract.now ≡ None =
    spelling_right (length h.system.constraints) s.contract.now (plan_of rule.parts.program) (few_constraints h.read.text h.system h.read.means) h.is.program in
    apart byte (sym right ∙ ap (λ (n : ℕ). refused_at n s.contract.now) (sym count) ∙ k.refused)

rule_excused : (before after : Files) (name : Text) (s : Settings) (rule : Method) (r : Refusal) → before.content name ≢ untold → HasRule before name s rule → RefusesRule before after name s r → IsExcused before after r
rule_excused before after name s rule (Contract byte) told h k = not_refused before name s rule byte told h k
rule_excused before after name s rule r told h k = system_excused before after name h.system r told h.read k

same_settings : (s : Settings) → AreSameSettings s s
same_settings s = record { eps = refl; depth = refl; bisector = refl; contract = refl; form = refl }

-- a file's text and its settings give one rule
one_rule_of : (before : Files) (name : Text) (s : Settings) (r q : Method) → before.content name ≢ untold → HasRule before name s r → HasRule before name s q → AreOneRule r q
one_rule_of before name s r q told h k = read_one_rule before before name name s s r q told refl (same_settings s) h k

-- ---- Files of pavings

whole_there : (c : Content) (limit : ℕ) (bytes : List ℕ) → c ≢ untold → IsWhole c limit bytes → MayBeAbsent c → ⊥
whole_there untold limit bytes told h k = told refl
whole_there absent limit bytes told h k = h
whole_there (holds whole) limit bytes told h k = k

paving_excused : (before after : Files) (limit : ℕ) (rule : Method) (name : Text) (t : Tree) (r : Refusal) → before.content name ≢ untold → HasPaving before limit rule name t
    → RefusesPaving before after limit rule name r → IsExcused before after r
paving_excused before after limit rule name t (Paving n fault) told h k = no_file_fault before limit (identity_of rule) (search_box rule) name t told h fault k.1
paving_excused before after limit rule name t r told h k = fetch_excused before after name r (whole_there (before.content name) (length_limit limit) h.bytes told h.fetched) k

held_moves : (before : Files) (limit : ℕ) (r q : Method) (name : Text) (t : Tree) → AreSameRules r q → HasPaving before limit r name t → HasPaving before limit q name t
held_moves before limit r q name t same h =
    subst (λ (i : List ℕ). HoldsPaving before limit i (search_box q) name t) same.identity
    (subst (λ (b : List Bounds). HoldsPaving before limit (identity_of r) b name t) same.box h)

module _ (before after : Files) (limit : ℕ) (r q : Method) (told : AreTold before) (same : AreSameRules r q) where
  pavings_excused : (names : List Text) (ts : List Tree) (e : Refusal) → HavePavings before limit r names ts → RefusesPavings before after limit q names e → IsExcused before after e
  pavings_excused [] ts e h k = subst (IsExcused before after) (sym k) tt
  pavings_excused (n ∷ names) [] e h k = absurd h
  pavings_excused (n ∷ names) (t ∷ ts) e h (inl k) = paving_excused before after limit q n t e (told n) (held_moves before limit r q n t same h.0) k
  pavings_excused (n ∷ names) (t ∷ ts) e h (inr k) = pavings_excused names ts e h.1 k.2

  one_list : (names : List Text) (ts us : List Tree) → HavePavings before limit r names ts → HavePavings before limit q names us → ts ≡ us
  one_list [] [] [] h k = refl
  one_list [] [] (u ∷ us) h k = absurd k
  one_list [] (t ∷ ts) us h k = absurd h
  one_list (n ∷ names) [] us h k = absurd h
  one_list (n ∷ names) (t ∷ ts) [] h k = absurd k
  one_list (n ∷ names) (t ∷ ts) (u ∷ us) h k =
      let first : t ≡ u = same_held before limit r q n t u told same h.0 k.0 in
      let more : ts ≡ us = one_list names ts us h.1 k.1 in
      λ i. first i ∷ more i

-- ---- Joins

any_tree : (P : Tree → Type 0) (ts : List Tree) → AnyTree P ts → (t : Tree) × (IsTree t ts × P t)
any_tree P [] h = absurd h
any_tree P (t ∷ ts) (inl h) = (t, (inl refl, h))
any_tree P (t ∷ ts) (inr h) = let more = any_tree P ts h in (more.0, (inr more.1.0, more.1.1))

-- trees that agree have no disagreement
no_quarrel : (ts : List Tree) (path : List Bool) (a b : List ℕ) → AllAgree ts → IsDisagreement ts path a b → ⊥
no_quarrel ts path a b agree d =
    let all : List Tree = d.earlier ++ d.next ∷ d.later in
    let here = d.first.here in
    let left = any_tree (λ s. outcome_at s path ≡ Some here.left) all
    (any_left (λ s. outcome_at s path ≡ Some here.left) d.earlier (d.next ∷ d.later) (d.is_join.only path here.left here.left_is)) in
    let right = any_tree (λ s. outcome_at s path ≡ Some here.right) all
    (any_right (λ s. outcome_at s path ≡ Some here.right) d.earlier (d.next ∷ d.later) (inl here.right_is)) in
    here.differ (subst AllAgree d.are agree left.0 right.0 left.1.0 right.1.0 path here.left here.right left.1.1 right.1.1)

join_excused : (before after : Files) (ts : List Tree) (r : Refusal) → AllAgree ts → RefusesJoin ts r → IsExcused before after r
join_excused before after ts (Disagree path joined file) agree k = no_quarrel ts path joined.items file.items agree k
join_excused before after ts Memory agree k = tt
join_excused before after ts r agree k = absurd k

module _ (before after : Files) (system : Text) (names : List Text) (s : Settings) (limit budget : ℕ) (told : AreTold before) (h : AreJoinable before system names s limit budget) where
  these_rules : (q : Method) → HasRule before system s q → AreSameRules h.rule q
  these_rules q read = (one_rule_of before system s h.rule q (told system) h.read read).named

  these_trees : (q : Method) (us : List Tree) → HasRule before system s q → HavePavings before limit q names us → us ≡ h.trees
  these_trees q us read held = sym (one_list before after limit h.rule q told (these_rules q read) names h.trees us h.held held)

  not_over : (n : ℕ) → IsOverLimit before system names s limit budget n → ⊥
  not_over n k =
      let room = h.room k.opening (subst (λ (us : List Tree). IsJoinOf us k.opening) (these_trees k.rule k.trees k.opened.read k.opened.held) k.opened.join) in
      let many = k.many in let is = k.settled in
      omega (arith, room, many, is)

  opening_excused : (r : Refusal) → RefusesOpening before after system names s limit r → IsExcused before after r
  opening_excused r (inl k) = rule_excused before after system s h.rule r (told system) h.read k
  opening_excused r (inr (inl k)) = pavings_excused before after limit h.rule k.rule told (these_rules k.rule k.read) names h.trees r h.held k.refused
  opening_excused r (inr (inr k)) = join_excused before after k.trees r (subst AllAgree (sym (these_trees k.rule k.trees k.read k.held)) h.agree) k.refused

  joined_excused : (r : Refusal) → RefusesJoined before after system names s limit budget r → IsExcused before after r
  joined_excused (TreeLimit n) k = not_over n k
  joined_excused r k = opening_excused r k

-- ---- One file

module _ (before after : Files) (system name : Text) (s : Settings) (limit : ℕ) (told : AreTold before) (h : HoldsPavingOf before system name s limit) where
  refused_excused : (q : Method) (r : Refusal) → HasRule before system s q → RefusesPaving before after limit q name r → IsExcused before after r
  refused_excused q r read k =
      paving_excused before after limit q name h.tree r (told name) (held_moves before limit h.rule q name h.tree (one_rule_of before system s h.rule q (told system) h.read read).named h.held) k

  file_excused : (r : Refusal) → RefusesRule before after system s r ⊎ HasBadPaving before after system name s limit r → IsExcused before after r
  file_excused r (inl k) = rule_excused before after system s h.rule r (told system) h.read k
  file_excused r (inr k) = refused_excused k.rule r k.read k.refused

audit_excused : (before after : Files) (system name : Text) (s : Settings) (limit : ℕ) (r : Refusal) → AreTold before → HoldsStageOf before system name s limit
    → RefusesAudit before after system name s limit r → IsExcused before after r
audit_excused before after system name s limit (Differs path file due) told h k =
    let p = h.paving in
    let one = one_rule_of before system s p.rule k.rule (told system) p.read k.read in
    let tree = same_held before limit p.rule k.rule name p.tree k.tree told one.named p.held k.held in
    k.no_stage (stage_moves p.rule k.rule k.tree one (subst (λ (t : Tree). IsStage (settle_by p.rule) p.rule.parts.depth (search_box p.rule) leaf t) tree h.stage))
audit_excused before after system name s limit r told h k = file_excused before after system name s limit told h.paving r k

-- ---- Planes

-- the names of a system that is meant differ
names_differ : (t : List ℕ) (s : Parts) → IsMeaning t s → AllPairs (λ x y. x ≢ y) s.names
names_differ t s m =
    let r = m.text.reading in
    let heard = all_heard t no_names (nothing Between) (system_symbols r.tree []) r.marks r.spelled.0 (within_system r.tree r.spelled.1) r.marked in
    subst (AllPairs (λ x y. x ≢ y)) (names_named r.marks ∙ sym m.names) (names_apart t no_names (nothing Between) (system_symbols r.tree []) r.marks heard).0

one_place : (names : List (List ℕ)) (i j : ℕ) (x y : List ℕ) → AllPairs (λ x y. x ≢ y) names → slice_get names i ≡ Some x → slice_get names j ≡ Some y → x ≡ y → i ≡ j
one_place names i j x y apart at_i at_j e = by (cases_order i j)
  where
    here : get_or names i [] ≡ get_or names j []
    here = get_or_from_slice_get names i x [] at_i ∙ e ∙ sym (get_or_from_slice_get names j y [] at_j)

    by : (i ≡ j) ⊎ ((i < j) ⊎ (j < i)) → i ≡ j
    by (inl one) = one
    by (inr (inl less)) = absurd (apart i j [] less (slice_get_within names j y at_j) here)
    by (inr (inr more)) = absurd (apart j i [] more (slice_get_within names i x at_i) (sym here))

-- a system with these axes, and another one with the same names and domains
module _ (system other : Parts) (names : system.names ≡ other.names) (domains : system.domains ≡ other.domains) (apart : AllPairs (λ x y. x ≢ y) system.names) where
  axis_there : (name : Text) (i : ℕ) → IsAxis system name i → HasNoAxis other name → ⊥
  axis_there name i a (unknown none) =
      let there : slice_get other.names i ≡ Some name = ap (λ (ns : List (List ℕ)). slice_get ns i) (sym names) ∙ a.named in
      none i (slice_get_within other.names i name there) there
  axis_there name i a (unbounded j named infinite) =
      let one : i ≡ j = one_place system.names i j name name apart a.named (ap (λ (ns : List (List ℕ)). slice_get ns j) names ∙ named) refl in
      infinite (subst (λ (k : ℕ). IsFinite (place (map search_bounds other.domains) k)) one (subst (λ (ds : _). IsFinite (place (map search_bounds ds) i)) domains a.bounded))

  plane_there : (x y : Text) (at : List Extended) (plane : Plane) → IsPlaneOf system x y at plane → HasNoPlane other x y at → ⊥
  plane_there x y at plane h (no_x none) = axis_there x plane.x h.x_is none
  plane_there x y at plane h (no_y none) = axis_there y plane.y h.y_is none
  plane_there x y at plane h (same_name e) = h.fits.two (one_place system.names plane.x plane.y x y apart h.x_is.named h.y_is.named e)
  plane_there x y at plane h (other_count n) = n (ap (λ (l : List Extended). length l + 2) (sym h.at_is) ∙ h.fits.others ∙ ap length names)

-- the systems of two rules of one file are alike
alike_by : (before : Files) (name : Text) (s : Settings) (r q : Method) → before.content name ≢ untold → HasRule before name s r → HasRule before name s q → AreAlike r.parts.system q.parts.system
alike_by before name s r q told h k =
    let text : k.read.text ≡ h.read.text = same_fetched (before.content name) k.read.text h.read.text told k.read.fetched h.read.fetched in
    let alike = one_system_meant h.read.text h.system k.system h.read.means (subst (λ (t : List ℕ). IsMeaning t k.system) text k.read.means) in
    subst (λ (p : Parts). AreAlike p q.parts.system) (sym h.is.system_is) (subst (AreAlike h.system) (sym k.is.system_is) alike)

svg_excused : (before after : Files) (system name : Text) (s : Settings) (limit : ℕ) (v : View) (r : Refusal) → AreTold before → HasPicture before system name s limit v
    → RefusesSvg before after system name s limit v r → IsExcused before after r
svg_excused before after system name s limit v Usage told h k =
    let p = h.paving in
    let alike = alike_by before system s p.rule k.rule (told system) p.read k.read in
    let apart = subst (λ (x : Parts). AllPairs (λ x y. x ≢ y) x.names) (sym p.read.is.system_is) (names_differ p.read.read.text p.read.system p.read.read.means) in
    plane_there p.rule.parts.system k.rule.parts.system alike.names alike.domains apart v.x.now v.y.now v.at.items h.plane h.shown k.none
svg_excused before after system name s limit v r told h k = by k
  where
    by : RefusesRule before after system s r ⊎ HasNoPicture before after system name s limit v r → IsExcused before after r
    by (inl m) = rule_excused before after system s h.paving.rule r (told system) h.paving.read m
    by (inr m) = refused_excused before after system name s limit told h.paving m.rule r m.read m.refused

-- ---- Expressions

least_excused : (before after : Files) (system : Text) (s : Settings) (of : Text) (r : Refusal) → AreTold before → HasObjective before system s of → RefusesLeast before after system s of r
    → IsExcused before after r
least_excused before after system s of (Objective byte cause) told h k =
    let names = (alike_by before system s h.rule k.rule (told system) h.read k.read).names in
    text_apart k.rule.parts.system.names of byte cause (subst (λ (ns : List (List ℕ)). IsExpressionSentence ns of) names h.means.text) k.fault
least_excused before after system s of r told h k = rule_excused before after system s h.rule r (told system) h.read k

-- ---- Campaigns

module _ (make : RowsMakeTheirs) (limit : ℕ) (identity : List ℕ) (b : List Bounds) (t : Tree) where
  not_other : (kept : Kept) (found : List ℕ) → KeepsRowsOf limit kept identity t → HasOther kept identity found → ⊥
  not_other keeping.untold found h k = h
  not_other keeping.absent found h k = k
  not_other (keeping.holds held rows) found h k = k.1 h.0

  not_too_many : (kept : Kept) → KeepsRowsOf limit kept identity t → HasTooMany limit kept identity → ⊥
  not_too_many keeping.untold h k = h
  not_too_many keeping.absent h k = k
  not_too_many (keeping.holds held rows) h k = let few = h.1.1 in let many = k.1 in omega (arith, few, many)

  not_bad : (kept : Kept) (n : ℕ) → IsPavingInFormat b t → KeepsRowsOf limit kept identity t → HasBadRow limit kept identity b n → ⊥
  not_bad keeping.untold n paving h k = h
  not_bad keeping.absent n paving h k = k
  not_bad (keeping.holds held rows) n paving h k = (make b t paving).none_bad n (subst (λ (xs : List Row). IsFirstBad b xs n) h.1.0 k.1.1)

  one_opening : (kept after : Kept) (opening : Tree) → IsPavingInFormat b t → KeepsRowsOf limit kept identity t → IsOpened limit kept after identity b opening → opening ≡ t
  one_opening keeping.untold after opening paving h k = absurd h
  one_opening keeping.absent after opening paving h k = k.1 ∙ sym h
  one_opening (keeping.holds held rows) after opening paving h k = (make b t paving).only opening (subst (λ (xs : List Row). Make b leaf xs opening) h.1.0 k.1.1.1.0)

-- the keeper failed
record IsNotKept (u v : Stock) (r : Refusal) : Type 0 where
  name : Bor Text
  is : r ≡ KeeperFault name
  rose : Rose u.faults v.faults

module _ (make : RowsMakeTheirs) (before after : Files) (u v : Stock) (system : Text) (s : Settings) (limit : ℕ) (order : Order) (boxes : ℕ) (rounds : Rounds) (told : AreTold before)
    (h : HasCampaign before u system s limit boxes rounds) where
  module _ (q : Method) (same : AreSameRules h.rule q) where
    paving_there : IsPavingInFormat (search_box q) h.opening
    paving_there = subst (λ (b : List Bounds). IsPavingInFormat b h.opening) same.box h.paving

    kept_there : KeepsRowsOf limit (u.kept rounds.name.now) (identity_of q) h.opening
    kept_there = subst (λ (i : List ℕ). KeepsRowsOf limit (u.kept rounds.name.now) i h.opening) same.identity h.kept

    hold_excused : (e : HoldRefused) → (e ≡ hold.Failed → Rose u.faults v.faults)
        → RefusesHold limit (settle_by q) q.parts.depth (search_box q) order (identity_of q) boxes rounds.count (u.kept rounds.name.now) (v.kept rounds.name.now) e
        → IsExcused before after (campaign_refusal rounds.name e) ⊎ IsNotKept u v (campaign_refusal rounds.name e)
    hold_excused hold.Memory rose k = inl tt
    hold_excused hold.Failed rose k = inr (record { name = rounds.name; is = refl; rose = rose refl })
    hold_excused (hold.OtherIdentity found) rose k = absurd (not_other make limit (identity_of q) (search_box q) h.opening (u.kept rounds.name.now) found kept_there k.0)
    hold_excused hold.TooMany rose k = absurd (not_too_many make limit (identity_of q) (search_box q) h.opening (u.kept rounds.name.now) kept_there k.0)
    hold_excused (hold.BadRow n) rose k = absurd (not_bad make limit (identity_of q) (search_box q) h.opening (u.kept rounds.name.now) n paving_there kept_there k.0)
    hold_excused (hold.TreeLimit n) rose k =
        let one = one_opening make limit (identity_of q) (search_box q) h.opening (u.kept rounds.name.now) (v.kept rounds.name.now) k.opening paving_there kept_there k.opened in
        let size : settled_in k.opening ≡ settled_in h.opening = ap settled_in one in
        let room = h.room in let many = k.many in let is = k.settled in
        absurd (omega (arith, size, room, many, is))

  rounds_excused : (q : Method) (r : Refusal) → HasRule before system s q → RefusesRounds q u v limit order boxes rounds r → IsExcused before after r ⊎ IsNotKept u v r
  rounds_excused q r read k =
      subst (λ (x : Refusal). IsExcused before after x ⊎ IsNotKept u v x) (sym k.is)
      (hold_excused q (one_rule_of before system s h.rule q (told system) h.read read).named k.refused k.rose k.because)

  campaign_excused : (r : Refusal) → RefusesCampaign before after u v system s limit order boxes rounds r → IsExcused before after r ⊎ IsNotKept u v r
  campaign_excused r (inl k) = inl (rule_excused before after system s h.rule r (told system) h.read k.0)
  campaign_excused r (inr k) = rounds_excused k.rule r k.read k.refused

-- ---- What is asked for

sample_excused : (before after : Files) (r : Refusal) → RefusesSample r → IsExcused before after r
sample_excused before after Memory h = tt
sample_excused before after r h = absurd h

work_excused : RowsMakeTheirs → (before after : Files) (u v : Stock) (q : Request) (r : Refusal) → AreTold before → IsRight before u q → RefusesWork before after u v q r
    → IsExcused before after r ⊎ IsNotKept u v r
work_excused make before after u v (Check system) r told h k = inl (system_excused before after system.now h.0 r (told system.now) h.1 k)
work_excused make before after u v (Run system settings effort out) r told h k = inl (rule_excused before after system.now settings h.0 r (told system.now) h.1 k)
work_excused make before after u v (Resume system pavings settings effort share out) r told h k =
    inl (joined_excused before after system.now (names_in pavings.items) settings effort.budget.limit effort.budget.nodes told h r k)
work_excused make before after u v (Merge system pavings settings limit out) r told h k = inl (joined_excused before after system.now (names_in pavings.items) settings limit 0 told h r k)
work_excused make before after u v (Audit system paving settings limit workers) r told h k = inl (audit_excused before after system.now paving.now settings limit r told h k)
work_excused make before after u v (Svg system paving settings limit view) r told h k = inl (svg_excused before after system.now paving.now settings limit view r told h k)
work_excused make before after u v (Sample circles) r told h k = inl (sample_excused before after r k)
work_excused make before after u v (Least system settings search) r told h k = inl (least_excused before after system.now settings search.of.now r told h k)
work_excused make before after u v (Campaign system settings effort rounds) r told h k =
    campaign_excused make before after u v system.now settings effort.budget.limit effort.order effort.budget.nodes rounds told h r k

-- ---- The whole command

excused_end : (before after : Outside) (r : Refusal) (s : Status) → s ≡ status_of r → IsExcused before.files after.files r → IsOutsideFault before after s
excused_end before after Memory s e h = no_memory e
excused_end before after (ReadFault n) s e h = not_read e h
excused_end before after r s e h = absurd h

work_end : (before after : Outside) (r : Refusal) (s : Status) → s ≡ status_of r → IsExcused before.files after.files r ⊎ IsNotKept before.stock after.stock r → IsOutsideFault before after s
work_end before after r s e (inl h) = excused_end before after r s e h
work_end before after r s e (inr h) = not_kept (e ∙ ap status_of h.is) h.rose

delivery_end : (before after : Outside) (out : Option Text) (p : Product) (r : Refusal) (s : Status) → s ≡ status_of r → RefusesDelivery out p before.files after.files before.out after.out r
    → IsOutsideFault before after s
delivery_end before after out p (NotStored n) s e h = not_stored e h.rose
delivery_end before after out p NotPrinted s e h = not_printed e h.1
delivery_end before after out p Memory s e h = no_memory e
delivery_end before after out p r s e h = absurd h

words_end : (words : List Text) (before after : Outside) (q : Request) (r : Refusal) (s : Status) → Asks words q → s ≡ status_of r → RefusesWords words r → IsOutsideFault before after s
words_end words before after q Usage s asks e h = absurd (asking_is_not_refused words q asks h)
words_end words before after q Memory s asks e h = no_memory e
words_end words before after q r s asks e h = absurd h

-- What is refused is told of memory or the machine, or of what the request's work says.
module _ (words : List Text) (before after : Outside) (q : Request) (r : Refusal) (s : Status) (X : Type 0) (asks : Asks words q)
    (work : (o : Request) → Asks words o → s ≡ status_of r → RefusesWork before.files after.files before.stock after.stock o r → X ⊎ IsOutsideFault before after s) where
  so_end : s ≡ status_of r → IsRefusedSo words before after r → X ⊎ IsOutsideFault before after s
  so_end e (in_words h same kept) = inr (words_end words before after q r s asks e h)
  so_end e (in_request o asked (inl h) kept) = work o asked e h.0
  so_end e (in_request o asked (inr f) kept) = inr (delivery_end before after (out_of o) f.product r s e f.refused)

  told_end : IsRefusedSo words before after r → Tells r s before.err after.err → X ⊎ IsOutsideFault before after s
  told_end so (inl line) = so_end line.0 so
  told_end so (inr memory) = inr (no_memory memory.0)

answers : (p : Product) (s : Status) → HasStatus p s → IsAnswer s
answers (text t) s h = inl h
answers (unfinished t) s h = inr h
answers (paved_as identity b t true) s h = inl h
answers (paved_as identity b t false) s h = inr h

pub right_is_answered : RowsMakeTheirs → RightIsAnswered
right_is_answered make words before after s q told asks right (inl d) = inl (answers d.answered.product s d.answered.is)
right_is_answered make words before after s q told asks right (inr r) =
    told_end words before after q r.refusal s (IsAnswer s) asks
    (λ o asked e k. inr (work_end before after r.refusal s e (work_excused make before.files after.files before.stock after.stock o r.refusal told (right o asked) k))) r.so r.told

-- ---- Audits

audit_verdict : (before : Files) (system name : Text) (s : Settings) (limit : ℕ) (p : Product) (status : Status) → ComesOfAudit before system name s limit p → HasStatus p status
    → HasVerdict before system name s limit status
audit_verdict before system name s limit p status c is = record {
  paving = record { rule = c.rule; read = c.read; tree = c.tree; held = c.held };
  is = inl (subst (λ (x : Product). HasStatus x status) c.is is, c.honest.stage);
}

audit_finds : (before : Files) (u v : Stock) (q : Request) (p : Product) (status : Status) → IsAuditable before q → ComesOf before u v q p → HasStatus p status → IsVerdictOn before q status
audit_finds before u v (Audit system paving settings limit workers) p status h c is = audit_verdict before system.now paving.now settings limit p status c is
audit_finds before u v q p status h c is = absurd h

module _ (words : List Text) (before after : Outside) (status : Status) (told : AreTold before.files) where
  difference_found : (system name : Text) (s : Settings) (limit : ℕ) (r : Refusal) → HoldsPavingOf before.files system name s limit → status ≡ status_of r
      → RefusesAudit before.files after.files system name s limit r → HasVerdict before.files system name s limit status ⊎ IsOutsideFault before after status
  difference_found system name s limit (Differs path file due) h e k = inl (record { paving = record { rule = k.rule; read = k.read; tree = k.tree; held = k.held }; is = inr (e, k.no_stage) })
  difference_found system name s limit r h e k = inr (excused_end before after r status e (file_excused before.files after.files system name s limit told h r k))

  audit_ends : (o : Request) (r : Refusal) → Asks words o → IsAuditable before.files o → status ≡ status_of r → RefusesWork before.files after.files before.stock after.stock o r
      → IsAudited words before.files status ⊎ IsOutsideFault before after status
  audit_ends (Audit system paving settings limit workers) r asked h e k = by (difference_found system.now paving.now settings limit r h e k)
    where
      by : HasVerdict before.files system.now paving.now settings limit status ⊎ IsOutsideFault before after status → IsAudited words before.files status ⊎ IsOutsideFault before after status
      by (inl found) = inl (record { request = Audit system paving settings limit workers; asks = asked; verdict = found })
      by (inr fault) = inr fault
  audit_ends o r asked h e k = absurd h

pub paving_is_audited : PavingIsAudited
paving_is_audited words before after s q told asks right (inl d) = inl (record {
  request = d.request;
  asks = d.asks;
  verdict = audit_finds before.files before.stock after.stock d.request d.answered.product s (right d.request d.asks) d.answered.comes d.answered.is;
})
paving_is_audited words before after s q told asks right (inr r) =
    told_end words before after q r.refusal s (IsAudited words before.files s) asks (λ o asked e k. audit_ends words before after s told o r.refusal asked (right o asked) e k) r.so r.told
