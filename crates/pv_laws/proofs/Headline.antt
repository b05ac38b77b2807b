-- Pavings that are completed are one.
use Rattle.std.proofs.Common.{◌≡◌, inl, inr, ℕ, List, [], ◌∷◌, map, length, refl, sym, ◌∙◌, ap, subst, arith}
use Rattle.std.specs.Prelude.{◌≢◌, ◌^◌, ◌<◌, Option, Some, None, nat_eq, ◌||◌, if◌then◌else◌}
use Rattle.std.proofs.lemmas.List.{length-map}
use Rattle.clap.specs.Words.{Text}
use Rattle.pv_num.specs.Extended.{Extended}
use Rattle.pv_interval.specs.Bounds.{Bounds}
use Rattle.pv_box.specs.declared.choice.Bisector.{Bisector}
use Rattle.pv_box.specs.Choice.{choose_of, is_small_of}
use Rattle.pv_expr.specs.Systems.{Parts}
use Rattle.pv_expr.specs.declared.constraint.Constraint.{Constraint}
use Rattle.pv_code.specs.Expansion as code
use Rattle.pv_code.specs.Expansion.{sides_of}
use Rattle.pv_grammar.specs.Trees.{system_constraints}
use Rattle.pv_parse.specs.Declarations.{AreAlike, IsMeaning}
use Rattle.pv_parse.proofs.Outcomes.{one_system_meant}
use Rattle.pv_parse.proofs.TreeTexts.{constraints_many}
use Rattle.pv_hc4.specs.Graphs.{sides_named}
use Rattle.pv_hc4.specs.Revise.{Sides}
use Rattle.pv_ctc.specs.Contracting.{sides_in, contract_of}
use Rattle.pv_ctc.specs.Sureness as sure
use Rattle.pv_ctc.specs.Plans.{Plan, plan_of}
use Rattle.pv_ctc.specs.Refusals.{IsSpelling}
use Rattle.pv_ctc.proofs.OneSpelling.{one_spelling}
use Rattle.pv_settle.specs.Rules.{SettlerParts}
use Rattle.pv_settle.specs.Settling as natural
use Rattle.pv_settle.specs.Settling.{cut_or_small}
use Rattle.pv_slope.specs.Settling as centered
use Rattle.pv_slope.specs.Programs as slopes
use Rattle.pv_slope.specs.Methods.{Method, settle_as, settle_by, identity_of}
use Rattle.pv_scope.specs.declared.order.Order.{Order}
use Rattle.pv_scope.specs.declared.share.Share.{Share}
use Rattle.pv_slope.specs.declared.form.Form.{Form}
use Rattle.pv_slope.specs.declared.form.Form.TheVariants.{Plain, Centered}
use Rattle.pv_tree.specs.Trees.{Tree, leaf, opens}
use Rattle.pv_tree.specs.Stages.{full_of}
use Rattle.pv_tree.specs.declared.outcome.Outcome.{Outcome}
use Rattle.pv_tree.specs.declared.outcome.Outcome.TheVariants.{Removed, Inner, Small}
use Rattle.pv_io.specs.Outside.{Content, untold}
use Rattle.pv_request.specs.Requests.{names_in, out_of}
use Rattle.pv_rule.specs.Systems.{Files, IsFetched, IsRuleFor, HasRule, search_box}
use Rattle.pv_product.specs.Campaigns.{Stock}
use Rattle.pv_product.specs.Products.{Product, paved, paved_as, HasStatus, IsHonest, ComesOf, ComesOfRun, ComesOfResume, ComesOfMerge, full_by}
use Rattle.pv_product.specs.Ends.{Outside, IsDelivered, IsDone, IsEnd}
use Rattle.pv_laws.specs.Merges.{AreSameSettings}
use Rattle.pv_laws.specs.Headline.{IsWholePaving, FilesAreStages, IsPavingOf, CompletedAreAlike}
use Rattle.pv_request.specs.declared.request.Settings.{Settings}
use Rattle.pv_request.specs.declared.request.Request.{Request}
use Rattle.pv_request.specs.declared.request.Request.TheVariants.{Run, Resume, Merge}
use Rattle.pv_request.specs.declared.status.Status.TheVariants.{Done}
use Rattle.pv_laws.proofs.Merges.{AreSameRules, same_rules, same_fetched}
use Rattle.pv_laws.proofs.StatusLaws.{not_told, closed_at}

-- ---- One way of settling

abbrev unsure_by : Extended → Bisector → List Bounds → ℕ → ℕ → Outcome
unsure_by eps bisector to d k = if nat_eq d 0 || is_small_of eps to then Small to else cut_or_small to (choose_of bisector k to)

abbrev natural_left : List Sides → Plan → Extended → Bisector → List Bounds → ℕ → ℕ → Outcome
natural_left sides plan eps bisector to d k = if sure.program_sure sides plan to then Inner to else unsure_by eps bisector to d k

abbrev centered_left : List Sides → Plan → Extended → Bisector → List Bounds → ℕ → ℕ → Outcome
centered_left sides plan eps bisector to d k =
    if slopes.program_none sides plan to then Removed
    else if slopes.program_sure sides plan to then Inner to
    else unsure_by eps bisector to d k

-- two settlers with the same sides, program, width and bisector
module _ (r q : SettlerParts) (sides : sides_in r.graphs ≡ sides_in q.graphs) (plan : plan_of r.program ≡ plan_of q.program) (eps : r.eps ≡ q.eps) (bisector : r.bisector ≡ q.bisector) where
  natural_contracted : (o : Option (List Bounds)) (d k : ℕ) → natural.settle_contracted r o d k ≡ natural.settle_contracted q o d k
  natural_contracted None d k = refl
  natural_contracted (Some to) d k = λ i. natural_left (sides i) (plan i) (eps i) (bisector i) to d k

  centered_contracted : (o : Option (List Bounds)) (d k : ℕ) → centered.settle_contracted r o d k ≡ centered.settle_contracted q o d k
  centered_contracted None d k = refl
  centered_contracted (Some to) d k = λ i. centered_left (sides i) (plan i) (eps i) (bisector i) to d k

  natural_alike : (b : List Bounds) (d k : ℕ) → natural.settle_by r b d k ≡ natural.settle_by q b d k
  unfolding natural.settle_by
  natural_alike b d k =
      (λ i. natural.settle_contracted r (contract_of (sides i) (plan i) b) d k)
      ∙ natural_contracted (contract_of (sides_in q.graphs) (plan_of q.program) b) d k

  centered_alike : (b : List Bounds) (d k : ℕ) → centered.settle_centered r b d k ≡ centered.settle_centered q b d k
  unfolding centered.settle_centered
  centered_alike b d k =
      (λ i. centered.settle_contracted r (contract_of (sides i) (plan i) b) d k)
      ∙ centered_contracted (contract_of (sides_in q.graphs) (plan_of q.program) b) d k

  settle_alike : (form : Form) → settle_as form r ≡ settle_as form q
  settle_alike Plain = λ i b d k. natural_alike b d k i
  settle_alike Centered = λ i b d k. centered_alike b d k i

-- ---- One rule

-- a system that a text means has at most 64 constraints
pub few_constraints : (t : List ℕ) (s : Parts) → IsMeaning t s → length s.constraints < 2 ^ 32
few_constraints t s h =
    let few = (constraints_many h.text.reading.tree h.text.reading.spelled.1).1 in
    let many : length (map sides_of s.constraints) ≡ length (system_constraints h.text.reading.tree) = ap length h.constraints in
    omega (arith, few, many, length-map s.constraints sides_of)

-- a constraint's two sides and their relation, as graphs have them
abbrev as_named : code.Sides → Sides
as_named x = record { left = x.left; relation = x.relation; right = x.right }

by_sides : (cs : List Constraint) → map sides_named cs ≡ map as_named (map sides_of cs)
by_sides [] = refl
by_sides (c ∷ cs) = ap (λ (l : List Sides). sides_named c ∷ l) (by_sides cs)

-- the rules of one text by the same settings
pub record AreOneRule (r q : Method) : Type 0 where
  pub named : AreSameRules r q
  pub settle : settle_by r ≡ settle_by q
  pub depth : r.parts.depth ≡ q.parts.depth

same_programs : (t : List ℕ) (s other : Parts) (x y : Settings) (r q : Method) → IsMeaning t s → AreAlike s other → AreSameSettings x y → IsRuleFor s x r → IsRuleFor other y q
    → plan_of r.parts.program ≡ plan_of q.parts.program
same_programs t s other x y r q means alike same h k =
    let count : length other.constraints ≡ length s.constraints =
    sym (length-map other.constraints sides_of) ∙ ap length (sym alike.constraints) ∙ length-map s.constraints sides_of in
    let spelled : IsSpelling (length s.constraints) x.contract.now (plan_of q.parts.program) =
    subst (λ (n : ℕ). IsSpelling n x.contract.now (plan_of q.parts.program)) count
    (subst (λ (l : List ℕ). IsSpelling (length other.constraints) l (plan_of q.parts.program)) (sym same.contract) k.program) in
    one_spelling (length s.constraints) x.contract.now (plan_of r.parts.program) (plan_of q.parts.program) (few_constraints t s means) h.program spelled

one_rule : (t : List ℕ) (s other : Parts) (x y : Settings) (r q : Method) → IsMeaning t s → IsMeaning t other → AreSameSettings x y → IsRuleFor s x r → IsRuleFor other y q → AreOneRule r q
one_rule t s other x y r q means meant same h k =
    let alike = one_system_meant t s other means meant in
    let sides : sides_in r.parts.graphs ≡ sides_in q.parts.graphs =
    h.sides ∙ by_sides s.constraints ∙ ap (map as_named) alike.constraints ∙ sym (by_sides other.constraints) ∙ sym k.sides in
    let plan = same_programs t s other x y r q means alike same h k in
    let form : r.form ≡ q.form = h.form ∙ same.form ∙ sym k.form in
    record {
      named = same_rules s other x y r q alike same h k;
      settle = ap (λ (f : Form). settle_as f r.parts) form
          ∙ settle_alike r.parts q.parts sides plan (h.eps ∙ same.eps ∙ sym k.eps) (h.bisector ∙ same.bisector ∙ sym k.bisector) q.form;
      depth = h.depth ∙ same.depth ∙ sym k.depth;
    }

-- the same system read of two folders
pub read_one_rule : (before before' : Files) (name name' : Text) (x y : Settings) (r q : Method) → before.content name ≢ untold → before.content name ≡ before'.content name' → AreSameSettings x y
    → HasRule before name x r → HasRule before' name' y q → AreOneRule r q
read_one_rule before before' name name' x y r q told there same h k =
    let fetched : IsFetched (before.content name) k.read.text = subst (λ (c : Content). IsFetched c k.read.text) (sym there) k.read.fetched in
    let one : k.read.text ≡ h.read.text = same_fetched (before.content name) k.read.text h.read.text told fetched h.read.fetched in
    one_rule h.read.text h.system k.system x y r q h.read.means (subst (λ (t : List ℕ). IsMeaning t k.system) one k.read.means) same h.is k.is

-- ---- One paving

same_whole_paving : (before before' : Files) (name name' : Text) (x y : Settings) (p other : Product) → before.content name ≢ untold → before.content name ≡ before'.content name' → AreSameSettings x y
    → IsWholePaving before name x p → IsWholePaving before' name' y other → p ≡ other
same_whole_paving before before' name name' x y p other told there same h k =
    let one = read_one_rule before before' name name' x y h.rule k.rule told there same h.read k.read in
    h.is
    ∙ (λ i. paved (one.named.identity i) (one.named.box i) (full_of (one.settle i) (one.depth i) (one.named.box i) leaf 0))
    ∙ sym k.is

closed_product : (p : Product) (identity : List ℕ) (b : List Bounds) (t : Tree) → p ≡ paved identity b t → HasStatus p Done → opens t ≡ []
closed_product p identity b t e h = closed_at t (subst (λ (x : Product). HasStatus x Done) e h)

-- a paving without an open leaf that is a stage of the search box is the whole one
whole_of : (before : Files) (system : Text) (s : Settings) (rule : Method) (t : Tree) (p : Product) → HasRule before system s rule → IsHonest s rule t → p ≡ paved (identity_of rule) (search_box rule) t
    → HasStatus p Done → IsWholePaving before system s p
whole_of before system s rule t p read honest is done =
    let whole : t ≡ full_by rule leaf = honest.whole (closed_product p (identity_of rule) (search_box rule) t is done) in
    record { rule = rule; read = read; is = is ∙ ap (paved (identity_of rule) (search_box rule)) whole }

whole_run : (before : Files) (system : Text) (s : Settings) (order : Order) (boxes : ℕ) (p : Product) → ComesOfRun before system s order boxes p → HasStatus p Done → IsWholePaving before system s p
whole_run before system s order boxes p h done = whole_of before system s h.rule h.tree p h.read h.honest h.is done

whole_resume : (before : Files) (system : Text) (names : List Text) (s : Settings) (limit : ℕ) (order : Order) (boxes : ℕ) (p : Product)
    → ComesOfResume before system names s limit order boxes None p → FilesAreStages before system names s limit → HasStatus p Done → IsWholePaving before system s p
whole_resume before system names s limit order boxes p h stages done =
    whole_of before system s h.rule h.tree p h.opened.read (h.honest (stages h.rule h.trees h.opening h.opened))
    (h.is ∙ ap (paved_as (identity_of h.rule) (search_box h.rule) h.tree) h.run.2) done

whole_merge : (before : Files) (system : Text) (names : List Text) (s : Settings) (limit : ℕ) (p : Product) → ComesOfMerge before system names s limit p
    → FilesAreStages before system names s limit → HasStatus p Done → IsWholePaving before system s p
whole_merge before system names s limit p h stages done =
    whole_of before system s h.rule h.tree p h.opened.read (h.honest (stages h.rule h.trees h.tree h.opened)) h.is done

renamed : (before : Files) (system name : Text) (s t : Settings) (p : Product) → system ≡ name → s ≡ t → IsWholePaving before system s p → IsWholePaving before name t p
renamed before system name s t p n e h = subst (λ (x : Settings). IsWholePaving before name x p) e (subst (λ (x : Text). IsWholePaving before x s p) n h)

whole_paving : (before : Files) (u v : Stock) (q : Request) (name : Text) (s : Settings) (p : Product) → IsPavingOf before q name s → ComesOf before u v q p → HasStatus p Done
    → IsWholePaving before name s p
whole_paving before u v (Run system settings effort out) name s p h c done =
    renamed before system.now name settings s p h.0 h.1 (whole_run before system.now settings effort.order effort.budget.nodes p c done)
whole_paving before u v (Resume system pavings settings effort share out) name s p h c done =
    let all = subst (λ (part : Option Share). ComesOfResume before system.now (names_in pavings.items) settings effort.budget.limit effort.order effort.budget.nodes part p) h.2 c in
    renamed before system.now name settings s p h.0 h.1 (whole_resume before system.now (names_in pavings.items) settings effort.budget.limit effort.order effort.budget.nodes p all h.3 done)
whole_paving before u v (Merge system pavings settings limit out) name s p h c done =
    renamed before system.now name settings s p h.0 h.1 (whole_merge before system.now (names_in pavings.items) settings limit p c h.2 done)
whole_paving before u v q name s p h c done = absurd h

-- ---- Two commands

done_of : (words : List Text) (before after : Outside) → IsEnd words before after Done → IsDone words before after Done
done_of words before after (inl d) = d
done_of words before after (inr r) = absurd (not_told r.refusal Done before.err after.err tt r.told)

pub completed_are_alike : CompletedAreAlike
completed_are_alike words others before after before' after' h one other =
    let d = done_of words before after one in
    let e = done_of others before' after' other in
    let here = whole_paving before.files before.stock after.stock d.request h.name h.settings d.answered.product (h.one d.request d.asks) d.answered.comes d.answered.is in
    let there = whole_paving before'.files before'.stock after'.stock e.request h.name' h.settings' e.answered.product (h.other e.request e.asks) e.answered.comes e.answered.is in
    let same = same_whole_paving before.files before'.files h.name h.name' h.settings h.settings' d.answered.product e.answered.product h.told h.text h.same here there in (
      d.answered.product,
      (
        record { request = d.request; asks = d.asks; delivered = d.answered.delivered },
        record { request = e.request; asks = e.asks; delivered = subst (λ (p : Product). IsDelivered (out_of e.request) p before'.files after'.files before'.out after'.out) (sym same) e.answered.delivered },
      ),
    )
