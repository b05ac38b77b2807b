-- The set of the default program, and the tree that centered forms prune.
use Rattle.std.proofs.Common.{◌≡◌, ◌≤◌, ◌+◌, ◌-◌, ℕ, zero, suc, Some, None, List, [], ◌∷◌, length, refl, sym, ◌∙◌, ap, subst, arith}
use Rattle.std.specs.Prelude.{Bool, true, false, ◌||◌, if◌then◌else◌, Option}
use Rattle.std.proofs.lemmas.Bool.{and_from}
use Rattle.std.proofs.lemmas.List.{length-map}
use Rattle.clap.specs.Words.{Text}
use Rattle.pv_interval.specs.Bounds.{Bounds}
use Rattle.pv_box.specs.Boxes.{lower_half, upper_half}
use Rattle.pv_hc4.specs.Graphs.{sides_named}
use Rattle.pv_hc4.specs.Revise.{Sides}
use Rattle.pv_hc4.specs.Totality.{sure_of}
use Rattle.pv_hc4.proofs.Sureness.{left_true, right_true}
use Rattle.pv_ctc.specs.Contracting.{sides_in, contract_of}
use Rattle.pv_ctc.specs.Plans.{Plan, Plans, hc4, compose, union, qinter, fix, prop, no_plan, plan_and, plan_of, IsFor, AreFor}
use Rattle.pv_ctc.specs.Refusals.{IsSpelling}
use Rattle.pv_ctc.specs.Sureness as interval
use Rattle.pv_ctc.specs.Sureness.{all_true, count_true, constraints_sure, parts_sure}
use Rattle.pv_ctc.proofs.Inherited.{more_enough}
use Rattle.pv_settle.specs.Rules.{SettlerParts}
use Rattle.pv_settle.specs.Settling as natural
use Rattle.pv_settle.specs.Settling.{settle_unsure}
use Rattle.pv_settle.specs.Laws.{by_unsure}
use Rattle.pv_slope.specs.Settling as centered
use Rattle.pv_slope.specs.Tests.{centered_sure, counts_as_sure}
use Rattle.pv_slope.specs.Programs as slopes
use Rattle.pv_slope.specs.Programs.{sure_by, sure_by_each, sure_tests}
use Rattle.pv_slope.specs.Excluding.{test_of}
use Rattle.pv_slope.specs.Methods.{Method, settle_as}
use Rattle.pv_slope.specs.declared.form.Form.{Form}
use Rattle.pv_slope.specs.declared.form.Form.TheVariants.{Plain, Centered}
use Rattle.pv_tree.specs.Trees.{Tree, leaf, removed, inner, small, cut, to_of}
use Rattle.pv_tree.specs.Stages.{Rule, full, full_of}
use Rattle.pv_tree.specs.declared.outcome.Outcome.{Outcome}
use Rattle.pv_tree.specs.declared.outcome.Outcome.TheVariants.{Removed, Inner, Small, Cut}
use Rattle.pv_tree.proofs.StageLaws.{rest, grown, full-is}
use Rattle.pv_rule.specs.Systems.{Files, HasRule, search_box}
use Rattle.pv_rule.proofs.Sets.{default_spelling}
use Rattle.pv_product.specs.Products.{full_by}
use Rattle.pv_request.specs.declared.request.Settings.{Settings}
use Rattle.pv_laws.specs.Merges.{AreSameSettings}
use Rattle.pv_laws.specs.Sets.{DefaultIsProp, kept_by, IsPruned, HasNoMore, CenteredPrunes, PrunedHaveNoMore}
use Rattle.pv_laws.proofs.Headline.{read_one_rule}

pub default_is_prop : DefaultIsProp
default_is_prop system s is =
    subst (λ (text : List ℕ). IsSpelling (length system.constraints) text (prop 8)) (sym is) (default_spelling (length system.constraints))

-- ---- What the intervals show, one of the two tests shows

no_truth : {P : Type 0} → false ≡ true → P
no_truth e = absurd (cc)

first_true : (t u : Bool) → t ≡ true → (t || u) ≡ true
first_true true u e = refl
first_true false u e = no_truth e

one_more : (t u : Bool) (m n : ℕ) → (t ≡ true → u ≡ true) → m ≤ n → (if t then 1 else 0) + m ≤ (if u then 1 else 0) + n
one_more true true m n more few = omega arith
one_more true false m n more few = no_truth (more refl)
one_more false true m n more few = omega arith
one_more false false m n more few = omega arith

module _ (b : List Bounds) where
  all_surer : (ss : List Sides) → all_true (constraints_sure ss b) ≡ true → all_true (sure_tests ss b) ≡ true
  all_surer [] e = refl
  all_surer (s ∷ ss) e =
      and_from (counts_as_sure s b) (all_true (sure_tests ss b))
      (first_true (sure_of s b) (centered_sure s b) (left_true (sure_of s b) (all_true (constraints_sure ss b)) e))
      (all_surer ss (right_true (sure_of s b) (all_true (constraints_sure ss b)) e))

module _ (ss : List Sides) (b : List Bounds) where
  mutual
    surer : (p : Plan) → IsFor (length ss) p → interval.program_sure ss p b ≡ true → sure_by (sure_tests ss b) p ≡ true
    surer (hc4 i) f e = test_of (λ s. counts_as_sure s b) ss i f ∙ first_true _ _ e
    surer (compose ps) f e = parts_surer ps f.1 e
    surer (union ps) f e = more_enough 1 (count_true (parts_sure ss ps b)) (count_true (sure_by_each (sure_tests ss b) ps)) (more_parts ps f.1) e
    surer (qinter q ps) f e = more_enough q (count_true (parts_sure ss ps b)) (count_true (sure_by_each (sure_tests ss b) ps)) (more_parts ps f.2) e
    surer (fix n p) f e = surer p f.2 e
    surer (prop n) f e = all_surer b ss e

    parts_surer : (ps : Plans) → AreFor (length ss) ps → all_true (parts_sure ss ps b) ≡ true → all_true (sure_by_each (sure_tests ss b) ps) ≡ true
    parts_surer no_plan f e = refl
    parts_surer (plan_and p ps) f e =
        and_from (sure_by (sure_tests ss b) p) (all_true (sure_by_each (sure_tests ss b) ps))
        (surer p f.0 (left_true (interval.program_sure ss p b) (all_true (parts_sure ss ps b)) e))
        (parts_surer ps f.1 (right_true (interval.program_sure ss p b) (all_true (parts_sure ss ps b)) e))

    more_parts : (ps : Plans) → AreFor (length ss) ps → count_true (parts_sure ss ps b) ≤ count_true (sure_by_each (sure_tests ss b) ps)
    more_parts no_plan f = omega arith
    more_parts (plan_and p ps) f =
        one_more (interval.program_sure ss p b) (sure_by (sure_tests ss b) p) (count_true (parts_sure ss ps b)) (count_true (sure_by_each (sure_tests ss b) ps))
        (surer p f.0) (more_parts ps f.1)

-- ---- One box

-- The first outcome is the second one, or removed, or inner in what the second one kept.
abbrev Decides : Outcome → Outcome → Type 0
Decides Removed n = Unit {0}
Decides (Inner to) n = to_of n ≡ Some to
Decides (Small to) n = Small to ≡ n
Decides (Cut to var at) n = Cut to var at ≡ n

decides_by : (none more sure : Bool) (to : List Bounds) (o : Outcome) → (sure ≡ true → more ≡ true) → to_of o ≡ Some to → Decides o o
    → Decides (if none then Removed else if more then Inner to else o) (if sure then Inner to else o)
decides_by true more sure to o surer kept same = tt
decides_by false true true to o surer kept same = refl
decides_by false true false to o surer kept same = kept
decides_by false false true to o surer kept same = no_truth (surer refl)
decides_by false false false to o surer kept same = same

module _ (r : SettlerParts) (fits : IsFor (length (sides_in r.graphs)) (plan_of r.program)) where
  decides_left : (o : Option (List Bounds)) (d k : ℕ) → Decides (centered.settle_contracted r o d k) (natural.settle_contracted r o d k)
  decides_left None d k = tt
  decides_left (Some to) d k =
      decides_by (slopes.program_none (sides_in r.graphs) (plan_of r.program) to) (slopes.program_sure (sides_in r.graphs) (plan_of r.program) to)
      (interval.program_sure (sides_in r.graphs) (plan_of r.program) to) to (settle_unsure r to d k) (surer (sides_in r.graphs) to (plan_of r.program) fits)
      (by_unsure (λ (o : Outcome). to_of o ≡ Some to) r to d k refl (λ v a some within. refl))
      (by_unsure (λ (o : Outcome). Decides o o) r to d k refl (λ v a some within. refl))

  decides : (b : List Bounds) (d k : ℕ) → Decides (centered.settle_centered r b d k) (natural.settle_by r b d k)
  unfolding centered.settle_centered natural.settle_by
  decides b d k = decides_left (contract_of (sides_in r.graphs) (plan_of r.program) b) d k

-- ---- The tree

kept_grown : (rule : Rule) (d k : ℕ) (o : Outcome) → kept_by (grown rule d k o) ≡ to_of o
kept_grown rule d k Removed = refl
kept_grown rule d k (Inner to) = refl
kept_grown rule d k (Small to) = refl
kept_grown rule d k (Cut to var at) = refl

none_grown : (rule : Rule) (d k : ℕ) (o : Outcome) → IsPruned removed (grown rule d k o)
none_grown rule d k Removed = tt
none_grown rule d k (Inner to) = tt
none_grown rule d k (Small to) = tt
none_grown rule d k (Cut to var at) = tt

module _ (rule other : Rule) (by : (b : List Bounds) (d k : ℕ) → Decides (rule b d k) (other b d k)) where
  grown_pruned : (d k : ℕ) → ((b : List Bounds) (k : ℕ) → IsPruned (rest rule d b k) (rest other d b k)) → (o n : Outcome) → Decides o n
      → IsPruned (grown rule d k o) (grown other d k n)
  grown_pruned d k below Removed n h = none_grown other d k n
  grown_pruned d k below (Inner to) n h = kept_grown other d k n ∙ h
  grown_pruned d k below (Small to) n h = subst (λ (x : Outcome). IsPruned (small to) (grown other d k x)) h refl
  grown_pruned d k below (Cut to var at) n h =
      subst (λ (x : Outcome). IsPruned (grown rule d k (Cut to var at)) (grown other d k x)) h
      (refl, refl, refl, below (lower_half to var at) (suc k), below (upper_half to var at) (suc k))

  grown_at : (d : ℕ) (b : List Bounds) (k : ℕ) → ((b : List Bounds) (k : ℕ) → IsPruned (rest rule d b k) (rest other d b k)) → IsPruned (full rule d b k) (full other d b k)
  grown_at d b k below =
      subst (IsPruned (full rule d b k)) (sym (full-is other d b k (other b d k) refl))
      (subst (λ (t : Tree). IsPruned t (grown other d k (other b d k))) (sym (full-is rule d b k (rule b d k) refl))
      (grown_pruned d k below (rule b d k) (other b d k) (by b d k)))

  full_pruned : (d : ℕ) (b : List Bounds) (k : ℕ) → IsPruned (full rule d b k) (full other d b k)
  full_pruned zero b k = grown_at zero b k (λ b k. tt)
  full_pruned (suc d) b k = grown_at (suc d) b k (full_pruned d)

  whole_pruned : (depth : ℕ) (b : List Bounds) → IsPruned (full_of rule depth b leaf 0) (full_of other depth b leaf 0)
  unfolding full_of
  whole_pruned depth b = full_pruned (depth - 0) b 0

-- ---- Two commands

-- the parts of a rule, settled without centered forms
abbrev plainly : Method → Method
plainly rule = record { form = Plain; parts = rule.parts }

plain_rule : (before : Files) (system : Text) (s : Settings) (rule : Method) → HasRule before system (record s { form = Centered }) rule
    → HasRule before system (record s { form = Plain }) (plainly rule)
plain_rule before system s rule h = record {
  system = h.system;
  read = h.read;
  is = record {
    form = refl;
    system_is = h.is.system_is;
    sides = h.is.sides;
    program = h.is.program;
    eps = h.is.eps;
    depth = h.is.depth;
    bisector = h.is.bisector;
    set = h.is.set;
    by_prop = h.is.by_prop;
  };
}

same_settings : (s : Settings) → AreSameSettings s s
same_settings s = record { eps = refl; depth = refl; bisector = refl; contract = refl; form = refl }

pub centered_prunes : CenteredPrunes
centered_prunes before system s plain rule told h k =
    let one = read_one_rule before before system system (record s { form = Plain }) (record s { form = Plain }) (plainly rule) plain told refl
    (same_settings (record s { form = Plain })) (plain_rule before system s rule k) h in
    let count : length (sides_in rule.parts.graphs) ≡ length k.system.constraints = ap length k.is.sides ∙ length-map k.system.constraints sides_named in
    let fits : IsFor (length (sides_in rule.parts.graphs)) (plan_of rule.parts.program) = subst (λ (n : ℕ). IsFor n (plan_of rule.parts.program)) (sym count) k.is.program.fits in
    let same : full_by (plainly rule) leaf ≡ full_by plain leaf = λ i. full_of (one.settle i) (one.depth i) (one.named.box i) leaf 0 in
    subst (IsPruned (full_by rule leaf)) same
    (subst (λ (settle : Rule). IsPruned (full_of settle rule.parts.depth (search_box rule) leaf 0) (full_by (plainly rule) leaf)) (sym (ap (λ (form : Form). settle_as form rule.parts) k.is.form))
    (whole_pruned (centered.settle_centered rule.parts) (natural.settle_by rule.parts) (decides rule.parts fits) rule.parts.depth (search_box rule)))

-- ---- Counts

one_for_removed : (t : Tree) → IsPruned removed t → HasNoMore removed t
one_for_removed leaf h = absurd h
one_for_removed removed h = record { settled = omega arith; small = omega arith }
one_for_removed (inner to) h = record { settled = omega arith; small = omega arith }
one_for_removed (small to) h = record { settled = omega arith; small = omega arith }
one_for_removed (cut to var at low high) h = record { settled = omega arith; small = omega arith }

one_for_inner : (to : List Bounds) (t : Tree) → kept_by t ≡ Some to → HasNoMore (inner to) t
one_for_inner to leaf h = absurd (cc)
one_for_inner to removed h = absurd (cc)
one_for_inner to (inner other) h = record { settled = omega arith; small = omega arith }
one_for_inner to (small other) h = record { settled = omega arith; small = omega arith }
one_for_inner to (cut other var at low high) h = record { settled = omega arith; small = omega arith }

pub pruned_have_no_more : PrunedHaveNoMore
pruned_have_no_more removed t h = one_for_removed t h
pruned_have_no_more (inner to) t h = one_for_inner to t h
pruned_have_no_more leaf leaf h = record { settled = omega arith; small = omega arith }
pruned_have_no_more (small to) (small other) h = record { settled = omega arith; small = omega arith }
pruned_have_no_more (cut to var at low high) (cut other var' at' low' high') h =
    let one = pruned_have_no_more low low' h.3 in
    let two = pruned_have_no_more high high' h.4 in
    record { settled = omega (arith, one.settled, two.settled); small = omega (arith, one.small, two.small) }
pruned_have_no_more leaf removed h = absurd h
pruned_have_no_more leaf (inner other) h = absurd h
pruned_have_no_more leaf (small other) h = absurd h
pruned_have_no_more leaf (cut other var' at' low' high') h = absurd h
pruned_have_no_more (small to) leaf h = absurd h
pruned_have_no_more (small to) removed h = absurd h
pruned_have_no_more (small to) (inner other) h = absurd h
pruned_have_no_more (small to) (cut other var' at' low' high') h = absurd h
pruned_have_no_more (cut to var at low high) leaf h = absurd h
pruned_have_no_more (cut to var at low high) removed h = absurd h
pruned_have_no_more (cut to var at low high) (inner other) h = absurd h
pruned_have_no_more (cut to var at low high) (small other) h = absurd h
