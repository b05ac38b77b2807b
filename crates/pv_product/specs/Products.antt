-- What comes of a command's work.
use Rattle.std.specs.Prelude.{if◌then◌else◌, ◌≡◌, ◌⊎◌, ◌<◌, ◌≤◌, ◌+◌, ◌*◌, ◌++◌, ◌∷◌, ℕ, pos, Bool, true, false, List, [], Option, Some, None, codes, decimal}
use Rattle.hex.specs.Hex.{encode_lower}
use Rattle.sha2.specs.Sha256.{sha256}
use Rattle.clap.specs.Words.{Text}
use Rattle.pv_num.specs.Arithmetic.{ratio_of}
use Rattle.pv_num.specs.declared.num.End.TheVariants.{Down}
use Rattle.pv_box.specs.declared.choice.Bisector.TheVariants.{Largest}
use Rattle.pv_interval.specs.Bounds.{Bounds}
use Rattle.pv_made.specs.Circles.{sample_text}
use Rattle.pv_parse.specs.Declarations.{IsMeaning}
use Rattle.pv_expr.specs.Systems.{Parts}
use Rattle.pv_expr.specs.Canonical.{canonical_text}
use Rattle.pv_slope.specs.Methods.{Method, settle_by, identity_of, is_member}
use Rattle.pv_tree.specs.Trees.{Tree, leaf, opens, counts_of, settled_of, IsPaving}
use Rattle.pv_tree.specs.Stages.{IsStage, full_of}
use Rattle.pv_tree.specs.Sets.{IsSound, Covers}
use Rattle.pv_tree.specs.declared.outcome.Counts.{Counts}
use Rattle.pv_join.specs.Audits.{IsFirstDifference, due_at}
use Rattle.pv_file.specs.Lines.{lines_of, outcome_line}
use Rattle.pv_file.specs.Readings.{IsPavingInFormat}
use Rattle.pv_file.specs.Texts.{file_text}
use Rattle.pv_file.specs.declared.version.Version.TheVariants.{One, Two}
use Rattle.pv_request.specs.Requests.{names_in}
use Rattle.pv_rule.specs.Systems.{Files, EachHolds, HasSystem, SpellsProp, IsRuleFor, HasRule, RefusesSystem, RefusesRule, search_box}
use Rattle.pv_scope.specs.Orders.{IsInOrder}
use Rattle.pv_scope.specs.declared.order.Order.{Order}
use Rattle.pv_scope.specs.declared.share.Share.{Share}
use Rattle.pv_rule.specs.Pavings.{IsPaved, IsSharePaved, settled_in}
use Rattle.pv_svg.specs.Planes.{Plane}
use Rattle.pv_svg.specs.Rectangles.{picture_of}
use Rattle.pv_svg.specs.Texts.{picture_text}
use Rattle.pv_product.specs.Views.{IsPlaneOf, HasNoPlane, IsSoundFor}
use Rattle.pv_rounds.specs.Holding.{IsHeld}
use Rattle.pv_product.specs.Leasts.{HasLeast, RefusesLeast, least_text}
use Rattle.pv_product.specs.Campaigns.{Stock, RefusesCampaign, is_done}
use Rattle.pv_product.specs.Files.{HoldsPaving, HasPaving, RefusesFile, RefusesPaving, AllTrees, HasOpening, RefusesOpening}
use Rattle.pv_slope.specs.declared.form.Form.TheVariants.{Plain}
use Rattle.pv_request.specs.declared.request.Settings.{Settings}
use Rattle.pv_request.specs.declared.request.View.{View}
use Rattle.pv_request.specs.declared.request.Circles.{Circles}
use Rattle.pv_request.specs.declared.request.Search.{Search}
use Rattle.pv_request.specs.declared.request.Rounds.{Rounds}
use Rattle.pv_least.specs.declared.found.Least as known
use Rattle.pv_request.specs.declared.request.Request.{Request}
use Rattle.pv_request.specs.declared.request.Request.TheVariants.{Check, Run, Resume, Merge, Audit, Svg, Sample, Least, Campaign}
use Rattle.pv_request.specs.declared.refusal.Refusal.{Refusal}
use Rattle.pv_request.specs.declared.refusal.Refusal.TheVariants.{Usage, Memory, TreeLimit, Differs}
use Rattle.pv_request.specs.declared.status.Status.{Status}
use Rattle.pv_request.specs.declared.status.Status.TheVariants.{Done, OpenLeft}

-- a text, one of a search or a campaign that was cut short, or a paving of a box for an identity, and whether nothing is
-- left of what was to be settled
pub data Product : Type 0 where
  text : List ℕ → Product
  unfinished : List ℕ → Product
  paved_as : List ℕ → List Bounds → Tree → Bool → Product

-- a paving of which all leaves were to be settled
abbrev pub paved : List ℕ → List Bounds → Tree → Product
paved identity b t = paved_as identity b t (is_done t)

unfoldable pub summary_of : Counts → List ℕ
summary_of c =
    codes "settled " ++ (decimal (settled_of c) ++ (codes " cut " ++ (decimal c.cut ++ (codes " removed " ++ (decimal c.removed
    ++ (codes " inner " ++ (decimal c.inner ++ (codes " small " ++ (decimal c.small ++ (codes " open " ++ (decimal c.open_leaves ++ 10 ∷ [])))))))))))

-- what is printed of it: a paving's summary, and where no file is asked for its nodes' lines
abbrev pub printed_of : Option Text → Product → List ℕ
printed_of out (text t) = t
printed_of out (unfinished t) = t
printed_of None (paved_as identity b t done) = summary_of (counts_of t) ++ lines_of One b t
printed_of (Some name) (paved_as identity b t done) = summary_of (counts_of t)

-- 1 says that something is left, and 0 that nothing is
abbrev pub status_by : Bool → Status
status_by true = Done
status_by false = OpenLeft

-- the status with which the command ends that delivered it
abbrev pub HasStatus : Product → Status → Type 0
HasStatus (text t) s = s ≡ Done
HasStatus (unfinished t) s = s ≡ OpenLeft
HasStatus (paved_as identity b t done) s = s ≡ status_by done

-- ---- What is said of pavings

-- The paving, in numbers of the format, is a stage of the open search box: so it covers the box, it is sound for the
-- set that the program speaks of, and without an open leaf it is the full tree. By `prop(n)`, whatever n, every constraint
-- holds at each rational point of each inner box, and at no rational point of a removed part do all of them hold.
pub record IsHonest (s : Settings) (rule : Method) (t : Tree) : Type 0 where
  pub paving : IsPavingInFormat (search_box rule) t
  pub stage : IsStage (settle_by rule) rule.parts.depth (search_box rule) leaf t
  pub covers : Covers (search_box rule) t
  pub sound : IsSound (is_member rule) (search_box rule) t
  pub whole : opens t ≡ [] → t ≡ full_of (settle_by rule) rule.parts.depth (search_box rule) leaf 0
  pub by_prop : (n : ℕ) → SpellsProp rule.parts.system s n → IsSound (EachHolds rule.parts.system.constraints) (search_box rule) t

-- the premise on files: each is a stage of the open search box, as all are that this program wrote for the system
-- and its settings; `audit` decides it
abbrev pub AreStages : Method → List Tree → Type 0
AreStages rule ts = AllTrees (IsStage (settle_by rule) rule.parts.depth (search_box rule) leaf) ts

-- ---- What comes of the commands

-- `check` gives the canonical text
pub record ComesOfCheck (before : Files) (system : Text) (p : Product) : Type 0 where
  pub parts : Parts
  pub read : HasSystem before system parts
  pub is : p ≡ text (canonical_text parts)

-- `run` and `run-centered` give what the budget settles of the open search box, in an order
pub record ComesOfRun (before : Files) (system : Text) (s : Settings) (order : Order) (budget : ℕ) (p : Product) : Type 0 where
  pub rule : Method
  pub read : HasRule before system s rule
  pub tree : Tree
  pub run : IsPaved (settle_by rule) rule.parts.depth (search_box rule) leaf budget tree
  pub ordered : IsInOrder order leaf tree
  pub honest : IsHonest s rule tree
  pub is : p ≡ paved (identity_of rule) (search_box rule) tree

-- What was settled of an opening by a rule, in an order or of a share, and whether nothing is left of it.
abbrev pub IsSettledSo : Method → Tree → Order → ℕ → Option Share → Tree → Bool → Type 0
IsSettledSo rule opening order budget None t done =
    IsPaved (settle_by rule) rule.parts.depth (search_box rule) opening budget t × IsInOrder order opening t × (done ≡ is_done t)
IsSettledSo rule opening order budget (Some share) t done = IsSharePaved (settle_by rule) rule.parts.depth (search_box rule) opening share budget t done

-- `resume` gives what the budget settles of the join of the files, in an order or of a share
pub record ComesOfResume (before : Files) (system : Text) (names : List Text) (s : Settings) (limit : ℕ) (order : Order) (budget : ℕ) (share : Option Share) (p : Product) : Type 0 where
  pub rule : Method
  pub trees : List Tree
  pub opening : Tree
  pub opened : HasOpening before system names s limit rule trees opening
  pub few : settled_in opening + budget ≤ limit
  pub tree : Tree
  pub done : Bool
  pub run : IsSettledSo rule opening order budget share tree done
  pub honest : AreStages rule trees → IsHonest s rule tree
  pub is : p ≡ paved_as (identity_of rule) (search_box rule) tree done

-- `merge` gives the join of the files
pub record ComesOfMerge (before : Files) (system : Text) (names : List Text) (s : Settings) (limit : ℕ) (p : Product) : Type 0 where
  pub rule : Method
  pub trees : List Tree
  pub tree : Tree
  pub opened : HasOpening before system names s limit rule trees tree
  pub few : settled_in tree ≤ limit
  pub paving : IsPaving (search_box rule) tree
  pub honest : AreStages rule trees → IsHonest s rule tree
  pub is : p ≡ paved (identity_of rule) (search_box rule) tree

-- `audit` and `audit-centered` say that the file's paving is a stage of the open search box
pub record ComesOfAudit (before : Files) (system name : Text) (s : Settings) (limit : ℕ) (p : Product) : Type 0 where
  pub rule : Method
  pub read : HasRule before system s rule
  pub tree : Tree
  pub held : HoldsPaving before limit (identity_of rule) (search_box rule) name tree
  pub honest : IsHonest s rule tree
  pub is : p ≡ text (codes "honest" ++ 10 ∷ [])

-- `svg` gives the picture of the file's paving on a plane. Where the paving is a stage of the open search box, the
-- picture is sound for the set that the program speaks of.
pub record ComesOfSvg (before : Files) (system name : Text) (s : Settings) (limit : ℕ) (v : View) (p : Product) : Type 0 where
  pub rule : Method
  pub read : HasRule before system s rule
  pub plane : Plane
  pub shown : IsPlaneOf rule.parts.system v.x.now v.y.now v.at.items plane
  pub tree : Tree
  pub held : HasPaving before limit rule name tree
  pub sound : IsStage (settle_by rule) rule.parts.depth (search_box rule) leaf tree → IsSoundFor (is_member rule) plane (search_box rule) tree
  pub is : p ≡ text (picture_text (picture_of plane (search_box rule) tree))

-- the full tree of what a rule begins with
abbrev pub full_by : Method → Tree → Tree
full_by rule opening = full_of (settle_by rule) rule.parts.depth (search_box rule) opening 0

-- the Minibex text of circles
abbrev pub text_of : Circles → List ℕ
text_of c = sample_text c.seed c.count

-- by these a sample is paved: boxes down to 8 wide, at most 14 cuts deep
pub record AreForSamples (s : Settings) : Type 0 where
  pub eps : s.eps ≡ ratio_of Down (pos 8) 1
  pub depth : s.depth ≡ 14
  pub bisector : s.bisector ≡ Largest
  pub contract : s.contract.now ≡ codes "prop(8)"
  pub form : s.form ≡ Plain

-- which circles, a paving's summary, and the SHA-256 digest of its file
unfoldable pub report_of : Circles → List ℕ → List Bounds → Tree → List ℕ
report_of c identity b t =
    codes "sample seed " ++ (decimal c.seed ++ (codes " count " ++ (decimal c.count ++ 10 ∷ (summary_of (counts_of t)
    ++ (codes "file " ++ (encode_lower (sha256 (file_text Two identity b t)) ++ 10 ∷ []))))))

-- `sample` reports on the full tree of the system that the text of its circles means
pub record ComesOfSample (c : Circles) (p : Product) : Type 0 where
  pub settings : Settings
  pub settings_are : AreForSamples settings
  pub system : Parts
  pub means : IsMeaning (text_of c) system
  pub rule : Method
  pub rule_is : IsRuleFor system settings rule
  pub honest : IsHonest settings rule (full_by rule leaf)
  pub is : p ≡ text (report_of c (identity_of rule) (search_box rule) (full_by rule leaf))

-- the text of a search or a campaign, which was cut short unless it is done
abbrev pub report_as : List ℕ → Bool → Product
report_as t done = if done then text t else unfinished t

-- `least` reports what is found of the least value of an expression over the system's set
pub record ComesOfLeast (before : Files) (system : Text) (s : Settings) (search : Search) (p : Product) : Type 0 where
  pub least : known.Least
  pub found : HasLeast before system s search least
  pub is : p ≡ report_as (least_text least) least.done

-- a paving that grew from a stage of the open search box is honest
abbrev pub LearnsHeld : Method → Tree → Type 0
LearnsHeld rule t =
    (system : Parts) (s : Settings) (opening : Tree) → IsRuleFor system s rule → IsStage (settle_by rule) rule.parts.depth (search_box rule) leaf opening
    → IsStage (settle_by rule) rule.parts.depth (search_box rule) opening t → IsHonest s rule t

-- The rounds settle their budgets of what is kept under the name, and the rows of what came of it are kept.
abbrev pub HoldsRounds : Method → Stock → Stock → ℕ → Order → ℕ → Rounds → Tree → Type 0
HoldsRounds rule u v limit order boxes rounds t =
    IsHeld limit (settle_by rule) rule.parts.depth (search_box rule) order (identity_of rule) (rounds.count * boxes) (u.kept rounds.name.now) (v.kept rounds.name.now) t

-- what rounds by a rule give
pub record ComesOfRounds (rule : Method) (u v : Stock) (limit : ℕ) (order : Order) (boxes : ℕ) (rounds : Rounds) (p : Product) : Type 0 where
  pub tree : Tree
  pub held : HoldsRounds rule u v limit order boxes rounds tree
  pub learns : LearnsHeld rule tree
  pub is : p ≡ report_as (summary_of (counts_of tree)) (is_done tree)

-- `campaign` reports on what its rounds settle of what is kept
pub record ComesOfCampaign (before : Files) (u v : Stock) (system : Text) (s : Settings) (limit : ℕ) (order : Order) (boxes : ℕ) (rounds : Rounds) (p : Product) : Type 0 where
  pub rule : Method
  pub read : HasRule before system s rule
  pub tree : Tree
  pub held : HoldsRounds rule u v limit order boxes rounds tree
  pub honest : IsStage (settle_by rule) rule.parts.depth (search_box rule) leaf held.opening → IsHonest s rule tree
  pub is : p ≡ report_as (summary_of (counts_of tree)) (is_done tree)

-- what comes of a request, over these files and of what was kept before and is kept then
abbrev pub ComesOf : Files → Stock → Stock → Request → Product → Type 0
ComesOf before u v (Check system) p = ComesOfCheck before system.now p
ComesOf before u v (Run system settings effort out) p = ComesOfRun before system.now settings effort.order effort.budget.nodes p
ComesOf before u v (Resume system pavings settings effort share out) p =
    ComesOfResume before system.now (names_in pavings.items) settings effort.budget.limit effort.order effort.budget.nodes share p
ComesOf before u v (Merge system pavings settings limit out) p = ComesOfMerge before system.now (names_in pavings.items) settings limit p
ComesOf before u v (Audit system paving settings limit workers) p = ComesOfAudit before system.now paving.now settings limit p
ComesOf before u v (Svg system paving settings limit view) p = ComesOfSvg before system.now paving.now settings limit view p
ComesOf before u v (Sample circles) p = ComesOfSample circles p
ComesOf before u v (Least system settings search) p = ComesOfLeast before system.now settings search p
ComesOf before u v (Campaign system settings effort rounds) p = ComesOfCampaign before u v system.now settings effort.budget.limit effort.order effort.budget.nodes rounds p

-- ---- Why nothing comes of them

-- the join of the files has so many settled nodes, and with the budget too many
pub record IsOverLimit (before : Files) (system : Text) (names : List Text) (s : Settings) (limit budget n : ℕ) : Type 0 where
  pub rule : Method
  pub trees : List Tree
  pub opening : Tree
  pub opened : HasOpening before system names s limit rule trees opening
  pub settled : n ≡ settled_in opening
  pub many : limit < n + budget

abbrev pub RefusesJoined : Files → Files → Text → List Text → Settings → ℕ → ℕ → Refusal → Type 0
RefusesJoined before after system names s limit budget (TreeLimit n) = IsOverLimit before system names s limit budget n
RefusesJoined before after system names s limit budget r = RefusesOpening before after system names s limit r

-- The file's paving is no stage of the open search box: at this path, the first such one in preorder, its outcome
-- is not the one that is due there. Both are given by their lines.
pub record HasDifference (before : Files) (system name : Text) (s : Settings) (limit : ℕ) (path : List Bool) (file due : List ℕ) : Type 0 where
  pub rule : Method
  pub read : HasRule before system s rule
  pub tree : Tree
  pub held : HoldsPaving before limit (identity_of rule) (search_box rule) name tree
  pub first : IsFirstDifference (settle_by rule) rule.parts.depth (search_box rule) tree path
  pub file_is : file ≡ outcome_line first.found
  pub due_is : due ≡ outcome_line (due_at (settle_by rule) rule.parts.depth (search_box rule) tree path)
  pub no_stage : IsStage (settle_by rule) rule.parts.depth (search_box rule) leaf tree → ⊥

-- the system is there, and the file is refused
pub record HasBadPaving (before after : Files) (system name : Text) (s : Settings) (limit : ℕ) (r : Refusal) : Type 0 where
  pub rule : Method
  pub read : HasRule before system s rule
  pub refused : RefusesFile before after limit (identity_of rule) (search_box rule) name r

abbrev pub RefusesAudit : Files → Files → Text → Text → Settings → ℕ → Refusal → Type 0
RefusesAudit before after system name s limit (Differs path file due) = HasDifference before system name s limit path file.items due.items
RefusesAudit before after system name s limit r = RefusesRule before after system s r ⊎ HasBadPaving before after system name s limit r

-- the system has no such plane
pub record HasNoPlaneIn (before : Files) (system : Text) (s : Settings) (v : View) : Type 0 where
  pub rule : Method
  pub read : HasRule before system s rule
  pub none : HasNoPlane rule.parts.system v.x.now v.y.now v.at.items

-- it has the plane, and the file is refused
pub record HasNoPicture (before after : Files) (system name : Text) (s : Settings) (limit : ℕ) (v : View) (r : Refusal) : Type 0 where
  pub rule : Method
  pub read : HasRule before system s rule
  pub plane : Plane
  pub shown : IsPlaneOf rule.parts.system v.x.now v.y.now v.at.items plane
  pub refused : RefusesPaving before after limit rule name r

-- why there is no picture: the first refusal of the system, of its settings, of the plane and of the file
abbrev pub RefusesSvg : Files → Files → Text → Text → Settings → ℕ → View → Refusal → Type 0
RefusesSvg before after system name s limit v Usage = HasNoPlaneIn before system s v
RefusesSvg before after system name s limit v r = RefusesRule before after system s r ⊎ HasNoPicture before after system name s limit v r

-- why there is no sample: for want of memory alone, since the reader takes each text of circles
abbrev pub RefusesSample : Refusal → Type 0
RefusesSample Memory = Unit {0}
RefusesSample _ = ⊥

abbrev pub RefusesWork : Files → Files → Stock → Stock → Request → Refusal → Type 0
RefusesWork before after u v (Check system) r = RefusesSystem before after system.now r
RefusesWork before after u v (Run system settings effort out) r = RefusesRule before after system.now settings r
RefusesWork before after u v (Resume system pavings settings effort share out) r =
    RefusesJoined before after system.now (names_in pavings.items) settings effort.budget.limit effort.budget.nodes r
RefusesWork before after u v (Merge system pavings settings limit out) r =
    RefusesJoined before after system.now (names_in pavings.items) settings limit 0 r
RefusesWork before after u v (Audit system paving settings limit workers) r = RefusesAudit before after system.now paving.now settings limit r
RefusesWork before after u v (Svg system paving settings limit view) r = RefusesSvg before after system.now paving.now settings limit view r
RefusesWork before after u v (Sample circles) r = RefusesSample r
RefusesWork before after u v (Least system settings search) r = RefusesLeast before after system.now settings search.of.now r
RefusesWork before after u v (Campaign system settings effort rounds) r = RefusesCampaign before after u v system.now settings effort.budget.limit effort.order effort.budget.nodes rounds r
