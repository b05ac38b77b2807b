-- That nothing at fault means an answer.
use Rattle.std.specs.Prelude.{◌≡◌, ◌⊎◌, ℕ, ◌+◌, ◌*◌, ◌≤◌, List, length}
use Rattle.clap.specs.Words.{Text}
use Rattle.pv_expr.specs.Systems.{Parts}
use Rattle.pv_expr.specs.Terms.{Term}
use Rattle.pv_parse.specs.Declarations.{IsExpressionMeaning}
use Rattle.pv_slope.specs.Methods.{Method, settle_by, identity_of}
use Rattle.pv_tree.specs.Trees.{Tree, leaf}
use Rattle.pv_tree.specs.Stages.{IsStage}
use Rattle.pv_join.specs.Joins.{Agree}
use Rattle.pv_io.specs.Outside.{Rose}
use Rattle.pv_file.specs.Readings.{IsPavingInFormat}
use Rattle.pv_svg.specs.Planes.{Plane}
use Rattle.pv_keep.specs.Keeping.{Kept, untold, absent, holds}
use Rattle.pv_keep.specs.Rows.{rows_of}
use Rattle.pv_request.specs.Requests.{Asks, names_in}
use Rattle.pv_rule.specs.Systems.{Files, HasSystem, HasRule, search_box}
use Rattle.pv_rule.specs.Pavings.{settled_in}
use Rattle.pv_product.specs.Files.{HasPaving, HavePavings, IsJoinOf}
use Rattle.pv_product.specs.Views.{IsPlaneOf}
use Rattle.pv_product.specs.Campaigns.{Stock}
use Rattle.pv_product.specs.Ends.{Outside, IsEnd}
use Rattle.pv_laws.specs.Merges.{IsTree, AreTold}
use Rattle.pv_laws.specs.Stored.{IsAnswer}
use Rattle.pv_request.specs.declared.request.Settings.{Settings}
use Rattle.pv_request.specs.declared.request.View.{View}
use Rattle.pv_request.specs.declared.request.Rounds.{Rounds}
use Rattle.pv_request.specs.declared.request.Request.{Request}
use Rattle.pv_request.specs.declared.request.Request.TheVariants.{Check, Run, Resume, Merge, Audit, Svg, Sample, Least, Campaign}
use Rattle.pv_request.specs.declared.status.Status.{Status}
use Rattle.pv_request.specs.declared.status.Status.TheVariants.{Done, Disagree, ReadFault, WriteFault, WantOfMemory, KeeperFault}

-- ---- What is right

-- wherever two of the trees are settled, they are settled alike
abbrev pub AllAgree : List Tree → Type 0
AllAgree ts = (a b : Tree) → IsTree a ts → IsTree b ts → Agree a b

-- The files of these names hold pavings of the system by the settings, within the limit. They agree, and their join has so few
-- settled nodes that a budget more lies within the limit too.
pub record AreJoinable (before : Files) (system : Text) (names : List Text) (s : Settings) (limit budget : ℕ) : Type 0 where
  pub rule : Method
  pub read : HasRule before system s rule
  pub trees : List Tree
  pub held : HavePavings before limit rule names trees
  pub agree : AllAgree trees
  pub room : (joined : Tree) → IsJoinOf trees joined → settled_in joined + budget ≤ limit

-- the file of this name holds a paving of the system by the settings, within the limit
pub record HoldsPavingOf (before : Files) (system name : Text) (s : Settings) (limit : ℕ) : Type 0 where
  pub rule : Method
  pub read : HasRule before system s rule
  pub tree : Tree
  pub held : HasPaving before limit rule name tree

-- and that is a stage of the open search box
abbrev pub IsOfStage : (before : Files) (system name : Text) (s : Settings) (limit : ℕ) → HoldsPavingOf before system name s limit → Type 0
IsOfStage before system name s limit h = IsStage (settle_by h.rule) h.rule.parts.depth (search_box h.rule) leaf h.tree

pub record HoldsStageOf (before : Files) (system name : Text) (s : Settings) (limit : ℕ) : Type 0 where
  pub paving : HoldsPavingOf before system name s limit
  pub stage : IsOfStage before system name s limit paving

-- the file holds such a paving, and the system has the plane of the picture
pub record HasPicture (before : Files) (system name : Text) (s : Settings) (limit : ℕ) (v : View) : Type 0 where
  pub paving : HoldsPavingOf before system name s limit
  pub plane : Plane
  pub shown : IsPlaneOf paving.rule.parts.system v.x.now v.y.now v.at.items plane

-- the text is an expression over the variables of the system
pub record HasObjective (before : Files) (system : Text) (s : Settings) (of : Text) : Type 0 where
  pub rule : Method
  pub read : HasRule before system s rule
  pub term : Term
  pub means : IsExpressionMeaning rule.parts.system.names of term

-- a name is absent, and the paving an open leaf; or the paving's rows are kept with this identity, and are no more than the limit
abbrev pub KeepsRowsOf : ℕ → Kept → List ℕ → Tree → Type 0
KeepsRowsOf limit untold identity t = ⊥
KeepsRowsOf limit absent identity t = t ≡ leaf
KeepsRowsOf limit (holds kept rows) identity t = (kept ≡ identity) × ((rows ≡ rows_of t) × (length rows ≤ limit))

-- Under the campaign's name a paving of the system by the settings is kept, or nothing is yet. All rounds together keep its
-- settled nodes within the limit.
pub record HasCampaign (before : Files) (u : Stock) (system : Text) (s : Settings) (limit boxes : ℕ) (rounds : Rounds) : Type 0 where
  pub rule : Method
  pub read : HasRule before system s rule
  pub opening : Tree
  pub paving : IsPavingInFormat (search_box rule) opening
  pub kept : KeepsRowsOf limit (u.kept rounds.name.now) (identity_of rule) opening
  pub room : settled_in opening + rounds.count * boxes ≤ limit

-- Nothing that is asked for is at fault: the file's text means a system, the settings give a rule for it, and the other files,
-- texts and rows are right for that.
abbrev pub IsRight : Files → Stock → Request → Type 0
IsRight before u (Check system) = (s : Parts) × HasSystem before system.now s
IsRight before u (Run system settings effort out) = (rule : Method) × HasRule before system.now settings rule
IsRight before u (Resume system pavings settings effort share out) = AreJoinable before system.now (names_in pavings.items) settings effort.budget.limit effort.budget.nodes
IsRight before u (Merge system pavings settings limit out) = AreJoinable before system.now (names_in pavings.items) settings limit 0
IsRight before u (Audit system paving settings limit workers) = HoldsStageOf before system.now paving.now settings limit
IsRight before u (Svg system paving settings limit view) = HasPicture before system.now paving.now settings limit view
IsRight before u (Sample circles) = Unit {0}
IsRight before u (Least system settings search) = HasObjective before system.now settings search.of.now
IsRight before u (Campaign system settings effort rounds) = HasCampaign before u system.now settings effort.budget.limit effort.budget.nodes rounds

-- ---- What comes of it

-- there was no memory, or a count of faults rose
pub data IsOutsideFault (before after : Outside) (status : Status) : Type 0 where
  no_memory : status ≡ WantOfMemory → IsOutsideFault before after status
  not_read : status ≡ ReadFault → Rose before.files.fetch_faults after.files.fetch_faults → IsOutsideFault before after status
  not_stored : status ≡ WriteFault → Rose before.files.store_faults after.files.store_faults → IsOutsideFault before after status
  not_printed : status ≡ WriteFault → Rose before.out.faults after.out.faults → IsOutsideFault before after status
  not_kept : status ≡ KeeperFault → Rose before.stock.faults after.stock.faults → IsOutsideFault before after status

-- Where words ask for something and nothing of that is at fault, the status is 0 or 1; or memory or the machine failed.
abbrev pub RightIsAnswered : Type 0
RightIsAnswered =
    (words : List Text) (before after : Outside) (status : Status) (q : Request) → AreTold before.files → Asks words q
    → ((r : Request) → Asks words r → IsRight before.files before.stock r) → IsEnd words before after status
    → IsAnswer status ⊎ IsOutsideFault before after status

-- ---- What an audit finds

-- an audit is asked for of a file that holds a paving, be it a stage or not
abbrev pub IsAuditable : Files → Request → Type 0
IsAuditable before (Audit system paving settings limit workers) = HoldsPavingOf before system.now paving.now settings limit
IsAuditable before q = ⊥

-- the paving is a stage, and the status is 0; or it is none, and the status is that of a difference
pub record HasVerdict (before : Files) (system name : Text) (s : Settings) (limit : ℕ) (status : Status) : Type 0 where
  pub paving : HoldsPavingOf before system name s limit
  pub is : ((status ≡ Done) × IsOfStage before system name s limit paving) ⊎ ((status ≡ Disagree) × (IsOfStage before system name s limit paving → ⊥))

abbrev pub IsVerdictOn : Files → Request → Status → Type 0
IsVerdictOn before (Audit system paving settings limit workers) status = HasVerdict before system.now paving.now settings limit status
IsVerdictOn before q status = ⊥

-- the words ask for an audit, and the status says what it found
pub record IsAudited (words : List Text) (before : Files) (status : Status) : Type 0 where
  pub request : Request
  pub asks : Asks words request
  pub verdict : IsVerdictOn before request status

-- An audit of a file that holds a paving says whether it is a stage; or memory or the machine failed.
abbrev pub PavingIsAudited : Type 0
PavingIsAudited =
    (words : List Text) (before after : Outside) (status : Status) (q : Request) → AreTold before.files → Asks words q
    → ((r : Request) → Asks words r → IsAuditable before.files r) → IsEnd words before after status
    → IsAudited words before.files status ⊎ IsOutsideFault before after status
