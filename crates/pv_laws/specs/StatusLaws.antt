-- What each status says, of what was asked for, of the files and of what was printed.
use Rattle.std.specs.Prelude.{◌≡◌, ◌≢◌, ◌⊎◌, ◌+◌, ◌*◌, ℕ, true, false, List, [], Option, Some, None}
use Rattle.clap.specs.Words.{Text}
use Rattle.pv_tree.specs.Trees.{Tree, leaf, opens, counts_of}
use Rattle.pv_tree.specs.Stages.{IsStage}
use Rattle.pv_slope.specs.Methods.{Method, settle_by, identity_of}
use Rattle.pv_io.specs.Outside.{Rose}
use Rattle.pv_scope.specs.Orders.{IsInOrder}
use Rattle.pv_scope.specs.Settlings.{IsClosed, IsFullThere, LeavesOthers}
use Rattle.pv_scope.specs.declared.order.Order.{Order}
use Rattle.pv_scope.specs.declared.share.Share.{Share}
use Rattle.pv_request.specs.Requests.{names_in, out_of, Asks, AreRefused}
use Rattle.pv_request.specs.Refusals.{status_of, line_of}
use Rattle.pv_rule.specs.Systems.{Files, HasRule, search_box}
use Rattle.pv_rule.specs.Pavings.{FullFits, settled_in}
use Rattle.pv_product.specs.Files.{HasOpening}
use Rattle.pv_product.specs.Leasts.{HasLeast, next_in, least_text}
use Rattle.pv_keep.specs.Keeping.{Kept}
use Rattle.pv_keep.specs.Campaigns.{IsOpened, IsSaved}
use Rattle.pv_product.specs.Campaigns.{Stock, IsSameStock, AllRowsStay}
use Rattle.pv_product.specs.Products.{Product, text, unfinished, paved, paved_as, summary_of, IsHonest, AreStages, full_by, ComesOf, ComesOfCheck, ComesOfAudit, ComesOfSvg, ComesOfSample, RefusesWork}
use Rattle.pv_product.specs.Ends.{Outside, AreUntouched, IsDelivered, IsCutOff, IsLost, IsTold, IsEnd}
use Rattle.pv_request.specs.declared.request.Settings.{Settings}
use Rattle.pv_request.specs.declared.request.Circles.{Circles}
use Rattle.pv_request.specs.declared.request.Search.{Search}
use Rattle.pv_request.specs.declared.request.Rounds.{Rounds}
use Rattle.pv_grammar.specs.declared.cause.Cause.{Cause}
use Rattle.pv_least.specs.declared.found.Least as known
use Rattle.pv_request.specs.declared.request.Request.{Request}
use Rattle.pv_request.specs.declared.request.Request.TheVariants.{Check, Run, Resume, Merge, Audit, Svg, Sample, Least, Campaign}
use Rattle.pv_request.specs.declared.refusal.Refusal.{Refusal}
use Rattle.pv_request.specs.declared.refusal.Refusal.TheVariants as refusal
use Rattle.pv_request.specs.declared.status.Status.{Status}
use Rattle.pv_request.specs.declared.status.Status.TheVariants.{Done, OpenLeft, Usage, SystemRefused, PavingRefused, ReadFault, WriteFault, WantOfMemory, TreeLimit, Disagree, KeeperFault, NoFile}

-- ---- Status 0: no leaf is open, or none at or below a share

-- the full tree of the open search box
pub record IsFullRun (before : Files) (system : Text) (s : Settings) (p : Product) : Type 0 where
  pub rule : Method
  pub read : HasRule before system s rule
  pub honest : IsHonest s rule (full_by rule leaf)
  pub is : p ≡ paved (identity_of rule) (search_box rule) (full_by rule leaf)

-- the full tree of the join of the files
pub record IsFullResume (before : Files) (system : Text) (names : List Text) (s : Settings) (limit : ℕ) (p : Product) : Type 0 where
  pub rule : Method
  pub trees : List Tree
  pub opening : Tree
  pub opened : HasOpening before system names s limit rule trees opening
  pub honest : AreStages rule trees → IsHonest s rule (full_by rule opening)
  pub is : p ≡ paved (identity_of rule) (search_box rule) (full_by rule opening)

-- the join of the files, without an open leaf
pub record IsClosedJoin (before : Files) (system : Text) (names : List Text) (s : Settings) (limit : ℕ) (p : Product) : Type 0 where
  pub rule : Method
  pub trees : List Tree
  pub tree : Tree
  pub opened : HasOpening before system names s limit rule trees tree
  pub closed : opens tree ≡ []
  pub honest : AreStages rule trees → IsHonest s rule tree
  pub is : p ≡ paved (identity_of rule) (search_box rule) tree

-- what is found of the least value, with no open leaf left in which it may be as low as at the best point
pub record IsFinalLeast (before : Files) (system : Text) (s : Settings) (search : Search) (p : Product) : Type 0 where
  pub least : known.Least
  pub found : HasLeast before system s search least
  pub final : next_in found.rule (search_box found.rule) found.term search.boxes ≡ None
  pub is : p ≡ text (least_text least)

-- The full tree of what was kept when the campaign was opened; its rows are kept now.
pub record IsFullCampaign (before : Files) (u v : Stock) (system : Text) (s : Settings) (limit : ℕ) (rounds : Rounds) (p : Product) : Type 0 where
  pub rule : Method
  pub read : HasRule before system s rule
  pub opening : Tree
  pub middle : Kept
  pub opened : IsOpened limit (u.kept rounds.name.now) middle (identity_of rule) (search_box rule) opening
  pub kept : IsSaved middle (v.kept rounds.name.now) (full_by rule opening)
  pub honest : IsStage (settle_by rule) rule.parts.depth (search_box rule) leaf opening → IsHonest s rule (full_by rule opening)
  pub is : p ≡ text (summary_of (counts_of (full_by rule opening)))

-- The join of the files with a share of its leaves settled to the end: there it is the full tree, and all other leaves are as
-- they were.
pub record IsFullShare (before : Files) (system : Text) (names : List Text) (s : Settings) (limit : ℕ) (share : Share) (p : Product) : Type 0 where
  pub rule : Method
  pub trees : List Tree
  pub opening : Tree
  pub opened : HasOpening before system names s limit rule trees opening
  pub tree : Tree
  pub stage : IsStage (settle_by rule) rule.parts.depth (search_box rule) opening tree
  pub others : LeavesOthers share.number share.of opening tree
  pub closed : IsClosed share.number share.of opening tree
  pub full : IsFullThere (settle_by rule) rule.parts.depth (search_box rule) share.number share.of opening tree
  pub honest : AreStages rule trees → IsHonest s rule tree
  pub is : p ≡ paved_as (identity_of rule) (search_box rule) tree true

-- all leaves of the join, or a share of them
abbrev pub IsWholeResume : Files → Text → List Text → Settings → ℕ → Option Share → Product → Type 0
IsWholeResume before system names s limit None p = IsFullResume before system names s limit p
IsWholeResume before system names s limit (Some share) p = IsFullShare before system names s limit share p

abbrev pub IsWhole : Files → Stock → Stock → Request → Product → Type 0
IsWhole before u v (Check system) p = ComesOfCheck before system.now p
IsWhole before u v (Run system settings effort out) p = IsFullRun before system.now settings p
IsWhole before u v (Resume system pavings settings effort share out) p =
    IsWholeResume before system.now (names_in pavings.items) settings effort.budget.limit share p
IsWhole before u v (Merge system pavings settings limit out) p = IsClosedJoin before system.now (names_in pavings.items) settings limit p
IsWhole before u v (Audit system paving settings limit workers) p = ComesOfAudit before system.now paving.now settings limit p
IsWhole before u v (Svg system paving settings limit view) p = ComesOfSvg before system.now paving.now settings limit view p
IsWhole before u v (Sample circles) p = ComesOfSample circles p
IsWhole before u v (Least system settings search) p = IsFinalLeast before system.now settings search p
IsWhole before u v (Campaign system settings effort rounds) p = IsFullCampaign before u v system.now settings effort.budget.limit rounds p

-- what was asked for came to this, was stored and printed, and nothing was told
pub record IsDelivery (says : Files → Stock → Stock → Request → Product → Type 0) (words : List Text) (before after : Outside) : Type 0 where
  pub request : Request
  pub asks : Asks words request
  pub product : Product
  pub says_so : says before.files before.stock after.stock request product
  pub delivered : IsDelivered (out_of request) product before.files after.files before.out after.out
  pub quiet : after.err.written ≡ before.err.written

abbrev pub DoneIsWhole : Type 0
DoneIsWhole = (words : List Text) (before after : Outside) → IsEnd words before after Done → IsDelivery IsWhole words before after

-- ---- Status 1: a leaf is open, or one at or below a share

-- exactly the budget was settled of what the work began with, and that is not enough
pub record IsCutShort (rule : Method) (opening : Tree) (budget : ℕ) (t : Tree) : Type 0 where
  pub open_left : opens t ≢ []
  pub spent : settled_in t ≡ settled_in opening + budget
  pub short : FullFits (settle_by rule) rule.parts.depth (search_box rule) opening budget → ⊥

pub record IsPartRun (before : Files) (system : Text) (s : Settings) (order : Order) (budget : ℕ) (p : Product) : Type 0 where
  pub rule : Method
  pub read : HasRule before system s rule
  pub tree : Tree
  pub part : IsCutShort rule leaf budget tree
  pub ordered : IsInOrder order leaf tree
  pub honest : IsHonest s rule tree
  pub is : p ≡ paved (identity_of rule) (search_box rule) tree

pub record IsPartResume (before : Files) (system : Text) (names : List Text) (s : Settings) (limit : ℕ) (order : Order) (budget : ℕ) (p : Product) : Type 0 where
  pub rule : Method
  pub trees : List Tree
  pub opening : Tree
  pub opened : HasOpening before system names s limit rule trees opening
  pub tree : Tree
  pub part : IsCutShort rule opening budget tree
  pub ordered : IsInOrder order opening tree
  pub honest : AreStages rule trees → IsHonest s rule tree
  pub is : p ≡ paved (identity_of rule) (search_box rule) tree

-- The join of the files with exactly the budget settled of a share of its leaves, of which one is open at or below the share.
-- All other leaves are as they were.
pub record IsPartShare (before : Files) (system : Text) (names : List Text) (s : Settings) (limit budget : ℕ) (share : Share) (p : Product) : Type 0 where
  pub rule : Method
  pub trees : List Tree
  pub opening : Tree
  pub opened : HasOpening before system names s limit rule trees opening
  pub tree : Tree
  pub stage : IsStage (settle_by rule) rule.parts.depth (search_box rule) opening tree
  pub others : LeavesOthers share.number share.of opening tree
  pub open_left : IsClosed share.number share.of opening tree → ⊥
  pub spent : settled_in tree ≡ settled_in opening + budget
  pub honest : AreStages rule trees → IsHonest s rule tree
  pub is : p ≡ paved_as (identity_of rule) (search_box rule) tree false

-- all leaves of the join, or a share of them
abbrev pub IsCutShortResume : Files → Text → List Text → Settings → ℕ → Order → ℕ → Option Share → Product → Type 0
IsCutShortResume before system names s limit order budget None p = IsPartResume before system names s limit order budget p
IsCutShortResume before system names s limit order budget (Some share) p = IsPartShare before system names s limit budget share p

-- the join of the files, with an open leaf
pub record IsOpenJoin (before : Files) (system : Text) (names : List Text) (s : Settings) (limit : ℕ) (p : Product) : Type 0 where
  pub rule : Method
  pub trees : List Tree
  pub tree : Tree
  pub opened : HasOpening before system names s limit rule trees tree
  pub open_left : opens tree ≢ []
  pub honest : AreStages rule trees → IsHonest s rule tree
  pub is : p ≡ paved (identity_of rule) (search_box rule) tree

-- what is found of it within the budget, with an open leaf left in which it may be as low as at the best point
pub record IsPartLeast (before : Files) (system : Text) (s : Settings) (search : Search) (p : Product) : Type 0 where
  pub least : known.Least
  pub found : HasLeast before system s search least
  pub left : next_in found.rule (search_box found.rule) found.term search.boxes ≢ None
  pub is : p ≡ unfinished (least_text least)

-- Exactly the budgets of all rounds were settled of it, and that is not enough; the rows of what came of it are kept now.
pub record IsPartCampaign (before : Files) (u v : Stock) (system : Text) (s : Settings) (limit : ℕ) (order : Order) (boxes : ℕ) (rounds : Rounds) (p : Product) : Type 0 where
  pub rule : Method
  pub read : HasRule before system s rule
  pub opening : Tree
  pub middle : Kept
  pub opened : IsOpened limit (u.kept rounds.name.now) middle (identity_of rule) (search_box rule) opening
  pub tree : Tree
  pub part : IsCutShort rule opening (rounds.count * boxes) tree
  pub ordered : IsInOrder order opening tree
  pub kept : IsSaved middle (v.kept rounds.name.now) tree
  pub honest : IsStage (settle_by rule) rule.parts.depth (search_box rule) leaf opening → IsHonest s rule tree
  pub is : p ≡ unfinished (summary_of (counts_of tree))

abbrev pub IsPart : Files → Stock → Stock → Request → Product → Type 0
IsPart before u v (Check system) p = ⊥
IsPart before u v (Run system settings effort out) p = IsPartRun before system.now settings effort.order effort.budget.nodes p
IsPart before u v (Resume system pavings settings effort share out) p =
    IsCutShortResume before system.now (names_in pavings.items) settings effort.budget.limit effort.order effort.budget.nodes share p
IsPart before u v (Merge system pavings settings limit out) p = IsOpenJoin before system.now (names_in pavings.items) settings limit p
IsPart before u v (Audit system paving settings limit workers) p = ⊥
IsPart before u v (Svg system paving settings limit view) p = ⊥
IsPart before u v (Sample circles) p = ⊥
IsPart before u v (Least system settings search) p = IsPartLeast before system.now settings search p
IsPart before u v (Campaign system settings effort rounds) p = IsPartCampaign before u v system.now settings effort.budget.limit effort.order effort.budget.nodes rounds p

abbrev pub OpenLeftIsPart : Type 0
OpenLeftIsPart = (words : List Text) (before after : Outside) → IsEnd words before after OpenLeft → IsDelivery IsPart words before after

-- ---- Statuses 2 to 5, 8, 9 and 11: a refusal before anything is stored or printed

abbrev pub IsEarly : Status → Type 0
IsEarly Done = ⊥
IsEarly OpenLeft = ⊥
IsEarly Usage = Unit {0}
IsEarly SystemRefused = Unit {0}
IsEarly PavingRefused = Unit {0}
IsEarly ReadFault = Unit {0}
IsEarly WriteFault = ⊥
IsEarly WantOfMemory = ⊥
IsEarly TreeLimit = Unit {0}
IsEarly Disagree = Unit {0}
IsEarly KeeperFault = ⊥
IsEarly NoFile = Unit {0}

-- the words were refused, or what they ask for
abbrev pub IsCause : List Text → Outside → Outside → Refusal → Type 0
IsCause words before after r =
    ((r ≡ refusal.Usage) × AreRefused words)
    ⊎ ((q : Request) × (Asks words q × RefusesWork before.files after.files before.stock after.stock q r))

-- nothing was stored or printed, and all rows that were kept stay; the cause was told with its line
pub record IsRefusedEarly (words : List Text) (before after : Outside) (status : Status) : Type 0 where
  pub untouched : AreUntouched before.files after.files before.out after.out
  pub kept : AllRowsStay before.stock after.stock
  pub refusal : Refusal
  pub cause : IsCause words before after refusal
  pub status_is : status ≡ status_of refusal
  pub told : IsTold before.err after.err (line_of refusal)

abbrev pub EarlyIsUntouched : Type 0
EarlyIsUntouched =
    (words : List Text) (before after : Outside) (status : Status) → IsEarly status → IsEnd words before after status
    → IsRefusedEarly words before after status

-- ---- Status 6: a store or a write failed

-- the file was not stored: nothing is said of it, and nothing was printed
pub record IsUnstored (q : Request) (p : Product) (before after : Outside) : Type 0 where
  pub name : Text
  pub lost : IsLost (out_of q) name before.files after.files before.out after.out

-- the file that is asked for was stored, a front of the text was printed, and a write of it failed
pub record IsUnprinted (q : Request) (p : Product) (before after : Outside) : Type 0 where
  pub cut : IsCutOff (out_of q) p before.files after.files before.out after.out
  pub rose : Rose before.out.faults after.out.faults

-- what came of the words was not stored, or not printed to the end
pub record IsUnwritten (words : List Text) (before after : Outside) : Type 0 where
  pub request : Request
  pub asks : Asks words request
  pub product : Product
  pub comes : ComesOf before.files before.stock after.stock request product
  pub not_written : IsUnstored request product before after ⊎ IsUnprinted request product before after

abbrev pub WriteFaultIsUnwritten : Type 0
WriteFaultIsUnwritten = (words : List Text) (before after : Outside) → IsEnd words before after WriteFault → IsUnwritten words before after

-- ---- Status 7: there was no memory

-- a front of the command's own text was printed, behind its file
pub record IsCutOffText (words : List Text) (before after : Outside) : Type 0 where
  pub request : Request
  pub asks : Asks words request
  pub product : Product
  pub comes : ComesOf before.files before.stock after.stock request product
  pub cut : IsCutOff (out_of request) product before.files after.files before.out after.out

-- nothing was stored or printed, or a front was printed, or the file was not stored
abbrev pub MemoryLeaves : Type 0
MemoryLeaves =
    (words : List Text) (before after : Outside) → IsEnd words before after WantOfMemory
    → AreUntouched before.files after.files before.out after.out ⊎ (IsCutOffText words before after ⊎ IsUnwritten words before after)

-- ---- The statuses of `sample`

-- words that ask for a sample end with its report, or a write failed, or there was no memory
abbrev pub SampleIsTaken : Type 0
SampleIsTaken =
    (words : List Text) (before after : Outside) (status : Status) (circles : Circles) → Asks words (Sample circles)
    → IsEnd words before after status → (status ≡ Done) ⊎ ((status ≡ WriteFault) ⊎ (status ≡ WantOfMemory))

-- ---- Every status

-- no file is changed but that of the name that is asked for
abbrev pub OthersStay : Type 0
OthersStay =
    (words : List Text) (before after : Outside) (status : Status) → IsEnd words before after status
    → (name : Text) → ((q : Request) → Asks words q → out_of q ≢ Some name) → after.files.content name ≡ before.files.content name

-- ---- The words

-- words that ask for something are not refused
abbrev pub AskingIsNotRefused : Type 0
AskingIsNotRefused = (words : List Text) (q : Request) → Asks words q → AreRefused words → ⊥

-- words that are refused end with status 2, or for want of memory, and nothing is stored, printed or kept
pub record IsWordsRefused (before after : Outside) (status : Status) : Type 0 where
  pub status_is : (status ≡ Usage) ⊎ (status ≡ WantOfMemory)
  pub untouched : AreUntouched before.files after.files before.out after.out
  pub kept : IsSameStock before.stock after.stock

abbrev pub RefusedWordsEnd : Type 0
RefusedWordsEnd =
    (words : List Text) (before after : Outside) (status : Status) → AreRefused words → IsEnd words before after status
    → IsWordsRefused before after status

-- the text of the contractor program is refused
pub record HasBadContract (words : List Text) (before after : Outside) : Type 0 where
  pub request : Request
  pub asks : Asks words request
  pub byte : ℕ
  pub refused : RefusesWork before.files after.files before.stock after.stock request (refusal.Contract byte)

-- the text of the expression whose least value is sought is refused
pub record HasBadExpression (words : List Text) (before after : Outside) : Type 0 where
  pub request : Request
  pub asks : Asks words request
  pub byte : ℕ
  pub cause : Cause
  pub refused : RefusesWork before.files after.files before.stock after.stock request (refusal.Objective byte cause)

-- the system has no plane as the words ask for
pub record HasBadPlane (words : List Text) (before after : Outside) : Type 0 where
  pub request : Request
  pub asks : Asks words request
  pub refused : RefusesWork before.files after.files before.stock after.stock request refusal.Usage

-- status 2 comes of words that are refused, of the text of the contractor program or of an expression, or of the plane of
-- a picture
abbrev pub HaveBadText : List Text → Outside → Outside → Type 0
HaveBadText words before after =
    AreRefused words ⊎ (HasBadContract words before after ⊎ (HasBadExpression words before after ⊎ HasBadPlane words before after))

abbrev pub UsageIsOfWords : Type 0
UsageIsOfWords = (words : List Text) (before after : Outside) → IsEnd words before after Usage → HaveBadText words before after
