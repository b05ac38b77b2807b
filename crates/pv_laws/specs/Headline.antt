-- The headline: what pavings that were completed have in common, whichever command made them, wherever and by however
-- many workers. What a paving says of its system is `IsHonest` (Products); that is said of it by DoneIsWhole and
-- OpenLeftIsPart (StatusLaws), and that no other file changes by OthersStay there.
use Rattle.std.specs.Prelude.{◌≡◌, ◌≢◌, ℕ, List, None}
use Rattle.clap.specs.Words.{Text}
use Rattle.pv_tree.specs.Trees.{Tree, leaf}
use Rattle.pv_slope.specs.Methods.{Method, identity_of}
use Rattle.pv_io.specs.Outside.{untold}
use Rattle.pv_request.specs.Requests.{Asks, names_in, out_of}
use Rattle.pv_rule.specs.Systems.{Files, HasRule, search_box}
use Rattle.pv_product.specs.Files.{HasOpening}
use Rattle.pv_product.specs.Products.{Product, paved, AreStages, full_by}
use Rattle.pv_product.specs.Ends.{Outside, IsDelivered, IsEnd}
use Rattle.pv_laws.specs.Merges.{AreSameSettings}
use Rattle.pv_request.specs.declared.request.Settings.{Settings}
use Rattle.pv_request.specs.declared.request.Request.{Request}
use Rattle.pv_request.specs.declared.request.Request.TheVariants.{Check, Run, Resume, Merge, Audit, Svg, Sample, Least, Campaign}
use Rattle.pv_request.specs.declared.status.Status.TheVariants.{Done}

-- The file of this name holds a system, and this is its whole paving by the settings: the full tree of its search box.
pub record IsWholePaving (before : Files) (system : Text) (s : Settings) (p : Product) : Type 0 where
  pub rule : Method
  pub read : HasRule before system s rule
  pub is : p ≡ paved (identity_of rule) (search_box rule) (full_by rule leaf)

-- Each of the files is a stage of the open search box of the system: what this program wrote for it and the settings.
abbrev pub FilesAreStages : Files → Text → List Text → Settings → ℕ → Type 0
FilesAreStages before system names s limit =
    (rule : Method) (trees : List Tree) (joined : Tree) → HasOpening before system names s limit rule trees joined → AreStages rule trees

-- the system of this name is to be paved by these settings, and no share of it alone: anew, or from files that are stages
abbrev pub IsPavingOf : Files → Request → Text → Settings → Type 0
IsPavingOf before (Check system) name s = ⊥
IsPavingOf before (Run system settings effort out) name s = (system.now ≡ name) × (settings ≡ s)
IsPavingOf before (Resume system pavings settings effort share out) name s =
    (system.now ≡ name) × (settings ≡ s) × (share ≡ None) × FilesAreStages before system.now (names_in pavings.items) settings effort.budget.limit
IsPavingOf before (Merge system pavings settings limit out) name s =
    (system.now ≡ name) × (settings ≡ s) × FilesAreStages before system.now (names_in pavings.items) settings limit
IsPavingOf before (Audit system paving settings limit workers) name s = ⊥
IsPavingOf before (Svg system paving settings limit view) name s = ⊥
IsPavingOf before (Sample circles) name s = ⊥
IsPavingOf before (Least system settings search) name s = ⊥
IsPavingOf before (Campaign system settings effort rounds) name s = ⊥

-- Both ask, each over its own files, for pavings of one system: the texts are the same, and so are the settings.
pub record ArePavingsOfOne (words others : List Text) (before before' : Files) : Type 0 where
  pub name : Text
  pub name' : Text
  pub settings : Settings
  pub settings' : Settings
  pub one : (q : Request) → Asks words q → IsPavingOf before q name settings
  pub other : (q : Request) → Asks others q → IsPavingOf before' q name' settings'
  pub told : before.content name ≢ untold
  pub text : before.content name ≡ before'.content name'
  pub same : AreSameSettings settings settings'

-- the words asked for a paving, and this one was stored and printed
pub record Delivers (p : Product) (words : List Text) (before after : Outside) : Type 0 where
  pub request : Request
  pub asks : Asks words request
  pub delivered : IsDelivered (out_of request) p before.files after.files before.out after.out

-- Two commands that are completed, here or on two machines, anew or from stages, in any order, by any number of workers and
-- with any budgets, deliver one and the same paving: the same bytes wherever both store, and wherever both print.
abbrev pub CompletedAreAlike : Type 0
CompletedAreAlike =
    (words others : List Text) (before after before' after' : Outside) → ArePavingsOfOne words others before.files before'.files
    → IsEnd words before after Done → IsEnd others before' after' Done
    → (p : Product) × (Delivers p words before after × Delivers p others before' after')
