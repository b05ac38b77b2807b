-- What this program stored is what `resume`, `merge`, `audit` and `svg` want of a file. So their premise, that each file is a
-- stage of the open search box, holds of all files that were written for the same system and settings, over any chain of
-- commands.
use Rattle.std.specs.Prelude.{◌≡◌, ◌≢◌, ◌⊎◌, ℕ, ◌≤◌, List, [], Some}
use Rattle.clap.specs.Words.{Text}
use Rattle.pv_slope.specs.Methods.{Method, settle_by}
use Rattle.pv_tree.specs.Trees.{Tree, leaf}
use Rattle.pv_tree.specs.Stages.{IsStage}
use Rattle.pv_io.specs.Outside.{Content, untold}
use Rattle.pv_request.specs.Requests.{Asks, names_in, out_of}
use Rattle.pv_rule.specs.Systems.{Files, RefusesFetch, HasRule, search_box}
use Rattle.pv_product.specs.Files.{HasPaving, RefusesPaving}
use Rattle.pv_product.specs.Ends.{Outside, IsEnd}
use Rattle.pv_laws.specs.Merges.{IsNamed, AreSameSettings, AreTold}
use Rattle.pv_laws.specs.Headline.{FilesAreStages}
use Rattle.pv_request.specs.declared.request.Settings.{Settings}
use Rattle.pv_request.specs.declared.request.Request.{Request}
use Rattle.pv_request.specs.declared.request.Request.TheVariants.{Check, Run, Resume, Merge, Audit, Svg, Sample, Least, Campaign}
use Rattle.pv_request.specs.declared.refusal.Refusal.{Refusal}
use Rattle.pv_request.specs.declared.status.Status.{Status}
use Rattle.pv_request.specs.declared.status.Status.TheVariants.{Done, OpenLeft}

-- ---- What is asked for

-- the system of this name is to be paved by these settings, with at most so many settled nodes
abbrev pub Paves : Request → Text → Settings → ℕ → Type 0
Paves (Check system) name s limit = ⊥
Paves (Run system settings effort out) name s limit = (system.now ≡ name) × (settings ≡ s) × (effort.budget.limit ≤ limit)
Paves (Resume system pavings settings effort share out) name s limit = (system.now ≡ name) × (settings ≡ s) × (effort.budget.limit ≤ limit)
Paves (Merge system pavings settings most out) name s limit = (system.now ≡ name) × (settings ≡ s) × (most ≤ limit)
Paves (Audit system paving settings most workers) name s limit = ⊥
Paves (Svg system paving settings most view) name s limit = ⊥
Paves (Sample circles) name s limit = ⊥
Paves (Least system settings search) name s limit = ⊥
Paves (Campaign system settings effort rounds) name s limit = ⊥

-- the files that the paving begins with
abbrev pub sources_of : Request → List Text
sources_of (Resume system pavings settings effort share out) = names_in pavings.items
sources_of (Merge system pavings settings limit out) = names_in pavings.items
sources_of q = []

-- such a paving is to be stored under this name
pub record IsToStore (q : Request) (system : Text) (s : Settings) (limit : ℕ) (file : Text) : Type 0 where
  pub paves : Paves q system s limit
  pub out : out_of q ≡ Some file

-- ---- What is wanted of a file

-- The file of this name is what commands want for the system of that name and the settings: where a tree may have so many
-- settled nodes it holds a paving, and never but this one, which is a stage of the open search box.
pub record IsWanted (f : Files) (system : Text) (s : Settings) (limit : ℕ) (file : Text) : Type 0 where
  pub tree : Tree
  pub read : (rule : Method) (most : ℕ) → limit ≤ most → HasRule f system s rule → HasPaving f most rule file tree
  pub only : (rule : Method) (most : ℕ) (t : Tree) → HasRule f system s rule → HasPaving f most rule file t → t ≡ tree
  pub stage : (rule : Method) → HasRule f system s rule → IsStage (settle_by rule) rule.parts.depth (search_box rule) leaf tree

-- ---- One command

abbrev pub IsAnswer : Status → Type 0
IsAnswer status = (status ≡ Done) ⊎ (status ≡ OpenLeft)

-- What a command stored that ended with status 0 or 1, anew or from stages, is wanted wherever a folder holds it beside the
-- text of its system.
abbrev pub StoredIsWanted : Type 0
StoredIsWanted =
    (words : List Text) (before after : Outside) (status : Status) (system file : Text) (s : Settings) (limit : ℕ)
    → IsAnswer status → IsEnd words before after status
    → ((q : Request) → Asks words q → IsToStore q system s limit file × ((most : ℕ) → FilesAreStages before.files system (sources_of q) s most))
    → before.files.content system ≢ untold → before.files.content file ≢ untold
    → (later : Files) (system' file' : Text) (s' : Settings) → AreSameSettings s s'
    → before.files.content system ≡ later.content system' → after.files.content file ≡ later.content file'
    → IsWanted later system' s' limit file'

-- Files that are wanted are stages.
abbrev pub WantedAreStages : Type 0
WantedAreStages =
    (f : Files) (system : Text) (names : List Text) (s : Settings) (limit most : ℕ)
    → ((name : Text) → IsNamed name names → IsWanted f system s limit name) → FilesAreStages f system names s most

-- Nothing is found wrong in a file that is wanted: where a tree may have as many settled nodes or more, a command that refuses
-- it could not read it.
abbrev pub WantedIsTaken : Type 0
WantedIsTaken =
    (f after : Files) (system file : Text) (s : Settings) (limit most : ℕ) (rule : Method) (r : Refusal)
    → IsWanted f system s limit file → limit ≤ most → HasRule f system s rule → f.content file ≢ untold
    → RefusesPaving f after most rule file r → RefusesFetch f after file r

-- ---- A chain of commands

-- What commands stored one after another, in any folders and on any machines, for one text of a system and the same settings:
-- each of them a `run`, or a `resume` or a `merge` of files that hold such bytes, which ended with status 0 or 1.
pub data IsWritten (text : Content) (s : Settings) (limit : ℕ) : Content → Type 0 where
  written : (c : Content) (words : List Text) (before after : Outside) (status : Status) (system file : Text) (t : Settings)
      → IsAnswer status → IsEnd words before after status → AreTold before.files
      → before.files.content system ≡ text → AreSameSettings t s → ((q : Request) → Asks words q → IsToStore q system t limit file)
      → ((q : Request) (name : Text) → Asks words q → IsNamed name (sources_of q) → IsWritten text s limit (before.files.content name))
      → c ≡ after.files.content file → IsWritten text s limit c

-- All that was written so is wanted, wherever a folder holds it beside the text of its system.
abbrev pub WrittenIsWanted : Type 0
WrittenIsWanted =
    (text : Content) (s : Settings) (limit : ℕ) (c : Content) → IsWritten text s limit c
    → (f : Files) (system file : Text) (t : Settings) → AreSameSettings s t → f.content system ≡ text → f.content file ≡ c
    → IsWanted f system t limit file
