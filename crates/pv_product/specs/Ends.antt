-- How a command ends, and what it leaves outside.
use Rattle.std.specs.Prelude.{◌≡◌, ◌≢◌, ◌⊎◌, ◌≤◌, ℕ, List, Option, Some}
use Rattle.clap.specs.Words.{Text}
use Rattle.pv_io.specs.Outside.{Rose, appended, stored, AppendsFront}
use Rattle.pv_file.specs.Texts.{file_text}
use Rattle.pv_file.specs.declared.version.Version.TheVariants.{Two}
use Rattle.pv_request.specs.Requests.{Asks, RefusesWords, out_of, campaign_of}
use Rattle.pv_request.specs.Refusals.{status_of, line_of}
use Rattle.pv_rule.specs.Systems.{Files, AreOnlyRead}
use Rattle.pv_product.specs.Campaigns.{Stock, IsSameStock, LeavesStock}
use Rattle.pv_product.specs.Products.{Product, paved_as, printed_of, HasStatus, ComesOf, RefusesWork}
use Rattle.pv_request.specs.declared.request.Request.{Request}
use Rattle.pv_request.specs.declared.refusal.Refusal.{Refusal}
use Rattle.pv_request.specs.declared.refusal.Refusal.TheVariants.{NotStored, NotPrinted, Memory}
use Rattle.pv_request.specs.declared.status.Status.{Status}
use Rattle.pv_request.specs.declared.status.Status.TheVariants.{WantOfMemory}

-- what a stream tells: the bytes written to it, and how often a write has failed
pub record Stream : Type 0 where
  pub written : Option (List ℕ)
  pub faults : ℕ

abbrev pub stream : Option (List ℕ) → ℕ → Stream
stream written faults = record { written = written; faults = faults }

-- what is outside of the program
pub record Outside : Type 0 where
  pub files : Files
  pub stock : Stock
  pub out : Stream
  pub err : Stream

abbrev pub outside : Files → Stock → Stream → Stream → Outside
outside files stock out err = record { files = files; stock = stock; out = out; err = err }

-- ---- Files and the standard output

-- nothing was stored or printed
pub record AreUntouched (before after : Files) (out_before out_after : Stream) : Type 0 where
  pub files : AreOnlyRead before after
  pub out : out_after.written ≡ out_before.written

-- no file was changed but perhaps that of this name
pub record AreOthersKept (name : Text) (before after : Files) : Type 0 where
  pub others : (other : Text) → other ≢ name → after.content other ≡ before.content other
  pub fetch_faults : before.fetch_faults ≤ after.fetch_faults
  pub store_faults : before.store_faults ≤ after.store_faults

-- these bytes were stored under this name
pub record IsStored (name : Text) (bytes : List ℕ) (before after : Files) : Type 0 where
  pub kept : AreOthersKept name before after
  pub is : after.content name ≡ stored (before.content name) bytes

-- a paving was stored as its version 2 text, where a file is asked for
abbrev pub IsKept : Option Text → Product → Files → Files → Type 0
IsKept (Some name) (paved_as identity b t done) before after = IsStored name (file_text Two identity b t) before after
IsKept file p before after = AreOnlyRead before after

-- the product was stored and printed
pub record IsDelivered (file : Option Text) (p : Product) (before after : Files) (out_before out_after : Stream) : Type 0 where
  pub files : IsKept file p before after
  pub out : out_after.written ≡ appended out_before.written (printed_of file p)

-- it was stored, and a front of it printed
pub record IsCutOff (file : Option Text) (p : Product) (before after : Files) (out_before out_after : Stream) : Type 0 where
  pub files : IsKept file p before after
  pub out : AppendsFront out_before.written out_after.written (printed_of file p)

-- it was not stored: nothing is said of that file, and nothing was printed
pub record IsLost (file : Option Text) (name : Text) (before after : Files) (out_before out_after : Stream) : Type 0 where
  pub asked : file ≡ Some name
  pub files : AreOthersKept name before after
  pub out : out_after.written ≡ out_before.written
  pub rose : Rose before.store_faults after.store_faults

-- why a product is not delivered, and what that leaves
abbrev pub RefusesDelivery : Option Text → Product → Files → Files → Stream → Stream → Refusal → Type 0
RefusesDelivery file p before after out_before out_after (NotStored name) =
    IsLost file name.now before after out_before out_after
RefusesDelivery file p before after out_before out_after NotPrinted =
    IsCutOff file p before after out_before out_after × Rose out_before.faults out_after.faults
RefusesDelivery file p before after out_before out_after Memory =
    AreUntouched before after out_before out_after ⊎ IsCutOff file p before after out_before out_after
RefusesDelivery file p before after out_before out_after _ = ⊥

-- ---- A request

-- what came of a request was delivered, and the status says whether a leaf is open
pub record IsAnswered (q : Request) (before after : Files) (u v : Stock) (out_before out_after : Stream) (status : Status) : Type 0 where
  pub product : Product
  pub comes : ComesOf before u v q product
  pub delivered : IsDelivered (out_of q) product before after out_before out_after
  pub is : HasStatus product status

-- what came of a request was not delivered
pub record FailsToDeliver (q : Request) (before after : Files) (u v : Stock) (out_before out_after : Stream) (r : Refusal) : Type 0 where
  pub product : Product
  pub comes : ComesOf before u v q product
  pub refused : RefusesDelivery (out_of q) product before after out_before out_after r

-- why a request is refused, and what that leaves
abbrev pub RefusesRequest : Request → Files → Files → Stock → Stock → Stream → Stream → Refusal → Type 0
RefusesRequest q before after u v out_before out_after r =
    (RefusesWork before after u v q r × AreUntouched before after out_before out_after)
    ⊎ FailsToDeliver q before after u v out_before out_after r

-- ---- The whole command

-- the words are refused, and all is as it was; or what they ask for is, and all that is kept stays but for its campaign
pub data IsRefusedSo (words : List Text) (before after : Outside) (r : Refusal) : Type 0 where
  in_words : RefusesWords words r → AreUntouched before.files after.files before.out after.out → IsSameStock before.stock after.stock
      → IsRefusedSo words before after r
  in_request : (q : Request) → Asks words q → RefusesRequest q before.files after.files before.stock after.stock before.out after.out r
      → LeavesStock (campaign_of q) before.stock after.stock → IsRefusedSo words before after r

-- a line was told, or a front of it where the count of faults rose
abbrev pub IsTold : Stream → Stream → List ℕ → Type 0
IsTold before after line =
    (after.written ≡ appended before.written line)
    ⊎ (Rose before.faults after.faults × AppendsFront before.written after.written line)

-- A refusal was told with its line. Where memory was wanting a front of a line is there.
abbrev pub Tells : Refusal → Status → Stream → Stream → Type 0
Tells r status before after =
    ((status ≡ status_of r) × IsTold before after (line_of r))
    ⊎ ((status ≡ WantOfMemory) × ((last : Refusal) × AppendsFront before.written after.written (line_of last)))

-- the words ask for something, and what came of that was delivered
pub record IsDone (words : List Text) (before after : Outside) (status : Status) : Type 0 where
  pub request : Request
  pub asks : Asks words request
  pub answered : IsAnswered request before.files after.files before.stock after.stock before.out after.out status
  pub kept : LeavesStock (campaign_of request) before.stock after.stock
  pub quiet : after.err.written ≡ before.err.written

-- the command was refused, and the refusal was told
pub record IsRefused (words : List Text) (before after : Outside) (status : Status) : Type 0 where
  pub refusal : Refusal
  pub so : IsRefusedSo words before after refusal
  pub told : Tells refusal status before.err after.err

-- how a command ends
abbrev pub IsEnd : List Text → Outside → Outside → Status → Type 0
IsEnd words before after status = IsDone words before after status ⊎ IsRefused words before after status
