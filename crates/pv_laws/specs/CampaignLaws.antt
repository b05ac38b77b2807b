-- What the statuses say of campaigns, and of what is kept.
use Rattle.std.specs.Prelude.{◌≡◌, ◌≢◌, ◌⊎◌, ℕ, List, Some, None}
use Rattle.clap.specs.Words.{Text}
use Rattle.pv_slope.specs.Methods.{Method, settle_by, identity_of}
use Rattle.pv_io.specs.Outside.{Rose}
use Rattle.pv_scope.specs.declared.order.Order.{Order}
use Rattle.pv_rounds.specs.Holding.{IsInterrupted}
use Rattle.pv_request.specs.Requests.{Asks, campaign_of}
use Rattle.pv_rule.specs.Systems.{Files, HasRule, search_box}
use Rattle.pv_product.specs.Campaigns.{Stock, IsSameStock, AllRowsStay}
use Rattle.pv_product.specs.Ends.{Outside, AreUntouched, IsEnd}
use Rattle.pv_request.specs.declared.request.Settings.{Settings}
use Rattle.pv_request.specs.declared.request.Rounds.{Rounds}
use Rattle.pv_request.specs.declared.request.Request.{Request}
use Rattle.pv_request.specs.declared.request.Request.TheVariants.{Check, Run, Resume, Merge, Audit, Svg, Sample, Least, Campaign}
use Rattle.pv_request.specs.declared.status.Status.{Status}
use Rattle.pv_request.specs.declared.status.Status.TheVariants.{KeeperFault, WantOfMemory}

-- A campaign was not opened, and all rows stay; or so many of its rounds were saved, and the rows that are kept are those
-- of the full tree, or of a stage of the opening with exactly so many budgets more settled nodes.
pub record HasInterrupted (before : Files) (u v : Stock) (system : Text) (s : Settings) (limit : ℕ) (order : Order) (boxes : ℕ) (rounds : Rounds) : Type 0 where
  pub rule : Method
  pub read : HasRule before system s rule
  pub interrupted : IsInterrupted limit (settle_by rule) rule.parts.depth (search_box rule) order (identity_of rule) boxes rounds.count (u.kept rounds.name.now) (v.kept rounds.name.now)

-- that is so of the campaign that is asked for
abbrev pub IsInterruptedIn : Files → Stock → Stock → Request → Type 0
IsInterruptedIn before u v (Check system) = ⊥
IsInterruptedIn before u v (Run system settings effort out) = ⊥
IsInterruptedIn before u v (Resume system pavings settings effort share out) = ⊥
IsInterruptedIn before u v (Merge system pavings settings limit out) = ⊥
IsInterruptedIn before u v (Audit system paving settings limit workers) = ⊥
IsInterruptedIn before u v (Svg system paving settings limit view) = ⊥
IsInterruptedIn before u v (Sample circles) = ⊥
IsInterruptedIn before u v (Least system settings search) = ⊥
IsInterruptedIn before u v (Campaign system settings effort rounds) = HasInterrupted before u v system.now settings effort.budget.limit effort.order effort.budget.nodes rounds

-- the words ask for a campaign, which was interrupted
pub record IsBrokenOff (words : List Text) (before after : Outside) : Type 0 where
  pub request : Request
  pub asks : Asks words request
  pub interrupted : IsInterruptedIn before.files before.stock after.stock request

-- Status 10: the keeper failed, nothing was stored or printed.
pub record IsKeeperFault (words : List Text) (before after : Outside) : Type 0 where
  pub broken : IsBrokenOff words before after
  pub rose : Rose before.stock.faults after.stock.faults
  pub untouched : AreUntouched before.files after.files before.out after.out

abbrev pub KeeperFaultBreaksOff : Type 0
KeeperFaultBreaksOff = (words : List Text) (before after : Outside) → IsEnd words before after KeeperFault → IsKeeperFault words before after

-- Status 7: all rows stay, or a campaign was interrupted.
abbrev pub MemoryKeepsRows : Type 0
MemoryKeepsRows =
    (words : List Text) (before after : Outside) → IsEnd words before after WantOfMemory
    → AllRowsStay before.stock after.stock ⊎ IsBrokenOff words before after

-- Every status: nothing is kept otherwise but under the name that is asked for, and nothing where none is.
abbrev pub OtherNamesStay : Type 0
OtherNamesStay =
    (words : List Text) (before after : Outside) (status : Status) → IsEnd words before after status
    → (name : Text) → ((q : Request) → Asks words q → campaign_of q ≢ Some name) → after.stock.kept name ≡ before.stock.kept name

abbrev pub OthersLeaveKeeper : Type 0
OthersLeaveKeeper =
    (words : List Text) (before after : Outside) (status : Status) → IsEnd words before after status
    → ((q : Request) → Asks words q → campaign_of q ≡ None) → IsSameStock before.stock after.stock
