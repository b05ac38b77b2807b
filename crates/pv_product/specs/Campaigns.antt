-- What is told of a keeper, what commands leave of it, and why a campaign is refused.
use Rattle.std.specs.Prelude.{◌≡◌, ◌≢◌, ◌⊎◌, ◌≤◌, ℕ, Bool, List, [], Option, Some, None, is_none}
use Rattle.std.specs.Borrow.{Bor}
use Rattle.clap.specs.Words.{Text}
use Rattle.pv_tree.specs.Trees.{Tree, opens, first}
use Rattle.pv_slope.specs.Methods.{Method, settle_by, identity_of}
use Rattle.pv_io.specs.Outside.{Rose}
use Rattle.pv_keep.specs.Keeping.{Kept, untold, absent, holds}
use Rattle.pv_scope.specs.declared.order.Order.{Order}
use Rattle.pv_rounds.specs.Holding.{RefusesHold}
use Rattle.pv_rounds.specs.declared.campaign.HoldRefused.{HoldRefused}
use Rattle.pv_rounds.specs.declared.campaign.HoldRefused.TheVariants as hold
use Rattle.pv_rule.specs.Systems.{Files, HasRule, RefusesRule, search_box}
use Rattle.pv_request.specs.declared.request.Settings.{Settings}
use Rattle.pv_request.specs.declared.request.Rounds.{Rounds}
use Rattle.pv_request.specs.declared.refusal.Refusal.{Refusal}
use Rattle.pv_request.specs.declared.refusal.Refusal.TheVariants.{Paving, KeeperFault, Memory, TreeLimit}
use Rattle.pv_request.specs.declared.refusal.FileFault.TheVariants.{WrongIdentity, BadRow, TooManyRows}

-- ---- What is kept

-- what a keeper tells: what is kept under each name, and how often it has failed
pub record Stock : Type 0 where
  pub kept : List ℕ → Kept
  pub faults : ℕ

abbrev pub stock : (List ℕ → Kept) → ℕ → Stock
stock kept faults = record { kept = kept; faults = faults }

-- the keeper is as it was
pub record IsSameStock (before after : Stock) : Type 0 where
  pub kept : (name : List ℕ) → after.kept name ≡ before.kept name
  pub faults : after.faults ≡ before.faults

-- nothing is kept otherwise but perhaps under this name
pub record AreOthersStocked (name : List ℕ) (before after : Stock) : Type 0 where
  pub others : (other : List ℕ) → other ≢ name → after.kept other ≡ before.kept other
  pub faults : before.faults ≤ after.faults

-- what a command for the campaign of a name, or for none, leaves of what is kept
abbrev pub LeavesStock : Option Text → Stock → Stock → Type 0
LeavesStock None before after = IsSameStock before after
LeavesStock (Some name) before after = AreOthersStocked name before after

-- the rows of a name stay; an absent name may be there with none
abbrev pub RowsStay : Kept → Kept → Type 0
RowsStay untold after = after ≡ untold
RowsStay absent after = (after ≡ absent) ⊎ ((identity : List ℕ) × (after ≡ holds identity []))
RowsStay (holds identity rows) after = after ≡ holds identity rows

abbrev pub AllRowsStay : Stock → Stock → Type 0
AllRowsStay before after = (name : List ℕ) → RowsStay (before.kept name) (after.kept name)

-- ---- What comes of a campaign

-- no leaf is open
abbrev pub is_done : Tree → Bool
is_done t = is_none (first (opens t))

-- ---- Why it is refused

abbrev pub campaign_refusal : Bor Text → HoldRefused → Refusal
campaign_refusal name hold.Memory = Memory
campaign_refusal name hold.Failed = KeeperFault name
campaign_refusal name (hold.OtherIdentity found) = Paving name WrongIdentity
campaign_refusal name hold.TooMany = Paving name TooManyRows
campaign_refusal name (hold.BadRow n) = Paving name (BadRow n)
campaign_refusal name (hold.TreeLimit n) = TreeLimit n

-- why some rounds by a rule are refused, and what that leaves of what is kept
pub record RefusesRounds (rule : Method) (u v : Stock) (limit : ℕ) (order : Order) (boxes : ℕ) (rounds : Rounds) (r : Refusal) : Type 0 where
  pub refused : HoldRefused
  pub because : RefusesHold limit (settle_by rule) rule.parts.depth (search_box rule) order (identity_of rule) boxes rounds.count (u.kept rounds.name.now) (v.kept rounds.name.now) refused
  pub rose : refused ≡ hold.Failed → Rose u.faults v.faults
  pub is : r ≡ campaign_refusal rounds.name refused

-- the system is there, and the rounds are refused
pub record HasNoCampaign (before : Files) (u v : Stock) (system : Text) (s : Settings) (limit : ℕ) (order : Order) (boxes : ℕ) (rounds : Rounds) (r : Refusal) : Type 0 where
  pub rule : Method
  pub read : HasRule before system s rule
  pub refused : RefusesRounds rule u v limit order boxes rounds r

-- the first refusal of the system, of its settings and of the rounds
abbrev pub RefusesCampaign : Files → Files → Stock → Stock → Text → Settings → ℕ → Order → ℕ → Rounds → Refusal → Type 0
RefusesCampaign before after u v system s limit order boxes rounds r =
    (RefusesRule before after system s r × IsSameStock u v) ⊎ HasNoCampaign before u v system s limit order boxes rounds r
