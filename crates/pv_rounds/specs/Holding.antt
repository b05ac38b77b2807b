-- What a campaign comes to from its opening on, and why it is refused.
use Rattle.std.specs.Prelude.{◌≡◌, ◌⊎◌, ◌+◌, ◌*◌, ◌<◌, ◌≤◌, ℕ, List}
use Rattle.pv_interval.specs.Bounds.{Bounds}
use Rattle.pv_tree.specs.Trees.{Tree}
use Rattle.pv_tree.specs.Stages.{Rule}
use Rattle.pv_board.specs.Rules.{settled_in}
use Rattle.pv_scope.specs.declared.order.Order.{Order}
use Rattle.pv_keep.specs.Keeping.{Kept, HasOther}
use Rattle.pv_keep.specs.Campaigns.{IsOpened, IsLeft, HasTooMany, HasBadRow}
use Rattle.pv_keep.specs.declared.refusal.CampaignRefused.{CampaignRefused}
use Rattle.pv_keep.specs.declared.refusal.CampaignRefused.TheVariants as opening
use Rattle.pv_io.specs.declared.refused.IoRefused.{IoRefused}
use Rattle.pv_io.specs.declared.refused.IoRefused.TheVariants as saving
use Rattle.pv_rounds.specs.declared.campaign.HoldRefused.{HoldRefused}
use Rattle.pv_rounds.specs.declared.campaign.HoldRefused.TheVariants.{Memory, Failed, OtherIdentity, TooMany, BadRow, TreeLimit}
use Rattle.pv_rounds.specs.Going.{HasGoneOn, HasStopped}

-- A campaign was opened, a budget was settled of the opening within the limit, and the rows of what came of it are kept.
pub record IsHeld (limit : ℕ) (rule : Rule) (depth : ℕ) (b : List Bounds) (order : Order) (identity : List ℕ) (budget : ℕ) (before after : Kept) (t : Tree) : Type 0 where
  pub opening : Tree
  pub middle : Kept
  pub opened : IsOpened limit before middle identity b opening
  pub few : settled_in opening + budget ≤ limit
  pub gone : HasGoneOn rule depth b order opening budget middle after t

-- A campaign was opened that all its rounds keep within the limit, and so many of them at most were saved.
pub record IsBroken (limit : ℕ) (rule : Rule) (depth : ℕ) (b : List Bounds) (order : Order) (identity : List ℕ) (boxes count : ℕ) (before after : Kept) : Type 0 where
  pub opening : Tree
  pub middle : Kept
  pub opened : IsOpened limit before middle identity b opening
  pub few : settled_in opening + count * boxes ≤ limit
  pub stopped : HasStopped rule depth b order opening boxes count middle after

-- An opening has so many settled nodes, and with the budget more than the limit.
pub record IsOver (limit : ℕ) (b : List Bounds) (identity : List ℕ) (budget : ℕ) (before after : Kept) (n : ℕ) : Type 0 where
  pub opening : Tree
  pub opened : IsOpened limit before after identity b opening
  pub settled : n ≡ settled_in opening
  pub many : limit < n + budget

-- why a campaign is not opened, and what that leaves
abbrev pub RefusesOpening : ℕ → List Bounds → List ℕ → ℕ → Kept → Kept → HoldRefused → Type 0
RefusesOpening limit b identity budget before after Memory = IsLeft before after identity
RefusesOpening limit b identity budget before after Failed = IsLeft before after identity
RefusesOpening limit b identity budget before after (OtherIdentity found) = HasOther before identity found × IsLeft before after identity
RefusesOpening limit b identity budget before after TooMany = HasTooMany limit before identity × IsLeft before after identity
RefusesOpening limit b identity budget before after (BadRow n) = HasBadRow limit before identity b n × IsLeft before after identity
RefusesOpening limit b identity budget before after (TreeLimit n) = IsOver limit b identity budget before after n

-- the opening failed and left all rows, or a round behind it did
abbrev pub IsInterrupted : ℕ → Rule → ℕ → List Bounds → Order → List ℕ → ℕ → ℕ → Kept → Kept → Type 0
IsInterrupted limit rule depth b order identity boxes count before after =
    IsLeft before after identity ⊎ IsBroken limit rule depth b order identity boxes count before after

-- why a campaign doesn't come to the end of its rounds, and what that leaves
abbrev pub RefusesHold : ℕ → Rule → ℕ → List Bounds → Order → List ℕ → ℕ → ℕ → Kept → Kept → HoldRefused → Type 0
RefusesHold limit rule depth b order identity boxes count before after Memory = IsInterrupted limit rule depth b order identity boxes count before after
RefusesHold limit rule depth b order identity boxes count before after Failed = IsInterrupted limit rule depth b order identity boxes count before after
RefusesHold limit rule depth b order identity boxes count before after (OtherIdentity found) = HasOther before identity found × IsLeft before after identity
RefusesHold limit rule depth b order identity boxes count before after TooMany = HasTooMany limit before identity × IsLeft before after identity
RefusesHold limit rule depth b order identity boxes count before after (BadRow n) = HasBadRow limit before identity b n × IsLeft before after identity
RefusesHold limit rule depth b order identity boxes count before after (TreeLimit n) = IsOver limit b identity (count * boxes) before after n

-- ---- What becomes of the refusals of an opening and of a round

abbrev pub after_opening : CampaignRefused → HoldRefused
after_opening opening.Memory = Memory
after_opening opening.Failed = Failed
after_opening (opening.OtherIdentity kept) = OtherIdentity kept
after_opening opening.TooMany = TooMany
after_opening (opening.BadRow n) = BadRow n

abbrev pub after_round : IoRefused → HoldRefused
after_round saving.Memory = Memory
after_round saving.Failed = Failed
