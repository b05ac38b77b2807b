-- Which rows stay where a command is refused.
use Rattle.std.proofs.Common.{◌≡◌, ◌⊎◌, inl, inr, ℕ, List, sym, subst}
use Rattle.std.specs.Borrow.{Bor}
use Rattle.pv_interval.specs.Bounds.{Bounds}
use Rattle.pv_tree.specs.Trees.{Tree}
use Rattle.pv_slope.specs.Methods.{Method, settle_by, identity_of}
use Rattle.pv_keep.specs.Keeping.{Kept, untold, absent, holds}
use Rattle.pv_keep.specs.Campaigns.{IsOpened, IsLeft}
use Rattle.pv_scope.specs.declared.order.Order.{Order}
use Rattle.pv_rounds.specs.Holding.{RefusesHold}
use Rattle.pv_rounds.specs.declared.campaign.HoldRefused.{HoldRefused}
use Rattle.pv_rounds.specs.declared.campaign.HoldRefused.TheVariants.{Memory, Failed, OtherIdentity, TooMany, BadRow, TreeLimit}
use Rattle.pv_request.specs.Requests.{campaign_of}
use Rattle.pv_request.specs.Refusals.{status_of}
use Rattle.pv_rule.specs.Systems.{Files, search_box}
use Rattle.pv_product.specs.Campaigns.{Stock, IsSameStock, AreOthersStocked, LeavesStock, RowsStay, AllRowsStay, campaign_refusal, RefusesRounds}
use Rattle.pv_product.specs.Products.{RefusesWork}
use Rattle.pv_laws.specs.StatusLaws.{IsEarly}
use Rattle.pv_request.specs.declared.request.Rounds.{Rounds}
use Rattle.pv_request.specs.declared.request.Request.{Request}
use Rattle.pv_request.specs.declared.request.Request.TheVariants.{Campaign}
use Rattle.pv_request.specs.declared.refusal.Refusal.{Refusal}
use Rattle.pv_product.proofs.Ends.{same_or_other}

-- ---- Under one name

rows_same : (k0 k1 : Kept) → k1 ≡ k0 → RowsStay k0 k1
rows_same untold k1 e = e
rows_same absent k1 e = inl e
rows_same (holds identity rows) k1 e = e

pub left_stays : (k0 k1 : Kept) (identity : List ℕ) → IsLeft k0 k1 identity → RowsStay k0 k1
left_stays untold k1 identity e = e
left_stays absent k1 identity (inl e) = inl e
left_stays absent k1 identity (inr e) = inr (identity, e)
left_stays (holds kept rows) k1 identity e = e

pub opened_stays : (limit : ℕ) (k0 k1 : Kept) (identity : List ℕ) (b : List Bounds) (t : Tree) → IsOpened limit k0 k1 identity b t → RowsStay k0 k1
opened_stays limit untold k1 identity b t h = h
opened_stays limit absent k1 identity b t h = inr (identity, h.0)
opened_stays limit (holds kept rows) k1 identity b t h = h.1.0

-- ---- Under all names

pub same_rows : (u v : Stock) → IsSameStock u v → AllRowsStay u v
same_rows u v same name = rows_same (u.kept name) (v.kept name) (same.kept name)

pub all_rows : (name : List ℕ) (u v : Stock) → RowsStay (u.kept name) (v.kept name) → AreOthersStocked name u v → AllRowsStay u v
all_rows name u v here others other = by (same_or_other other name)
  where
    by : (other ≡ name) ⊎ (other ≡ name → ⊥) → RowsStay (u.kept other) (v.kept other)
    by (inl e) = subst (λ (n : List ℕ). RowsStay (u.kept n) (v.kept n)) (sym e) here
    by (inr n) = rows_same (u.kept other) (v.kept other) (others.others other n)

-- ---- Where a command is refused before its work begins

refused_rows : (rule : Method) (limit : ℕ) (order : Order) (boxes count : ℕ) (name : Bor (List ℕ)) (k0 k1 : Kept) (refused : HoldRefused)
    → RefusesHold limit (settle_by rule) rule.parts.depth (search_box rule) order (identity_of rule) boxes count k0 k1 refused → IsEarly (status_of (campaign_refusal name refused)) → RowsStay k0 k1
refused_rows rule limit order boxes count name k0 k1 Memory h early = absurd early
refused_rows rule limit order boxes count name k0 k1 Failed h early = absurd early
refused_rows rule limit order boxes count name k0 k1 (OtherIdentity found) h early = left_stays k0 k1 (identity_of rule) h.1
refused_rows rule limit order boxes count name k0 k1 TooMany h early = left_stays k0 k1 (identity_of rule) h.1
refused_rows rule limit order boxes count name k0 k1 (BadRow n) h early = left_stays k0 k1 (identity_of rule) h.1
refused_rows rule limit order boxes count name k0 k1 (TreeLimit n) h early = opened_stays limit k0 k1 (identity_of rule) (search_box rule) h.opening h.opened

rounds_rows : (rule : Method) (u v : Stock) (limit : ℕ) (order : Order) (boxes : ℕ) (rounds : Rounds) (r : Refusal) → IsEarly (status_of r) → RefusesRounds rule u v limit order boxes rounds r
    → RowsStay (u.kept rounds.name.now) (v.kept rounds.name.now)
rounds_rows rule u v limit order boxes rounds r early h =
    refused_rows rule limit order boxes rounds.count rounds.name (u.kept rounds.name.now) (v.kept rounds.name.now) h.refused h.because
    (subst (λ (x : Refusal). IsEarly (status_of x)) h.is early)

pub early_rows : (before after : Files) (u v : Stock) (q : Request) (r : Refusal) → IsEarly (status_of r) → RefusesWork before after u v q r → LeavesStock (campaign_of q) u v
    → AllRowsStay u v
early_rows before after u v (Campaign system settings effort rounds) r early (inl h) kept = same_rows u v h.1
early_rows before after u v (Campaign system settings effort rounds) r early (inr h) kept =
    all_rows rounds.name.now u v (rounds_rows h.rule u v effort.budget.limit effort.order effort.budget.nodes rounds r early h.refused) kept
early_rows before after u v q r early h kept = same_rows u v kept
