-- What the statuses say of campaigns, by the cases of how a command ends.
use Rattle.std.proofs.Common.{◌≡◌, ◌⊎◌, inl, inr, ℕ, List, refl, sym, ap, subst}
use Rattle.std.specs.Prelude.{◌≢◌, Option, Some, None}
use Rattle.std.specs.Borrow.{Bor}
use Rattle.clap.specs.Words.{Text}
use Rattle.pv_interval.specs.Bounds.{Bounds}
use Rattle.pv_tree.specs.Stages.{Rule}
use Rattle.pv_slope.specs.Methods.{settle_by, identity_of}
use Rattle.pv_io.specs.Outside.{Rose}
use Rattle.pv_keep.specs.Keeping.{Kept}
use Rattle.pv_scope.specs.declared.order.Order.{Order}
use Rattle.pv_rounds.specs.Holding.{RefusesHold, IsInterrupted}
use Rattle.pv_rounds.specs.declared.campaign.HoldRefused.{HoldRefused}
use Rattle.pv_rounds.specs.declared.campaign.HoldRefused.TheVariants as hold
use Rattle.pv_request.specs.Requests.{Asks, campaign_of, names_in}
use Rattle.pv_request.specs.Refusals.{status_of}
use Rattle.pv_rule.specs.Systems.{Files, search_box}
use Rattle.pv_product.specs.Campaigns.{Stock, IsSameStock, LeavesStock, RowsStay, AllRowsStay, campaign_refusal, HasNoCampaign}
use Rattle.pv_product.specs.Products.{Product, ComesOf, RefusesWork}
use Rattle.pv_product.specs.Ends.{Outside, IsRefusedSo, in_words, in_request, Tells}
use Rattle.pv_laws.specs.CampaignLaws.{HasInterrupted, IsInterruptedIn, IsBrokenOff, IsKeeperFault, KeeperFaultBreaksOff, MemoryKeepsRows, OtherNamesStay, OthersLeaveKeeper}
use Rattle.pv_request.specs.declared.request.Settings.{Settings}
use Rattle.pv_request.specs.declared.request.Rounds.{Rounds}
use Rattle.pv_request.specs.declared.request.Request.{Request}
use Rattle.pv_request.specs.declared.request.Request.TheVariants.{Check, Run, Resume, Merge, Audit, Svg, Sample, Least, Campaign}
use Rattle.pv_request.specs.declared.refusal.Refusal.{Refusal}
use Rattle.pv_request.specs.declared.refusal.Refusal.TheVariants.{Usage, System, Contract, Objective, NoFile, ReadFault, Paving, NotStored, KeeperFault, NotPrinted, Memory, TreeLimit, Disagree, Differs}
use Rattle.pv_request.specs.declared.status.Status.{Status}
use Rattle.pv_request.specs.declared.status.Status.TheVariants as status
use Rattle.pv_campaign.proofs.Campaigned.{held_broken}
use Rattle.pv_laws.proofs.Stocks.{left_stays, opened_stays, same_rows, all_rows}
use Rattle.pv_laws.proofs.StatusLaws.{no_files, is_answer}

-- ---- What is kept behind a refusal

abbrev Remains : ℕ → Rule → ℕ → List Bounds → Order → List ℕ → ℕ → ℕ → Kept → Kept → Type 0
Remains limit rule depth b order identity boxes count k0 k1 = RowsStay k0 k1 ⊎ IsInterrupted limit rule depth b order identity boxes count k0 k1

refused_remains : (limit : ℕ) (rule : Rule) (depth : ℕ) (b : List Bounds) (order : Order) (identity : List ℕ) (boxes count : ℕ) (k0 k1 : Kept) (r : HoldRefused)
    → RefusesHold limit rule depth b order identity boxes count k0 k1 r → Remains limit rule depth b order identity boxes count k0 k1
refused_remains limit rule depth b order identity boxes count k0 k1 hold.Memory h = inr h
refused_remains limit rule depth b order identity boxes count k0 k1 hold.Failed h = inr h
refused_remains limit rule depth b order identity boxes count k0 k1 (hold.OtherIdentity found) h = inl (left_stays k0 k1 identity h.1)
refused_remains limit rule depth b order identity boxes count k0 k1 hold.TooMany h = inl (left_stays k0 k1 identity h.1)
refused_remains limit rule depth b order identity boxes count k0 k1 (hold.BadRow n) h = inl (left_stays k0 k1 identity h.1)
refused_remains limit rule depth b order identity boxes count k0 k1 (hold.TreeLimit n) h = inl (opened_stays limit k0 k1 identity b h.opening h.opened)

-- all rows stay, or the campaign that is asked for was interrupted
abbrev Keeps : Files → Stock → Stock → Request → Type 0
Keeps before u v q = AllRowsStay u v ⊎ IsInterruptedIn before u v q

campaign_keeps : (before : Files) (u v : Stock) (system : Text) (s : Settings) (limit : ℕ) (order : Order) (boxes : ℕ) (rounds : Rounds) (r : Refusal) → HasNoCampaign before u v system s limit order boxes rounds r
    → LeavesStock (Some rounds.name.now) u v → AllRowsStay u v ⊎ HasInterrupted before u v system s limit order boxes rounds
campaign_keeps before u v system s limit order boxes rounds r h kept =
    by (refused_remains limit (settle_by h.rule) h.rule.parts.depth (search_box h.rule) order (identity_of h.rule) boxes rounds.count (u.kept rounds.name.now) (v.kept rounds.name.now)
    h.refused.refused h.refused.because)
  where
    by : Remains limit (settle_by h.rule) h.rule.parts.depth (search_box h.rule) order (identity_of h.rule) boxes rounds.count (u.kept rounds.name.now) (v.kept rounds.name.now)
        → AllRowsStay u v ⊎ HasInterrupted before u v system s limit order boxes rounds
    by (inl stay) = inl (all_rows rounds.name.now u v stay kept)
    by (inr broken) = inr (record { rule = h.rule; read = h.read; interrupted = broken })

work_keeps : (before after : Files) (u v : Stock) (q : Request) (r : Refusal) → RefusesWork before after u v q r → LeavesStock (campaign_of q) u v → Keeps before u v q
work_keeps before after u v (Campaign system settings effort rounds) r (inl h) kept = inl (same_rows u v h.1)
work_keeps before after u v (Campaign system settings effort rounds) r (inr h) kept = campaign_keeps before u v system.now settings effort.budget.limit effort.order effort.budget.nodes rounds r h kept
work_keeps before after u v q r h kept = inl (same_rows u v kept)

product_keeps : (before : Files) (u v : Stock) (q : Request) (p : Product) → ComesOf before u v q p → LeavesStock (campaign_of q) u v → Keeps before u v q
product_keeps before u v (Campaign system settings effort rounds) p h kept = inr (record {
  rule = h.rule;
  read = h.read;
  interrupted = inr (held_broken effort.budget.limit (settle_by h.rule) h.rule.parts.depth (search_box h.rule) effort.order (identity_of h.rule) effort.budget.nodes rounds.count (u.kept rounds.name.now)
      (v.kept rounds.name.now) h.tree h.held);
})
product_keeps before u v q p h kept = inl (same_rows u v kept)

broken_off : (words : List Text) (before after : Outside) (q : Request) → Asks words q → Keeps before.files before.stock after.stock q
    → AllRowsStay before.stock after.stock ⊎ IsBrokenOff words before after
broken_off words before after q asks (inl stay) = inl stay
broken_off words before after q asks (inr broken) = inr (record { request = q; asks = asks; interrupted = broken })

refused_keeps : (words : List Text) (before after : Outside) (r : Refusal) → IsRefusedSo words before after r → AllRowsStay before.stock after.stock ⊎ IsBrokenOff words before after
refused_keeps words before after r (in_words h same kept) = inl (same_rows before.stock after.stock kept)
refused_keeps words before after r (in_request q asks (inl work) kept) =
    broken_off words before after q asks (work_keeps before.files after.files before.stock after.stock q r work.0 kept)
refused_keeps words before after r (in_request q asks (inr f) kept) =
    broken_off words before after q asks (product_keeps before.files before.stock after.stock q f.product f.comes kept)

pub memory_keeps_rows : MemoryKeepsRows
memory_keeps_rows words before after (inl d) = absurd (is_answer d.answered.product status.WantOfMemory d.answered.is)
memory_keeps_rows words before after (inr r) = refused_keeps words before after r.refusal r.so

-- ---- Status 10

fault_or_memory : (n : Bor Text) → KeeperFault n ≡ Memory → ⊥
fault_or_memory n e = cc

abbrev IsFault : Refusal → Type 0
IsFault (KeeperFault n) = Unit {0}
IsFault r = ⊥

only_failed : (name : Bor Text) (r : HoldRefused) → IsFault (campaign_refusal name r) → r ≡ hold.Failed
only_failed name hold.Failed h = refl
only_failed name hold.Memory h = absurd h
only_failed name (hold.OtherIdentity found) h = absurd h
only_failed name hold.TooMany h = absurd h
only_failed name (hold.BadRow n) h = absurd h
only_failed name (hold.TreeLimit n) h = absurd h

-- what a fault of the keeper says of the request that meets it
pub record IsFailedIn (before : Files) (u v : Stock) (q : Request) : Type 0 where
  pub interrupted : IsInterruptedIn before u v q
  pub rose : Rose u.faults v.faults

campaign_failed : (before : Files) (u v : Stock) (system : Text) (s : Settings) (limit : ℕ) (order : Order) (boxes : ℕ) (rounds : Rounds) (n : Bor Text)
    → HasNoCampaign before u v system s limit order boxes rounds (KeeperFault n) → HasInterrupted before u v system s limit order boxes rounds × Rose u.faults v.faults
campaign_failed before u v system s limit order boxes rounds n h =
    let failed : h.refused.refused ≡ hold.Failed = only_failed rounds.name h.refused.refused (subst IsFault h.refused.is tt) in (
      record {
        rule = h.rule;
        read = h.read;
        interrupted = subst (RefusesHold limit (settle_by h.rule) h.rule.parts.depth (search_box h.rule) order (identity_of h.rule) boxes rounds.count (u.kept rounds.name.now) (v.kept rounds.name.now))
            failed h.refused.because;
      },
      h.refused.rose failed,
    )

module _ (before after : Files) (u v : Stock) where
  work_failed : (q : Request) (n : Bor Text) → RefusesWork before after u v q (KeeperFault n) → IsFailedIn before u v q
  work_failed (Check system) n h = absurd h
  work_failed (Run system settings effort out) n h = absurd h
  work_failed (Resume system pavings settings effort share out) n (inl h) = absurd h
  work_failed (Resume system pavings settings effort share out) n (inr (inl h)) =
      absurd (no_files before after effort.budget.limit h.rule (KeeperFault n) (fault_or_memory n) (λ m k. k) (names_in pavings.items) h.refused)
  work_failed (Resume system pavings settings effort share out) n (inr (inr h)) = absurd h.refused
  work_failed (Merge system pavings settings limit out) n (inl h) = absurd h
  work_failed (Merge system pavings settings limit out) n (inr (inl h)) =
      absurd (no_files before after limit h.rule (KeeperFault n) (fault_or_memory n) (λ m k. k) (names_in pavings.items) h.refused)
  work_failed (Merge system pavings settings limit out) n (inr (inr h)) = absurd h.refused
  work_failed (Audit system paving settings limit workers) n (inl h) = absurd h
  work_failed (Audit system paving settings limit workers) n (inr h) = absurd h.refused
  work_failed (Svg system paving settings limit view) n (inl h) = absurd h
  work_failed (Svg system paving settings limit view) n (inr h) = absurd h.refused
  work_failed (Sample circles) n h = absurd h
  work_failed (Least system settings search) n h = absurd h
  work_failed (Campaign system settings effort rounds) n (inl h) = absurd h.0
  work_failed (Campaign system settings effort rounds) n (inr h) =
      let both = campaign_failed before u v system.now settings effort.budget.limit effort.order effort.budget.nodes rounds n h in record { interrupted = both.0; rose = both.1 }

abbrev IsFaultStatus : Status → Type 0
IsFaultStatus status.KeeperFault = Unit {0}
IsFaultStatus s = ⊥

fault_so : (words : List Text) (before after : Outside) (r : Refusal) → IsFaultStatus (status_of r) → IsRefusedSo words before after r → IsKeeperFault words before after
fault_so words before after (KeeperFault n) f (in_words h same kept) = absurd h
fault_so words before after (KeeperFault n) f (in_request q asks (inl work) kept) =
    let failed = work_failed before.files after.files before.stock after.stock q n work.0 in
    record { broken = record { request = q; asks = asks; interrupted = failed.interrupted }; rose = failed.rose; untouched = work.1 }
fault_so words before after (KeeperFault n) f (in_request q asks (inr h) kept) = absurd h.refused
fault_so words before after Usage f so = absurd f
fault_so words before after (System line column byte cause) f so = absurd f
fault_so words before after (Contract byte) f so = absurd f
fault_so words before after (Objective byte cause) f so = absurd f
fault_so words before after (NoFile n) f so = absurd f
fault_so words before after (ReadFault n) f so = absurd f
fault_so words before after (Paving n fault) f so = absurd f
fault_so words before after (NotStored n) f so = absurd f
fault_so words before after NotPrinted f so = absurd f
fault_so words before after Memory f so = absurd f
fault_so words before after (TreeLimit n) f so = absurd f
fault_so words before after (Disagree p a b) f so = absurd f
fault_so words before after (Differs p a b) f so = absurd f

fault_told : (words : List Text) (before after : Outside) (r : Refusal) → IsRefusedSo words before after r → Tells r status.KeeperFault before.err after.err
    → IsKeeperFault words before after
fault_told words before after r so (inl told) = fault_so words before after r (subst IsFaultStatus told.0 tt) so
fault_told words before after r so (inr memory) = absurd (subst IsFaultStatus memory.0 tt)

pub keeper_fault_breaks_off : KeeperFaultBreaksOff
keeper_fault_breaks_off words before after (inl d) = absurd (is_answer d.answered.product status.KeeperFault d.answered.is)
keeper_fault_breaks_off words before after (inr r) = fault_told words before after r.refusal r.so r.told

-- ---- Every status

left_name : (campaign : Option Text) (u v : Stock) (name : Text) → LeavesStock campaign u v → campaign ≢ Some name → v.kept name ≡ u.kept name
left_name None u v name kept other = kept.kept name
left_name (Some m) u v name kept other = kept.others name (λ e. other (ap Some (sym e)))

pub other_names_stay : OtherNamesStay
other_names_stay words before after s (inl d) name other = left_name (campaign_of d.request) before.stock after.stock name d.kept (other d.request d.asks)
other_names_stay words before after s (inr r) name other = by r.so
  where
    by : IsRefusedSo words before after r.refusal → after.stock.kept name ≡ before.stock.kept name
    by (in_words h same kept) = kept.kept name
    by (in_request q asks h kept) = left_name (campaign_of q) before.stock after.stock name kept (other q asks)

left_all : (campaign : Option Text) (u v : Stock) → LeavesStock campaign u v → campaign ≡ None → IsSameStock u v
left_all None u v kept e = kept
left_all (Some m) u v kept e = absurd (cc)

pub others_leave_keeper : OthersLeaveKeeper
others_leave_keeper words before after s (inl d) none = left_all (campaign_of d.request) before.stock after.stock d.kept (none d.request d.asks)
others_leave_keeper words before after s (inr r) none = by r.so
  where
    by : IsRefusedSo words before after r.refusal → IsSameStock before.stock after.stock
    by (in_words h same kept) = kept
    by (in_request q asks h kept) = left_all (campaign_of q) before.stock after.stock kept (none q asks)
