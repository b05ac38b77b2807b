-- What each status says, by the cases of how a command ends.
use Rattle.std.proofs.Common.{[], ◌≡◌, ◌⊎◌, inl, inr, ℕ, Bool, true, false, List, ◌∷◌, refl, sym, ◌∙◌, ap, subst}
use Rattle.std.specs.Prelude.{◌≢◌, is_none, Option, Some, None}
use Rattle.std.specs.Borrow.{Bor}
use Rattle.std.proofs.lemmas.Bool.{false≢true}
use Rattle.clap.specs.Words.{Text}
use Rattle.pv_tree.specs.Trees.{Tree, leaf, opens, first, counts_of}
use Rattle.pv_scope.specs.declared.order.Order.{Order}
use Rattle.pv_slope.specs.Methods.{Method, identity_of}
use Rattle.pv_request.specs.Requests.{names_in, out_of, Asks, RefusesWords}
use Rattle.pv_request.specs.Refusals.{status_of}
use Rattle.pv_rule.specs.Systems.{Files, search_box}
use Rattle.pv_product.specs.Files.{RefusesPaving, RefusesPavings}
use Rattle.pv_product.specs.Leasts.{least_text}
use Rattle.pv_product.specs.Campaigns.{Stock, AllRowsStay, campaign_refusal, is_done}
use Rattle.pv_rounds.specs.declared.campaign.HoldRefused.{HoldRefused}
use Rattle.pv_rounds.specs.declared.campaign.HoldRefused.TheVariants as hold
use Rattle.pv_laws.proofs.Stocks.{same_rows, early_rows}
use Rattle.pv_keep.specs.Campaigns.{IsSaved}
use Rattle.pv_product.specs.Products.{Product, text, unfinished, paved, paved_as, status_by, HasStatus, IsHonest, full_by, report_as, ComesOf, ComesOfRun, ComesOfResume, ComesOfMerge, ComesOfLeast, ComesOfCampaign, summary_of, RefusesWork}
use Rattle.pv_product.specs.Ends.{Stream, Outside, AreUntouched, IsKept, RefusesDelivery, IsRefusedSo, in_words, in_request, Tells}
use Rattle.pv_laws.specs.StatusLaws.{IsFullRun, IsWholeResume, IsClosedJoin, IsFinalLeast, IsFullCampaign, IsWhole, DoneIsWhole, IsPartRun, IsCutShortResume, IsOpenJoin, IsPartLeast, IsPartCampaign, IsPart, OpenLeftIsPart, IsEarly, IsCause, IsRefusedEarly, EarlyIsUntouched, IsUnstored, IsUnprinted, IsUnwritten, WriteFaultIsUnwritten, IsCutOffText, MemoryLeaves, OthersStay}
use Rattle.pv_scope.specs.declared.share.Share.{Share}
use Rattle.pv_request.specs.declared.request.Settings.{Settings}
use Rattle.pv_request.specs.declared.request.Search.{Search}
use Rattle.pv_request.specs.declared.request.Rounds.{Rounds}
use Rattle.pv_request.specs.declared.request.Request.{Request}
use Rattle.pv_request.specs.declared.request.Request.TheVariants.{Check, Run, Resume, Merge, Audit, Svg, Sample, Least, Campaign}
use Rattle.pv_request.specs.declared.refusal.Refusal.{Refusal}
use Rattle.pv_request.specs.declared.refusal.Refusal.TheVariants.{Usage, System, Contract, Objective, NoFile, ReadFault, Paving, NotStored, KeeperFault, NotPrinted, Memory, TreeLimit, Disagree, Differs}
use Rattle.pv_request.specs.declared.status.Status.{Status}
use Rattle.pv_request.specs.declared.status.Status.TheVariants as status

-- ---- Which statuses are those of a refusal

abbrev IsAnswer : Status → Type 0
IsAnswer status.Done = Unit {0}
IsAnswer status.OpenLeft = Unit {0}
IsAnswer status.Usage = ⊥
IsAnswer status.SystemRefused = ⊥
IsAnswer status.PavingRefused = ⊥
IsAnswer status.ReadFault = ⊥
IsAnswer status.WriteFault = ⊥
IsAnswer status.WantOfMemory = ⊥
IsAnswer status.TreeLimit = ⊥
IsAnswer status.Disagree = ⊥
IsAnswer status.KeeperFault = ⊥
IsAnswer status.NoFile = ⊥

no_answer : (r : Refusal) → IsAnswer (status_of r) → ⊥
no_answer Usage h = h
no_answer (System line column byte cause) h = h
no_answer (Contract byte) h = h
no_answer (Objective byte cause) h = h
no_answer (NoFile n) h = h
no_answer (ReadFault n) h = h
no_answer (Paving n f) h = h
no_answer (NotStored n) h = h
no_answer (KeeperFault n) h = h
no_answer NotPrinted h = h
no_answer Memory h = h
no_answer (TreeLimit n) h = h
no_answer (Disagree p a b) h = h
no_answer (Differs p a b) h = h

pub not_told : (r : Refusal) (s : Status) (before after : Stream) → IsAnswer s → Tells r s before after → ⊥
not_told r s before after h (inl told) = no_answer r (subst IsAnswer told.0 h)
not_told r s before after h (inr memory) = subst IsAnswer memory.0 h

-- what was delivered has an answer's status
pub is_answer : (p : Product) (s : Status) → HasStatus p s → IsAnswer s
is_answer (text t) s h = subst IsAnswer (sym h) tt
is_answer (unfinished t) s h = subst IsAnswer (sym h) tt
is_answer (paved_as identity b t true) s h = subst IsAnswer (sym h) tt
is_answer (paved_as identity b t false) s h = subst IsAnswer (sym h) tt

-- ---- Status 0

not_open : status.Done ≡ status.OpenLeft → ⊥
not_open e = cc

is_all : (d : Bool) → status.Done ≡ status_by d → d ≡ true
is_all true e = refl
is_all false e = absurd (not_open e)

none_open : (ps : List (List Bool)) → is_none (first ps) ≡ true → ps ≡ []
none_open [] e = refl
none_open (p ∷ ps) e = absurd (false≢true e)

pub closed_at : (t : Tree) → status.Done ≡ status_by (is_done t) → opens t ≡ []
closed_at t e = none_open (opens t) (is_all (is_done t) e)

full_run : (before : Files) (system : Text) (s : Settings) (order : Order) (budget : ℕ) (p : Product) → ComesOfRun before system s order budget p → HasStatus p status.Done
    → IsFullRun before system s p
full_run before system s order budget p h done =
    let closed : opens h.tree ≡ [] = closed_at h.tree (subst (λ (x : Product). HasStatus x status.Done) h.is done) in
    let full : h.tree ≡ full_by h.rule leaf = h.run.full closed in
    record {
      rule = h.rule;
      read = h.read;
      honest = subst (IsHonest s h.rule) full h.honest;
      is = h.is ∙ ap (paved (identity_of h.rule) (search_box h.rule)) full;
    }

full_resume : (before : Files) (system : Text) (names : List Text) (s : Settings) (limit : ℕ) (order : Order) (budget : ℕ) (share : Option Share) (p : Product)
    → ComesOfResume before system names s limit order budget share p → HasStatus p status.Done → IsWholeResume before system names s limit share p
full_resume before system names s limit order budget None p h done =
    let flag : h.done ≡ true = is_all h.done (subst (λ (x : Product). HasStatus x status.Done) h.is done) in
    let full : h.tree ≡ full_by h.rule h.opening = h.run.0.full (none_open (opens h.tree) (sym h.run.2 ∙ flag)) in
    record {
      rule = h.rule;
      trees = h.trees;
      opening = h.opening;
      opened = h.opened;
      honest = λ stages. subst (IsHonest s h.rule) full (h.honest stages);
      is = h.is ∙ ap (paved_as (identity_of h.rule) (search_box h.rule) h.tree) h.run.2 ∙ ap (paved (identity_of h.rule) (search_box h.rule)) full;
    }
full_resume before system names s limit order budget (Some share) p h done =
    let flag : h.done ≡ true = is_all h.done (subst (λ (x : Product). HasStatus x status.Done) h.is done) in
    record {
      rule = h.rule;
      trees = h.trees;
      opening = h.opening;
      opened = h.opened;
      tree = h.tree;
      stage = h.run.stage;
      others = h.run.others;
      closed = h.run.closed.0 flag;
      full = h.run.full flag;
      honest = h.honest;
      is = h.is ∙ ap (paved_as (identity_of h.rule) (search_box h.rule) h.tree) flag;
    }

closed_join : (before : Files) (system : Text) (names : List Text) (s : Settings) (limit : ℕ) (p : Product) → ComesOfMerge before system names s limit p → HasStatus p status.Done
    → IsClosedJoin before system names s limit p
closed_join before system names s limit p h done = record {
  rule = h.rule;
  trees = h.trees;
  tree = h.tree;
  opened = h.opened;
  closed = closed_at h.tree (subst (λ (x : Product). HasStatus x status.Done) h.is done);
  honest = h.honest;
  is = h.is;
}

is_final : (t : List ℕ) (d : Bool) → HasStatus (report_as t d) status.Done → d ≡ true
is_final t true h = refl
is_final t false h = absurd (not_open h)

final_least : (before : Files) (system : Text) (s : Settings) (search : Search) (p : Product) → ComesOfLeast before system s search p → HasStatus p status.Done
    → IsFinalLeast before system s search p
final_least before system s search p h done =
    let final : h.least.done ≡ true = is_final (least_text h.least) h.least.done (subst (λ (x : Product). HasStatus x status.Done) h.is done) in
    record {
      least = h.least;
      found = h.found;
      final = h.found.is.done.0 final;
      is = h.is ∙ ap (report_as (least_text h.least)) final;
    }

full_campaign : (before : Files) (u v : Stock) (system : Text) (s : Settings) (limit : ℕ) (order : Order) (boxes : ℕ) (rounds : Rounds) (p : Product) → ComesOfCampaign before u v system s limit order boxes rounds p
    → HasStatus p status.Done → IsFullCampaign before u v system s limit rounds p
full_campaign before u v system s limit order boxes rounds p h done =
    let report = summary_of (counts_of h.tree) in
    let flag : is_done h.tree ≡ true = is_final report (is_done h.tree) (subst (λ (x : Product). HasStatus x status.Done) h.is done) in
    let full : h.tree ≡ full_by h.rule h.held.opening = h.held.gone.run.full (none_open (opens h.tree) flag) in
    record {
      rule = h.rule;
      read = h.read;
      opening = h.held.opening;
      middle = h.held.middle;
      opened = h.held.opened;
      kept = subst (IsSaved h.held.middle (v.kept rounds.name.now)) full h.held.gone.saved;
      honest = λ stage. subst (IsHonest s h.rule) full (h.honest stage);
      is = h.is ∙ ap (report_as report) flag ∙ ap (λ (t : Tree). text (summary_of (counts_of t))) full;
    }

whole_of : (before : Files) (u v : Stock) (q : Request) (p : Product) → ComesOf before u v q p → HasStatus p status.Done → IsWhole before u v q p
whole_of before u v (Check system) p h done = h
whole_of before u v (Run system settings effort out) p h done = full_run before _ settings _ _ p h done
whole_of before u v (Resume system pavings settings effort share out) p h done = full_resume before _ _ settings _ _ _ share p h done
whole_of before u v (Merge system pavings settings limit out) p h done = closed_join before _ _ settings limit p h done
whole_of before u v (Audit system paving settings limit workers) p h done = h
whole_of before u v (Svg system paving settings limit view) p h done = h
whole_of before u v (Sample circles) p h done = h
whole_of before u v (Least system settings search) p h done = final_least before _ settings search p h done
whole_of before u v (Campaign system settings effort rounds) p h done = full_campaign before u v _ settings _ _ _ rounds p h done

pub done_is_whole : DoneIsWhole
done_is_whole words before after (inl d) = record {
  request = d.request;
  asks = d.asks;
  product = d.answered.product;
  says_so = whole_of before.files before.stock after.stock d.request d.answered.product d.answered.comes d.answered.is;
  delivered = d.answered.delivered;
  quiet = d.quiet;
}
done_is_whole words before after (inr r) = absurd (not_told r.refusal status.Done before.err after.err tt r.told)

-- ---- Status 1

not_done : status.OpenLeft ≡ status.Done → ⊥
not_done e = cc

is_part : (d : Bool) → status.OpenLeft ≡ status_by d → d ≡ false
is_part true e = absurd (not_done e)
is_part false e = refl

not_closed : (ps : List (List Bool)) → is_none (first ps) ≡ false → ps ≢ []
not_closed [] e = absurd (false≢true (sym e))
not_closed (p ∷ ps) e = λ none. cc

open_at : (t : Tree) → status.OpenLeft ≡ status_by (is_done t) → opens t ≢ []
open_at t e = not_closed (opens t) (is_part (is_done t) e)

no_text : (p : Product) (t : List ℕ) → p ≡ text t → HasStatus p status.OpenLeft → ⊥
no_text p t e h = not_done (subst (λ (x : Product). HasStatus x status.OpenLeft) e h)

part_run : (before : Files) (system : Text) (s : Settings) (order : Order) (budget : ℕ) (p : Product) → ComesOfRun before system s order budget p → HasStatus p status.OpenLeft
    → IsPartRun before system s order budget p
part_run before system s order budget p h left =
    let open_left : opens h.tree ≢ [] = open_at h.tree (subst (λ (x : Product). HasStatus x status.OpenLeft) h.is left) in
    record {
      rule = h.rule;
      read = h.read;
      tree = h.tree;
      part = record { open_left = open_left; spent = h.run.spent open_left; short = λ fits. open_left (h.run.fits.1 fits) };
      ordered = h.ordered;
      honest = h.honest;
      is = h.is;
    }

part_resume : (before : Files) (system : Text) (names : List Text) (s : Settings) (limit : ℕ) (order : Order) (budget : ℕ) (share : Option Share) (p : Product)
    → ComesOfResume before system names s limit order budget share p → HasStatus p status.OpenLeft → IsCutShortResume before system names s limit order budget share p
part_resume before system names s limit order budget None p h left =
    let flag : h.done ≡ false = is_part h.done (subst (λ (x : Product). HasStatus x status.OpenLeft) h.is left) in
    let open_left : opens h.tree ≢ [] = not_closed (opens h.tree) (sym h.run.2 ∙ flag) in
    let run = h.run.0 in
    record {
      rule = h.rule;
      trees = h.trees;
      opening = h.opening;
      opened = h.opened;
      tree = h.tree;
      part = record { open_left = open_left; spent = run.spent open_left; short = λ fits. open_left (run.fits.1 fits) };
      ordered = h.run.1;
      honest = h.honest;
      is = h.is ∙ ap (paved_as (identity_of h.rule) (search_box h.rule) h.tree) h.run.2;
    }
part_resume before system names s limit order budget (Some share) p h left =
    let flag : h.done ≡ false = is_part h.done (subst (λ (x : Product). HasStatus x status.OpenLeft) h.is left) in
    record {
      rule = h.rule;
      trees = h.trees;
      opening = h.opening;
      opened = h.opened;
      tree = h.tree;
      stage = h.run.stage;
      others = h.run.others;
      open_left = λ closed. false≢true (sym flag ∙ h.run.closed.1 closed);
      spent = h.run.spent flag;
      honest = h.honest;
      is = h.is ∙ ap (paved_as (identity_of h.rule) (search_box h.rule) h.tree) flag;
    }

open_join : (before : Files) (system : Text) (names : List Text) (s : Settings) (limit : ℕ) (p : Product) → ComesOfMerge before system names s limit p → HasStatus p status.OpenLeft
    → IsOpenJoin before system names s limit p
open_join before system names s limit p h left = record {
  rule = h.rule;
  trees = h.trees;
  tree = h.tree;
  opened = h.opened;
  open_left = open_at h.tree (subst (λ (x : Product). HasStatus x status.OpenLeft) h.is left);
  honest = h.honest;
  is = h.is;
}

is_cut_short : (t : List ℕ) (d : Bool) → HasStatus (report_as t d) status.OpenLeft → d ≡ false
is_cut_short t true h = absurd (not_done h)
is_cut_short t false h = refl

not_final : (d : Bool) → d ≡ false → d ≡ true → ⊥
not_final d e f = false≢true (sym e ∙ f)

part_least : (before : Files) (system : Text) (s : Settings) (search : Search) (p : Product) → ComesOfLeast before system s search p → HasStatus p status.OpenLeft
    → IsPartLeast before system s search p
part_least before system s search p h left =
    let short : h.least.done ≡ false = is_cut_short (least_text h.least) h.least.done (subst (λ (x : Product). HasStatus x status.OpenLeft) h.is left) in
    record {
      least = h.least;
      found = h.found;
      left = λ none. not_final h.least.done short (h.found.is.done.1 none);
      is = h.is ∙ ap (report_as (least_text h.least)) short;
    }

part_campaign : (before : Files) (u v : Stock) (system : Text) (s : Settings) (limit : ℕ) (order : Order) (boxes : ℕ) (rounds : Rounds) (p : Product) → ComesOfCampaign before u v system s limit order boxes rounds p
    → HasStatus p status.OpenLeft → IsPartCampaign before u v system s limit order boxes rounds p
part_campaign before u v system s limit order boxes rounds p h left =
    let report = summary_of (counts_of h.tree) in
    let flag : is_done h.tree ≡ false = is_cut_short report (is_done h.tree) (subst (λ (x : Product). HasStatus x status.OpenLeft) h.is left) in
    let open_left : opens h.tree ≢ [] = not_closed (opens h.tree) flag in
    let run = h.held.gone.run in
    record {
      rule = h.rule;
      read = h.read;
      opening = h.held.opening;
      middle = h.held.middle;
      opened = h.held.opened;
      tree = h.tree;
      part = record { open_left = open_left; spent = run.spent open_left; short = λ fits. open_left (run.fits.1 fits) };
      ordered = h.held.gone.ordered;
      kept = h.held.gone.saved;
      honest = h.honest;
      is = h.is ∙ ap (report_as report) flag;
    }

part_of : (before : Files) (u v : Stock) (q : Request) (p : Product) → ComesOf before u v q p → HasStatus p status.OpenLeft → IsPart before u v q p
part_of before u v (Check system) p h left = no_text p _ h.is left
part_of before u v (Run system settings effort out) p h left = part_run before _ settings _ _ p h left
part_of before u v (Resume system pavings settings effort share out) p h left = part_resume before _ _ settings _ _ _ share p h left
part_of before u v (Merge system pavings settings limit out) p h left = open_join before _ _ settings limit p h left
part_of before u v (Audit system paving settings limit workers) p h left = no_text p _ h.is left
part_of before u v (Svg system paving settings limit view) p h left = no_text p _ h.is left
part_of before u v (Sample circles) p h left = no_text p _ h.is left
part_of before u v (Least system settings search) p h left = part_least before _ settings search p h left
part_of before u v (Campaign system settings effort rounds) p h left = part_campaign before u v _ settings _ _ _ rounds p h left

pub open_left_is_part : OpenLeftIsPart
open_left_is_part words before after (inl d) = record {
  request = d.request;
  asks = d.asks;
  product = d.answered.product;
  says_so = part_of before.files before.stock after.stock d.request d.answered.product d.answered.comes d.answered.is;
  delivered = d.answered.delivered;
  quiet = d.quiet;
}
open_left_is_part words before after (inr r) = absurd (not_told r.refusal status.OpenLeft before.err after.err tt r.told)

-- ---- What refuses no work, and what refuses no delivery

-- no store or write failed
abbrev IsWritable : Refusal → Type 0
IsWritable (NotStored m) = ⊥
IsWritable NotPrinted = ⊥
IsWritable r = Unit {0}

is_written : (refused : HoldRefused) (name : Bor Text) → IsWritable (campaign_refusal name refused)
is_written hold.Memory name = tt
is_written hold.Failed name = tt
is_written (hold.OtherIdentity found) name = tt
is_written hold.TooMany name = tt
is_written (hold.BadRow n) name = tt
is_written (hold.TreeLimit n) name = tt

not_written : (refused : HoldRefused) (name : Bor Text) (r : Refusal) → r ≡ campaign_refusal name refused → IsWritable r
not_written refused name r e = subst IsWritable (sym e) (is_written refused name)

module _ (before after : Files) where
  pub no_files : (limit : ℕ) (rule : Method) (r : Refusal) → (r ≡ Memory → ⊥) → ((n : Text) → RefusesPaving before after limit rule n r → ⊥) → (names : List Text) → RefusesPavings before after limit rule names r → ⊥
  no_files limit rule r memory one [] h = memory h
  no_files limit rule r memory one (n ∷ names) (inl h) = one n h
  no_files limit rule r memory one (n ∷ names) (inr h) = no_files limit rule r memory one names h.2

module _ (before after : Files) (u v : Stock) where
  stored_or_memory : (n : Bor Text) → NotStored n ≡ Memory → ⊥
  stored_or_memory n e = cc

  no_work_stored : (q : Request) (m : Bor Text) → RefusesWork before after u v q (NotStored m) → ⊥
  no_work_stored (Check system) m h = h
  no_work_stored (Run system settings effort out) m h = h
  no_work_stored (Resume system pavings settings effort share out) m (inl h) = h
  no_work_stored (Resume system pavings settings effort share out) m (inr (inl h)) = no_files before after effort.budget.limit h.rule (NotStored m) (stored_or_memory m) (λ n k. k) (names_in pavings.items) h.refused
  no_work_stored (Resume system pavings settings effort share out) m (inr (inr h)) = h.refused
  no_work_stored (Merge system pavings settings limit out) m (inl h) = h
  no_work_stored (Merge system pavings settings limit out) m (inr (inl h)) = no_files before after limit h.rule (NotStored m) (stored_or_memory m) (λ n k. k) (names_in pavings.items) h.refused
  no_work_stored (Merge system pavings settings limit out) m (inr (inr h)) = h.refused
  no_work_stored (Audit system paving settings limit workers) m (inl h) = h
  no_work_stored (Audit system paving settings limit workers) m (inr h) = h.refused
  no_work_stored (Svg system paving settings limit view) m (inl h) = h
  no_work_stored (Svg system paving settings limit view) m (inr h) = h.refused
  no_work_stored (Sample circles) m h = h
  no_work_stored (Least system settings search) m h = h
  no_work_stored (Campaign system settings effort rounds) m (inl h) = h.0
  no_work_stored (Campaign system settings effort rounds) m (inr h) = not_written h.refused.refused rounds.name (NotStored m) h.refused.is

  printed_or_memory : NotPrinted ≡ Memory → ⊥
  printed_or_memory e = cc

  no_work_printed : (q : Request) → RefusesWork before after u v q NotPrinted → ⊥
  no_work_printed (Check system) h = h
  no_work_printed (Run system settings effort out) h = h
  no_work_printed (Resume system pavings settings effort share out) (inl h) = h
  no_work_printed (Resume system pavings settings effort share out) (inr (inl h)) = no_files before after effort.budget.limit h.rule NotPrinted printed_or_memory (λ n k. k) (names_in pavings.items) h.refused
  no_work_printed (Resume system pavings settings effort share out) (inr (inr h)) = h.refused
  no_work_printed (Merge system pavings settings limit out) (inl h) = h
  no_work_printed (Merge system pavings settings limit out) (inr (inl h)) = no_files before after limit h.rule NotPrinted printed_or_memory (λ n k. k) (names_in pavings.items) h.refused
  no_work_printed (Merge system pavings settings limit out) (inr (inr h)) = h.refused
  no_work_printed (Audit system paving settings limit workers) (inl h) = h
  no_work_printed (Audit system paving settings limit workers) (inr h) = h.refused
  no_work_printed (Svg system paving settings limit view) (inl h) = h
  no_work_printed (Svg system paving settings limit view) (inr h) = h.refused
  no_work_printed (Sample circles) h = h
  no_work_printed (Least system settings search) h = h
  no_work_printed (Campaign system settings effort rounds) (inl h) = h.0
  no_work_printed (Campaign system settings effort rounds) (inr h) = not_written h.refused.refused rounds.name NotPrinted h.refused.is

  no_delivery : (out : Option Text) (p : Product) (x y : Stream) (r : Refusal) → IsEarly (status_of r) → RefusesDelivery out p before after x y r → ⊥
  no_delivery out p x y Usage early h = h
  no_delivery out p x y (System line column byte cause) early h = h
  no_delivery out p x y (Contract byte) early h = h
  no_delivery out p x y (Objective byte cause) early h = h
  no_delivery out p x y (NoFile n) early h = h
  no_delivery out p x y (ReadFault n) early h = h
  no_delivery out p x y (Paving n f) early h = h
  no_delivery out p x y (NotStored n) early h = early
  no_delivery out p x y (KeeperFault n) early h = early
  no_delivery out p x y NotPrinted early h = early
  no_delivery out p x y Memory early h = early
  no_delivery out p x y (TreeLimit n) early h = h
  no_delivery out p x y (Disagree path a b) early h = h
  no_delivery out p x y (Differs path a b) early h = h

-- ---- Statuses 2 to 5, 8, 9 and 11

no_early : (s : Status) → IsEarly s → IsAnswer s → ⊥
no_early status.Done early h = early
no_early status.OpenLeft early h = early
no_early status.Usage early h = h
no_early status.SystemRefused early h = h
no_early status.PavingRefused early h = h
no_early status.ReadFault early h = h
no_early status.WriteFault early h = h
no_early status.WantOfMemory early h = h
no_early status.TreeLimit early h = h
no_early status.Disagree early h = h
no_early status.KeeperFault early h = h
no_early status.NoFile early h = h

words_cause : (words : List Text) (before after : Outside) (r : Refusal) → IsEarly (status_of r) → RefusesWords words r → IsCause words before after r
words_cause words before after Usage early h = inl (refl, h)
words_cause words before after Memory early h = absurd early
words_cause words before after (System line column byte cause) early h = absurd h
words_cause words before after (Contract byte) early h = absurd h
words_cause words before after (Objective byte cause) early h = absurd h
words_cause words before after (NoFile n) early h = absurd h
words_cause words before after (ReadFault n) early h = absurd h
words_cause words before after (Paving n f) early h = absurd h
words_cause words before after (NotStored n) early h = absurd h
words_cause words before after (KeeperFault n) early h = absurd h
words_cause words before after NotPrinted early h = absurd h
words_cause words before after (TreeLimit n) early h = absurd h
words_cause words before after (Disagree p a b) early h = absurd h
words_cause words before after (Differs p a b) early h = absurd h

early_so : (words : List Text) (before after : Outside) (r : Refusal) → IsEarly (status_of r) → IsRefusedSo words before after r
    → AreUntouched before.files after.files before.out after.out × AllRowsStay before.stock after.stock × IsCause words before after r
early_so words before after r early (in_words h same kept) = (same, same_rows before.stock after.stock kept, words_cause words before after r early h)
early_so words before after r early (in_request q asks (inl work) kept) =
    (work.1, early_rows before.files after.files before.stock after.stock q r early work.0 kept, inr (q, (asks, work.0)))
early_so words before after r early (in_request q asks (inr f) kept) =
    absurd (no_delivery before.files after.files before.stock after.stock (out_of q) f.product before.out after.out r early f.refused)

early_told : (words : List Text) (before after : Outside) (r : Refusal) (s : Status) → IsEarly s → IsRefusedSo words before after r → Tells r s before.err after.err
    → IsRefusedEarly words before after s
early_told words before after r s early so (inl told) =
    let both = early_so words before after r (subst IsEarly told.0 early) so in
    record { untouched = both.0; kept = both.1; refusal = r; cause = both.2; status_is = told.0; told = told.1 }
early_told words before after r s early so (inr memory) = absurd (subst IsEarly memory.0 early)

pub early_is_untouched : EarlyIsUntouched
early_is_untouched words before after s early (inl d) = absurd (no_early s early (is_answer d.answered.product s d.answered.is))
early_is_untouched words before after s early (inr r) = early_told words before after r.refusal s early r.so r.told

-- ---- Statuses 6 and 7

abbrev IsWrite : Status → Type 0
IsWrite status.Done = ⊥
IsWrite status.OpenLeft = ⊥
IsWrite status.Usage = ⊥
IsWrite status.SystemRefused = ⊥
IsWrite status.PavingRefused = ⊥
IsWrite status.ReadFault = ⊥
IsWrite status.WriteFault = Unit {0}
IsWrite status.WantOfMemory = ⊥
IsWrite status.TreeLimit = ⊥
IsWrite status.Disagree = ⊥
IsWrite status.KeeperFault = ⊥
IsWrite status.NoFile = ⊥

unwritten : (words : List Text) (before after : Outside) (r : Refusal) → IsWrite (status_of r) → IsRefusedSo words before after r → IsUnwritten words before after
unwritten words before after (NotStored n) w (in_words h same kept) = absurd h
unwritten words before after (NotStored n) w (in_request q asks (inl work) kept) = absurd (no_work_stored before.files after.files before.stock after.stock q n work.0)
unwritten words before after (NotStored n) w (in_request q asks (inr f) kept) = record {
  request = q;
  asks = asks;
  product = f.product;
  comes = f.comes;
  not_written = inl (record { name = n.now; lost = f.refused });
}
unwritten words before after NotPrinted w (in_words h same kept) = absurd h
unwritten words before after NotPrinted w (in_request q asks (inl work) kept) = absurd (no_work_printed before.files after.files before.stock after.stock q work.0)
unwritten words before after NotPrinted w (in_request q asks (inr f) kept) = record {
  request = q;
  asks = asks;
  product = f.product;
  comes = f.comes;
  not_written = inr (record { cut = f.refused.0; rose = f.refused.1 });
}
unwritten words before after Usage w so = absurd w
unwritten words before after (KeeperFault n) w so = absurd w
unwritten words before after (System line column byte cause) w so = absurd w
unwritten words before after (Contract byte) w so = absurd w
unwritten words before after (Objective byte cause) w so = absurd w
unwritten words before after (NoFile n) w so = absurd w
unwritten words before after (ReadFault n) w so = absurd w
unwritten words before after (Paving n f) w so = absurd w
unwritten words before after Memory w so = absurd w
unwritten words before after (TreeLimit n) w so = absurd w
unwritten words before after (Disagree p a b) w so = absurd w
unwritten words before after (Differs p a b) w so = absurd w

write_told : (words : List Text) (before after : Outside) (r : Refusal) → IsRefusedSo words before after r → Tells r status.WriteFault before.err after.err → IsUnwritten words before after
write_told words before after r so (inl told) = unwritten words before after r (subst IsWrite told.0 tt) so
write_told words before after r so (inr memory) = absurd (subst IsWrite memory.0 tt)

pub write_fault_is_unwritten : WriteFaultIsUnwritten
write_fault_is_unwritten words before after (inl d) = absurd (is_answer d.answered.product status.WriteFault d.answered.is)
write_fault_is_unwritten words before after (inr r) = write_told words before after r.refusal r.so r.told

abbrev Leaves : List Text → Outside → Outside → Type 0
Leaves words before after =
    AreUntouched before.files after.files before.out after.out ⊎ (IsCutOffText words before after ⊎ IsUnwritten words before after)

undelivered : (words : List Text) (before after : Outside) (q : Request) (p : Product) (r : Refusal) → Asks words q → ComesOf before.files before.stock after.stock q p
    → RefusesDelivery (out_of q) p before.files after.files before.out after.out r → Leaves words before after
undelivered words before after q p (NotStored n) asks comes h =
    inr (inr (record { request = q; asks = asks; product = p; comes = comes; not_written = inl (record { name = n.now; lost = h }) }))
undelivered words before after q p NotPrinted asks comes h =
    inr (inr (record { request = q; asks = asks; product = p; comes = comes; not_written = inr (record { cut = h.0; rose = h.1 }) }))
undelivered words before after q p Memory asks comes (inl same) = inl same
undelivered words before after q p Memory asks comes (inr cut) = inr (inl (record { request = q; asks = asks; product = p; comes = comes; cut = cut }))
undelivered words before after q p Usage asks comes h = absurd h
undelivered words before after q p (KeeperFault n) asks comes h = absurd h
undelivered words before after q p (System line column byte cause) asks comes h = absurd h
undelivered words before after q p (Contract byte) asks comes h = absurd h
undelivered words before after q p (Objective byte cause) asks comes h = absurd h
undelivered words before after q p (NoFile n) asks comes h = absurd h
undelivered words before after q p (ReadFault n) asks comes h = absurd h
undelivered words before after q p (Paving n f) asks comes h = absurd h
undelivered words before after q p (TreeLimit n) asks comes h = absurd h
undelivered words before after q p (Disagree path a b) asks comes h = absurd h
undelivered words before after q p (Differs path a b) asks comes h = absurd h

leaves : (words : List Text) (before after : Outside) (r : Refusal) → IsRefusedSo words before after r → Leaves words before after
leaves words before after r (in_words h same kept) = inl same
leaves words before after r (in_request q asks (inl work) kept) = inl work.1
leaves words before after r (in_request q asks (inr f) kept) = undelivered words before after q f.product r asks f.comes f.refused

pub memory_leaves : MemoryLeaves
memory_leaves words before after (inl d) = absurd (is_answer d.answered.product status.WantOfMemory d.answered.is)
memory_leaves words before after (inr r) = leaves words before after r.refusal r.so

-- ---- Every status

kept_others : (out : Option Text) (p : Product) (before after : Files) (name : Text) → IsKept out p before after → out ≢ Some name → after.content name ≡ before.content name
kept_others None p before after name h other = h.content name
kept_others (Some m) (text t) before after name h other = h.content name
kept_others (Some m) (unfinished t) before after name h other = h.content name
kept_others (Some m) (paved_as identity b t done) before after name h other = h.kept.others name (λ e. other (ap Some (sym e)))

unwritten_others : (before after : Outside) (q : Request) (p : Product) (name : Text) → out_of q ≢ Some name → IsUnstored q p before after ⊎ IsUnprinted q p before after
    → after.files.content name ≡ before.files.content name
unwritten_others before after q p name other (inl h) = h.lost.files.others name (λ e. other (h.lost.asked ∙ ap Some (sym e)))
unwritten_others before after q p name other (inr h) = kept_others (out_of q) p before.files after.files name h.cut.files other

left_others : (words : List Text) (before after : Outside) (name : Text) → ((q : Request) → Asks words q → out_of q ≢ Some name) → Leaves words before after
    → after.files.content name ≡ before.files.content name
left_others words before after name other (inl same) = same.files.content name
left_others words before after name other (inr (inl h)) = kept_others (out_of h.request) h.product before.files after.files name h.cut.files (other h.request h.asks)
left_others words before after name other (inr (inr h)) = unwritten_others before after h.request h.product name (other h.request h.asks) h.not_written

pub others_stay : OthersStay
others_stay words before after s (inl d) name other =
    kept_others (out_of d.request) d.answered.product before.files after.files name d.answered.delivered.files (other d.request d.asks)
others_stay words before after s (inr r) name other = left_others words before after name other (leaves words before after r.refusal r.so)
