-- What the words of a command come to: which are refused, and which ask.
use Rattle.std.proofs.Common.{◌≡◌, ◌⊎◌, inl, inr, ℕ, if◌then◌else◌, List, length, refl, sym, ◌∙◌, ap, subst, arith}
use Rattle.std.specs.Prelude.{Option, Some, None, codes, unwrap_or}
use Rattle.std.specs.Str.{bytes_eq}
use Rattle.std.specs.Borrow.{Bor}
use Rattle.std.proofs.lemmas.List.{length-map}
use Rattle.clap.specs.Words.{Row, Text, subcommand_of}
use Rattle.pv_words.specs.Commands.{paver_app}
use Rattle.pv_request.specs.Requests.{names_in, paving_names, AreSettings, IsEffort, ArePavings, HasBadSetting, bad_eps, bad_depth, bad_bisector, HasBadEffort, bad_form, bad_limit, bad_workers, bad_boxes, bad_order, HasBadLimit, HasBadBoxes, HasBadBudget, IsCount, IsNodeLimit, IsSearch, boxes_text, usual_boxes, limit_or_usual, HasManyPavings, AreCircles, HasBadCircles, bad_seed, bad_count, Command, checks, runs, resumes, merges, audits, draws, samples, seeks, keeps, name_of, HasBadValueFor, HasBadValue, IsAskedBy, IsAsked, Asks, HasBadValueIn, AreRefused, RefusesWords}
use Rattle.pv_request.specs.Refusals.{status_of}
use Rattle.pv_product.specs.Ends.{Stream, Outside, IsRefusedSo, in_words, in_request, Tells}
use Rattle.pv_laws.specs.StatusLaws.{AskingIsNotRefused, IsWordsRefused, RefusedWordsEnd, HaveBadText, UsageIsOfWords}
use Rattle.pv_slope.specs.declared.form.Form.{Form}
use Rattle.pv_slope.specs.declared.form.Form.TheVariants.{Plain, Centered}
use Rattle.pv_request.specs.declared.request.Settings.{Settings}
use Rattle.pv_request.specs.declared.request.Effort.{Effort}
use Rattle.pv_request.specs.declared.request.Circles.{Circles}
use Rattle.pv_request.specs.declared.request.Search.{Search}
use Rattle.pv_request.specs.declared.request.Request.{Request}
use Rattle.pv_request.specs.declared.request.Request.TheVariants.{Check, Run, Resume, Merge, Audit, Svg, Sample, Least, Campaign}
use Rattle.pv_request.specs.declared.refusal.Refusal.{Refusal}
use Rattle.pv_request.specs.declared.refusal.Refusal.TheVariants.{Usage, System, Contract, Objective, NoFile, ReadFault, Paving, NotStored, KeeperFault, NotPrinted, Memory, TreeLimit, Disagree, Differs}
use Rattle.pv_request.specs.declared.status.Status.{Status}
use Rattle.pv_request.specs.declared.status.Status.TheVariants as status
use Rattle.pv_laws.proofs.StatusLaws.{is_answer}

settings_are_good : (usual : Form) (rows : List Row) (s : Settings) → AreSettings usual rows s → HasBadSetting usual rows → ⊥
settings_are_good usual rows s h (bad_eps none) = none s.eps h.eps
settings_are_good usual rows s h (bad_depth none) = none s.depth h.depth
settings_are_good usual rows s h (bad_bisector none) = none s.bisector h.bisector
settings_are_good usual rows s h (bad_form none) = none s.form h.form

-- the budget is within the limit that the options give
boxes_are_good : (usual : Text) (rows : List Row) (limit boxes : ℕ) → IsNodeLimit rows limit → IsCount 1 limit (boxes_text usual rows) boxes
    → HasBadBoxes usual rows → ⊥
boxes_are_good usual rows limit boxes h k none =
    none boxes (subst (λ (n : ℕ). IsCount 1 n (boxes_text usual rows) boxes) h.number.value k)

effort_is_good : (usual : Text) (rows : List Row) (e : Effort) → IsEffort usual rows e → HasBadEffort usual rows → ⊥
effort_is_good usual rows e h (bad_limit none) = none e.budget.limit h.limit
effort_is_good usual rows e h (bad_workers none) = none e.budget.workers h.workers
effort_is_good usual rows e h (bad_boxes none) = boxes_are_good usual rows e.budget.limit e.budget.nodes h.limit h.boxes none
effort_is_good usual rows e h (bad_order none) = none e.order h.order

search_is_good : (rows : List Row) (search : Search) → IsSearch rows search → HasBadBudget rows → ⊥
search_is_good rows search h (inl none) = none search.limit h.limit
search_is_good rows search h (inr none) = boxes_are_good (limit_or_usual rows) rows search.limit search.boxes h.limit h.boxes none

work_is_good : (usual : Form) (budget : Text) (rows : List Row) (s : Settings) (e : Effort) → AreSettings usual rows s
    → IsEffort budget rows e → HasBadSetting usual rows ⊎ HasBadEffort budget rows → ⊥
work_is_good usual budget rows s e h k (inl b) = settings_are_good usual rows s h b
work_is_good usual budget rows s e h k (inr b) = effort_is_good budget rows e k b

join_is_good : (usual : Form) (rows : List Row) (s : Settings) (limit : ℕ) → AreSettings usual rows s → IsNodeLimit rows limit → HasBadSetting usual rows ⊎ HasBadLimit rows → ⊥
join_is_good usual rows s limit h k (inl b) = settings_are_good usual rows s h b
join_is_good usual rows s limit h k (inr none) = none limit k

pavings_are_few : (rows : List Row) (names : List (Bor Text)) → ArePavings rows names → HasManyPavings rows → ⊥
pavings_are_few rows names h many =
    let same : length (names_in names) ≡ length (paving_names rows) = ap length h.are in
    let count : length (names_in names) ≡ length names = length-map names (λ name. name.now) in
    let few = h.few in
    omega arith

circles_are_good : (rows : List Row) (c : Circles) → AreCircles rows c → HasBadCircles rows → ⊥
circles_are_good rows c h (bad_seed none) = none c.seed h.seed
circles_are_good rows c h (bad_count none) = none c.count h.count

-- a command has one name, and a name one command
command_in : Text → Option Command
command_in t =
    if bytes_eq t (codes "check") then Some checks
    else if bytes_eq t (codes "run") then Some (runs Plain)
    else if bytes_eq t (codes "resume") then Some resumes
    else if bytes_eq t (codes "merge") then Some merges
    else if bytes_eq t (codes "audit") then Some (audits Plain)
    else if bytes_eq t (codes "svg") then Some draws
    else if bytes_eq t (codes "sample") then Some samples
    else if bytes_eq t (codes "run-centered") then Some (runs Centered)
    else if bytes_eq t (codes "audit-centered") then Some (audits Centered)
    else if bytes_eq t (codes "least") then Some seeks
    else if bytes_eq t (codes "campaign") then Some keeps
    else None

named : (c : Command) → command_in (name_of c) ≡ Some c
unfolding command_in
named checks = refl
named (runs Plain) = refl
named (runs Centered) = refl
named resumes = refl
named merges = refl
named (audits Plain) = refl
named (audits Centered) = refl
named draws = refl
named samples = refl
named seeks = refl
named keeps = refl

one_command : (name : Text) (c d : Command) → name ≡ name_of c → name ≡ name_of d → c ≡ d
one_command name c d e f = ap (λ (o : Option Command). unwrap_or o c) (sym (named c) ∙ ap command_in (sym e ∙ f) ∙ named d)

-- the command of a request, whose form by itself is this where it has one
abbrev pub command_of : Form → Request → Command
command_of usual (Check system) = checks
command_of usual (Run system settings effort out) = runs usual
command_of usual (Resume system pavings settings effort share out) = resumes
command_of usual (Merge system pavings settings limit out) = merges
command_of usual (Audit system paving settings limit workers) = audits usual
command_of usual (Svg system paving settings limit view) = draws
command_of usual (Sample circles) = samples
command_of usual (Least system settings search) = seeks
command_of usual (Campaign system settings effort rounds) = keeps

abbrev usual_of : (name : Text) (rows : List Row) (q : Request) → IsAskedBy name rows q → Form
usual_of name rows (Run system settings effort out) h = h.0.0
usual_of name rows (Audit system paving settings limit workers) h = h.0.0
usual_of name rows q h = Plain

named_so : (name : Text) (rows : List Row) (q : Request) → (h : IsAskedBy name rows q) → name ≡ name_of (command_of (usual_of name rows q h) q)
named_so name rows (Check system) h = h.0
named_so name rows (Run system settings effort out) h = h.0.1.0
named_so name rows (Resume system pavings settings effort share out) h = h.0
named_so name rows (Merge system pavings settings limit out) h = h.0
named_so name rows (Audit system paving settings limit workers) h = h.0.1.0
named_so name rows (Svg system paving settings limit view) h = h.0
named_so name rows (Sample circles) h = h.0
named_so name rows (Least system settings search) h = h.0
named_so name rows (Campaign system settings effort rounds) h = h.0

-- words ask for one command
pub record AreOneCommand (q r : Request) : Type 0 where
  pub one : Form
  pub other : Form
  pub same : command_of one q ≡ command_of other r

asked_alike : (found : Option (Text × List Row)) (q r : Request) → IsAsked found q → IsAsked found r → AreOneCommand q r
asked_alike None q r h k = absurd h
asked_alike (Some p) q r h k = record {
  one = usual_of p.0 p.1 q h;
  other = usual_of p.0 p.1 r k;
  same = one_command p.0 (command_of (usual_of p.0 p.1 q h) q) (command_of (usual_of p.0 p.1 r k) r) (named_so p.0 p.1 q h) (named_so p.0 p.1 r k);
}

pub ask_alike : (words : List Text) (q r : Request) → Asks words q → Asks words r → AreOneCommand q r
ask_alike words q r h k = asked_alike (subcommand_of paver_app words) q r h.1 k.1

values_are_good : (name : Text) (rows : List Row) (q : Request) → (h : IsAskedBy name rows q) → HasBadValueFor (command_of (usual_of name rows q h) q) rows → ⊥
values_are_good name rows (Check system) h b = b
values_are_good name rows (Run system settings effort out) h (inl b) = h.3.free b
values_are_good name rows (Run system settings effort out) h (inr b) =
    work_is_good h.0.0 (limit_or_usual rows) rows settings effort h.0.1.1 h.2 b
values_are_good name rows (Resume system pavings settings effort share out) h (inl b) = h.6.free b
values_are_good name rows (Resume system pavings settings effort share out) h (inr (inl b)) = pavings_are_few rows pavings.items h.2 b
values_are_good name rows (Resume system pavings settings effort share out) h (inr (inr (inl b))) = settings_are_good Plain rows settings h.3 b
values_are_good name rows (Resume system pavings settings effort share out) h (inr (inr (inr (inl b)))) =
    effort_is_good usual_boxes rows effort h.4 b
values_are_good name rows (Resume system pavings settings effort share out) h (inr (inr (inr (inr b)))) = b effort.order h.4.order share h.5
values_are_good name rows (Merge system pavings settings limit out) h (inl b) = h.5.free b
values_are_good name rows (Merge system pavings settings limit out) h (inr (inl b)) = pavings_are_few rows pavings.items h.2 b
values_are_good name rows (Merge system pavings settings limit out) h (inr (inr b)) = join_is_good Plain rows settings limit h.3 h.4 b
values_are_good name rows (Audit system paving settings limit workers) h (inl b) = settings_are_good h.0.0 rows settings h.0.1.1 b
values_are_good name rows (Audit system paving settings limit workers) h (inr (inl none)) = none limit h.3
values_are_good name rows (Audit system paving settings limit workers) h (inr (inr none)) = none workers.count h.4
values_are_good name rows (Svg system paving settings limit view) h (inl b) = b view.at.items h.5.at
values_are_good name rows (Svg system paving settings limit view) h (inr b) = join_is_good Plain rows settings limit h.3 h.4 b
values_are_good name rows (Sample circles) h b = circles_are_good rows circles h.1 b
values_are_good name rows (Least system settings search) h (inl b) = settings_are_good Plain rows settings h.2 b
values_are_good name rows (Least system settings search) h (inr b) = search_is_good rows search h.3 b
values_are_good name rows (Campaign system settings effort rounds) h (inl b) = settings_are_good Plain rows settings h.2 b
values_are_good name rows (Campaign system settings effort rounds) h (inr (inl b)) = effort_is_good usual_boxes rows effort h.3 b
values_are_good name rows (Campaign system settings effort rounds) h (inr (inr b)) = b rounds.count h.4.count

asked_is_good : (name : Text) (rows : List Row) (q : Request) → IsAskedBy name rows q → HasBadValue name rows → ⊥
asked_is_good name rows q h bad =
    values_are_good name rows q h
    (subst (λ (c : Command). HasBadValueFor c rows) (one_command name bad.command (command_of (usual_of name rows q h) q) bad.named (named_so name rows q h)) bad.bad)

found_is_good : (found : Option (Text × List Row)) (q : Request) → IsAsked found q → HasBadValueIn found → ⊥
found_is_good None q h b = h
found_is_good (Some p) q h b = asked_is_good p.0 p.1 q h b

pub asking_is_not_refused : AskingIsNotRefused
asking_is_not_refused words q asks (inl fault) = fault asks.0
asking_is_not_refused words q asks (inr bad) = found_is_good (subcommand_of paver_app words) q asks.1 bad

words_status : (words : List Text) (r : Refusal) → RefusesWords words r → (status_of r ≡ status.Usage) ⊎ (status_of r ≡ status.WantOfMemory)
words_status words Usage h = inl refl
words_status words Memory h = inr refl
words_status words (System line column byte cause) h = absurd h
words_status words (Contract byte) h = absurd h
words_status words (Objective byte cause) h = absurd h
words_status words (NoFile n) h = absurd h
words_status words (ReadFault n) h = absurd h
words_status words (Paving n f) h = absurd h
words_status words (NotStored n) h = absurd h
words_status words (KeeperFault n) h = absurd h
words_status words NotPrinted h = absurd h
words_status words (TreeLimit n) h = absurd h
words_status words (Disagree p a b) h = absurd h
words_status words (Differs p a b) h = absurd h

told_status : (words : List Text) (r : Refusal) (s : Status) (before after : Stream) → RefusesWords words r → Tells r s before after
    → (s ≡ status.Usage) ⊎ (s ≡ status.WantOfMemory)
told_status words r s before after h (inl told) = subst (λ (x : Status). (x ≡ status.Usage) ⊎ (x ≡ status.WantOfMemory)) (sym told.0) (words_status words r h)
told_status words r s before after h (inr memory) = inr memory.0

refused_end : (words : List Text) (before after : Outside) (r : Refusal) (s : Status) → AreRefused words → IsRefusedSo words before after r → Tells r s before.err after.err
    → IsWordsRefused before after s
refused_end words before after r s bad (in_words h same kept) told = record { status_is = told_status words r s before.err after.err h told; untouched = same; kept = kept }
refused_end words before after r s bad (in_request q asks h kept) told = absurd (asking_is_not_refused words q asks bad)

pub refused_words_end : RefusedWordsEnd
refused_words_end words before after s bad (inl d) = absurd (asking_is_not_refused words d.request d.asks bad)
refused_words_end words before after s bad (inr r) = refused_end words before after r.refusal s bad r.so r.told

abbrev IsUsage : Status → Type 0
IsUsage status.Done = ⊥
IsUsage status.OpenLeft = ⊥
IsUsage status.Usage = Unit {0}
IsUsage status.SystemRefused = ⊥
IsUsage status.PavingRefused = ⊥
IsUsage status.ReadFault = ⊥
IsUsage status.WriteFault = ⊥
IsUsage status.WantOfMemory = ⊥
IsUsage status.TreeLimit = ⊥
IsUsage status.Disagree = ⊥
IsUsage status.KeeperFault = ⊥
IsUsage status.NoFile = ⊥

usage_so : (words : List Text) (before after : Outside) (r : Refusal) → IsUsage (status_of r) → IsRefusedSo words before after r
    → HaveBadText words before after
usage_so words before after Usage u (in_words h same kept) = inl h
usage_so words before after Usage u (in_request q asks (inl work) kept) = inr (inr (inr (record { request = q; asks = asks; refused = work.0 })))
usage_so words before after Usage u (in_request q asks (inr f) kept) = absurd f.refused
usage_so words before after (Contract byte) u (in_words h same kept) = absurd h
usage_so words before after (Objective byte cause) u (in_words h same kept) = absurd h
usage_so words before after (Contract byte) u (in_request q asks (inl work) kept) = inr (inl (record { request = q; asks = asks; byte = byte; refused = work.0 }))
usage_so words before after (Objective byte cause) u (in_request q asks (inl work) kept) =
    inr (inr (inl (record { request = q; asks = asks; byte = byte; cause = cause; refused = work.0 })))
usage_so words before after (Contract byte) u (in_request q asks (inr f) kept) = absurd f.refused
usage_so words before after (Objective byte cause) u (in_request q asks (inr f) kept) = absurd f.refused
usage_so words before after (System line column byte cause) u so = absurd u
usage_so words before after (NoFile n) u so = absurd u
usage_so words before after (ReadFault n) u so = absurd u
usage_so words before after (Paving n f) u so = absurd u
usage_so words before after (NotStored n) u so = absurd u
usage_so words before after (KeeperFault n) u so = absurd u
usage_so words before after NotPrinted u so = absurd u
usage_so words before after Memory u so = absurd u
usage_so words before after (TreeLimit n) u so = absurd u
usage_so words before after (Disagree p a b) u so = absurd u
usage_so words before after (Differs p a b) u so = absurd u

usage_told : (words : List Text) (before after : Outside) (r : Refusal) → IsRefusedSo words before after r → Tells r status.Usage before.err after.err
    → HaveBadText words before after
usage_told words before after r so (inl told) = usage_so words before after r (subst IsUsage told.0 tt) so
usage_told words before after r so (inr memory) = absurd (subst IsUsage memory.0 tt)

pub usage_is_of_words : UsageIsOfWords
usage_is_of_words words before after (inl d) = absurd (is_answer d.answered.product status.Usage d.answered.is)
usage_is_of_words words before after (inr r) = usage_told words before after r.refusal r.so r.told
