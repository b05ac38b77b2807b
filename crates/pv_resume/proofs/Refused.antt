-- Refusals that don't come of a step, and those that are passed on.
use Rattle.std.proofs.Common.{◌≡◌, ◌⊎◌, inl, inr, ℕ, Bool, List, [], ◌∷◌, sym, ◌∙◌, ap, subst}
use Rattle.pv_slope.specs.Methods.{Method, settle_by, identity_of}
use Rattle.pv_interval.specs.Bounds.{Bounds}
use Rattle.pv_tree.specs.Trees.{Tree}
use Rattle.pv_tree.specs.declared.outcome.Outcome.{Outcome}
use Rattle.pv_join.specs.Audits.{IsVerdict, IsFirstDifference, due_at}
use Rattle.pv_join.specs.declared.verdict.Audit.TheVariants.{DiffersAt}
use Rattle.pv_file.specs.Lines.{outcome_line}
use Rattle.pv_rule.specs.Systems.{Files, HasRule, RefusesRule, search_box}
use Rattle.pv_opening.specs.Reads.{IsLineAt, IsDiffers}
use Rattle.pv_resume.specs.Audited.{IsFoundOther}
use Rattle.pv_product.specs.Files.{HoldsPaving, RefusesFile, RefusesPavings, RefusesOpening}
use Rattle.pv_product.specs.Products.{RefusesJoined, HasBadPaving, RefusesAudit}
use Rattle.pv_request.specs.declared.request.Settings.{Settings}
use Rattle.pv_request.specs.declared.refusal.Refusal.{Refusal}
use Rattle.pv_request.specs.declared.refusal.Refusal.TheVariants.{Usage, System, Contract, Objective, NoFile, ReadFault, Paving, NotStored, KeeperFault, NotPrinted, Memory, TreeLimit, Disagree, Differs}

-- the tree is too large, or the paving differs
abbrev IsLate : Refusal → Type 0
IsLate Usage = ⊥
IsLate (System line column byte cause) = ⊥
IsLate (Contract byte) = ⊥
IsLate (Objective byte cause) = ⊥
IsLate (NoFile n) = ⊥
IsLate (ReadFault n) = ⊥
IsLate (Paving n f) = ⊥
IsLate (NotStored n) = ⊥
IsLate (KeeperFault n) = ⊥
IsLate NotPrinted = ⊥
IsLate Memory = ⊥
IsLate (TreeLimit n) = Unit {0}
IsLate (Disagree p a b) = ⊥
IsLate (Differs p a b) = Unit {0}

no_one : (before after : Files) (limit : ℕ) (identity : List ℕ) (root : List Bounds) (name : List ℕ) (r : Refusal) → IsLate r → RefusesFile before after limit identity root name r → ⊥
no_one before after limit identity root name Usage late h = late
no_one before after limit identity root name (System line column byte cause) late h = late
no_one before after limit identity root name (Contract byte) late h = late
no_one before after limit identity root name (Objective byte cause) late h = late
no_one before after limit identity root name (NoFile n) late h = late
no_one before after limit identity root name (ReadFault n) late h = late
no_one before after limit identity root name (Paving m f) late h = late
no_one before after limit identity root name (NotStored n) late h = late
no_one before after limit identity root name (KeeperFault n) late h = late
no_one before after limit identity root name NotPrinted late h = late
no_one before after limit identity root name Memory late h = late
no_one before after limit identity root name (TreeLimit n) late h = h
no_one before after limit identity root name (Disagree p a b) late h = late
no_one before after limit identity root name (Differs p a b) late h = h

no_rule : (before after : Files) (system : List ℕ) (s : Settings) (r : Refusal) → IsLate r → RefusesRule before after system s r → ⊥
no_rule before after system s Usage late h = late
no_rule before after system s (System line column byte cause) late h = late
no_rule before after system s (Contract byte) late h = late
no_rule before after system s (Objective byte cause) late h = late
no_rule before after system s (NoFile n) late h = late
no_rule before after system s (ReadFault n) late h = late
no_rule before after system s (Paving n f) late h = late
no_rule before after system s (NotStored n) late h = late
no_rule before after system s (KeeperFault n) late h = late
no_rule before after system s NotPrinted late h = late
no_rule before after system s Memory late h = late
no_rule before after system s (TreeLimit n) late h = h
no_rule before after system s (Disagree p a b) late h = late
no_rule before after system s (Differs p a b) late h = h

no_memory : (r : Refusal) → IsLate r → r ≡ Memory → ⊥
no_memory r late e = subst IsLate e late

-- no file is refused by what is found out later
no_file : (before after : Files) (limit : ℕ) (rule : Method) (names : List (List ℕ)) (r : Refusal) → IsLate r → RefusesPavings before after limit rule names r → ⊥
no_file before after limit rule [] r late h = no_memory r late h
no_file before after limit rule (n ∷ names) r late (inl h) = no_one before after _ _ _ n r late h
no_file before after limit rule (n ∷ names) r late (inr h) = no_file before after limit rule names r late h.2

no_opening : (before after : Files) (system : List ℕ) (names : List (List ℕ)) (s : Settings) (limit n : ℕ) → RefusesOpening before after system names s limit (TreeLimit n) → ⊥
no_opening before after system names s limit n (inl h) = h
no_opening before after system names s limit n (inr (inl h)) = no_file before after limit h.rule names (TreeLimit n) tt h.refused
no_opening before after system names s limit n (inr (inr h)) = h.refused

pub opening_refused : (before after : Files) (system : List ℕ) (names : List (List ℕ)) (s : Settings) (limit budget : ℕ) (r : Refusal) → RefusesOpening before after system names s limit r
    → RefusesJoined before after system names s limit budget r
opening_refused before after system names s limit budget (TreeLimit n) h = absurd (no_opening before after system names s limit n h)
opening_refused before after system names s limit budget Usage h = h
opening_refused before after system names s limit budget (System line column byte cause) h = h
opening_refused before after system names s limit budget (Contract byte) h = h
opening_refused before after system names s limit budget (Objective byte cause) h = h
opening_refused before after system names s limit budget (NoFile n) h = h
opening_refused before after system names s limit budget (ReadFault n) h = h
opening_refused before after system names s limit budget (Paving n f) h = h
opening_refused before after system names s limit budget (NotStored n) h = h
opening_refused before after system names s limit budget (KeeperFault n) h = h
opening_refused before after system names s limit budget NotPrinted h = h
opening_refused before after system names s limit budget Memory h = h
opening_refused before after system names s limit budget (Disagree p a b) h = h
opening_refused before after system names s limit budget (Differs p a b) h = h

difference : (before : Files) (system name : List ℕ) (s : Settings) (limit : ℕ) (rule : Method) (t : Tree) (path : List Bool) (due : Outcome) (after : Files) (r : Refusal) → HasRule before system s rule
    → HoldsPaving before limit (identity_of rule) (search_box rule) name t → IsVerdict (settle_by rule) rule.parts.depth (search_box rule) t (DiffersAt path due) → IsDiffers t path due r → RefusesAudit before after system name s limit r
difference before system name s limit rule t path due after (Differs p a b) read held (first, same, no_stage) (here, file, owed) =
    let f : IsFirstDifference (settle_by rule) rule.parts.depth (search_box rule) t p =
    subst (λ (q : List Bool). IsFirstDifference (settle_by rule) rule.parts.depth (search_box rule) t q) (sym here) first in
    record {
      rule = rule;
      read = read;
      tree = t;
      held = held;
      first = f;
      file_is = subst (λ (q : List Bool). IsLineAt t q a.items) (sym here) file f.found f.is;
      due_is = owed ∙ ap outcome_line same ∙ ap (λ (q : List Bool). outcome_line (due_at (settle_by rule) rule.parts.depth (search_box rule) t q)) (sym here);
      no_stage = no_stage;
    }
difference before system name s limit rule t path due after Memory read held verdict told = inl tt
difference before system name s limit rule t path due after Usage read held verdict told = absurd told
difference before system name s limit rule t path due after (System line column byte cause) read held verdict told = absurd told
difference before system name s limit rule t path due after (Contract byte) read held verdict told = absurd told
difference before system name s limit rule t path due after (Objective byte cause) read held verdict told = absurd told
difference before system name s limit rule t path due after (NoFile n) read held verdict told = absurd told
difference before system name s limit rule t path due after (ReadFault n) read held verdict told = absurd told
difference before system name s limit rule t path due after (Paving n f) read held verdict told = absurd told
difference before system name s limit rule t path due after (NotStored n) read held verdict told = absurd told
difference before system name s limit rule t path due after (KeeperFault n) read held verdict told = absurd told
difference before system name s limit rule t path due after NotPrinted read held verdict told = absurd told
difference before system name s limit rule t path due after (TreeLimit n) read held verdict told = absurd told
difference before system name s limit rule t path due after (Disagree p a b) read held verdict told = absurd told

memory_refused : (before after : Files) (system name : List ℕ) (s : Settings) (limit : ℕ) (r : Refusal) → r ≡ Memory → RefusesAudit before after system name s limit r
memory_refused before after system name s limit r e = subst (RefusesAudit before after system name s limit) (sym e) (inl tt)

pub found_other : (before : Files) (system name : List ℕ) (s : Settings) (limit : ℕ) (rule : Method) (t : Tree) (after : Files) (r : Refusal) → HasRule before system s rule
    → HoldsPaving before limit (identity_of rule) (search_box rule) name t → IsFoundOther rule t r → RefusesAudit before after system name s limit r
found_other before system name s limit rule t after r read held (inl h) =
    difference before system name s limit rule t h.path h.due after r read held h.verdict h.told
found_other before system name s limit rule t after r read held (inr e) = memory_refused before after system name s limit r e

no_audit : (before after : Files) (system name : List ℕ) (s : Settings) (limit : ℕ) (r : Refusal) → IsLate r → RefusesRule before after system s r ⊎ HasBadPaving before after system name s limit r → ⊥
no_audit before after system name s limit r late (inl h) = no_rule before after system s r late h
no_audit before after system name s limit r late (inr h) = no_one before after _ _ _ name r late h.refused

pub audit_refused : (before after : Files) (system name : List ℕ) (s : Settings) (limit : ℕ) (r : Refusal) → RefusesRule before after system s r ⊎ HasBadPaving before after system name s limit r
    → RefusesAudit before after system name s limit r
audit_refused before after system name s limit (Differs p a b) h = absurd (no_audit before after system name s limit (Differs p a b) tt h)
audit_refused before after system name s limit Usage h = h
audit_refused before after system name s limit (System line column byte cause) h = h
audit_refused before after system name s limit (Contract byte) h = h
audit_refused before after system name s limit (Objective byte cause) h = h
audit_refused before after system name s limit (NoFile n) h = h
audit_refused before after system name s limit (ReadFault n) h = h
audit_refused before after system name s limit (Paving n f) h = h
audit_refused before after system name s limit (NotStored n) h = h
audit_refused before after system name s limit (KeeperFault n) h = h
audit_refused before after system name s limit NotPrinted h = h
audit_refused before after system name s limit Memory h = h
audit_refused before after system name s limit (TreeLimit n) h = h
audit_refused before after system name s limit (Disagree p a b) h = h
