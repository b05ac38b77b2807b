-- What was read of a folder that was only read before.
use Rattle.std.specs.Prelude.{Result, Err, MatchResult}
use Rattle.std.proofs.Common.{◌≡◌, inl, inr, ℕ, ◌≤◌, List, [], ◌∷◌, refl, sym, subst}
use Rattle.pv_slope.specs.Methods.{Method, identity_of}
use Rattle.pv_interval.specs.Bounds.{Bounds}
use Rattle.pv_tree.specs.Trees.{Tree}
use Rattle.pv_io.specs.Outside.{Content, IsWhole, IsTooLong, MayBeAbsent}
use Rattle.pv_rule.specs.Pavings.{settled_in}
use Rattle.pv_request.specs.Requests.{names_in}
use Rattle.pv_rule.specs.Systems.{Files, AreOnlyRead, RefusesFetch, search_box}
use Rattle.pv_product.specs.Files.{HoldsPaving, HasPaving, IsNoText, HoldsOther, HoldsLong, HasFileFault, RefusesFile, HavePavings, RefusesPavings}
use Rattle.std.specs.Borrow.{Bor}
use Rattle.pv_file.specs.Readings.{IsTextOf, IsPavingInFormat, HasOtherIdentity, IsFirstBadLine, IsOneTooMany}
use Rattle.pv_file.specs.declared.refusal.FileRefused.{FileRefused}
use Rattle.pv_file.specs.declared.refusal.FileRefused.TheVariants as refused
use Rattle.pv_file.specs.Lengths.{length_limit}
use Rattle.pv_opening.specs.Reads.{IsKeyOf}
use Rattle.pv_product.proofs.OnlyRead.{rose_from}
use Rattle.pv_opening.specs.declared.pavings.Key.{Key}
use Rattle.pv_request.specs.declared.refusal.FileFault.{FileFault}
use Rattle.pv_request.specs.declared.refusal.FileFault.TheVariants.{TooLong, WrongIdentity, BadLine, TooManyNodes, BadRow, TooManyRows}
use Rattle.pv_request.specs.declared.refusal.Refusal.{Refusal}
use Rattle.pv_request.specs.declared.refusal.Refusal.TheVariants.{Usage, System, Contract, Objective, NoFile, ReadFault, Paving, NotStored, KeeperFault, NotPrinted, Memory, TreeLimit, Disagree, Differs}

module _ (a b : Files) (read : AreOnlyRead a b) (limit : ℕ) where
  other_before : (identity : List ℕ) (root : List Bounds) (name : List ℕ) (says : List ℕ → Type 0) → HoldsOther b limit identity root name says → HoldsOther a limit identity root name says
  other_before identity root name says h = record {
    bytes = h.bytes;
    fetched = subst (λ (x : Content). IsWhole x (length_limit limit) h.bytes) (read.content name) h.fetched;
    other = h.other;
    no_text = h.no_text;
  }

  long_before : (name : List ℕ) → HoldsLong b limit name → HoldsLong a limit name
  long_before name h = record { bytes = h.bytes; long = subst (λ (x : Content). IsTooLong x (length_limit limit) h.bytes) (read.content name) h.long }

  fault_before : (identity : List ℕ) (root : List Bounds) (name : List ℕ) (f : FileFault) → HasFileFault b limit identity root name f → HasFileFault a limit identity root name f
  fault_before identity root name TooLong h = long_before name h
  fault_before identity root name WrongIdentity h = other_before identity root name _ h
  fault_before identity root name (BadLine n) h = other_before identity root name _ h
  fault_before identity root name (TooManyNodes n) h = other_before identity root name _ h
  fault_before identity root name (BadRow n) h = h
  fault_before identity root name TooManyRows h = h

  fetch_before : (c : Files) (name : List ℕ) (r : Refusal) → RefusesFetch b c name r → RefusesFetch a c name r
  fetch_before c name (NoFile n) h = (h.0, subst (λ (x : Content). MayBeAbsent x) (read.content name) h.1)
  fetch_before c name (ReadFault n) h = (h.0, rose_from a.fetch_faults b.fetch_faults c.fetch_faults read.fetch_faults h.1)
  fetch_before c name Memory h = tt
  fetch_before c name Usage h = h
  fetch_before c name (System line column byte cause) h = h
  fetch_before c name (Contract byte) h = h
  fetch_before c name (Objective byte cause) h = h
  fetch_before c name (Paving n f) h = h
  fetch_before c name (NotStored n) h = h
  fetch_before c name (KeeperFault n) h = h
  fetch_before c name NotPrinted h = h
  fetch_before c name (TreeLimit n) h = h
  fetch_before c name (Disagree p x y) h = h
  fetch_before c name (Differs p x y) h = h

  pub paving_before : (identity : List ℕ) (root : List Bounds) (name : List ℕ) (t : Tree) → HoldsPaving b limit identity root name t → HoldsPaving a limit identity root name t
  paving_before identity root name t h = record {
    bytes = h.bytes;
    fetched = subst (λ (x : Content). IsWhole x (length_limit limit) h.bytes) (read.content name) h.fetched;
    text = h.text;
    paving = h.paving;
    few = h.few;
  }

  pub refused_before : (c : Files) (identity : List ℕ) (root : List Bounds) (name : List ℕ) (r : Refusal) → RefusesFile b c limit identity root name r → RefusesFile a c limit identity root name r
  refused_before c identity root name (Paving n f) h = (h.0, fault_before identity root name f h.1)
  refused_before c identity root name (NoFile n) h = fetch_before c name (NoFile n) h
  refused_before c identity root name (ReadFault n) h = fetch_before c name (ReadFault n) h
  refused_before c identity root name Memory h = tt
  refused_before c identity root name Usage h = h
  refused_before c identity root name (System line column byte cause) h = h
  refused_before c identity root name (Contract byte) h = h
  refused_before c identity root name (Objective byte cause) h = h
  refused_before c identity root name (NotStored n) h = h
  refused_before c identity root name (KeeperFault n) h = h
  refused_before c identity root name NotPrinted h = h
  refused_before c identity root name (TreeLimit n) h = h
  refused_before c identity root name (Disagree p x y) h = h
  refused_before c identity root name (Differs p x y) h = h

  pub have_before : (rule : Method) (ns : List (List ℕ)) (ts : List Tree) → HavePavings b limit rule ns ts → HavePavings a limit rule ns ts
  have_before rule [] [] h = tt
  have_before rule [] (t ∷ ts) h = absurd h
  have_before rule (n ∷ ns) [] h = absurd h
  have_before rule (n ∷ ns) (t ∷ ts) h = (paving_before (identity_of rule) (search_box rule) n t h.0, have_before rule ns ts h.1)

  pub all_refused_before : (c : Files) (rule : Method) (ns : List (List ℕ)) (r : Refusal) → RefusesPavings b c limit rule ns r → RefusesPavings a c limit rule ns r
  all_refused_before c rule [] r h = h
  all_refused_before c rule (n ∷ ns) r (inl h) = inl (refused_before c (identity_of rule) (search_box rule) n r h)
  all_refused_before c rule (n ∷ ns) r (inr h) = inr (h.0, paving_before (identity_of rule) (search_box rule) n h.0 h.1, all_refused_before c rule ns r h.2)

-- ---- A file that was read for a key

-- what is said of a key's identity and box is said of what they are
pub by_key : (P : ℕ → List ℕ → List Bounds → Type 0) (limit : ℕ) (rule : Method) (key : Key) → IsKeyOf rule limit key → P key.limit key.identity key.root → P limit (identity_of rule) (search_box rule)
by_key P limit rule key is h =
    subst (P limit (identity_of rule)) is.root
    (subst (λ (x : List ℕ). P limit x key.root) is.identity (subst (λ (n : ℕ). P n key.identity key.root) is.limit_is h))

pub bad_line : (a b : Files) (limit : ℕ) (identity : List ℕ) (root : List Bounds) (name : Bor (List ℕ)) (n : ℕ) (bytes read : List ℕ) (r : Refusal) → read ≡ bytes
    → IsWhole (a.content name.now) (length_limit limit) bytes → IsFirstBadLine limit n read identity root → IsNoText limit read identity root → r ≡ Paving name (BadLine n) → RefusesFile a b limit identity root name.now r
bad_line a b limit identity root name n bytes read r same whole h none e =
    subst (RefusesFile a b limit identity root name.now) (sym e)
    (refl, record { bytes = bytes; fetched = whole; other = subst (λ (x : List ℕ). IsFirstBadLine limit n x identity root) same h; no_text = subst (λ (x : List ℕ). IsNoText limit x identity root) same none })

pub one_too_many : (a b : Files) (limit : ℕ) (identity : List ℕ) (root : List Bounds) (name : Bor (List ℕ)) (n : ℕ) (bytes read : List ℕ) (r : Refusal) → read ≡ bytes
    → IsWhole (a.content name.now) (length_limit limit) bytes → IsOneTooMany limit n read identity root → IsNoText limit read identity root → r ≡ Paving name (TooManyNodes n) → RefusesFile a b limit identity root name.now r
one_too_many a b limit identity root name n bytes read r same whole h none e =
    subst (RefusesFile a b limit identity root name.now) (sym e)
    (refl, record { bytes = bytes; fetched = whole; other = subst (λ (x : List ℕ). IsOneTooMany limit n x identity root) same h; no_text = subst (λ (x : List ℕ). IsNoText limit x identity root) same none })

pub other_identity : (a b : Files) (limit : ℕ) (identity : List ℕ) (root : List Bounds) (name : Bor (List ℕ)) (bytes read : List ℕ) (r : Refusal) → read ≡ bytes
    → IsWhole (a.content name.now) (length_limit limit) bytes → HasOtherIdentity read identity root → IsNoText limit read identity root → r ≡ Paving name WrongIdentity → RefusesFile a b limit identity root name.now r
other_identity a b limit identity root name bytes read r same whole h none e =
    subst (RefusesFile a b limit identity root name.now) (sym e)
    (refl, record { bytes = bytes; fetched = whole; other = subst (λ (x : List ℕ). HasOtherIdentity x identity root) same h; no_text = subst (λ (x : List ℕ). IsNoText limit x identity root) same none })

-- Bytes in whose reading a fault was found are the text of no paving: of one that is there the reader says it, or that memory
-- was wanting.
pub no_text : {A : Type 0} (limit : ℕ) (read identity : List ℕ) (root : List Bounds) (result : Result A FileRefused) (tree : A → Tree) (e : FileRefused) → result ≡ Err e → (e ≡ refused.Memory → ⊥)
    → ((t : Tree) → IsPavingInFormat root t → settled_in t ≤ limit → IsTextOf read identity root t → MatchResult result (λ p. tree p ≡ t) (λ x. x ≡ refused.Memory)) → IsNoText limit read identity root
no_text {A} limit read identity root result tree e is other complete t f few x =
    other (subst (λ (r : Result A FileRefused). MatchResult r (λ p. tree p ≡ t) (λ y. y ≡ refused.Memory)) is (complete t f few x))

-- ---- Several files, the first of which was read

pub first_have : (a b : Files) → AreOnlyRead a b → (limit : ℕ) (rule : Method) (key : Key) (names rest : List (Bor (List ℕ))) (name : Bor (List ℕ)) (t : Tree) (ts : List Tree) → IsKeyOf rule limit key
    → names ≡ name ∷ rest → HoldsPaving a key.limit key.identity key.root name.now t → HavePavings b limit rule (names_in rest) ts → HavePavings a limit rule (names_in names) (t ∷ ts)
first_have a b read limit rule key names rest name t ts is e held h =
    subst (λ (ns : List (Bor (List ℕ))). HavePavings a limit rule (names_in ns) (t ∷ ts)) (sym e)
    (by_key (λ n i x. HoldsPaving a n i x name.now t) limit rule key is held, have_before a b read limit rule (names_in rest) ts h)

pub first_held : (a b : Files) → AreOnlyRead a b → (c : Files) (limit : ℕ) (rule : Method) (key : Key) (names rest : List (Bor (List ℕ))) (name : Bor (List ℕ)) (t : Tree) (r : Refusal) → IsKeyOf rule limit key
    → names ≡ name ∷ rest → HoldsPaving a key.limit key.identity key.root name.now t → RefusesPavings b c limit rule (names_in rest) r → RefusesPavings a c limit rule (names_in names) r
first_held a b read c limit rule key names rest name t r is e held h =
    let here : HasPaving a limit rule name.now t = by_key (λ n i x. HoldsPaving a n i x name.now t) limit rule key is held in
    subst (λ (ns : List (Bor (List ℕ))). RefusesPavings a c limit rule (names_in ns) r) (sym e) (inr (t, here, all_refused_before a b read limit c rule (names_in rest) r h))

pub first_refused : (a b : Files) (limit : ℕ) (rule : Method) (key : Key) (names rest : List (Bor (List ℕ))) (name : Bor (List ℕ)) (r : Refusal) → IsKeyOf rule limit key
    → names ≡ name ∷ rest → RefusesFile a b key.limit key.identity key.root name.now r → RefusesPavings a b limit rule (names_in names) r
first_refused a b limit rule key names rest name r is e h =
    subst (λ (ns : List (Bor (List ℕ))). RefusesPavings a b limit rule (names_in ns) r) (sym e)
    (inl (by_key (λ n i x. RefusesFile a b n i x name.now r) limit rule key is h))
