-- How a command ends, by its steps.
use Rattle.std.proofs.Common.{◌≡◌, ◌⊎◌, inl, inr, ℕ, ◌==◌, true, false, ◌≤◌, List, [], ◌∷◌, Option, Some, None, refl, sym, ◌∙◌, ap, subst, arith}
use Rattle.std.specs.Prelude.{◌≢◌, Result, Ok, Err, IfOk, IfErr, OnOk, IsErrAnd}
use Rattle.std.proofs.lemmas.Bool.Decides.{eqb_tells}
use Rattle.clap.specs.Words.{Text}
use Rattle.pv_io.specs.Outside.{Content, Rose, appended, stored, AppendsFront}
use Rattle.pv_request.specs.Requests.{Asks, out_of, campaign_of, RefusesWords}
use Rattle.pv_product.specs.Campaigns.{Stock, IsSameStock, LeavesStock}
use Rattle.pv_rule.specs.Systems.{Files, AreOnlyRead}
use Rattle.pv_product.specs.Printing.{RefusesPrint}
use Rattle.pv_product.specs.Products.{Product, text, unfinished, paved_as, HasStatus, ComesOf}
use Rattle.pv_product.specs.Ends.{Stream, Outside, AreUntouched, AreOthersKept, IsStored, IsKept, IsDelivered, IsCutOff, RefusesDelivery, IsAnswered, RefusesRequest, in_words, in_request, Tells, IsEnd}
use Rattle.pv_request.specs.declared.request.Request.{Request}
use Rattle.pv_request.specs.declared.refusal.Refusal.{Refusal}
use Rattle.pv_request.specs.declared.refusal.Refusal.TheVariants.{Usage, System, Contract, Objective, NoFile, ReadFault, Paving, NotStored, KeeperFault, NotPrinted, Memory, TreeLimit, Disagree, Differs}
use Rattle.pv_request.specs.declared.status.Status.{Status}
use Rattle.pv_product.proofs.OnlyRead.{only_read_on}
use Rattle.pv_file.proofs.Bytes.{no_cons, heads_same, tails_same}

pub same_files : (f : Files) → AreOnlyRead f f
same_files f = record { content = λ name. refl; fetch_faults = omega arith; store_faults = refl }

-- ---- A text, for which nothing is stored, whatever file is asked for

front_printed : (out : Option Text) (t : List ℕ) (f : Files) (x y : Stream) → AppendsFront x.written y.written t → IsCutOff out (text t) f f x y
front_printed None t f x y front = record { files = same_files f; out = front }
front_printed (Some name) t f x y front = record { files = same_files f; out = front }

pub text_delivered : (out : Option Text) (t : List ℕ) (f : Files) (x y : Stream) → y.written ≡ appended x.written t → IsDelivered out (text t) f f x y
text_delivered None t f x y printed = record { files = same_files f; out = printed }
text_delivered (Some name) t f x y printed = record { files = same_files f; out = printed }

pub text_undelivered : (out : Option Text) (t : List ℕ) (f : Files) (x y : Stream) (r : Refusal) → RefusesPrint x y t r → RefusesDelivery out (text t) f f x y r
text_undelivered out t f x y (KeeperFault n) h = h
text_undelivered out t f x y NotPrinted h = (front_printed out t f x y h.0, h.1)
text_undelivered out t f x y Memory h = inr (front_printed out t f x y h)
text_undelivered out t f x y Usage h = h
text_undelivered out t f x y (System line column byte cause) h = h
text_undelivered out t f x y (Contract byte) h = h
text_undelivered out t f x y (Objective byte cause) h = h
text_undelivered out t f x y (NoFile n) h = h
text_undelivered out t f x y (ReadFault n) h = h
text_undelivered out t f x y (Paving n fault) h = h
text_undelivered out t f x y (NotStored n) h = absurd h
text_undelivered out t f x y (TreeLimit n) h = h
text_undelivered out t f x y (Disagree path u v) h = h
text_undelivered out t f x y (Differs path u v) h = h

-- ---- A delivery that begins where files were only read

module _ (a b c : Files) (read : AreOnlyRead a b) (u v : Stock) (x y : Stream) where
  others_on : (name : Text) → AreOthersKept name b c → AreOthersKept name a c
  others_on name h = record {
    others = λ other n. h.others other n ∙ read.content other;
    fetch_faults = let one = read.fetch_faults in let two = h.fetch_faults in omega arith;
    store_faults = let one = read.store_faults in let two = h.store_faults in omega arith;
  }

  stored_on : (name : Text) (bytes : List ℕ) → IsStored name bytes b c → IsStored name bytes a c
  stored_on name bytes h = record {
    kept = others_on name h.kept;
    is = h.is ∙ ap (λ (k : Content). stored k bytes) (read.content name);
  }

  kept_on : (out : Option Text) (p : Product) → IsKept out p b c → IsKept out p a c
  kept_on None p h = only_read_on a b c read h
  kept_on (Some name) (text t) h = only_read_on a b c read h
  kept_on (Some name) (unfinished t) h = only_read_on a b c read h
  kept_on (Some name) (paved_as identity root t done) h = stored_on name _ h

  cut_on : (out : Option Text) (p : Product) → IsCutOff out p b c x y → IsCutOff out p a c x y
  cut_on out p h = record { files = kept_on out p h.files; out = h.out }

  delivered_on : (out : Option Text) (p : Product) → IsDelivered out p b c x y → IsDelivered out p a c x y
  delivered_on out p h = record { files = kept_on out p h.files; out = h.out }

  delivery_on : (out : Option Text) (p : Product) (r : Refusal) → RefusesDelivery out p b c x y r → RefusesDelivery out p a c x y r
  delivery_on out p (NotStored name) h = record {
    asked = h.asked;
    files = others_on name.now h.files;
    out = h.out;
    rose = subst (λ (n : ℕ). Rose n c.store_faults) read.store_faults h.rose;
  }
  delivery_on out p (KeeperFault n) h = h
  delivery_on out p NotPrinted h = (cut_on out p h.0, h.1)
  delivery_on out p Memory (inl same) = inl (record { files = only_read_on a b c read same.files; out = same.out })
  delivery_on out p Memory (inr cut) = inr (cut_on out p cut)
  delivery_on out p Usage h = h
  delivery_on out p (System line column byte cause) h = h
  delivery_on out p (Contract byte) h = h
  delivery_on out p (Objective byte cause) h = h
  delivery_on out p (NoFile n) h = h
  delivery_on out p (ReadFault n) h = h
  delivery_on out p (Paving n f) h = h
  delivery_on out p (TreeLimit n) h = h
  delivery_on out p (Disagree path u v) h = h
  delivery_on out p (Differs path u v) h = h

  pub when_delivered : (r : Result Status Refusal) (q : Request) (p : Product) (file : Option Text) → file ≡ out_of q → ComesOf a u v q p → IfOk r (HasStatus p)
      → OnOk r (IsDelivered file p b c x y) → IfOk r (IsAnswered q a c u v x y)
  when_delivered (Ok s) q p file same comes is delivered = record {
    product = p;
    comes = comes;
    delivered = subst (λ (f : Option Text). IsDelivered f p a c x y) same (delivered_on file p delivered);
    is = is;
  }
  when_delivered (Err e) q p file same comes is delivered = tt

  pub when_undelivered : (r : Result Status Refusal) (q : Request) (p : Product) (file : Option Text) → file ≡ out_of q → ComesOf a u v q p
      → IfErr r (RefusesDelivery file p b c x y) → IfErr r (RefusesRequest q a c u v x y)
  when_undelivered (Ok s) q p file same comes h = tt
  when_undelivered (Err e) q p file same comes h = inr (record {
    product = p;
    comes = comes;
    refused = subst (λ (f : Option Text). RefusesDelivery f p a c x y e) same (delivery_on file p e h);
  })

-- ---- The whole command

-- the words were refused
pub words_refused : (words : List Text) (before after : Outside) (r : Refusal) (status : Status) → RefusesWords words r
    → AreUntouched before.files after.files before.out after.out → IsSameStock before.stock after.stock → Tells r status before.err after.err
    → IsEnd words before after status
words_refused words before after r status h same kept told = inr (record { refusal = r; so = in_words h same kept; told = told })

-- what they ask for was refused
pub request_refused : (words : List Text) (before after : Outside) (r : Refusal) (status : Status) (q : Request) → Asks words q
    → RefusesRequest q before.files after.files before.stock after.stock before.out after.out r → LeavesStock (campaign_of q) before.stock after.stock
    → Tells r status before.err after.err → IsEnd words before after status
request_refused words before after r status q asks h kept told = inr (record { refusal = r; so = in_request q asks h kept; told = told })

-- ---- A store

-- an error is passed on
pub passed : {A : Type 0} (r : Result A Refusal) (e : Refusal) (P : Refusal → Type 0) → IsErrAnd r (λ x. x ≡ e) → P e → IfErr r P
passed (Ok x) e P h p = absurd h
passed (Err x) e P h p = subst P (sym h) p

both_same : (x y : ℕ) (a b : List ℕ) → x ≡ y → a ≡ b → x ∷ a ≡ y ∷ b
both_same x y a b e f = cc

pub same_or_other : (a b : List ℕ) → (a ≡ b) ⊎ (a ≡ b → ⊥)
same_or_other [] [] = inl refl
same_or_other [] (y ∷ b) = inr (no_cons y b)
same_or_other (x ∷ a) [] = inr (λ e. no_cons x a (sym e))
same_or_other (x ∷ a) (y ∷ b) = heads (eqb_tells x y) (same_or_other a b)
  where
    heads : (((x == y) ≡ true) × (x ≡ y)) ⊎ (((x == y) ≡ false) × (x ≡ y → ⊥)) → (a ≡ b) ⊎ (a ≡ b → ⊥) → (x ∷ a ≡ y ∷ b) ⊎ (x ∷ a ≡ y ∷ b → ⊥)
    heads (inl same) (inl rest) = inl (both_same x y a b same.1 rest)
    heads (inl same) (inr other) = inr (λ e. other (tails_same x y a b e))
    heads (inr other) r = inr (λ e. other.1 (heads_same x y a b e))

pub all_kept : (f g : Text → Content) (name : Text) → g name ≡ f name → ((other : Text) → other ≢ name → g other ≡ f other) → (other : Text) → g other ≡ f other
all_kept f g name same others other = by (same_or_other other name)
  where
    by : (other ≡ name) ⊎ (other ≡ name → ⊥) → g other ≡ f other
    by (inl e) = ap g e ∙ same ∙ ap f (sym e)
    by (inr n) = others other n

pub no_less : (m n : ℕ) → n ≡ m → m ≤ n
no_less m n e = omega arith
