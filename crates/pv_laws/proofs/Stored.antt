-- What a command stored is read back as the stage that it was.
use Rattle.std.proofs.Common.{◌≡◌, inl, inr, ℕ, zero, suc, ◌+◌, ◌<◌, ◌≤◌, Bool, List, [], ◌∷◌, ◌++◌, refl, sym, ◌∙◌, subst, arith}
use Rattle.std.specs.Prelude.{◌≢◌, Option, Some, None, slice_index}
use Rattle.std.specs.Int.{w32, byte_at, bytes_high_first, to_be_bytes}
use Rattle.clap.specs.Words.{Row, Text, subcommand_of}
use Rattle.hex.specs.Hex.{IsBytes}
use Rattle.sha2.specs.Sha256.{sha256, digest_bytes}
use Rattle.sha2.proofs.Facts256.{length-sha256}
use Rattle.pv_interval.specs.Bounds.{Bounds}
use Rattle.pv_settle.specs.Rules.{SettlerParts}
use Rattle.pv_slope.specs.Methods.{Method, settle_by, identity_as, identity_of}
use Rattle.pv_slope.specs.declared.form.Form.{Form}
use Rattle.pv_slope.specs.declared.form.Form.TheVariants.{Plain, Centered}
use Rattle.pv_tree.specs.Trees.{Tree, leaf, opens}
use Rattle.pv_tree.specs.Stages.{Rule, IsStage}
use Rattle.pv_scope.specs.declared.order.Order.{Order}
use Rattle.pv_scope.specs.declared.share.Share.{Share}
use Rattle.pv_io.specs.Outside.{Content, untold, absent, holds, stored, IsWhole, IsTooLong}
use Rattle.pv_file.specs.Readings.{IsPavingInFormat, IsTextOf}
use Rattle.pv_file.specs.Texts.{IsDigest, file_text}
use Rattle.pv_file.specs.Lengths.{length_limit}
use Rattle.pv_file.specs.declared.version.Version.TheVariants.{Two}
use Rattle.pv_file.proofs.Lengths.{files-read}
use Rattle.pv_words.specs.Commands.{paver_app}
use Rattle.pv_request.specs.Requests.{IsAsked, names_in, out_of}
use Rattle.pv_rule.specs.Systems.{Files, HasRule, search_box}
use Rattle.pv_rule.specs.Pavings.{IsPaved, settled_in}
use Rattle.pv_product.specs.Files.{HasPaving, HavePavings, HoldsPaving, HoldsOther, HasFileFault}
use Rattle.pv_product.specs.Campaigns.{Stock, is_done}
use Rattle.pv_product.specs.Products.{Product, paved_as, IsHonest, AreStages, IsSettledSo, ComesOf, ComesOfRun, ComesOfResume, ComesOfMerge}
use Rattle.pv_product.specs.Ends.{Outside, IsStored, IsKept, IsDone, IsEnd, Tells}
use Rattle.pv_laws.specs.Merges.{IsNamed, AreSameSettings}
use Rattle.pv_laws.specs.Headline.{FilesAreStages}
use Rattle.pv_laws.specs.Stored.{Paves, sources_of, IsToStore, IsWanted, IsAnswer, StoredIsWanted, WantedAreStages, WantedIsTaken, written, WrittenIsWanted}
use Rattle.pv_request.specs.declared.request.Settings.{Settings}
use Rattle.pv_request.specs.declared.request.Effort.{Effort}
use Rattle.pv_request.specs.declared.request.Request.{Request}
use Rattle.pv_request.specs.declared.request.Request.TheVariants.{Run, Resume, Merge}
use Rattle.pv_request.specs.declared.refusal.FileFault.{FileFault}
use Rattle.pv_request.specs.declared.refusal.FileFault.TheVariants.{TooLong, WrongIdentity, BadLine, TooManyNodes, BadRow, TooManyRows}
use Rattle.pv_request.specs.declared.refusal.Refusal.TheVariants.{Paving}
use Rattle.pv_request.specs.declared.status.Status.{Status}
use Rattle.pv_request.specs.declared.status.Status.TheVariants.{Done, OpenLeft}
use Rattle.pv_laws.proofs.Merges.{same_text, same_whole}
use Rattle.pv_laws.proofs.StatusLaws.{not_told}
use Rattle.pv_laws.proofs.Headline.{AreOneRule, read_one_rule}

-- ---- An identity is a digest

byte_is : (k n : ℕ) → byte_at k n < 256
byte_is zero n = omega arith
byte_is (suc k) n = omega arith

word_is : (k n : ℕ) → IsBytes (bytes_high_first k n)
word_is zero n i = omega arith
word_is (suc k) n zero = byte_is k n
word_is (suc k) n (suc i) = word_is k n i

both_are : (xs ys : List ℕ) → IsBytes xs → IsBytes ys → IsBytes (xs ++ ys)
both_are [] ys h k i = k i
both_are (x ∷ xs) ys h k zero = h zero
both_are (x ∷ xs) ys h k (suc i) = both_are xs ys (λ j. h (suc j)) k i

digest_is : (h : List ℕ) (n : ℕ) → IsBytes (digest_bytes h n)
unfolding digest_bytes
digest_is h zero = λ i. omega arith
digest_is h (suc n) = both_are (digest_bytes h n) (to_be_bytes w32 (slice_index h n)) (digest_is h n) (word_is 4 (slice_index h n))

sha_is : (m : List ℕ) → IsBytes (sha256 m)
unfolding sha256
sha_is m = digest_is _ 8

identity_is : (form : Form) (r : SettlerParts) → IsDigest (identity_as form r)
identity_is Plain r = record { count = length-sha256 _; bytes = sha_is _ }
identity_is Centered r = record { count = length-sha256 _; bytes = sha_is _ }

-- ---- What comes of a request is a stage

-- a stage of the open search box, within a limit
pub record IsStagePaving (before : Files) (system : Text) (s : Settings) (limit : ℕ) (p : Product) : Type 0 where
  pub rule : Method
  pub read : HasRule before system s rule
  pub tree : Tree
  pub done : Bool
  pub honest : IsHonest s rule tree
  pub few : settled_in tree ≤ limit
  pub is : p ≡ paved_as (identity_of rule) (search_box rule) tree done

no_cons : (p : List Bool) (ps : List (List Bool)) → p ∷ ps ≡ [] → ⊥
no_cons p ps e = cc

few_settled : (rule : Rule) (depth : ℕ) (b : List Bounds) (opening : Tree) (budget : ℕ) (t : Tree) → IsPaved rule depth b opening budget t → settled_in t ≤ settled_in opening + budget
few_settled rule depth b opening budget t h = by (opens t) refl
  where
    by : (ps : List (List Bool)) → opens t ≡ ps → settled_in t ≤ settled_in opening + budget
    by [] e = subst (λ (x : Tree). settled_in x ≤ settled_in opening + budget) (sym (h.full e)) (h.fits.0 e)
    by (p ∷ ps) e = let spent = h.spent (λ none. no_cons p ps (sym e ∙ none)) in omega (arith, spent)

few_so : (rule : Method) (opening : Tree) (order : Order) (budget : ℕ) (share : Option Share) (t : Tree) (done : Bool) → IsSettledSo rule opening order budget share t done
    → settled_in t ≤ settled_in opening + budget
few_so rule opening order budget None t done h = few_settled _ _ _ opening budget t h.0
few_so rule opening order budget (Some share) t done h = h.few

run_stage : (before : Files) (system : Text) (s : Settings) (order : Order) (budget limit : ℕ) (p : Product) → budget ≤ limit → ComesOfRun before system s order budget p → IsStagePaving before system s limit p
run_stage before system s order budget limit p few h = record {
  rule = h.rule;
  read = h.read;
  tree = h.tree;
  done = is_done h.tree;
  honest = h.honest;
  few = let one = few_settled _ _ _ leaf budget h.tree h.run in let none : settled_in leaf ≡ 0 = refl in omega (arith, one, none, few);
  is = h.is;
}

resume_stage : (before : Files) (system : Text) (names : List Text) (s : Settings) (most : ℕ) (order : Order) (budget : ℕ) (share : Option Share) (limit : ℕ) (p : Product) → most ≤ limit
    → FilesAreStages before system names s most → ComesOfResume before system names s most order budget share p → IsStagePaving before system s limit p
resume_stage before system names s most order budget share limit p few stages h = record {
  rule = h.rule;
  read = h.opened.read;
  tree = h.tree;
  done = h.done;
  honest = h.honest (stages h.rule h.trees h.opening h.opened);
  few = let one = few_so h.rule h.opening order budget share h.tree h.done h.run in let two = h.few in omega (arith, one, two, few);
  is = h.is;
}

merge_stage : (before : Files) (system : Text) (names : List Text) (s : Settings) (most limit : ℕ) (p : Product) → most ≤ limit → FilesAreStages before system names s most
    → ComesOfMerge before system names s most p → IsStagePaving before system s limit p
merge_stage before system names s most limit p few stages h = record {
  rule = h.rule;
  read = h.opened.read;
  tree = h.tree;
  done = is_done h.tree;
  honest = h.honest (stages h.rule h.trees h.tree h.opened);
  few = let one = h.few in omega (arith, one, few);
  is = h.is;
}

boxes_fit : (found : Option (Text × List Row)) (system : _) (settings : Settings) (effort : Effort) (out : _) → IsAsked found (Run system settings effort out) → effort.budget.nodes ≤ effort.budget.limit
boxes_fit None system settings effort out h = absurd h
boxes_fit (Some p) system settings effort out h = h.2.boxes.to

stage_paving : (before : Files) (u v : Stock) (found : Option (Text × List Row)) (q : Request) (name : Text) (s : Settings) (limit : ℕ) (p : Product) → IsAsked found q → Paves q name s limit
    → ((most : ℕ) → FilesAreStages before name (sources_of q) s most) → ComesOf before u v q p → IsStagePaving before name s limit p
stage_paving before u v found (Run system settings effort out) name s limit p asked h stages c =
    let few = boxes_fit found system settings effort out asked in
    let most = h.2 in
    run_stage before name s effort.order effort.budget.nodes limit p (omega (arith, few, most))
    (subst (λ (x : Settings). ComesOfRun before name x effort.order effort.budget.nodes p) h.1 (subst (λ (n : Text). ComesOfRun before n settings effort.order effort.budget.nodes p) h.0 c))
stage_paving before u v found (Resume system pavings settings effort share out) name s limit p asked h stages c =
    resume_stage before name (names_in pavings.items) s effort.budget.limit effort.order effort.budget.nodes share limit p h.2 (stages effort.budget.limit)
    (subst (λ (x : Settings). ComesOfResume before name (names_in pavings.items) x effort.budget.limit effort.order effort.budget.nodes share p) h.1
    (subst (λ (n : Text). ComesOfResume before n (names_in pavings.items) settings effort.budget.limit effort.order effort.budget.nodes share p) h.0 c))
stage_paving before u v found (Merge system pavings settings most out) name s limit p asked h stages c =
    merge_stage before name (names_in pavings.items) s most limit p h.2 (stages most)
    (subst (λ (x : Settings). ComesOfMerge before name (names_in pavings.items) x most p) h.1 (subst (λ (n : Text). ComesOfMerge before n (names_in pavings.items) settings most p) h.0 c))
stage_paving before u v found q name s limit p asked h stages c = absurd h

-- ---- A stage's text is wanted

pub stage_moves : (r q : Method) (t : Tree) → AreOneRule r q → IsStage (settle_by r) r.parts.depth (search_box r) leaf t → IsStage (settle_by q) q.parts.depth (search_box q) leaf t
stage_moves r q t one h =
    subst (λ (b : List Bounds). IsStage (settle_by q) q.parts.depth b leaf t) one.named.box
    (subst (λ (d : ℕ). IsStage (settle_by q) d (search_box r) leaf t) one.depth
    (subst (λ (x : Rule). IsStage x r.parts.depth (search_box r) leaf t) one.settle h))

module _ (r q : Method) (one : AreOneRule r q) (t : Tree) (later : Files) (file : Text)
    (is : later.content file ≡ holds (file_text Two (identity_of r) (search_box r) t)) (paving : IsPavingInFormat (search_box r) t) where
  paving_there : IsPavingInFormat (search_box q) t
  paving_there = subst (λ (b : List Bounds). IsPavingInFormat b t) one.named.box paving

  text_there : file_text Two (identity_of r) (search_box r) t ≡ file_text Two (identity_of q) (search_box q) t
  text_there = λ i. file_text Two (one.named.identity i) (one.named.box i) t

  held_there : (limit most : ℕ) → settled_in t ≤ limit → limit ≤ most → HasPaving later most q file t
  held_there limit most few more =
      let fewer : settled_in t ≤ most = omega (arith, few, more) in
      let short = files-read most Two (identity_of r) (search_box r) t (identity_is r.form r.parts) paving fewer in
      record {
        bytes = file_text Two (identity_of r) (search_box r) t;
        fetched = subst (λ (c : Content). IsWhole c (length_limit most) (file_text Two (identity_of r) (search_box r) t)) (sym is) (refl, omega (arith, short));
        text = (Two, text_there);
        paving = paving_there;
        few = fewer;
      }

  one_there : (most : ℕ) (u : Tree) → HasPaving later most q file u → u ≡ t
  one_there most u h =
      let whole = subst (λ (c : Content). IsWhole c (length_limit most) h.bytes) is h.fetched in
      same_text h.text.0 Two (identity_of q) (search_box q) u t h.paving paving_there (sym h.text.1 ∙ whole.0 ∙ text_there)

wanted_of : (before later : Files) (system system' file : Text) (s s' : Settings) (limit : ℕ) (p : Product) → (d : IsStagePaving before system s limit p) → before.content system ≢ untold
    → before.content system ≡ later.content system' → AreSameSettings s s' → later.content file ≡ holds (file_text Two (identity_of d.rule) (search_box d.rule) d.tree)
    → IsWanted later system' s' limit file
wanted_of before later system system' file s s' limit p d told there same is = record {
  tree = d.tree;
  read = λ q most more k. held_there d.rule q (read_one_rule before later system system' s s' d.rule q told there same d.read k) d.tree later file is d.honest.paving limit most d.few more;
  only = λ q most t k h. one_there d.rule q (read_one_rule before later system system' s s' d.rule q told there same d.read k) d.tree later file is d.honest.paving most t h;
  stage = λ q k. stage_moves d.rule q d.tree (read_one_rule before later system system' s s' d.rule q told there same d.read k) d.honest.stage;
}

-- ---- One command

stored_bytes : (out : Option Text) (p : Product) (before after : Files) (file : Text) (identity : List ℕ) (b : List Bounds) (t : Tree) (done : Bool) → out ≡ Some file → p ≡ paved_as identity b t done
    → IsKept out p before after → IsStored file (file_text Two identity b t) before after
stored_bytes out p before after file identity b t done e is h =
    subst (λ (x : Product). IsKept (Some file) x before after) is (subst (λ (o : Option Text). IsKept o p before after) e h)

stored_holds : (c : Content) (bytes : List ℕ) → c ≢ untold → stored c bytes ≡ holds bytes
stored_holds untold bytes told = absurd (told refl)
stored_holds absent bytes told = refl
stored_holds (holds whole) bytes told = refl

done_of : (words : List Text) (before after : Outside) (status : Status) → IsAnswer status → IsEnd words before after status → IsDone words before after status
done_of words before after status (inl e) (inr r) = absurd (not_told r.refusal Done before.err after.err tt (subst (λ (x : Status). Tells r.refusal x before.err after.err) e r.told))
done_of words before after status (inr e) (inr r) = absurd (not_told r.refusal OpenLeft before.err after.err tt (subst (λ (x : Status). Tells r.refusal x before.err after.err) e r.told))
done_of words before after status a (inl d) = d

delivered_wanted : (before after later : Files) (system system' file file' : Text) (s s' : Settings) (limit : ℕ) (p : Product) (out : Option Text) → (d : IsStagePaving before system s limit p) → out ≡ Some file
    → IsKept out p before after → before.content system ≢ untold → before.content file ≢ untold → before.content system ≡ later.content system' → AreSameSettings s s'
    → after.content file ≡ later.content file' → IsWanted later system' s' limit file'
delivered_wanted before after later system system' file file' s s' limit p out d e kept told told_file there same same_file =
    wanted_of before later system system' file' s s' limit p d told there same
    (sym same_file ∙ (stored_bytes out p before after file (identity_of d.rule) (search_box d.rule) d.tree d.done e d.is kept).is
    ∙ stored_holds (before.content file) (file_text Two (identity_of d.rule) (search_box d.rule) d.tree) told_file)

done_wanted : (words : List Text) (before after : Outside) (status : Status) (system file : Text) (s : Settings) (limit : ℕ) → (d : IsDone words before after status)
    → IsToStore d.request system s limit file → ((most : ℕ) → FilesAreStages before.files system (sources_of d.request) s most) → before.files.content system ≢ untold
    → before.files.content file ≢ untold → (later : Files) (system' file' : Text) (s' : Settings) → AreSameSettings s s' → before.files.content system ≡ later.content system'
    → after.files.content file ≡ later.content file' → IsWanted later system' s' limit file'
done_wanted words before after status system file s limit d to stages told told_file later system' file' s' same there same_file =
    delivered_wanted before.files after.files later system system' file file' s s' limit d.answered.product (out_of d.request)
    (stage_paving before.files before.stock after.stock (subcommand_of paver_app words) d.request system s limit d.answered.product d.asks.1 to.paves stages d.answered.comes)
    to.out d.answered.delivered.files told told_file there same same_file

pub stored_is_wanted : StoredIsWanted
stored_is_wanted words before after status system file s limit answer end ask told told_file later system' file' s' same there same_file =
    let d = done_of words before after status answer end in
    done_wanted words before after status system file s limit d (ask d.request d.asks).0 (ask d.request d.asks).1 told told_file later system' file' s' same there same_file

all_stages : (f : Files) (system : Text) (s : Settings) (limit most : ℕ) (rule : Method) → HasRule f system s rule → (names : List Text) (ts : List Tree) → HavePavings f most rule names ts
    → ((name : Text) → IsNamed name names → IsWanted f system s limit name) → AreStages rule ts
all_stages f system s limit most rule read [] [] h wanted = tt
all_stages f system s limit most rule read [] (t ∷ ts) h wanted = absurd h
all_stages f system s limit most rule read (n ∷ names) [] h wanted = absurd h
all_stages f system s limit most rule read (n ∷ names) (t ∷ ts) h wanted =
    let here = wanted n (inl refl) in (
      subst (λ (x : Tree). IsStage (settle_by rule) rule.parts.depth (search_box rule) leaf x) (sym (here.only rule most t read h.0)) (here.stage rule read),
      all_stages f system s limit most rule read names ts h.1 (λ m k. wanted m (inr k)),
    )

pub wanted_are_stages : WantedAreStages
wanted_are_stages f system names s limit most wanted = λ rule ts joined h. all_stages f system s limit most rule h.read names ts h.held wanted

whole_or_long : (c : Content) (limit : ℕ) (bytes more : List ℕ) → c ≢ untold → IsWhole c limit bytes → IsTooLong c limit more → ⊥
whole_or_long untold limit bytes more told whole long = told refl
whole_or_long absent limit bytes more told whole long = whole
whole_or_long (holds all) limit bytes more told whole long = let short = whole.1 in let over = long.1 in omega (arith, short, over)

module _ (f : Files) (limit : ℕ) (identity : List ℕ) (b : List Bounds) (name : Text) (t : Tree) (told : f.content name ≢ untold) (h : HoldsPaving f limit identity b name t) where
  no_other : (says : List ℕ → Type 0) → HoldsOther f limit identity b name says → ⊥
  no_other says o =
      let same : h.bytes ≡ o.bytes = same_whole (f.content name) (length_limit limit) h.bytes o.bytes told h.fetched o.fetched in
      o.no_text t h.paving h.few (subst (λ (bytes : List ℕ). IsTextOf bytes identity b t) same h.text)

  pub no_file_fault : (fault : FileFault) → HasFileFault f limit identity b name fault → ⊥
  no_file_fault TooLong l = whole_or_long (f.content name) (length_limit limit) h.bytes l.bytes told h.fetched l.long
  no_file_fault WrongIdentity o = no_other _ o
  no_file_fault (BadLine n) o = no_other _ o
  no_file_fault (TooManyNodes n) o = no_other _ o
  no_file_fault (BadRow n) o = o
  no_file_fault TooManyRows o = o

pub wanted_is_taken : WantedIsTaken
wanted_is_taken f after system file s limit most rule (Paving n fault) wanted more read told h =
    absurd (no_file_fault f most (identity_of rule) (search_box rule) file wanted.tree told (wanted.read rule most more read) fault h.1)
wanted_is_taken f after system file s limit most rule r wanted more read told h = h

-- ---- A chain of commands

other_way : (s t : Settings) → AreSameSettings s t → AreSameSettings t s
other_way s t h = record { eps = sym h.eps; depth = sym h.depth; bisector = sym h.bisector; contract = sym h.contract; form = sym h.form }

further : (s t u : Settings) → AreSameSettings s t → AreSameSettings t u → AreSameSettings s u
further s t u h k = record { eps = h.eps ∙ k.eps; depth = h.depth ∙ k.depth; bisector = h.bisector ∙ k.bisector; contract = h.contract ∙ k.contract; form = h.form ∙ k.form }

pub written_is_wanted : WrittenIsWanted
written_is_wanted text s limit c (written d words before after status system file t answer end told is same ask from e) f system' file' t' same' there here =
    stored_is_wanted words before after status system file t limit answer end
    (λ q asks. (
      ask q asks,
      λ most. wanted_are_stages before.files system (sources_of q) t limit most
          (λ name named. written_is_wanted text s limit (before.files.content name) (from q name asks named) before.files system name t (other_way t s same) is refl),
    ))
    (told system) (told file) f system' file' t' (further t s t' same same') (is ∙ sym there) (sym e ∙ sym here)
