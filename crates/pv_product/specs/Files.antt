-- What a command reads of paving files, and their join.
use Rattle.std.specs.Prelude.{◌≡◌, ◌⊎◌, ◌≤◌, ◌++◌, ℕ, Bool, Some, List, [], ◌∷◌}
use Rattle.pv_interval.specs.Bounds.{Bounds}
use Rattle.pv_slope.specs.Methods.{Method, identity_of}
use Rattle.pv_tree.specs.Trees.{Tree, outcome_at}
use Rattle.pv_tree.specs.Stages.{Grows}
use Rattle.pv_tree.specs.declared.outcome.Outcome.{Outcome}
use Rattle.pv_join.specs.Joins.{IsFirstDisagreement}
use Rattle.pv_file.specs.Lines.{outcome_line}
use Rattle.pv_file.specs.Readings.{IsTextOf, IsPavingInFormat, HasOtherIdentity, IsFirstBadLine, IsOneTooMany}
use Rattle.pv_file.specs.Lengths.{length_limit}
use Rattle.pv_io.specs.Outside.{IsWhole, IsTooLong}
use Rattle.pv_rule.specs.Systems.{Files, RefusesFetch, HasRule, RefusesRule, search_box}
use Rattle.pv_rule.specs.Pavings.{settled_in}
use Rattle.pv_request.specs.declared.request.Settings.{Settings}
use Rattle.pv_request.specs.declared.refusal.FileFault.{FileFault}
use Rattle.pv_request.specs.declared.refusal.FileFault.TheVariants.{TooLong, WrongIdentity, BadLine, TooManyNodes, BadRow, TooManyRows}
use Rattle.pv_request.specs.declared.refusal.Refusal.{Refusal}
use Rattle.pv_request.specs.declared.refusal.Refusal.TheVariants.{Paving, Memory, Disagree}

-- ---- One file

-- the file of this name is no longer than a limit on settled nodes allows: the text, in one of the versions, of this
-- paving of the box, for the identity, with at most so many of them
pub record HoldsPaving (before : Files) (limit : ℕ) (identity : List ℕ) (b : List Bounds) (name : List ℕ) (t : Tree) : Type 0 where
  pub bytes : List ℕ
  pub fetched : IsWhole (before.content name) (length_limit limit) bytes
  pub text : IsTextOf bytes identity b t
  pub paving : IsPavingInFormat b t
  pub few : settled_in t ≤ limit

-- the same of the search box, for the system and its settings
abbrev pub HasPaving : Files → ℕ → Method → List ℕ → Tree → Type 0
HasPaving before limit rule name t = HoldsPaving before limit (identity_of rule) (search_box rule) name t

-- the bytes are the text of no paving of the box for the identity with at most so many settled nodes
abbrev pub IsNoText : ℕ → List ℕ → List ℕ → List Bounds → Type 0
IsNoText limit bytes identity b = (t : Tree) → IsPavingInFormat b t → settled_in t ≤ limit → IsTextOf bytes identity b t → ⊥

-- the file holds other bytes than any such text, of which this is said
pub record HoldsOther (before : Files) (limit : ℕ) (identity : List ℕ) (b : List Bounds) (name : List ℕ) (says : List ℕ → Type 0) : Type 0 where
  pub bytes : List ℕ
  pub fetched : IsWhole (before.content name) (length_limit limit) bytes
  pub other : says bytes
  pub no_text : IsNoText limit bytes identity b

pub record HoldsLong (before : Files) (limit : ℕ) (name : List ℕ) : Type 0 where
  pub bytes : List ℕ
  pub long : IsTooLong (before.content name) (length_limit limit) bytes

-- what is wrong with the file of this name
abbrev pub HasFileFault : Files → ℕ → List ℕ → List Bounds → List ℕ → FileFault → Type 0
HasFileFault before limit identity b name TooLong = HoldsLong before limit name
HasFileFault before limit identity b name WrongIdentity = HoldsOther before limit identity b name (λ bytes. HasOtherIdentity bytes identity b)
HasFileFault before limit identity b name (BadLine n) = HoldsOther before limit identity b name (λ bytes. IsFirstBadLine limit n bytes identity b)
HasFileFault before limit identity b name (TooManyNodes n) = HoldsOther before limit identity b name (λ bytes. IsOneTooMany limit n bytes identity b)
HasFileFault before limit identity b name (BadRow n) = ⊥
HasFileFault before limit identity b name TooManyRows = ⊥

-- why the file of this name gives no paving of the box
abbrev pub RefusesFile : Files → Files → ℕ → List ℕ → List Bounds → List ℕ → Refusal → Type 0
RefusesFile before after limit identity b name (Paving n fault) = (n.now ≡ name) × HasFileFault before limit identity b name fault
RefusesFile before after limit identity b name r = RefusesFetch before after name r

-- why it gives none of the search box
abbrev pub RefusesPaving : Files → Files → ℕ → Method → List ℕ → Refusal → Type 0
RefusesPaving before after limit rule name r = RefusesFile before after limit (identity_of rule) (search_box rule) name r

-- ---- Several files

-- the files of these names hold these pavings
abbrev pub HavePavings : Files → ℕ → Method → List (List ℕ) → List Tree → Type 0
HavePavings before limit rule [] [] = Unit {0}
HavePavings before limit rule [] (t ∷ ts) = ⊥
HavePavings before limit rule (n ∷ ns) [] = ⊥
HavePavings before limit rule (n ∷ ns) (t ∷ ts) = HasPaving before limit rule n t × HavePavings before limit rule ns ts

-- the files of these names are read in order, and one is refused
abbrev pub RefusesPavings : Files → Files → ℕ → Method → List (List ℕ) → Refusal → Type 0
RefusesPavings before after limit rule [] r = r ≡ Memory
RefusesPavings before after limit rule (n ∷ ns) r =
    RefusesPaving before after limit rule n r
    ⊎ ((t : Tree) × HasPaving before limit rule n t × RefusesPavings before after limit rule ns r)

-- each of the trees
abbrev pub AllTrees : (Tree → Type 0) → List Tree → Type 0
AllTrees P [] = Unit {0}
AllTrees P (t ∷ ts) = P t × AllTrees P ts

-- one of the trees
abbrev pub AnyTree : (Tree → Type 0) → List Tree → Type 0
AnyTree P [] = ⊥
AnyTree P (t ∷ ts) = P t ⊎ AnyTree P ts

-- The join of trees: what is settled in one of them is settled so in it, and nothing else is settled. It does not
-- depend on their order, nor on repeats.
pub record IsJoinOf (ts : List Tree) (t : Tree) : Type 0 where
  pub each : AllTrees (λ s. Grows s t) ts
  pub only : (p : List Bool) (o : Outcome) → outcome_at t p ≡ Some o → AnyTree (λ s. outcome_at s p ≡ Some o) ts

-- A tree has another outcome than the join of those before it, at a path that is the first in preorder of those.
-- Both outcomes are given by their lines.
pub record IsDisagreement (ts : List Tree) (path : List Bool) (joined file : List ℕ) : Type 0 where
  pub earlier : List Tree
  pub next : Tree
  pub later : List Tree
  pub are : ts ≡ earlier ++ next ∷ later
  pub join : Tree
  pub is_join : IsJoinOf earlier join
  pub first : IsFirstDisagreement join next path
  pub joined_is : joined ≡ outcome_line first.here.left
  pub file_is : file ≡ outcome_line first.here.right

abbrev pub RefusesJoin : List Tree → Refusal → Type 0
RefusesJoin ts (Disagree path joined file) = IsDisagreement ts path joined.items file.items
RefusesJoin ts Memory = Unit {0}
RefusesJoin ts _ = ⊥

-- ---- A system and files of its pavings

-- the files of these names hold pavings of the system, and this is their join
pub record HasOpening (before : Files) (system : List ℕ) (names : List (List ℕ)) (s : Settings) (limit : ℕ) (rule : Method) (ts : List Tree) (opening : Tree) : Type 0 where
  pub read : HasRule before system s rule
  pub held : HavePavings before limit rule names ts
  pub join : IsJoinOf ts opening

-- they hold pavings of the system that have no join
pub record HasNoJoin (before : Files) (system : List ℕ) (names : List (List ℕ)) (s : Settings) (limit : ℕ) (r : Refusal) : Type 0 where
  pub rule : Method
  pub read : HasRule before system s rule
  pub trees : List Tree
  pub held : HavePavings before limit rule names trees
  pub refused : RefusesJoin trees r

-- the system is there, and one of the files is refused
pub record HasBadFile (before after : Files) (system : List ℕ) (names : List (List ℕ)) (s : Settings) (limit : ℕ) (r : Refusal) : Type 0 where
  pub rule : Method
  pub read : HasRule before system s rule
  pub refused : RefusesPavings before after limit rule names r

-- why there is no such join: the first refusal of the system, of the files in order, and of their joins
abbrev pub RefusesOpening : Files → Files → List ℕ → List (List ℕ) → Settings → ℕ → Refusal → Type 0
RefusesOpening before after system names s limit r =
    RefusesRule before after system s r
    ⊎ (HasBadFile before after system names s limit r ⊎ HasNoJoin before system names s limit r)
