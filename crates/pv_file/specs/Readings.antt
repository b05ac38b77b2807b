-- Which bytes are a paving file, and where other bytes first fail to be one.
use Rattle.std.specs.Prelude.{◌≡◌, ◌≢◌, ℕ, zero, suc, ◌<◌, ◌≤◌, List, [], ◌∷◌, ◌++◌}
use Rattle.pv_num.specs.Parts.{IsNumber}
use Rattle.pv_interval.specs.Bounds.{Bounds}
use Rattle.pv_tree.specs.Trees.{Tree, leaf, removed, inner, small, cut, IsPaving, counts_of, settled_of, Fits, KeepsBox}
use Rattle.pv_tree.specs.declared.outcome.Outcome.{Outcome}
use Rattle.pv_tree.specs.declared.outcome.Outcome.TheVariants.{Removed, Inner, Small, Cut}
use Rattle.pv_file.specs.declared.version.Version.{Version}
use Rattle.pv_file.specs.Texts.{IsDigest, file_text}

-- both ends are numbers of the format
pub record HasNumberEnds (x : Bounds) : Type 0 where
  pub lo : IsNumber x.lo
  pub hi : IsNumber x.hi

abbrev pub HaveNumberEnds : List Bounds → Type 0
HaveNumberEnds [] = Unit {0}
HaveNumberEnds (x ∷ xs) = HasNumberEnds x × HaveNumberEnds xs

-- all numbers of a tree are numbers of the format
abbrev pub HasNumbers : Tree → Type 0
HasNumbers leaf = Unit {0}
HasNumbers removed = Unit {0}
HasNumbers (inner to) = HaveNumberEnds to
HasNumbers (small to) = HaveNumberEnds to
HasNumbers (cut to var at low high) = HaveNumberEnds to × IsNumber at × HasNumbers low × HasNumbers high

-- a paving of a box, in numbers of the format
pub record IsPavingInFormat (b : List Bounds) (t : Tree) : Type 0 where
  pub paving : IsPaving b t
  pub numbers : HasNumbers t

-- the bytes are the text of a paving over a box, in one of the versions
abbrev pub IsTextOf : List ℕ → List ℕ → List Bounds → Tree → Type 0
IsTextOf bytes identity b t = (v : Version) × (bytes ≡ file_text v identity b t)

-- how many nodes are settled
abbrev pub settled_count : Tree → ℕ
settled_count t = settled_of (counts_of t)

-- no byte is a given one
abbrev pub IsFree : ℕ → List ℕ → Type 0
IsFree mark [] = Unit {0}
IsFree mark (c ∷ cs) = (c ≢ mark) × IsFree mark cs

-- so many lines, each with its line feed
abbrev pub AreLines : ℕ → List ℕ → Type 0
AreLines zero text = text ≡ []
AreLines (suc n) text = (line : List ℕ) × (rest : List ℕ) × (text ≡ line ++ 10 ∷ rest) × IsFree 10 line × AreLines n rest

-- both texts begin with the same so many lines
pub record BeginAlike (n : ℕ) (bytes text : List ℕ) : Type 0 where
  pub lines : List ℕ
  pub bytes_rest : List ℕ
  pub text_rest : List ℕ
  pub are_lines : AreLines n lines
  pub bytes_are : bytes ≡ lines ++ bytes_rest
  pub text_is : text ≡ lines ++ text_rest

-- the bytes begin with the first so many lines of a paving's file
pub record BeginsAs (n : ℕ) (bytes identity : List ℕ) (b : List Bounds) (t : Tree) : Type 0 where
  pub version : Version
  pub paving : IsPavingInFormat b t
  pub alike : BeginAlike n bytes (file_text version identity b t)

-- some paving with at most so many settled nodes as the limit has a file that begins so
pub record BeginsWell (limit n : ℕ) (bytes identity : List ℕ) (b : List Bounds) : Type 0 where
  pub tree : Tree
  pub begins : BeginsAs n bytes identity b tree
  pub few : settled_count tree ≤ limit

-- The first two lines are those of a file with another identity.
pub record HasOtherIdentity (bytes identity : List ℕ) (b : List Bounds) : Type 0 where
  pub other : List ℕ
  pub tree : Tree
  pub is_digest : IsDigest other
  pub differs : other ≢ identity
  pub begins : BeginsAs 2 bytes other b tree

-- Line n is the first with which the bytes don't begin as a file, whatever its identity.
pub record IsFirstBadLine (limit n : ℕ) (bytes identity : List ℕ) (b : List Bounds) : Type 0 where
  pub before : ℕ
  pub next : n ≡ suc before
  pub good : BeginsWell limit before bytes identity b
  pub bad : (other : List ℕ) (t : Tree) → IsDigest other → BeginsAs n bytes other b t → ⊥

-- With line n there are more settled nodes than the limit, and not before.
pub record IsOneTooMany (limit n : ℕ) (bytes identity : List ℕ) (b : List Bounds) : Type 0 where
  pub before : ℕ
  pub next : n ≡ suc before
  pub good : BeginsWell limit before bytes identity b
  pub tree : Tree
  pub begins : BeginsAs n bytes identity b tree
  pub many : (t : Tree) → BeginsAs n bytes identity b t → limit < settled_count t

-- the numbers of an outcome are numbers of the format
abbrev pub OutcomeHasNumbers : Outcome → Type 0
OutcomeHasNumbers Removed = Unit {0}
OutcomeHasNumbers (Inner to) = HaveNumberEnds to
OutcomeHasNumbers (Small to) = HaveNumberEnds to
OutcomeHasNumbers (Cut to var at) = HaveNumberEnds to × IsNumber at

-- an outcome that is right for a box, in numbers of the format
pub record IsRightFor (b : List Bounds) (o : Outcome) : Type 0 where
  pub fits : Fits b o
  pub keeps : KeepsBox o
  pub numbers : OutcomeHasNumbers o

-- Different pavings of a box have different texts of one version.
abbrev pub TextsDiffer : Type 0
TextsDiffer = (v : Version) (identity : List ℕ) (b : List Bounds) (s t : Tree) → IsPavingInFormat b s → IsPavingInFormat b t
    → file_text v identity b s ≡ file_text v identity b t → s ≡ t

-- A file has one version and one identity.
abbrev pub OneIdentity : Type 0
OneIdentity = (v w : Version) (identity other : List ℕ) (b : List Bounds) (s t : Tree) → IsDigest identity → IsDigest other
    → file_text v identity b s ≡ file_text w other b t → (v ≡ w) × (identity ≡ other)
