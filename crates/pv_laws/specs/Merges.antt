-- That what `merge` makes of files depends neither on their order nor on repeats.
use Rattle.std.specs.Prelude.{◌≡◌, ◌≢◌, ◌⊎◌, List, [], ◌∷◌, Option, option_map}
use Rattle.std.specs.Borrow.{Bor}
use Rattle.clap.specs.Words.{Text}
use Rattle.pv_tree.specs.Trees.{Tree}
use Rattle.pv_io.specs.Outside.{untold}
use Rattle.pv_request.specs.Requests.{Asks, names_in}
use Rattle.pv_rule.specs.Systems.{Files}
use Rattle.pv_product.specs.Files.{AnyTree, IsJoinOf}
use Rattle.pv_product.specs.Ends.{Outside, IsDone, IsRefused}
use Rattle.pv_request.specs.declared.request.Settings.{Settings}
use Rattle.pv_request.specs.declared.request.Request.{Request}
use Rattle.pv_request.specs.declared.request.Request.TheVariants.{Merge}
use Rattle.pv_request.specs.declared.status.Status.{Status}
use Rattle.pv_request.specs.declared.status.Status.TheVariants.{TreeLimit, Disagree}

-- ---- Trees

abbrev pub IsTree : Tree → List Tree → Type 0
IsTree t ts = AnyTree (λ s. s ≡ t) ts

-- the same trees, in some order, each once or several times
pub record AreSameTrees (ts us : List Tree) : Type 0 where
  pub forth : (t : Tree) → IsTree t ts → IsTree t us
  pub back : (t : Tree) → IsTree t us → IsTree t ts

-- trees have one join, and in another order or given several times they have the same
abbrev pub JoinAlike : Type 0
JoinAlike = (ts us : List Tree) (t : Tree) → AreSameTrees ts us → IsJoinOf ts t → IsJoinOf us t × ((u : Tree) → IsJoinOf us u → u ≡ t)

-- ---- Files

abbrev pub IsNamed : Text → List Text → Type 0
IsNamed name [] = ⊥
IsNamed name (n ∷ ns) = (name ≡ n) ⊎ IsNamed name ns

-- the same names, in some order, each once or several times
pub record AreSameNames (names others : List Text) : Type 0 where
  pub forth : (name : Text) → IsNamed name names → IsNamed name others
  pub back : (name : Text) → IsNamed name others → IsNamed name names

-- the same settings, wherever the text of the program lies
pub record AreSameSettings (s other : Settings) : Type 0 where
  pub eps : s.eps ≡ other.eps
  pub depth : s.depth ≡ other.depth
  pub bisector : s.bisector ≡ other.bisector
  pub contract : s.contract.now ≡ other.contract.now
  pub form : s.form ≡ other.form

abbrev pub out_name : Option (Bor Text) → Option Text
out_name out = option_map (λ name. name.now) out

-- both ask for the join of the same files, by the same settings, within the same limit, under the same name
abbrev pub AreSameMerge : Request → Request → Type 0
AreSameMerge (Merge system pavings settings limit out) (Merge system' pavings' settings' limit' out') =
    (system.now ≡ system'.now) × AreSameNames (names_in pavings.items) (names_in pavings'.items)
    × AreSameSettings settings settings' × (limit ≡ limit') × (out_name out ≡ out_name out')
AreSameMerge q r = ⊥

abbrev pub AskForSameMerge : List Text → List Text → Type 0
AskForSameMerge words others = (q r : Request) → Asks words q → Asks others r → AreSameMerge q r

-- what each file holds is told
abbrev pub AreTold : Files → Type 0
AreTold f = (name : Text) → f.content name ≢ untold

-- the same was printed, every file holds the same, and the status is the same
pub record EndAlike (one other : Outside) (status status' : Status) : Type 0 where
  pub printed : one.out.written ≡ other.out.written
  pub files : (name : Text) → one.files.content name ≡ other.files.content name
  pub ended : status ≡ status'

-- two commands for the same join, over the same files, end alike where both are done
abbrev pub MergesEndAlike : Type 0
MergesEndAlike =
    (words others : List Text) (before one other : Outside) (status status' : Status) → AreTold before.files
    → AskForSameMerge words others → IsDone words before one status → IsDone others before other status'
    → EndAlike one other status status'

-- where one is done, the other isn't refused since files disagree, nor for the size of the join
abbrev pub MergesAreTakenAlike : Type 0
MergesAreTakenAlike =
    (words others : List Text) (before one other : Outside) (status status' : Status) → AreTold before.files
    → AskForSameMerge words others → IsDone words before one status → IsRefused others before other status'
    → (status' ≢ Disagree) × (status' ≢ TreeLimit)
