-- Pavings that were read, as the code holds them.
use Rattle.std.specs.Prelude.{◌≡◌, ◌⊎◌, ◌++◌, ℕ, Bool, Some, List, length}
use Rattle.pv_slope.specs.Methods.{Method, method_of, dims_of, identity_of}
use Rattle.pv_interval.specs.Bounds.{Bounds}
use Rattle.pv_tree.specs.Trees.{Tree, outcome_at}
use Rattle.pv_tree.specs.declared.outcome.Outcome.{Outcome}
use Rattle.pv_file.specs.Lines.{outcome_line}
use Rattle.pv_rule.specs.Systems.{Files, search_box}
use Rattle.pv_product.specs.Files.{HavePavings, IsJoinOf, RefusesJoin, RefusesPavings, HasOpening}
use Rattle.pv_request.specs.declared.request.Settings.{Settings}
use Rattle.pv_opening.specs.declared.opening.Opening.{Opening}
use Rattle.pv_request.specs.declared.refusal.Refusal.{Refusal}
use Rattle.pv_request.specs.declared.refusal.Refusal.TheVariants.{Disagree, Differs, Memory}
use Rattle.pv_opening.specs.declared.pavings.Key.{Key}

-- the key of the paving files of a box, for an identity and within a limit
pub record IsKey (limit : ℕ) (hash : List ℕ) (b : List Bounds) (key : Key) : Type 0 where
  pub identity : key.identity ≡ hash
  pub root : key.root ≡ b
  pub limit_is : key.limit ≡ limit

-- the key of a rule's paving files
abbrev pub IsKeyOf : Method → ℕ → Key → Type 0
IsKeyOf rule limit key = IsKey limit (identity_of rule) (search_box rule) key

-- the files of these names hold pavings of the search box
abbrev pub AreHeld : Files → ℕ → Method → List (List ℕ) → Type 0
AreHeld before limit rule names = (ts : List Tree) × HavePavings before limit rule names ts

-- the join of earlier trees and of the pavings in the files of these names
pub record IsJoinOn (before : Files) (limit : ℕ) (rule : Method) (earlier : List Tree) (names : List (List ℕ)) (t : Tree) : Type 0 where
  pub later : List Tree
  pub held : HavePavings before limit rule names later
  pub join : IsJoinOf (earlier ++ later) t

-- earlier trees and the pavings in the files have no join
pub record HasNoJoinOn (before : Files) (limit : ℕ) (rule : Method) (earlier : List Tree) (names : List (List ℕ)) (r : Refusal) : Type 0 where
  pub later : List Tree
  pub held : HavePavings before limit rule names later
  pub refused : RefusesJoin (earlier ++ later) r

-- why there is none: the first refusal of the files in order, and of the joins
abbrev pub RefusesJoinOn : Files → Files → ℕ → Method → List Tree → List (List ℕ) → Refusal → Type 0
RefusesJoinOn before after limit rule earlier names r =
    RefusesPavings before after limit rule names r ⊎ HasNoJoinOn before limit rule earlier names r

-- the line of the outcome at a path
abbrev pub IsLineAt : Tree → List Bool → List ℕ → Type 0
IsLineAt t path line = (o : Outcome) → outcome_at t path ≡ Some o → line ≡ outcome_line o

-- the refusal for two trees that disagree at a path, or want of memory
abbrev pub IsDisagree : Tree → Tree → List Bool → Refusal → Type 0
IsDisagree joined file path (Disagree p a b) = (p ≡ path) × IsLineAt joined path a.items × IsLineAt file path b.items
IsDisagree joined file path Memory = Unit {0}
IsDisagree joined file path _ = ⊥

-- the refusal for an outcome that is due in place of that at a path, or want of memory
abbrev pub IsDiffers : Tree → List Bool → Outcome → Refusal → Type 0
IsDiffers file path due (Differs p a b) = (p ≡ path) × IsLineAt file path a.items × (b.items ≡ outcome_line due)
IsDiffers file path due Memory = Unit {0}
IsDiffers file path due _ = ⊥

-- a settler and the join of its paving files
pub record IsOpened (before : Files) (system : List ℕ) (names : List (List ℕ)) (s : Settings) (limit : ℕ) (o : Opening) : Type 0 where
  pub trees : List Tree
  pub opening : HasOpening before system names s limit (method_of o.settler) trees o.paving.tree
  pub root : o.paving.root ≡ search_box (method_of o.settler)
  pub dims : length o.paving.root ≡ dims_of (method_of o.settler)
