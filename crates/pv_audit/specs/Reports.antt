-- The numbers of nodes, and what the workers of an audit find.
use Rattle.std.specs.Prelude.{◌≡◌, ◌≢◌, ℕ, suc, ◌+◌, ◌%◌, ◌<◌, Bool, true, false, Option, Some, None, List, [], ◌∷◌, length, get_or, IfOk, Result}
use Rattle.pv_interval.specs.Bounds.{Bounds}
use Rattle.pv_tree.specs.Trees.{Tree, leaf, removed, inner, small, cut, outcome_at}
use Rattle.pv_tree.specs.Pieces.{all_nodes}
use Rattle.pv_tree.specs.Stages.{Rule}
use Rattle.pv_tree.specs.declared.outcome.Outcome.{Outcome}
use Rattle.pv_join.specs.Audits.{due_at, IsDue}
use Rattle.pv_num.specs.declared.memory.Memory.{Memory}
use Rattle.pv_audit.specs.declared.report.Difference.{Difference}
use Rattle.pv_audit.specs.declared.report.Report.{Report}

-- The number in preorder, from 0 on, of the node at a path.
abbrev pub number_of : Tree → List Bool → ℕ
number_of t [] = 0
number_of (cut to var at low high) (false ∷ p) = suc (number_of low p)
number_of (cut to var at low high) (true ∷ p) = suc (all_nodes low + number_of high p)
number_of leaf (b ∷ p) = 0
number_of removed (b ∷ p) = 0
number_of (inner to) (b ∷ p) = 0
number_of (small to) (b ∷ p) = 0

-- The node of this number is settled otherwise than by the rule.
pub record Differs (rule : Rule) (depth : ℕ) (b : List Bounds) (t : Tree) (number : ℕ) (d : Difference) : Type 0 where
  pub number_is : number_of t d.path ≡ number
  pub due_is : d.due ≡ due_at rule depth b t d.path
  pub found : Outcome
  pub found_is : outcome_at t d.path ≡ Some found
  pub differ : found ≢ d.due

abbrev pub DiffersIfSome : Rule → ℕ → List Bounds → Tree → ℕ → Option Difference → Type 0
DiffersIfSome rule depth b t number None = Unit {0}
DiffersIfSome rule depth b t number (Some d) = Differs rule depth b t number d

-- What a report says of the nodes whose numbers are a worker's.
pub record IsReport (rule : Rule) (depth : ℕ) (b : List Bounds) (t : Tree) (IsOwn : ℕ → Type 0) (report : Report) : Type 0 where
  pub due : (p : List Bool) → IsOwn (number_of t p) → number_of t p < report.checked → IsDue rule depth b t p
  pub difference : DiffersIfSome rule depth b t report.checked report.difference

-- The reports of all workers, in their order, where there was memory: node n is the (n modulo workers)-th worker's.
abbrev pub AreReports : Rule → ℕ → List Bounds → Tree → ℕ → List (Result Report Memory) → Type 0
AreReports rule depth b t workers reports =
    (i : ℕ) (d : Result Report Memory) → i < length reports → IfOk (get_or reports i d) (IsReport rule depth b t (λ n. n % workers ≡ i))
