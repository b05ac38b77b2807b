-- That done shares of one opening join to its full tree, whoever settled them, however often and in whatever order.
use Rattle.std.specs.Prelude.{◌≡◌, ◌≢◌, ◌<◌, ℕ, true, List, []}
use Rattle.pv_interval.specs.Bounds.{Bounds}
use Rattle.pv_tree.specs.Trees.{Tree}
use Rattle.pv_tree.specs.Stages.{Rule, IsStage, full_of}
use Rattle.pv_scope.specs.Settlings.{IsClosed}
use Rattle.pv_scope.specs.declared.share.Share.{Share}
use Rattle.pv_rule.specs.Pavings.{IsSharePaved}
use Rattle.pv_product.specs.Files.{AllTrees, AnyTree, IsJoinOf}

-- what a call for a share of n made of an opening by some budget, which was enough
pub record IsDoneShare (rule : Rule) (depth : ℕ) (b : List Bounds) (opening : Tree) (n k : ℕ) (t : Tree) : Type 0 where
  pub share : Share
  pub number_is : share.number ≡ k
  pub of_is : share.of ≡ n
  pub budget : ℕ
  pub run : IsSharePaved rule depth b opening share budget t true

-- What is said of a join of stages of an opening, as all that calls for its shares make are, and all joins of such: it is a
-- stage; a share that is done in one of them is done in it; and where each share of n is done in it, it is the full tree.
pub record IsJoinOfShares (rule : Rule) (depth : ℕ) (b : List Bounds) (opening : Tree) (ts : List Tree) (t : Tree) : Type 0 where
  pub stage : IsStage rule depth b opening t
  pub keeps : (k n : ℕ) → AnyTree (IsClosed k n opening) ts → IsClosed k n opening t
  pub whole : (n : ℕ) → 0 < n → ((k : ℕ) → k < n → IsClosed k n opening t) → t ≡ full_of rule depth b opening 0

abbrev pub SharesJoin : Type 0
SharesJoin =
    (rule : Rule) (depth : ℕ) (b : List Bounds) (opening : Tree) (ts : List Tree) (t : Tree) → ts ≢ []
    → AllTrees (IsStage rule depth b opening) ts → IsJoinOf ts t → IsJoinOfShares rule depth b opening ts t

-- The join is the full tree where each share of n has a done answer among stages of the opening.
abbrev pub DoneSharesAreWhole : Type 0
DoneSharesAreWhole =
    (rule : Rule) (depth : ℕ) (b : List Bounds) (opening : Tree) (n : ℕ) (ts : List Tree) (t : Tree) → 0 < n
    → AllTrees (IsStage rule depth b opening) ts → ((k : ℕ) → k < n → AnyTree (IsDoneShare rule depth b opening n k) ts)
    → IsJoinOf ts t → t ≡ full_of rule depth b opening 0
