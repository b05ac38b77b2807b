-- The map from nodes to their numbers, and what makes the nodes of a graph all different.
use Rattle.std.specs.Prelude.{ℕ, ◌≡◌, ◌⊎◌, ◌<◌, List, length, Bool, Some}
use Rattle.std.specs.HashMap.{HashMap, get}
use Rattle.pv_expr.specs.Terms.{Term}
use Rattle.pv_hc4.specs.declared.node.Node.{Node}
use Rattle.pv_hc4.specs.contracts.node.NodePartialEq.TheImpl.{ghosts}
use Rattle.pv_hc4.specs.Nodes.{node_at, term_at}
use Rattle.pv_hc4.specs.Building.{IsPart, HasTerm}
use Rattle.pv_hc4.specs.Revise.{Sides}

-- nodes as `==` compares them
abbrev pub same_node : Node → Node → Bool
same_node a b = (ghosts).eq a b

-- the map gives each node its number
abbrev pub AreNumbered : {S : Type 0} → List Node → HashMap Node ℕ S → Type 0
AreNumbered ns m = (k : ℕ) → k < length ns → get same_node m (node_at ns k) ≡ Some k

-- a subexpression of one of the sides
abbrev pub IsPartOfSides : Term → Sides → Type 0
IsPartOfSides t s = IsPart t s.left ⊎ IsPart t s.right

-- n is the number of different subexpressions of the sides: they can be listed, each once
pub record CountsParts (s : Sides) (n : ℕ) : Type 0 where
  pub parts : List Term
  pub count : length parts ≡ n
  pub each : (k : ℕ) → k < n → IsPartOfSides (term_at parts k) s
  pub all : (t : Term) → IsPartOfSides t s → HasTerm parts t
  pub apart : (j k : ℕ) → j < n → k < n → term_at parts j ≡ term_at parts k → j ≡ k
