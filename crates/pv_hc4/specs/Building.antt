-- How a graph grows by the nodes of one more term.
use Rattle.std.specs.Prelude.{ℕ, ◌≡◌, ◌⊎◌, ◌<◌, ◌≤◌, List, ◌++◌, length}
use Rattle.pv_expr.specs.Terms.{Term, constant, place, one, two}
use Rattle.pv_hc4.specs.declared.node.Node.{Node}
use Rattle.pv_hc4.specs.Nodes.{terms, term_at, node_at}

-- s is t or a part of t
abbrev pub IsPart : Term → Term → Type 0
IsPart s (constant p q) = s ≡ constant p q
IsPart s (place i) = s ≡ place i
IsPart s (one u t) = (s ≡ one u t) ⊎ IsPart s t
IsPart s (two o t u) = (s ≡ two o t u) ⊎ (IsPart s t ⊎ IsPart s u)

-- the term stands somewhere in the list
pub record HasTerm (ts : List Term) (t : Term) : Type 0 where
  pub number : ℕ
  pub within : number < length ts
  pub is : term_at ts number ≡ t

-- new is old with some more nodes; one of its nodes stands for t, each that is new for a part of t, and each part of t has one
pub record Grows (old new : List Node) (number : ℕ) (t : Term) : Type 0 where
  pub more : List Node
  pub is : new ≡ old ++ more
  pub within : number < length new
  pub term : term_at (terms new) number ≡ t
  pub parts : (k : ℕ) → length old ≤ k → k < length new → IsPart (term_at (terms new) k) t
  pub whole : (s : Term) → IsPart s t → HasTerm (terms new) s

-- new has the node at this number, and no new node but that
pub record Holds (old new : List Node) (number : ℕ) (n : Node) : Type 0 where
  pub more : List Node
  pub is : new ≡ old ++ more
  pub within : number < length new
  pub node : node_at new number ≡ n
  pub only : (k : ℕ) → length old ≤ k → k < length new → k ≡ number
