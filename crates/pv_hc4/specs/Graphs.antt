-- A graph of shared nodes and the constraint that it stands for.
use Rattle.std.specs.Prelude.{ℕ, ◌≡◌, ◌≢◌, ◌⊎◌, ◌<◌, List, length, Option, Some, None}
use Rattle.pv_interval.specs.Bounds.{Bounds}
use Rattle.pv_expr.specs.declared.constraint.Relation.{Relation}
use Rattle.pv_expr.specs.declared.constraint.Constraint.{Constraint}
use Rattle.pv_expr.specs.Terms.{Term, term_of}
use Rattle.pv_expr.specs.Systems.{IsOver}
use Rattle.pv_hc4.specs.declared.node.Node.{Node}
use Rattle.pv_hc4.specs.declared.node.Node.TheVariants.{Constant, Place, One, Two}
use Rattle.pv_hc4.specs.Chain.{at}
use Rattle.pv_hc4.specs.Forward.{forward_of, constant_of}
use Rattle.pv_hc4.specs.Nodes.{AreOrdered, terms, term_at, node_at}
use Rattle.pv_hc4.specs.Revise.{Sides}
use Rattle.pv_hc4.specs.Building.{IsPart, HasTerm}
use Rattle.pv_hc4.specs.declared.revised.Revised.{Revised}
use Rattle.pv_hc4.specs.declared.revised.Revised.TheVariants.{Kept, Changed, Empty}

-- each value is the forward interval of its node's term
pub record AreValues (b : List Bounds) (ns : List Node) (vs : List Bounds) : Type 0 where
  pub same : length vs ≡ length ns
  pub each : (k : ℕ) → k < length ns → forward_of b (term_at (terms ns) k) ≡ Some (at vs k)

-- a constant's node has its interval ready
abbrev pub IsReady : Node → Bounds → Type 0
IsReady (Constant p q) x = x ≡ constant_of p q
IsReady (Place i) x = Unit {0}
IsReady (One o a) x = Unit {0}
IsReady (Two o a b) x = Unit {0}

pub record AreReady (ns : List Node) (vs : List Bounds) : Type 0 where
  pub same : length vs ≡ length ns
  pub each : (k : ℕ) → k < length ns → IsReady (node_at ns k) (at vs k)

-- a graph as its callers see it: nodes, and the numbers of the two sides' nodes
pub record Parts : Type 0 where
  pub nodes : List Node
  pub left : ℕ
  pub relation : Relation
  pub right : ℕ
  pub dims : ℕ

-- the constraint that a graph stands for
abbrev pub sides_of : Parts → Sides
sides_of g = record { left = term_at (terms g.nodes) g.left; relation = g.relation; right = term_at (terms g.nodes) g.right }

-- a constraint's sides as terms
abbrev pub sides_named : Constraint → Sides
sides_named c = record { left = term_of c.left; relation = c.relation; right = term_of c.right }

-- each node reads earlier ones, and stands for a part of one of the sides; each part has its node, and no two nodes are equal
pub record IsGraph (g : Parts) : Type 0 where
  pub ordered : AreOrdered g.nodes g.dims
  pub left_in : g.left < length g.nodes
  pub right_in : g.right < length g.nodes
  pub left_over : IsOver g.dims (term_at (terms g.nodes) g.left)
  pub right_over : IsOver g.dims (term_at (terms g.nodes) g.right)
  pub used : (k : ℕ) → k < length g.nodes → IsPart (term_at (terms g.nodes) k) (term_at (terms g.nodes) g.left) ⊎ IsPart (term_at (terms g.nodes) k) (term_at (terms g.nodes) g.right)
  pub whole : (t : Term) → IsPart t (term_at (terms g.nodes) g.left) ⊎ IsPart t (term_at (terms g.nodes) g.right) → HasTerm (terms g.nodes) t
  pub apart : (j k : ℕ) → j < length g.nodes → k < length g.nodes → node_at g.nodes j ≡ node_at g.nodes k → j ≡ k

-- what revise answers where the new box is o: Kept exactly where it is the old one, and the old box after Empty
abbrev pub IsAnswer : Option (List Bounds) → Revised → List Bounds → List Bounds → Type 0
IsAnswer None Kept old new = ⊥
IsAnswer None Changed old new = ⊥
IsAnswer None Empty old new = new ≡ old
IsAnswer (Some b) Kept old new = (b ≡ old) × (new ≡ old)
IsAnswer (Some b) Changed old new = (new ≡ b) × (b ≢ old)
IsAnswer (Some b) Empty old new = ⊥
