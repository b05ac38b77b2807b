-- The terms that a list of numbered nodes stands for.
use Rattle.std.specs.Prelude.{ℕ, ◌<◌, ◌≤◌, List, [], ◌∷◌, ◌++◌, length, slice_index_or}
use Rattle.pv_expr.specs.Terms.{Term, constant, place, one, two}
use Rattle.pv_expr.specs.Systems.{IsUnary}
use Rattle.pv_hc4.specs.declared.node.Node.{Node}
use Rattle.pv_hc4.specs.declared.node.Node.TheVariants.{Constant, Place, One, Two}

abbrev pub term_at : List Term → ℕ → Term
term_at ts k = slice_index_or ts k (place 0)

abbrev pub node_at : List Node → ℕ → Node
node_at ns k = slice_index_or ns k (Place 0)

-- the term of a node over the terms of earlier ones
abbrev pub node_term : List Term → Node → Term
node_term ts (Constant p q) = constant p q
node_term ts (Place i) = place i
node_term ts (One o a) = one o (term_at ts a)
node_term ts (Two o a b) = two o (term_at ts a) (term_at ts b)

abbrev pub grown : List Term → List Node → List Term
grown ts [] = ts
grown ts (n ∷ ns) = grown (ts ++ node_term ts n ∷ []) ns

-- the term of each node, where a node reads earlier ones alone
abbrev pub terms : List Node → List Term
terms ns = grown [] ns

-- a node reads only nodes below k
abbrev pub ReadsBelow : ℕ → Node → Type 0
ReadsBelow k (Constant p q) = Unit {0}
ReadsBelow k (Place i) = Unit {0}
ReadsBelow k (One o a) = a < k
ReadsBelow k (Two o a b) = (a < k) × (b < k)

-- a variable of a node is below d, and an exponent at most 32
abbrev pub FitsNode : ℕ → Node → Type 0
FitsNode d (Constant p q) = Unit {0}
FitsNode d (Place i) = i < d
FitsNode d (One o a) = IsUnary o
FitsNode d (Two o a b) = Unit {0}

pub record AreOrdered (ns : List Node) (d : ℕ) : Type 0 where
  pub reads : (k : ℕ) → k < length ns → ReadsBelow k (node_at ns k)
  pub fits : (k : ℕ) → k < length ns → FitsNode d (node_at ns k)
