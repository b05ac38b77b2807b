-- HC4-revise: down from the sides by the backward projections, with the forward intervals of the entry box.
use Rattle.std.specs.Prelude.{ℕ, ◌+◌, List, [], ◌∷◌, ◌++◌, Option, Some, None, if◌then◌else◌, nat_eq, slice_set}
use Rattle.pv_num.specs.Order.{le, lt, lesser, greater}
use Rattle.pv_interval.specs.Bounds.{Bounds}
use Rattle.pv_interval.specs.Tables.{meet_of}
use Rattle.pv_project.specs.Projections.{back_add_of, back_sub_of, back_mul_of, back_div_of, back_min_of, back_max_of, back_neg_of, back_abs_of, back_pow_of}
use Rattle.pv_expr.specs.declared.operators.UnaryOp.{UnaryOp}
use Rattle.pv_expr.specs.declared.operators.UnaryOp.TheVariants.{Neg, Abs, Pow}
use Rattle.pv_expr.specs.declared.operators.BinaryOp.{BinaryOp}
use Rattle.pv_expr.specs.declared.operators.BinaryOp.TheVariants.{Add, Sub, Mul, Div, Min, Max}
use Rattle.pv_expr.specs.Terms.{Term, constant, place, one, two}
use Rattle.pv_expr.specs.declared.constraint.Relation.{Relation}
use Rattle.pv_expr.specs.declared.constraint.Relation.TheVariants.{Eq, Le, Ge, Lt, Gt}
use Rattle.pv_hc4.specs.Chain.{chain, at}
use Rattle.pv_hc4.specs.Forward.{forward_of}

abbrev pub back_1 : UnaryOp → Bounds → Bounds → Option Bounds
back_1 Neg z x = back_neg_of z x
back_1 Abs z x = back_abs_of z x
back_1 (Pow n) z x = back_pow_of z x n

abbrev pub back_2 : BinaryOp → Bounds → Bounds → Bounds → Option (Bounds × Bounds)
back_2 Add z x y = back_add_of z x y
back_2 Sub z x y = back_sub_of z x y
back_2 Mul z x y = back_mul_of z x y
back_2 Div z x y = back_div_of z x y
back_2 Min z x y = back_min_of z x y
back_2 Max z x y = back_max_of z x y

-- what an occurrence of a variable is narrowed to
pub record Target : Type 0 where
  pub var : ℕ
  pub within : Bounds

abbrev pub joined : Option (List Target) → Option (List Target) → Option (List Target)
joined o p = chain o (λ xs. chain p (λ ys. Some (xs ++ ys)))

-- the targets of all occurrences in a term whose own target is z
abbrev pub targets_of : List Bounds → Term → Bounds → Option (List Target)
targets_of b (constant p q) z = Some []
targets_of b (place i) z = Some (record { var = i; within = z } ∷ [])
targets_of b (one u t) z = chain (forward_of b t) (λ x. chain (back_1 u z x) (λ y. targets_of b t y))
targets_of b (two o t u) z =
    chain (forward_of b t) (λ x. chain (forward_of b u) (λ y.
    chain (back_2 o z x y) (λ p. joined (targets_of b t p.0) (targets_of b u p.1))))

-- the meet of an interval with the targets of variable i
abbrev pub place_of : ℕ → List Target → Bounds → Option Bounds
place_of i [] x = Some x
place_of i (s ∷ ts) x = if nat_eq s.var i then chain (meet_of x s.within) (place_of i ts) else place_of i ts x

-- each place, numbered from i on, met with the targets of its variable
abbrev pub places_from : ℕ → List Target → List Bounds → Option (List Bounds)
places_from i ts [] = Some []
places_from i ts (x ∷ b) = chain (place_of i ts x) (λ y. chain (places_from (i + 1) ts b) (λ c. Some (y ∷ c)))

-- a box met with one target after another
abbrev pub applied : List Bounds → List Target → Option (List Bounds)
applied b [] = Some b
applied b (s ∷ ts) = chain (meet_of (at b s.var) s.within) (λ x. applied (slice_set b s.var x) ts)

-- what is left of a box when a term's occurrences were narrowed, one after another
abbrev pub went : List Bounds → List Bounds → Term → Bounds → Option (List Bounds)
went b s t z = chain (targets_of b t z) (applied s)

-- the two sides of a constraint, and how they stand to each other
pub record Sides : Type 0 where
  pub left : Term
  pub relation : Relation
  pub right : Term

-- the new intervals of two sides, where the left one is at most the right one
abbrev pub ordered_of : Bounds → Bounds → Bounds × Bounds
ordered_of l r = (record { lo = l.lo; hi = lesser l.hi r.hi }, record { lo = greater r.lo l.lo; hi = r.hi })

abbrev pub swapped : Bounds × Bounds → Bounds × Bounds
swapped p = (p.1, p.0)

-- the new intervals of two sides; empty where no two of their numbers stand so
abbrev pub related_of : Relation → Bounds → Bounds → Option (Bounds × Bounds)
related_of Eq l r = chain (meet_of l r) (λ m. Some (m, m))
related_of Le l r = if lt r.hi l.lo then None else Some (ordered_of l r)
related_of Lt l r = if le r.hi l.lo then None else Some (ordered_of l r)
related_of Ge l r = if lt l.hi r.lo then None else Some (swapped (ordered_of r l))
related_of Gt l r = if le l.hi r.lo then None else Some (swapped (ordered_of r l))

-- the targets of all occurrences in two sides with the intervals p
abbrev pub both_targets : List Bounds → Sides → Bounds × Bounds → Option (List Target)
both_targets b s p = joined (targets_of b s.left p.0) (targets_of b s.right p.1)

-- HC4-revise: the box with each place met with the targets of its variable; empty where any step is
abbrev pub revised : Sides → List Bounds → Option (List Bounds)
revised s b =
    chain (forward_of b s.left) (λ x. chain (forward_of b s.right) (λ y. chain (related_of s.relation x y)
    (λ p. chain (both_targets b s p) (λ ts. places_from 0 ts b))))

-- a box narrowed by both sides' occurrences, one after another
abbrev pub narrowed_of : List Bounds → Term → Term → Bounds × Bounds → Option (List Bounds)
narrowed_of b t u p = chain (joined (targets_of b t p.0) (targets_of b u p.1)) (applied b)
