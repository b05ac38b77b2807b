-- The tree of a paving over a box, its nodes by path, and the order of its leaves.
use Rattle.std.specs.Prelude.{ℕ, zero, suc, ◌+◌, ◌<◌, ◌≤◌, max, Bool, true, false, IsTrue, Option, Some, None, List, [], ◌∷◌, ◌++◌, map, filter, length}
use Rattle.pv_num.specs.Extended.{Extended, NegInf, Fin, PosInf}
use Rattle.pv_num.specs.Order.{lt}
use Rattle.pv_interval.specs.Bounds.{Bounds}
use Rattle.pv_box.specs.Boxes.{IsBox, lower_half, upper_half}
pub use Rattle.pv_box.specs.Boxes.{IsWithin}
use Rattle.pv_tree.specs.declared.outcome.Outcome.{Outcome}
use Rattle.pv_tree.specs.declared.outcome.Outcome.TheVariants.{Removed, Inner, Small, Cut}
use Rattle.pv_tree.specs.declared.outcome.Counts.{Counts}
use Rattle.pv_tree.specs.declared.outcome.Shape.{Shape}
use Rattle.pv_tree.specs.declared.outcome.Shape.TheVariants as shape
use Rattle.pv_tree.specs.declared.path.TheConstants.{MOST_STEPS}

-- An open leaf, or a settled node: removed whole, inner, small, or cut, where `at` splits place `var` of `to`.
pub data Tree : Type 0 where
  leaf : Tree
  removed : Tree
  inner : List Bounds → Tree
  small : List Bounds → Tree
  cut : List Bounds → ℕ → Extended → Tree → Tree → Tree

-- The outcome of a node, where it is settled.
abbrev pub top : Tree → Option Outcome
top leaf = None
top removed = Some Removed
top (inner to) = Some (Inner to)
top (small to) = Some (Small to)
top (cut to var at low high) = Some (Cut to var at)

-- The low and the high subtree of a cut, here the child that a step leads to.
abbrev pub child : Bool → Tree → Tree → Tree
child false low high = low
child true low high = high

-- The subtree at a path of steps, false for low and true for high; None where there is no such path.
abbrev pub subtree : Tree → List Bool → Option Tree
subtree t [] = Some t
subtree (cut to var at low high) (false ∷ p) = subtree low p
subtree (cut to var at low high) (true ∷ p) = subtree high p
subtree leaf (b ∷ p) = None
subtree removed (b ∷ p) = None
subtree (inner to) (b ∷ p) = None
subtree (small to) (b ∷ p) = None

-- The outcome at a path; None where the path leads to an open leaf or nowhere.
abbrev pub outcome_at : Tree → List Bool → Option Outcome
outcome_at t [] = top t
outcome_at (cut to var at low high) (false ∷ p) = outcome_at low p
outcome_at (cut to var at low high) (true ∷ p) = outcome_at high p
outcome_at leaf (b ∷ p) = None
outcome_at removed (b ∷ p) = None
outcome_at (inner to) (b ∷ p) = None
outcome_at (small to) (b ∷ p) = None

-- The box at a path.
abbrev pub box_of : List Bounds → Tree → List Bool → List Bounds
box_of b t [] = b
box_of b (cut to var at low high) (false ∷ p) = box_of (lower_half to var at) low p
box_of b (cut to var at low high) (true ∷ p) = box_of (upper_half to var at) high p
box_of b leaf (s ∷ p) = b
box_of b removed (s ∷ p) = b
box_of b (inner to) (s ∷ p) = b
box_of b (small to) (s ∷ p) = b

-- The part of its box that a settled node kept.
abbrev pub to_of : Outcome → Option (List Bounds)
to_of Removed = None
to_of (Inner to) = Some to
to_of (Small to) = Some to
to_of (Cut to var at) = Some to

-- The tree of one settled node.
abbrev pub settled : Outcome → Tree
settled Removed = removed
settled (Inner to) = inner to
settled (Small to) = small to
settled (Cut to var at) = cut to var at leaf leaf

-- The tree with the subtree at a path replaced.
abbrev pub graft : Tree → List Bool → Tree → Tree
graft t [] s = s
graft (cut to var at low high) (false ∷ p) s = cut to var at (graft low p s) high
graft (cut to var at low high) (true ∷ p) s = cut to var at low (graft high p s)
graft leaf (b ∷ p) s = leaf
graft removed (b ∷ p) s = removed
graft (inner to) (b ∷ p) s = inner to
graft (small to) (b ∷ p) s = small to

-- The paths of the open leaves in preorder.
abbrev pub opens : Tree → List (List Bool)
opens leaf = [] ∷ []
opens removed = []
opens (inner to) = []
opens (small to) = []
opens (cut to var at low high) = map (λ p. false ∷ p) (opens low) ++ map (λ p. true ∷ p) (opens high)

abbrev pub first : List (List Bool) → Option (List Bool)
first [] = None
first (p ∷ ps) = Some p

-- In preorder a node stands before its low subtree, and that before its high subtree.
abbrev pub precedes : List Bool → List Bool → Bool
precedes [] [] = false
precedes [] (c ∷ q) = true
precedes (b ∷ p) [] = false
precedes (false ∷ p) (false ∷ q) = precedes p q
precedes (false ∷ p) (true ∷ q) = true
precedes (true ∷ p) (false ∷ q) = false
precedes (true ∷ p) (true ∷ q) = precedes p q

-- How many nodes a tree has of each kind.
abbrev pub sum_of_counts : Counts → Counts → Counts
sum_of_counts a b = record {
  cut = a.cut + b.cut;
  removed = a.removed + b.removed;
  inner = a.inner + b.inner;
  small = a.small + b.small;
  open_leaves = a.open_leaves + b.open_leaves;
}

abbrev pub counts_of : Tree → Counts
counts_of leaf = record { cut = 0; removed = 0; inner = 0; small = 0; open_leaves = 1 }
counts_of removed = record { cut = 0; removed = 1; inner = 0; small = 0; open_leaves = 0 }
counts_of (inner to) = record { cut = 0; removed = 0; inner = 1; small = 0; open_leaves = 0 }
counts_of (small to) = record { cut = 0; removed = 0; inner = 0; small = 1; open_leaves = 0 }
counts_of (cut to var at low high) =
    sum_of_counts (record { cut = 1; removed = 0; inner = 0; small = 0; open_leaves = 0 })
    (sum_of_counts (counts_of low) (counts_of high))

abbrev pub settled_of : Counts → ℕ
settled_of c = c.cut + c.removed + c.inner + c.small

-- The length of the longest path.
abbrev pub height : Tree → ℕ
height leaf = 0
height removed = 0
height (inner to) = 0
height (small to) = 0
height (cut to var at low high) = suc (max (height low) (height high))

-- A number that is finite and strictly between the ends of a place.
abbrev pub IsBetween : Extended → Bounds → Type 0
IsBetween NegInf x = ⊥
IsBetween (Fin n) x = IsTrue (lt x.lo (Fin n)) × IsTrue (lt (Fin n) x.hi)
IsBetween PosInf x = ⊥

abbrev pub IsStrictlyInside : Extended → ℕ → List Bounds → Type 0
IsStrictlyInside at var [] = ⊥
IsStrictlyInside at zero (x ∷ xs) = IsBetween at x
IsStrictlyInside at (suc var) (x ∷ xs) = IsStrictlyInside at var xs

-- An outcome's geometry is right for a box.
abbrev pub Fits : List Bounds → Outcome → Type 0
Fits b Removed = Unit {0}
Fits b (Inner to) = IsWithin to b
Fits b (Small to) = IsWithin to b
Fits b (Cut to var at) = IsWithin to b × IsStrictlyInside at var to

-- What an outcome kept is a box.
abbrev pub KeepsBox : Outcome → Type 0
KeepsBox Removed = Unit {0}
KeepsBox (Inner to) = IsBox to
KeepsBox (Small to) = IsBox to
KeepsBox (Cut to var at) = IsBox to

-- A tree is a paving of a box: each node's geometry is right for the node's box.
abbrev pub Paves : List Bounds → Tree → Type 0
Paves b leaf = Unit {0}
Paves b removed = Unit {0}
Paves b (inner to) = IsBox to × IsWithin to b
Paves b (small to) = IsBox to × IsWithin to b
Paves b (cut to var at low high) =
    IsBox to × IsWithin to b × IsStrictlyInside at var to × Paves (lower_half to var at) low × Paves (upper_half to var at) high

-- A whole paving: over a box, with no path of more than 200 steps.
pub record IsPaving (b : List Bounds) (t : Tree) : Type 0 where
  pub box : IsBox b
  pub paves : Paves b t
  pub depth : height t ≤ MOST_STEPS

-- What contracts see of a paving: its root box, its tree, and for how many settlings it has room.
pub record Seen : Type 0 where
  pub root : List Bounds
  pub tree : Tree
  pub spare : ℕ

-- What the node at a path kept of its box; None where there is no such node or it kept nothing.
abbrev pub to_at : Tree → List Bool → Option (List Bounds)
to_at t p = elim (outcome_at t p) [ None ↦ None | Some o ↦ to_of o ]

-- The shape of a node; None is a path that is not there.
abbrev pub shape_of : Option Tree → Shape
shape_of None = shape.Absent
shape_of (Some leaf) = shape.OpenLeaf
shape_of (Some removed) = shape.Removed
shape_of (Some (inner to)) = shape.Inner
shape_of (Some (small to)) = shape.Small
shape_of (Some (cut to var at low high)) = shape.Cut var at

-- A cut stands at a path of fewer than 200 steps.
abbrev pub HasDepth : List Bool → Outcome → Type 0
HasDepth p Removed = Unit {0}
HasDepth p (Inner to) = Unit {0}
HasDepth p (Small to) = Unit {0}
HasDepth p (Cut to var at) = length p < MOST_STEPS

-- The paths of a list that stand behind a path in preorder.
abbrev pub behind : List Bool → List (List Bool) → List (List Bool)
behind p ps = filter (precedes p) ps

-- A cut comes only where a further one is allowed.
abbrev pub CutsAbove : ℕ → Outcome → Type 0
CutsAbove d Removed = Unit {0}
CutsAbove d (Inner to) = Unit {0}
CutsAbove d (Small to) = Unit {0}
CutsAbove d (Cut to var at) = 0 < d

-- One half of a cut box.
abbrev pub half_of : Bool → List Bounds → ℕ → Extended → List Bounds
half_of false b var at = lower_half b var at
half_of true b var at = upper_half b var at
