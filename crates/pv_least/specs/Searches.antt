-- Which leaves a search settles, and what a paving tells of the least value of a term.
use Rattle.std.specs.Prelude.{ℕ, zero, suc, Bool, true, false, Option, Some, None, List, [], ◌∷◌, ◌++◌, if◌then◌else◌}
use Rattle.pv_num.specs.Extended.{Extended, PosInf}
use Rattle.pv_num.specs.Order.{lt, lesser}
use Rattle.pv_interval.specs.Bounds.{Bounds}
use Rattle.pv_box.specs.Boxes.{lower_half, upper_half}
use Rattle.pv_expr.specs.Terms.{Term}
use Rattle.pv_tree.specs.Trees.{Tree, leaf, removed, inner, small, cut}
use Rattle.pv_tree.specs.Stages.{Rule, settled_by as settled_at}
use Rattle.pv_least.specs.declared.candidate.Candidate.{Candidate}
use Rattle.pv_least.specs.declared.candidate.Candidate.TheVariants.{Low, Centre, High}
use Rattle.pv_least.specs.declared.found.BestPoint.{BestPoint}
use Rattle.pv_least.specs.Objectives.{low_of, value_bound, admits}
use Rattle.pv_least.specs.Candidates.{point_in, exactly_at}

-- a leaf of a paving that was not removed: open, with its path and box, or with what it kept of its box
pub data Leaf : Type 0 where
  open_leaf : List Bool → List Bounds → Leaf
  inner_leaf : List Bounds → Leaf
  small_leaf : List Bounds → Leaf

-- the leaves at and below a path, in preorder
abbrev pub leaves_below : List Bool → List Bounds → Tree → List Leaf
leaves_below p b leaf = open_leaf p b ∷ []
leaves_below p b removed = []
leaves_below p b (inner to) = inner_leaf to ∷ []
leaves_below p b (small to) = small_leaf to ∷ []
leaves_below p b (cut to var at low high) =
    leaves_below (p ++ false ∷ []) (lower_half to var at) low ++ leaves_below (p ++ true ∷ []) (upper_half to var at) high

abbrev pub leaves_of : List Bounds → Tree → List Leaf
leaves_of b t = leaves_below [] b t

abbrev pub box_in : Leaf → List Bounds
box_in (open_leaf p b) = b
box_in (inner_leaf to) = to
box_in (small_leaf to) = to

abbrev pub as_list : {A : Type 0} → Option A → List A
as_list None = []
as_list (Some x) = x ∷ []

-- the low ends on the leaves' boxes, where they are there
abbrev pub lows : Term → List Leaf → List Extended
lows t [] = []
lows t (l ∷ ls) = as_list (low_of t (box_in l)) ++ lows t ls

-- the least of some numbers, or +oo
abbrev pub least_of : List Extended → Extended
least_of [] = PosInf
least_of (x ∷ xs) = lesser x (least_of xs)

-- a point with the bound above the term's value there, where it counts
abbrev pub with_bound : List Extended → Option Extended → Option BestPoint
with_bound p None = None
with_bound p (Some u) = Some (record { point = p; upper = u })

abbrev pub candidate : Term → List Bounds → Candidate → Option BestPoint
candidate t to c = with_bound (point_in c to) (value_bound t (exactly_at c to))

-- the points of a box that count, in their order
abbrev pub counting : Term → List Bounds → List BestPoint
counting t to = as_list (candidate t to Low) ++ (as_list (candidate t to Centre) ++ as_list (candidate t to High))

abbrev pub points_in : Term → Leaf → List BestPoint
points_in t (open_leaf p b) = []
points_in t (inner_leaf to) = counting t to
points_in t (small_leaf to) = []

-- the points of inner leaves that count, in their order
abbrev pub points : Term → List Leaf → List BestPoint
points t [] = []
points t (l ∷ ls) = points_in t l ++ points t ls

-- the earlier of two, unless the later one's bound is less
abbrev pub better : Option BestPoint → Option BestPoint → Option BestPoint
better None later = later
better (Some p) None = Some p
better (Some p) (Some q) = if lt q.upper p.upper then Some q else Some p

-- the first of those with the least bound
abbrev pub first_least : List BestPoint → Option BestPoint
first_least [] = None
first_least (p ∷ ps) = better (Some p) (first_least ps)

-- the bound of the best point, or +oo
abbrev pub upper_of : Option BestPoint → Extended
upper_of None = PosInf
upper_of (Some p) = p.upper

-- the path of the first open leaf on whose box the low end is there and at most a bound
abbrev pub first_admitted : Term → Extended → List Leaf → Option (List Bool)
first_admitted t u [] = None
first_admitted t u (open_leaf p b ∷ ls) = if admits (low_of t b) u then Some p else first_admitted t u ls
first_admitted t u (inner_leaf to ∷ ls) = first_admitted t u ls
first_admitted t u (small_leaf to ∷ ls) = first_admitted t u ls

-- of a paving over a box: a number that no value is below
abbrev pub lower_of : Term → List Bounds → Tree → Extended
lower_of e b t = least_of (lows e (leaves_of b t))

-- the best of the points that are known to be members
abbrev pub best_of : Term → List Bounds → Tree → Option BestPoint
best_of e b t = first_least (points e (leaves_of b t))

-- the leaf that is settled next
abbrev pub next_of : Term → List Bounds → Tree → Option (List Bool)
next_of e b t = first_admitted e (upper_of (best_of e b t)) (leaves_of b t)

abbrev pub settled_where : Rule → ℕ → List Bounds → Tree → Option (List Bool) → Tree
settled_where rule depth b t None = t
settled_where rule depth b t (Some p) = settled_at rule depth (record { root = b; tree = t; spare = 0 }) p

-- the paving of a box after so many settlings; it stays where no leaf is to be settled next
unfoldable pub searched : Rule → ℕ → Term → List Bounds → ℕ → Tree
searched rule depth e b zero = leaf
searched rule depth e b (suc n) = settled_where rule depth b (searched rule depth e b n) (next_of e b (searched rule depth e b n))
