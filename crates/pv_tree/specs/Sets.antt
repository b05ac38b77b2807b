-- Which points of a box an outcome, or a tree, says something of.
use Rattle.std.specs.Prelude.{◌⊎◌, List}
use Rattle.pv_interval.specs.Bounds.{Bounds}
use Rattle.pv_interval.specs.Points.{Point}
use Rattle.pv_box.specs.Boxes.{PointIn, lower_half, upper_half}
use Rattle.pv_tree.specs.Trees.{Tree, leaf, removed, inner, small, cut}
use Rattle.pv_tree.specs.declared.outcome.Outcome.{Outcome}
use Rattle.pv_tree.specs.declared.outcome.Outcome.TheVariants.{Removed, Inner, Small, Cut}

-- No point of a box outside `to` is in the set.
abbrev pub LosesNone : (Point → Type 0) → List Bounds → List Bounds → Type 0
LosesNone inside b to = (x : Point) → PointIn x b → (PointIn x to → ⊥) → inside x → ⊥

-- What an outcome says of a box is true of the set.
abbrev pub IsSoundOutcome : (Point → Type 0) → List Bounds → Outcome → Type 0
IsSoundOutcome inside b Removed = (x : Point) → PointIn x b → inside x → ⊥
IsSoundOutcome inside b (Inner to) = LosesNone inside b to × ((x : Point) → PointIn x to → inside x)
IsSoundOutcome inside b (Small to) = LosesNone inside b to
IsSoundOutcome inside b (Cut to var at) = LosesNone inside b to

-- A paving is sound for a set: every point of each inner `to` is in it, and no point of a removed part is.
abbrev pub IsSound : (Point → Type 0) → List Bounds → Tree → Type 0
IsSound inside b leaf = Unit {0}
IsSound inside b removed = (x : Point) → PointIn x b → inside x → ⊥
IsSound inside b (inner to) = LosesNone inside b to × ((x : Point) → PointIn x to → inside x)
IsSound inside b (small to) = LosesNone inside b to
IsSound inside b (cut to var at low high) =
    LosesNone inside b to × IsSound inside (lower_half to var at) low × IsSound inside (upper_half to var at) high

-- A point lies in an open leaf's box, in an inner or small `to`, or in a removed part.
abbrev pub IsCovered : Point → List Bounds → Tree → Type 0
IsCovered x b leaf = PointIn x b
IsCovered x b removed = PointIn x b
IsCovered x b (inner to) = PointIn x to ⊎ (PointIn x b × (PointIn x to → ⊥))
IsCovered x b (small to) = PointIn x to ⊎ (PointIn x b × (PointIn x to → ⊥))
IsCovered x b (cut to var at low high) =
    (PointIn x b × (PointIn x to → ⊥)) ⊎ (IsCovered x (lower_half to var at) low ⊎ IsCovered x (upper_half to var at) high)

abbrev pub Covers : List Bounds → Tree → Type 0
Covers b t = (x : Point) → PointIn x b → IsCovered x b t
