-- A stage of a leaf's box, whose path has some steps.
use Rattle.std.proofs.Common.{◌≡◌, ℕ, ◌+◌, ◌-◌, ◌≤◌, Bool, Some, List, ◌++◌, length, length-append, sym, ◌∙◌, ap, arith}
use Rattle.pv_interval.specs.Bounds.{Bounds}
use Rattle.pv_box.specs.Boxes.{IsBox}
use Rattle.pv_tree.specs.Trees.{Tree, leaf, subtree, graft, settled, box_of, top, CutsAbove, HasDepth}
use Rattle.pv_tree.specs.Stages.{Rule, full_of, Grows}
use Rattle.pv_tree.specs.declared.outcome.Outcome.{Outcome}
use Rattle.pv_tree.proofs.StageLaws.{grows_leaf, settled_grows, depth_from}
use Rattle.pv_tree.proofs.Stacks.{height_below}
use Rattle.pv_board.specs.Rules.{IsFitting}
use Rattle.pv_board.proofs.Fulls.{graft_in, full_at, top_leaf, stage_height}

module _ (rule : Rule) (depth dims : ℕ) (laws : IsFitting rule depth dims) where
  -- a leaf of the stage has no path that is too long
  pub path_fits : (b : List Bounds) (t : Tree) (p at : List Bool) → IsBox b → length b ≡ dims → length at ≤ 200 → Grows t (full_of rule depth b leaf (length at)) → subtree t p ≡ Some leaf
      → length at + length p ≤ 200
  path_fits b t p at h e few g l =
      let whole = stage_height rule depth dims laws b t (length at) h e few g in
      let below = height_below t p leaf l in
      omega (arith, whole, below)
