use Rattle.std.proofs.Common.{List, ◌≤◌, length}
use Rattle.pv_expr.specs.Terms.{Term}
use Rattle.pv_code.specs.Sizes.{IsSizeOf, depth_in, nodes_in}
use Rattle.pv_code.specs.Values.{AreAll, HasSize}
use Rattle.pv_code.proofs.value.measure_of.Given as goal

abbrev pub invariant-loop-i : goal.invariant-loop-i
invariant-loop-i l = (args inner : List Term) → length args ≤ 12 → AreAll (HasSize args) l.arguments inner →
    IsSizeOf l.made args (nodes_in l.i l.body.places inner) (depth_in l.i l.body.places inner)
