use Rattle.std.proofs.Common.{◌≡◌, drop}
use Rattle.pv_tree.specs.Trees.{precedes}
use Rattle.pv_keep.proofs.order.is_before.Given as goal

abbrev pub invariant-loop-i : goal.invariant-loop-i
invariant-loop-i l = precedes (drop l.i l.a) (drop l.i l.b) ≡ precedes l.a l.b
