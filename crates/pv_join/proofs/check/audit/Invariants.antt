use Rattle.std.proofs.Common.{◌≡◌, length}
use Rattle.pv_tree.specs.Pieces.{to_come}
use Rattle.pv_join.proofs.AuditFacts.{IsAudited}
use Rattle.pv_join.proofs.check.audit.Given as goal

abbrev pub invariant-loop-shape : goal.invariant-loop-shape
invariant-loop-shape g l =
    IsAudited (g.S.Settler.settle_of l.settler) (g.S.Settler.depth_of l.settler) l.paving.root l.paving.tree l.walk
    × (length l.scratch ≡ length l.paving.root)

abbrev pub decreases-loop-shape : goal.decreases-loop-shape
decreases-loop-shape g l = to_come l.walk.pending
