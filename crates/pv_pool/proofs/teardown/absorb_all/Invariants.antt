use Rattle.std.proofs.Common.{length}
use Rattle.pv_pool.specs.Ends.{Absorbed}
use Rattle.pv_pool.proofs.teardown.absorb_all.Given as goal

abbrev pub invariant-loop-thief : goal.invariant-loop-thief
invariant-loop-thief g l = Absorbed l.initial.benches l.initial.row.items l.benches l.row.items

abbrev pub decreases-loop-thief : goal.decreases-loop-thief
decreases-loop-thief g l = length l.row.items
