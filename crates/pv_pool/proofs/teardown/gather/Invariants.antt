use Rattle.pv_pool.specs.Ends.{Cleared}
use Rattle.pv_pool.proofs.teardown.gather.Given as goal

abbrev pub invariant-loop-i : goal.invariant-loop-i
invariant-loop-i g l = Cleared l.i l.initial.benches l.benches
