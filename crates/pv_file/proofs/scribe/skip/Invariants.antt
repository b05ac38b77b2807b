use Rattle.std.proofs.Common.{◌≡◌}
use Rattle.pv_file.specs.Walks.{after_steps}
use Rattle.pv_file.proofs.scribe.skip.Given as goal

abbrev pub invariant-loop-left : goal.invariant-loop-left
invariant-loop-left l = record {
  root : l.walk.root ≡ l.fn.walk.root;
  come : after_steps l.fn.nodes l.fn.walk.pending ≡ after_steps l.left l.walk.pending;
}

abbrev pub decreases-loop-left : goal.decreases-loop-left
decreases-loop-left l = l.left
