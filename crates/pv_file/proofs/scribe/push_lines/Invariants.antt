use Rattle.std.proofs.Common.{◌≡◌, ◌++◌, length}
use Rattle.pv_file.specs.Walks.{pending_text, after_steps}
use Rattle.pv_file.proofs.scribe.push_lines.Given as goal

abbrev pub invariant-loop-left : goal.invariant-loop-left
invariant-loop-left l = record {
  root : l.walk.root ≡ l.fn.walk.root;
  bx : length l.bx ≡ length l.fn.walk.root;
  to : length l.to ≡ length l.fn.walk.root;
  come : after_steps l.fn.nodes l.fn.walk.pending ≡ after_steps l.left l.walk.pending;
  text : pending_text l.version l.fn.walk.pending ≡ l.out.items ++ pending_text l.version l.walk.pending;
}

abbrev pub decreases-loop-left : goal.decreases-loop-left
decreases-loop-left l = l.left
