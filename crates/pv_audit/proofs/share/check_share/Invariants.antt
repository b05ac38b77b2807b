use Rattle.std.proofs.Common.{◌≡◌, ◌%◌, length}
use Rattle.pv_audit.proofs.Numbers.{AreNumbered}
use Rattle.pv_audit.proofs.Findings.{AreDue}
use Rattle.pv_audit.proofs.share.check_share.Given as goal

abbrev pub invariant-loop-number : goal.invariant-loop-number
invariant-loop-number g l = record {
  root : l.walk.root ≡ l.paving.root;
  tree : l.walk.tree ≡ l.paving.tree;
  scratch : length l.scratch ≡ length l.paving.root;
  numbered : AreNumbered l.paving.tree l.number l.walk.pending;
  due : AreDue (g.S.Settler.settle_of l.settler) (g.S.Settler.depth_of l.settler) l.paving.root l.paving.tree (λ n. n % l.workers ≡ l.worker) l.number;
}
