use Rattle.std.proofs.Common.{◌≡◌, ◌+◌, ◌*◌, length}
use Rattle.pv_join.specs.Meetings.{IsMeeting, left_of}
use Rattle.pv_join.proofs.merge.join.Given as goal

abbrev pub invariant-loop-path : goal.invariant-loop-path
invariant-loop-path l = record {
  scratch : length l.scratch ≡ length l.fn.a.root;
  root : l.joined.root ≡ l.fn.a.root;
  left_root : l.left.root ≡ l.fn.a.root;
  right_root : l.right.root ≡ l.fn.b.root;
  left_tree : l.left.tree ≡ l.fn.a.tree;
  right_tree : l.right.tree ≡ l.fn.b.tree;
  meeting : IsMeeting l.left l.left_seen l.right l.right_seen l.joined;
}

abbrev pub decreases-loop-path : goal.decreases-loop-path
decreases-loop-path l = 2 * (left_of l.left l.left_seen + left_of l.right l.right_seen) + length l.joined.holes
