use Rattle.std.proofs.Common.{◌≡◌, ◌+◌, ◌≤◌, ℕ, length}
use Rattle.pv_file.proofs.Reached.{IsReached}
use Rattle.pv_file.proofs.reader.read_nodes.Given as goal

abbrev pub invariant-loop-path : goal.invariant-loop-path
invariant-loop-path l = record {
  root : l.growth.root ≡ l.root;
  bx : length l.bx ≡ length l.root;
  read : ℕ;
  line : l.line ≡ read + 3;
  few : l.settled ≤ l.limit;
  reached : IsReached l.version l.root l.body l.rest l.growth.tree l.growth.holes read l.settled;
}

abbrev pub decreases-loop-path : goal.decreases-loop-path
decreases-loop-path l = length l.rest
