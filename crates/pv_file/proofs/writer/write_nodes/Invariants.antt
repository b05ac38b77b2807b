use Rattle.std.proofs.Common.{◌≡◌, ◌≤◌, ◌++◌, ℕ, List, length}
use Rattle.pv_io.specs.Outside.{appended}
use Rattle.pv_tree.specs.Pieces.{to_come}
use Rattle.pv_file.specs.Lines.{lines_of}
use Rattle.pv_file.specs.Walks.{pending_text}
use Rattle.pv_file.proofs.writer.write_nodes.Given as goal

abbrev pub invariant-loop-shape : goal.invariant-loop-shape
invariant-loop-shape g l = record {
  root : l.walk.root ≡ l.fn.p.root;
  bx : length l.bx ≡ length l.fn.p.root;
  to : length l.to ≡ length l.fn.p.root;
  counts : g.K.Sink.faults l.fn.sink ≤ g.K.Sink.faults l.sink;
  sent : List ℕ;
  told : g.K.Sink.written l.sink ≡ appended (g.K.Sink.written l.fn.sink) sent;
  text : l.fn.held.items ++ lines_of l.version l.fn.p.root l.fn.p.tree ≡ (sent ++ l.held.items) ++ pending_text l.version l.walk.pending;
}

abbrev pub decreases-loop-shape : goal.decreases-loop-shape
decreases-loop-shape g l = to_come l.walk.pending
