use Rattle.std.proofs.Common.{◌≡◌, ◌<◌, ◌≤◌, ◌-◌, ◌++◌, ◌∷◌, [], ℕ, List, length, get_or}
use Rattle.pv_io.specs.Outside.{appended}
use Rattle.pv_tree.specs.Pieces.{root_piece}
use Rattle.pv_file.specs.Lines.{lines_of}
use Rattle.pv_file.specs.Walks.{pending_text, after_steps}
use Rattle.pv_file.specs.Scribes.{Scribed}
use Rattle.pv_lines.specs.Turns.{AreSpread, HasTurned}
use Rattle.pv_lines.proofs.rounds.write_rounds.Given as goal

abbrev pub invariant-loop-at : goal.invariant-loop-at
invariant-loop-at g l = record {
  count : length l.scribes ≡ length l.fn.scribes;
  texts : length l.texts ≡ length l.fn.scribes;
  before : List Scribed;
  same : length l.scribes ≡ length before;
  spread : AreSpread l.share (after_steps l.at (root_piece l.fn.p.root l.fn.p.tree ∷ [])) before;
  turned : (i : ℕ) (d : Scribed) → i < length before → HasTurned l.version l.share l.gap (get_or before i d) (get_or l.scribes i d);
  counts : g.K.Sink.faults l.fn.sink ≤ g.K.Sink.faults l.sink;
  sent : List ℕ;
  told : g.K.Sink.written l.sink ≡ appended (g.K.Sink.written l.fn.sink) sent;
  text : lines_of l.version l.fn.p.root l.fn.p.tree ≡ sent ++ pending_text l.version (after_steps l.at (root_piece l.fn.p.root l.fn.p.tree ∷ []));
}

abbrev pub decreases-loop-at : goal.decreases-loop-at
decreases-loop-at g l = l.nodes - l.at
