use Rattle.std.proofs.Common.{◌≡◌, ◌≤◌, ◌++◌, ℕ, List}
use Rattle.pv_io.specs.Outside.{appended}
use Rattle.pv_svg.specs.Texts.{picture_text}
use Rattle.pv_svg.proofs.Handing.{lines_from}
use Rattle.pv_svg.proofs.picture.Picture.write.Given as goal

abbrev pub invariant-loop-i : goal.invariant-loop-i
invariant-loop-i g l = record {
  counts : g.K.Sink.faults l.fn.sink ≤ g.K.Sink.faults l.sink;
  sent : List ℕ;
  told : g.K.Sink.written l.sink ≡ appended (g.K.Sink.written l.fn.sink) sent;
  text : picture_text l.self ≡ (sent ++ l.held.items) ++ lines_from l.self l.i;
}
