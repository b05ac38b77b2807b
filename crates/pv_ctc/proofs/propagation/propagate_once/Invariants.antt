use Rattle.std.proofs.Common.{◌≡◌, ℕ, List, length, drop}
use Rattle.std.specs.Prelude.{Option, map}
use Rattle.pv_hc4.specs.Members.{AreWithin}
use Rattle.pv_hc4.specs.Revise.{revised}
use Rattle.pv_ctc.specs.Contracting.{sides_in, in_order, all_revised}
use Rattle.pv_ctc.specs.Counters.{raised}
use Rattle.pv_ctc.specs.Marks.{AreClean, AreMarks}
use Rattle.pv_ctc.specs.Revisions.{Revision, whole_turn}
use Rattle.pv_ctc.specs.Steps.{IsSoFar}
use Rattle.pv_ctc.proofs.Passing.{TurnSoFar}
use Rattle.pv_ctc.proofs.propagation.propagate_once.Given as goal

abbrev pub invariant-loop-i : goal.invariant-loop-i
invariant-loop-i g l = record {
  end : l.i-end ≡ length l.graphs.graphs;
  dims : length l.bx ≡ length l.fn.bx;
  so_far : IsSoFar l.answer l.fn.bx l.bx;
  within : AreWithin l.bx l.fn.bx;
  clean : AreClean (sides_in l.graphs) l.clean l.bx;
  rest : in_order (map revised (drop l.i (sides_in l.graphs))) l.bx ≡ all_revised (sides_in l.graphs) l.fn.bx;
  turn : (start : Option ℕ) (made : List Revision) → AreMarks (sides_in l.graphs) made l.fn.clean → g.C.Counter.told l.fn.counter ≡ raised start (length made) → TurnSoFar (sides_in l.graphs) start l.i l.clean l.bx (g.C.Counter.told l.counter) (whole_turn (sides_in l.graphs) made l.fn.bx);
}
