use Rattle.std.proofs.Common.{◌≡◌, [], length}
use Rattle.pv_hc4.specs.Members.{AreWithin}
use Rattle.pv_ctc.specs.Contracting.{sides_in, turns_of, all_revised}
use Rattle.pv_ctc.specs.Marks.{AreClean}
use Rattle.pv_ctc.specs.Revisions.{passage}
use Rattle.pv_ctc.specs.Steps.{IsSoFar}
use Rattle.pv_ctc.proofs.Passing.{TurnsSoFar}
use Rattle.pv_ctc.proofs.propagation.propagate.Given as goal

abbrev pub invariant-loop-left : goal.invariant-loop-left
invariant-loop-left g l = record {
  dims : length l.bx ≡ length l.fn.bx;
  so_far : IsSoFar l.answer l.fn.bx l.bx;
  within : AreWithin l.bx l.fn.bx;
  clean : AreClean (sides_in l.graphs) l.clean l.bx;
  rest : turns_of l.left (all_revised (sides_in l.graphs)) l.bx ≡ turns_of l.turns (all_revised (sides_in l.graphs)) l.fn.bx;
  turns : TurnsSoFar (sides_in l.graphs) (g.C.Counter.told l.fn.counter) l.left l.clean l.bx (g.C.Counter.told l.counter) (passage l.turns (sides_in l.graphs) [] l.fn.bx);
}

abbrev pub decreases-loop-left : goal.decreases-loop-left
decreases-loop-left g l = l.left
