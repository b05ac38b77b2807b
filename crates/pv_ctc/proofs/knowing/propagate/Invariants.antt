use Rattle.std.proofs.Common.{◌≡◌, length}
use Rattle.pv_hc4.specs.Members.{AreWithin}
use Rattle.pv_ctc.specs.Contracting.{sides_in, turns_of, all_revised}
use Rattle.pv_ctc.specs.Facts.{Knows}
use Rattle.pv_ctc.specs.Steps.{IsSoFar}
use Rattle.pv_ctc.proofs.knowing.propagate.Given as goal

abbrev pub invariant-loop-left : goal.invariant-loop-left
invariant-loop-left l = record {
  dims : length l.bx ≡ length l.fn.bx;
  so_far : IsSoFar l.answer l.fn.bx l.bx;
  within : AreWithin l.bx l.fn.bx;
  known : Knows (sides_in l.graphs) l.known l.bx;
  rest : turns_of l.left (all_revised (sides_in l.graphs)) l.bx ≡ turns_of l.turns (all_revised (sides_in l.graphs)) l.fn.bx;
}

abbrev pub decreases-loop-left : goal.decreases-loop-left
decreases-loop-left l = l.left
