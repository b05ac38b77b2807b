use Rattle.std.proofs.Common.{◌≡◌, length, drop}
use Rattle.std.specs.Prelude.{map}
use Rattle.pv_hc4.specs.Members.{AreWithin}
use Rattle.pv_hc4.specs.Revise.{revised}
use Rattle.pv_ctc.specs.Contracting.{sides_in, in_order, all_revised}
use Rattle.pv_ctc.specs.Facts.{Knows}
use Rattle.pv_ctc.specs.Steps.{IsSoFar}
use Rattle.pv_ctc.proofs.knowing.turn.Given as goal

abbrev pub invariant-loop-i : goal.invariant-loop-i
invariant-loop-i l = record {
  end : l.i-end ≡ length l.graphs.graphs;
  dims : length l.bx ≡ length l.fn.bx;
  so_far : IsSoFar l.answer l.fn.bx l.bx;
  within : AreWithin l.bx l.fn.bx;
  known : Knows (sides_in l.graphs) l.known l.bx;
  rest : in_order (map revised (drop l.i (sides_in l.graphs))) l.bx ≡ all_revised (sides_in l.graphs) l.fn.bx;
}
