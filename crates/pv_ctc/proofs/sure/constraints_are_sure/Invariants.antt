use Rattle.std.proofs.Common.{◌≡◌, length, drop}
use Rattle.pv_ctc.specs.Contracting.{sides_in}
use Rattle.pv_ctc.specs.Facts.{Knows}
use Rattle.pv_ctc.specs.Sureness.{constraints_sure, all_true}
use Rattle.pv_ctc.proofs.sure.constraints_are_sure.Given as goal

abbrev pub invariant-loop-i : goal.invariant-loop-i
invariant-loop-i l = record {
  end : l.i-end ≡ length l.graphs.graphs;
  known : Knows (sides_in l.graphs) l.known l.bx;
  rest : all_true (constraints_sure (drop l.i (sides_in l.graphs)) l.bx) ≡ all_true (constraints_sure (sides_in l.graphs) l.bx);
}
