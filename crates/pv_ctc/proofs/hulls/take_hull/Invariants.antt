use Rattle.std.proofs.Common.{◌≡◌, length, drop}
use Rattle.pv_ctc.specs.Contracting.{hull_with}
use Rattle.pv_ctc.proofs.hulls.take_hull.Given as goal

abbrev pub invariant-loop-i : goal.invariant-loop-i
invariant-loop-i l = record {
  end : l.i-end ≡ length l.found;
  dims : length l.hull ≡ length l.bx;
  hull : hull_with l.hull (drop l.i l.found) ≡ hull_with l.initial.hull (drop 1 l.found);
}
