use Rattle.std.proofs.Common.{◌≡◌, length}
use Rattle.pv_keep.proofs.Leaves.{IsGrown}
use Rattle.pv_keep.proofs.rebuild.rebuild.Given as goal

abbrev pub invariant-loop-i : goal.invariant-loop-i
invariant-loop-i l = record {
  bx : length l.bx ≡ length l.fn.root;
  grown : IsGrown l.fn.root l.rows l.i l.growth;
}
