use Rattle.std.proofs.Common.{◌≡◌, length, drop}
use Rattle.pv_slope.specs.Centered.{has_finite_ends}
use Rattle.pv_slope.proofs.centre.has_finite_ends.Given as goal

abbrev pub invariant-loop-i : goal.invariant-loop-i
invariant-loop-i l = record {
  end : l.i-end ≡ length l.bx;
  rest : has_finite_ends (drop l.i l.bx) ≡ has_finite_ends l.bx;
}
