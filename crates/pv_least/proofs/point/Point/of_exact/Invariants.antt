use Rattle.std.proofs.Common.{◌≡◌, length, take}
use Rattle.pv_least.specs.Points.{lows_of}
use Rattle.pv_least.proofs.point.Point.of_exact.Given as goal

abbrev pub invariant-loop-i : goal.invariant-loop-i
invariant-loop-i l = record {
  end : l.i-end ≡ length l.bx;
  numbers : l.numbers.items ≡ lows_of (take l.i l.bx);
}
