use Rattle.std.proofs.Common.{◌≡◌, take, length}
use Rattle.pv_hc4.proofs.revise.save.Given as goal

abbrev pub invariant-loop-i : goal.invariant-loop-i
invariant-loop-i l = record { room : length l.places ≡ 12; same : take l.i l.places ≡ take l.i l.bx }
