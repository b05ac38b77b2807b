use Rattle.std.proofs.Common.{◌≡◌, take}
use Rattle.pv_hc4.proofs.revise.first_changed.Given as goal

abbrev pub invariant-loop-i : goal.invariant-loop-i
invariant-loop-i l = take l.i l.bx ≡ take l.i l.entry
