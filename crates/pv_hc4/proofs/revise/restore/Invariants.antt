use Rattle.std.proofs.Common.{◌≡◌, take, length}
use Rattle.pv_hc4.proofs.revise.restore.Given as goal

abbrev pub invariant-loop-i : goal.invariant-loop-i
invariant-loop-i l = record { dims : length l.bx ≡ length l.entry; end : l.i-end ≡ length l.entry; same : take l.i l.bx ≡ take l.i l.entry }
