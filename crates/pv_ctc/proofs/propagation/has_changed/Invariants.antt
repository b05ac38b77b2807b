use Rattle.std.proofs.Common.{◌≡◌, ◌<◌, ℕ, true, false, get_or}
use Rattle.pv_hc4.specs.Chain.{at}
use Rattle.pv_ctc.proofs.propagation.has_changed.Given as goal

abbrev pub invariant-loop-i : goal.invariant-loop-i
invariant-loop-i l = (k : ℕ) → k < l.i → get_or l.uses k false ≡ true → at l.entry k ≡ at l.bx k
