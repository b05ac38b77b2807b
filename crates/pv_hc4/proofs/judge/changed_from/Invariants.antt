use Rattle.std.proofs.Common.{◌≡◌, ℕ, ◌<◌, ◌≤◌, false}
use Rattle.std.specs.Prelude.{IsFalse, ◌↔◌}
use Rattle.pv_hc4.specs.Chain.{at}
use Rattle.pv_hc4.specs.MarkSets.{is_marked}
use Rattle.pv_hc4.proofs.judge.changed_from.Given as goal

abbrev pub invariant-loop-i : goal.invariant-loop-i
invariant-loop-i l = record {
  done : (k : ℕ) → k < l.i → IsFalse (is_marked l.changed k) ↔ (at l.bx k ≡ at l.entry k);
  left : (k : ℕ) → l.i ≤ k → is_marked l.changed k ≡ false;
}
