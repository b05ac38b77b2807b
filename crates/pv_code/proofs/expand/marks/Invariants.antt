use Rattle.std.proofs.Common.{◌≡◌, ℕ, ◌<◌, length, get_or, true}
use Rattle.pv_code.specs.Expansion.{occurs}
use Rattle.pv_code.proofs.expand.marks.Given as goal

abbrev pub invariant-loop-i : goal.invariant-loop-i
invariant-loop-i l = record {
  whole : length l.uses.items ≡ l.i;
  so_far : (k : ℕ) → k < l.i → get_or l.uses.items k true ≡ occurs k l.code;
}
