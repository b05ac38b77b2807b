use Rattle.std.proofs.Common.{ℕ, ◌-◌, ◌≤◌, length}
use Rattle.pv_tokens.specs.Tokens.{Separated}
use Rattle.pv_tokens.proofs.scanner.gap_end.Given as goal

abbrev pub invariant-loop-next : goal.invariant-loop-next
invariant-loop-next l = record { onward : l.fn.from ≤ l.at; within : l.at ≤ length l.text; gap : (n : ℕ) × Separated l.text n l.fn.from l.at }

abbrev pub decreases-loop-next : goal.decreases-loop-next
decreases-loop-next l = length l.text - l.at
