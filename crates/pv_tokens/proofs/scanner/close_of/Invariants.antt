use Rattle.std.proofs.Common.{ℕ, ◌<◌, ◌≤◌}
use Rattle.pv_tokens.specs.Tokens.{Closes}
use Rattle.pv_tokens.proofs.scanner.close_of.Given as goal

abbrev pub invariant-loop-at : goal.invariant-loop-at
invariant-loop-at l = (k : ℕ) → l.from ≤ k → k < l.at → Closes l.text k → ⊥
