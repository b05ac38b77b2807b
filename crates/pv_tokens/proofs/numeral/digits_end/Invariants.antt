use Rattle.std.proofs.Common.{ℕ, ◌<◌, ◌≤◌, get_or}
use Rattle.pv_tokens.specs.Tokens.{IsDigit}
use Rattle.pv_tokens.proofs.numeral.digits_end.Given as goal

abbrev pub invariant-loop-at : goal.invariant-loop-at
invariant-loop-at l = (k : ℕ) → l.from ≤ k → k < l.at → IsDigit (get_or l.text k 0)
