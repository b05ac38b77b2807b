use Rattle.std.proofs.Common.{◌≡◌, ◌+◌, drop}
use Rattle.std.specs.List.{prefix_len}
use Rattle.pv_ctc.specs.Symbols.{is_digit}
use Rattle.pv_ctc.proofs.token.digits_end.Given as goal

abbrev pub invariant-loop-at : goal.invariant-loop-at
invariant-loop-at l = l.at + prefix_len is_digit (drop l.at l.text) ≡ l.from + prefix_len is_digit (drop l.from l.text)
