use Rattle.std.proofs.Common.{◌≡◌, ◌+◌, drop}
use Rattle.std.specs.List.{prefix_len}
use Rattle.pv_ctc.specs.Symbols.{is_named}
use Rattle.pv_ctc.proofs.token.name_end.Given as goal

abbrev pub invariant-loop-at : goal.invariant-loop-at
invariant-loop-at l = l.at + prefix_len is_named (drop l.at l.text) ≡ l.from + prefix_len is_named (drop l.from l.text)
