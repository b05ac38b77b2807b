use Rattle.std.proofs.Common.{◌≡◌, ◌<◌, ℕ}
use Rattle.std.specs.Fmt.{decimal}
use Rattle.pv_file.proofs.outcome_line.read_var.Given as goal

abbrev pub invariant-loop-var : goal.invariant-loop-var
invariant-loop-var l = (v : ℕ) → v < l.var → l.word ≡ decimal v → ⊥
