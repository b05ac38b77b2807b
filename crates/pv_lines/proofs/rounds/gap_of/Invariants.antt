use Rattle.std.proofs.Common.{◌≡◌, ◌*◌, ◌+◌, ◌≤◌}
use Rattle.pv_lines.proofs.rounds.gap_of.Given as goal

abbrev pub invariant-loop-other : goal.invariant-loop-other
invariant-loop-other l = record {
  is : l.share + l.gap ≡ l.share * l._other;
  small : l.gap ≤ 600000 * l._other;
}
