use Rattle.std.proofs.Common.{◌≡◌, ◌≤◌, vec_len, vec_capacity}
use Rattle.pv_lines.proofs.texts.no_texts.Given as goal

abbrev pub invariant-loop-scribe : goal.invariant-loop-scribe
invariant-loop-scribe l = record {
  count : vec_len l.texts ≡ l._scribe;
  room : l.fn.scribes ≤ vec_capacity l.texts;
}
