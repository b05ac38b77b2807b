use Rattle.std.proofs.Common.{◌≡◌, ◌≤◌, take}
use Rattle.pv_tokens.specs.Places.{behind_line_feed}
use Rattle.pv_tokens.proofs.place.bytes_behind_line_feed.Given as goal

abbrev pub invariant-loop-b : goal.invariant-loop-b
invariant-loop-b l = record { value : l.behind ≡ behind_line_feed (take l.b-index l.before); most : l.behind ≤ l.b-index }
