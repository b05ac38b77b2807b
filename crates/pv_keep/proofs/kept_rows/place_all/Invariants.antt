use Rattle.std.proofs.Common.{◌≡◌, ◌≤◌, ◌+◌, reverse, vec_len, vec_capacity}
use Rattle.pv_keep.specs.Rows.{InPreorder, AreDistinct, AreNew, all_placed}
use Rattle.pv_keep.proofs.kept_rows.place_all.Given as goal

abbrev pub invariant-loop-row : goal.invariant-loop-row
invariant-loop-row l = record {
  ordered : InPreorder l.rows.items;
  distinct : AreDistinct (reverse l.more.items);
  new : AreNew l.rows.items (reverse l.more.items);
  room : vec_len l.rows + vec_len l.more ≤ vec_capacity l.rows;
  placed : all_placed l.rows.items (reverse l.more.items) ≡ all_placed l.initial.rows.items (reverse l.fn.more.items);
}

abbrev pub decreases-loop-row : goal.decreases-loop-row
decreases-loop-row l = vec_len l.more
