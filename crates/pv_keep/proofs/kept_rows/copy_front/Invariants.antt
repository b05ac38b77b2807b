use Rattle.std.proofs.Common.{◌≡◌, take}
use Rattle.pv_keep.proofs.kept_rows.copy_front.Given as goal

abbrev pub invariant-loop-row : goal.invariant-loop-row
invariant-loop-row l = l.into ≡ take l.row-index l.rows
