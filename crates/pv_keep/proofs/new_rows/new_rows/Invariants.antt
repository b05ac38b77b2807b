use Rattle.std.proofs.Common.{◌≡◌, [], take}
use Rattle.pv_keep.specs.Below.{rows_from}
use Rattle.pv_keep.proofs.new_rows.new_rows.Given as goal

abbrev pub invariant-loop-path : goal.invariant-loop-path
invariant-loop-path l = l.rows ≡ rows_from [] l.later.tree (take l.path-index l.frontier)
