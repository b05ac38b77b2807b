use Rattle.pv_keep.proofs.Reopened.{rows_make_theirs, rounds_keep_their_trees}
use Rattle.pv_keep.proofs.laws.rows_make_their_paving.Goals as goal

pub returns : goal.returns
returns c = record { pavings = rows_make_theirs; rounds = rounds_keep_their_trees }
