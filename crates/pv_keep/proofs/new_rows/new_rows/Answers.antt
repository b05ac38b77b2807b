use Rattle.pv_keep.proofs.Fresh.{rows_next}
use Rattle.pv_keep.proofs.new_rows.new_rows.Goals as goal

pub loop-path-preserved : goal.loop-path-preserved
loop-path-preserved c = rows_next c.args.later.now.tree c.args.frontier.now c.leaves-path-items.result.now c.path-item.result c.loop-path.path-index c.loop-path.rows c.push_below.new.rows
    c.leaves-path-items.ensures c.loop-path-test.true c.path-item.is c.loop-path.invariant c.in_ok-push_below.ensures
