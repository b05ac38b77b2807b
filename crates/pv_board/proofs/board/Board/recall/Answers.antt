use Rattle.std.proofs.Common.{subst, ◌+◌, ◌%◌}
use Rattle.pv_board.specs.Core.{Core}
use Rattle.pv_board.specs.Events.{IsOver, IsRecall}
use Rattle.pv_board.specs.Leaves.{seen}
use Rattle.pv_board.proofs.Openings.{recall_over}
use Rattle.pv_board.proofs.Recalls.{recall_none}
use Rattle.pv_board.proofs.board.Board.recall.Goals as goal

pub returns-clause-over : goal.returns-clause-over
returns-clause-over g c =
    let a = c.self.inside in let r = c.recall.ensures in
    subst (λ (o : Core). IsOver o → IsOver (seen a.paving c.recall.new.self a.used ((a.steps + c.len-issued.result) % 18446744073709551616))) c.self.view_is (recall_over a.paving a.leaves c.recall.new.self a.used a.steps ((a.steps + c.len-issued.result) % 18446744073709551616) r.none r.left r.stopped)

pub returns-then-issued-eq0-clause-recalled : goal.returns-then-issued-eq0-clause-recalled
returns-then-issued-eq0-clause-recalled g c =
    let a = c.self.inside in let now = seen a.paving a.leaves a.used a.steps in
    subst (λ (o : Core). IsRecall o o) c.self.view_is (recall_none now c.len-issued.result c.len-issued.ensures.count c.if-issued-eq0.true c.self.ranges.1.1.1.0.1)
