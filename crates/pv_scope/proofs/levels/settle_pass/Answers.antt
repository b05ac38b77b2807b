use Rattle.std.proofs.Common.{◌*◌}
use Rattle.pv_scope.proofs.Passes.{a_pass}
use Rattle.pv_scope.proofs.levels.settle_pass.Goals as goal

pub returns-clause-pass : goal.returns-clause-pass
returns-clause-pass g c =
    a_pass c.args.paving.now.tree c.settle_scope.new.paving.tree (4 * c.args.pass) c.args.left c.in_ok-came.came.settled c.in_ok-came.came.done c.in_ok-came.ensures.settled c.in_ok-came.ensures.ended
