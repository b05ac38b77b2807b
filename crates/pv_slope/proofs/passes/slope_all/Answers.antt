use Rattle.pv_slope.proofs.Still.{divides_node}
use Rattle.pv_slope.proofs.Walking.{slopes_more}
use Rattle.pv_slope.proofs.passes.slope_all.Goals as goal

pub step-requires-clause-divides : goal.step-requires-clause-divides
step-requires-clause-divides c =
    divides_node c.args.on.now.bx.now c.args.on.now.nodes.now c.args.on.now.values.now _ c.loop-at.at c.requires.ordered c.requires.valued c.loop-at-test.true c.requires.total

pub loop-at-preserved : goal.loop-at-preserved
loop-at-preserved c =
    record {
      moving_in = c.step.ensures.moving_in;
      slopes_in = c.step.ensures.slopes_in;
      done = slopes_more c.args.on.now.bx.now c.args.i c.args.on.now.nodes.now c.args.on.now.values.now c.args.on.now.centres.now c.args.on.now.factors.now c.loop-at.moving c.loop-at.slopes c.step.new.moving c.step.new.slopes _ c.loop-at.at c.requires.ordered c.requires.valued c.requires.centred c.requires.factors c.loop-at-test.true c.loop-at.invariant.done c.step.ensures.earlier c.step.ensures.here;
    }
