use Rattle.pv_made.proofs.Steps.{circles_step}
use Rattle.pv_made.proofs.circles.put_circles.Goals as goal

pub loop-preserved : goal.loop-preserved
loop-preserved c =
    let circle = c.in_ok-put_circle.ensures in
    (circle.small, circles_step c.args.count c.loop.counter c.loop.draws.state c.put_circle.new.draws.state _ _ _ c.loop-test.true circle.written circle.state c.loop.invariant.1)
