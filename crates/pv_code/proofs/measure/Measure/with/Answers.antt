use Rattle.std.proofs.Common.{arith}
use Rattle.pv_code.proofs.Sizing.{with-size}
use Rattle.pv_code.proofs.measure.Measure.with.Goals as goal

pub returns : goal.returns
returns c = λ args nodes depth t s part.
    with-size c.args.self.now c.args.other.now _ c.args.at args nodes depth t (λ k l. c.loop-i.invariant.so_far k (omega (arith, l))) s part
