use Rattle.std.proofs.Common.{◌<◌, length, rules}
use Rattle.pv_code.proofs.Leaving.{left-more, stacked-begun}
use Rattle.pv_code.proofs.value.values.Goals as goal

pub loop-op-init : goal.loop-op-init
loop-op-init c = λ ms args. stacked-begun _ _ c.new-stack.ensures.items

pub loop-op-preserved : goal.loop-op-preserved
loop-op-preserved c =
    let within : c.loop-op.op-index < length c.args.code.now = search rules in
    left-more c.args.functions.now c.args.code.now c.loop-op.op-index _ c.loop-op.stack.items _ within c.loop-op.invariant c.in_ok-take_step.ensures
